-- Classes that went from one set to another.
use Rattle.std.proofs.Common.{◌≡◌, refl, ap, sym, ◌∙◌, subst, inl, inr, ◌⊎◌, ℕ, ◌+◌, ◌<◌, ◌≤◌, Bool, true, false, ◌||◌, ◌==◌, nat_lt, if◌then◌else◌, List, [], ◌∷◌, ◌++◌, length, set, get_or, min, take, ◌≢◌, arith}
use Rattle.std.proofs.lemmas.Bool.{cases_lt, eq-eqb, eqb-true, ltb-true, ltb-false, ne_eqb}
use Rattle.std.proofs.lemmas.List.{length-set, get_or_default, get_or-set_same, get_or-set_other, set-get_or, set-set}
use Rattle.std.proofs.Math.Bool.{or_comm}
use Rattle.algebra.specs.Columns.{has, columns_at}
use Rattle.algebra.proofs.Puts.{among-append}
use Rattle.props.specs.declared.fact.FactSets.{FactSets}
use Rattle.props.specs.Facts.{no_facts}
use Rattle.derivation.specs.Logs.{lesser, united}
use Rattle.logs.specs.declared.sets.ClassSets.{ClassSets}
use Rattle.props.specs.Knowledge.{root_in, set_facts, facts_or_none}
use Rattle.logs.specs.Sets.{AreSets, AreSetsOf, AreAlike, AreOfBoth, AreFactsJoined, AreUnited, root_of, facts_of, set_at, times}
use Rattle.logs.proofs.Times.{times-append, times-none}
use Rattle.logs.proofs.SetReads as reads
use Rattle.logs.proofs.SetReads.{root-at, root-past, facts-here, facts-past, in-roots, in-facts, root-test}

module _ (s t : ClassSets) (p q : ℕ) where
  -- the classes of the set q are in p
  pub record AreMoved : Type 0 where
    pub sets_count : length t.sets.items ≡ length s.sets.items
    pub roots_count : length t.roots.items ≡ length s.roots.items
    pub members_count : length t.members.items ≡ length s.members.items
    pub facts_count : length t.facts.items ≡ length s.facts.items
    pub set : (g : ℕ) → set_at t.sets.items g ≡ (if has (columns_at s.members.items q) g then p else set_at s.sets.items g)
    pub into : columns_at t.members.items p ≡ columns_at s.members.items p ++ columns_at s.members.items q
    pub from : columns_at t.members.items q ≡ []
    pub others : (r : ℕ) → (r == p) ≡ false → (r == q) ≡ false → columns_at t.members.items r ≡ columns_at s.members.items r
    pub root : (d : ℕ) → get_or t.roots.items p d ≡ lesser (get_or s.roots.items p d) (get_or s.roots.items q d)
    pub other_roots : (r d : ℕ) → (r == p) ≡ false → get_or t.roots.items r d ≡ get_or s.roots.items r d
    pub facts : (d : FactSets) → AreOfBoth (get_or s.facts.items p d) (get_or s.facts.items q d) (get_or t.facts.items p d)
    pub other_facts : (r : ℕ) (d : FactSets) → (r == p) ≡ false → (r == q) ≡ false → get_or t.facts.items r d ≡ get_or s.facts.items r d

module _ (s t : ClassSets) (are : AreSets s) (a b : ℕ) (a-in : a < length s.sets.items) (b-in : b < length s.sets.items)
    (differ : (set_at s.sets.items a == set_at s.sets.items b) ≡ false) (is : AreMoved s t (set_at s.sets.items a) (set_at s.sets.items b)) where
  abbrev n : ℕ
  n = length s.sets.items

  abbrev own_set : ℕ → ℕ
  own_set g = set_at s.sets.items g

  abbrev p : ℕ
  p = own_set a

  abbrev q : ℕ
  q = own_set b

  abbrev moved : ℕ → Bool
  moved g = has (columns_at s.members.items q) g

  not-moved : (g : ℕ) → (own_set g == q) ≡ false → moved g ≡ false
  not-moved g neither-is = by (moved g) refl
    where
      by : (c : Bool) → moved g ≡ c → c ≡ false
      by false e = refl
      by true e = absurd (let never : true ≡ false = sym (eq-eqb (own_set g) q (are.sound q g e).1) ∙ neither-is in cc)

  are-moved : (g : ℕ) → g < n → (own_set g == q) ≡ true → moved g ≡ true
  are-moved g lt either-is = subst (λ r. has (columns_at s.members.items r) g ≡ true) (eqb-true (own_set g) q either-is) (are.complete g lt)

  -- in the new sets
  in-both : (g : ℕ) → g < n → (own_set g == p || own_set g == q) ≡ true → set_at t.sets.items g ≡ p
  in-both g lt either-is = is.set g ∙ by (own_set g == q) refl
    where
      first : (c : Bool) → (own_set g == p) ≡ c → (own_set g == q) ≡ false → own_set g ≡ p
      first true e other = eqb-true (own_set g) p e
      first false e other = absurd (let never : false ≡ true = sym (ap (λ x. x || own_set g == q) e ∙ other) ∙ either-is in cc)

      by : (c : Bool) → (own_set g == q) ≡ c → (if moved g then p else own_set g) ≡ p
      by true e = ap (λ c. if c then p else own_set g) (are-moved g lt e)
      by false e = ap (λ c. if c then p else own_set g) (not-moved g e) ∙ first (own_set g == p) refl e

  in-other : (g : ℕ) → (own_set g == p || own_set g == q) ≡ false → (set_at t.sets.items g ≡ own_set g) × ((own_set g == p) ≡ false) × ((own_set g == q) ≡ false)
  in-other g neither-is = by (own_set g == p) (own_set g == q) refl refl
    where
      by : (c d : Bool) → (own_set g == p) ≡ c → (own_set g == q) ≡ d → (set_at t.sets.items g ≡ own_set g) × (c ≡ false) × (d ≡ false)
      by false false e other = (is.set g ∙ ap (λ c. if c then p else own_set g) (not-moved g other), refl, refl)
      by true d e other = absurd (let never : true ≡ false = sym (ap (λ x. x || own_set g == q) e) ∙ neither-is in cc)
      by false true e other = absurd (let never : true ≡ false = sym (ap (λ x. x || own_set g == q) e ∙ other) ∙ neither-is in cc)

  within-t : (g : ℕ) → g < n → g < length t.sets.items
  within-t g lt = let same = is.sets_count in omega (arith, lt, same)

  -- ---- they are sets

  bounded : (g : ℕ) → g < length t.sets.items → set_at t.sets.items g < length t.sets.items
  bounded g lt = subst (λ r. r < length t.sets.items) (sym (is.set g)) (by (moved g))
    where
      in-p : p < length t.sets.items
      in-p = within-t p (are.bounded a a-in)

      by : (c : Bool) → (if c then p else own_set g) < length t.sets.items
      by true = in-p
      by false = within-t (own_set g) (are.bounded g (let same = is.sets_count in omega (arith, lt, same)))

  joined : (g : ℕ) → has (columns_at t.members.items p) g ≡ (has (columns_at s.members.items p) g || moved g)
  joined g = ap (λ xs. has xs g) is.into ∙ among-append g (columns_at s.members.items p) (columns_at s.members.items q)

  or-true : (x : Bool) → (x || true) ≡ true
  or-true true = refl
  or-true false = refl

  complete : (g : ℕ) → g < length t.sets.items → has (columns_at t.members.items (set_at t.sets.items g)) g ≡ true
  complete g lt = by (own_set g == p) (own_set g == q) refl refl
    where
      low : g < n
      low = let same = is.sets_count in omega (arith, lt, same)

      at : (r : ℕ) → set_at t.sets.items g ≡ r → has (columns_at t.members.items r) g ≡ true → has (columns_at t.members.items (set_at t.sets.items g)) g ≡ true
      at r e has-it = subst (λ r. has (columns_at t.members.items r) g ≡ true) (sym e) has-it

      own : has (columns_at s.members.items (own_set g)) g ≡ true
      own = are.complete g low

      by : (c d : Bool) → (own_set g == p) ≡ c → (own_set g == q) ≡ d → has (columns_at t.members.items (set_at t.sets.items g)) g ≡ true
      by true d e other = at p (in-both g low (ap (λ x. x || own_set g == q) e)) (joined g ∙ ap (λ x. x || moved g) (subst (λ r. has (columns_at s.members.items r) g ≡ true) (eqb-true (own_set g) p e) own))
      by false true e other = at p (in-both g low (ap (λ x. x || own_set g == q) e ∙ other)) (joined g ∙ ap (λ x. has (columns_at s.members.items p) g || x) (are-moved g low other) ∙ or-true _)
      by false false e other = at (own_set g) (in-other g (ap (λ x. x || own_set g == q) e ∙ other)).0 (ap (λ xs. has xs g) (is.others (own_set g) e other) ∙ own)

  once : (r g : ℕ) → times g (columns_at t.members.items r) ≤ 1
  once r g = by (r == p) (r == q) refl refl
    where
      both : times g (columns_at t.members.items p) ≡ times g (columns_at s.members.items p) + times g (columns_at s.members.items q)
      both = ap (times g) is.into ∙ times-append g (columns_at s.members.items p) (columns_at s.members.items q)

      in-one : (c d : Bool) → has (columns_at s.members.items p) g ≡ c → moved g ≡ d → times g (columns_at t.members.items p) ≤ 1
      in-one true true e f = absurd (let never : true ≡ false = sym (eq-eqb p q (sym (are.sound p g e).1 ∙ (are.sound q g f).1)) ∙ differ in cc)
      in-one true false e f = let sum = both in let none = times-none g (columns_at s.members.items q) f in let le = are.once p g in omega (arith, sum, none, le)
      in-one false d e f = let sum = both in let none = times-none g (columns_at s.members.items p) e in let le = are.once q g in omega (arith, sum, none, le)

      by : (c d : Bool) → (r == p) ≡ c → (r == q) ≡ d → times g (columns_at t.members.items r) ≤ 1
      by true d e other = subst (λ k. times g (columns_at t.members.items k) ≤ 1) (sym (eqb-true r p e)) (in-one (has (columns_at s.members.items p) g) (moved g) refl refl)
      by false true e other = subst (λ k. times g (columns_at t.members.items k) ≤ 1) (sym (eqb-true r q other)) (subst (λ xs. times g xs ≤ 1) (sym is.from) (omega arith))
      by false false e other = subst (λ xs. times g xs ≤ 1) (sym (is.others r e other)) (are.once r g)

  sound : (r g : ℕ) → has (columns_at t.members.items r) g ≡ true → (g < length t.sets.items) × (set_at t.sets.items g ≡ r)
  sound r g has-it = by (r == p) (r == q) refl refl
    where
      from-p : (c : Bool) → has (columns_at s.members.items p) g ≡ c → (c || moved g) ≡ true → (g < length t.sets.items) × (set_at t.sets.items g ≡ p)
      from-p true e either = let own = are.sound p g e in (within-t g own.0, in-both g own.0 (ap (λ x. x || own_set g == q) (eq-eqb (own_set g) p own.1)))
      from-p false e either = let own = are.sound q g either in (within-t g own.0, is.set g ∙ ap (λ c. if c then p else own_set g) either)

      by : (c d : Bool) → (r == p) ≡ c → (r == q) ≡ d → (g < length t.sets.items) × (set_at t.sets.items g ≡ r)
      by true d e other =
          let same : r ≡ p = eqb-true r p e in
          subst (λ r. (g < length t.sets.items) × (set_at t.sets.items g ≡ r)) (sym same) (from-p (has (columns_at s.members.items p) g) refl (sym (joined g) ∙ subst (λ r. has (columns_at t.members.items r) g ≡ true) same has-it))
      by false true e other = absurd (let never : false ≡ true = sym (ap (λ xs. has xs g) is.from) ∙ subst (λ r. has (columns_at t.members.items r) g ≡ true) (eqb-true r q other) has-it in cc)
      by false false e other =
          let own = are.sound r g (sym (ap (λ xs. has xs g) (is.others r e other)) ∙ has-it) in
          let apart : (own_set g == p || own_set g == q) ≡ false = ap (λ x. x == p || x == q) own.1 ∙ ap (λ x. x || r == q) e ∙ other in
          (within-t g own.0, (in-other g apart).0 ∙ own.1)

  -- ---- roots

  lesser-is : (x y : ℕ) → (lesser x y ≡ x) ⊎ (lesser x y ≡ y)
  lesser-is x y = by (nat_lt y x)
    where
      by : (c : Bool) → ((if c then y else x) ≡ x) ⊎ ((if c then y else x) ≡ y)
      by true = inr refl
      by false = inl refl

  in-t-roots : (g : ℕ) → g < n → set_at t.sets.items g < length t.roots.items
  in-t-roots g lt =
      let low = bounded g (within-t g lt) in
      let one = is.sets_count in
      let two = is.roots_count in
      let three = are.roots in
      omega (arith, low, one, two, three)

  root-both : (g : ℕ) → g < n → (own_set g == p || own_set g == q) ≡ true → root_of t g ≡ lesser (root_of s a) (root_of s b)
  root-both g lt either-is =
      root-at t g 0 (within-t g lt) (in-t-roots g lt) ∙ ap (λ r. get_or t.roots.items r 0) (in-both g lt either-is) ∙ is.root 0
      ∙ ap (λ x. lesser x (get_or s.roots.items q 0)) (sym (root-at s a 0 a-in (in-roots s are a a-in)))
      ∙ ap (lesser (root_of s a)) (sym (root-at s b 0 b-in (in-roots s are b b-in)))

  root-other : (g : ℕ) → g < n → (own_set g == p || own_set g == q) ≡ false → root_of t g ≡ root_of s g
  root-other g lt neither-is =
      let apart = in-other g neither-is in
      root-at t g 0 (within-t g lt) (in-t-roots g lt) ∙ ap (λ r. get_or t.roots.items r 0) apart.0 ∙ is.other_roots (own_set g) 0 apart.1
      ∙ sym (root-at s g 0 lt (in-roots s are g lt))

  -- the class that stands for a set is of it
  stands : (g : ℕ) → g < length t.sets.items → (root_of t g < length t.sets.items) × (set_at t.sets.items (root_of t g) ≡ set_at t.sets.items g)
  stands g lt = by (own_set g == p || own_set g == q) refl
    where
      low : g < n
      low = let same = is.sets_count in omega (arith, lt, same)

      of-a : (root_of s a < n) × (set_at t.sets.items (root_of s a) ≡ p)
      of-a = let own = are.stands a a-in in (own.0, in-both (root_of s a) own.0 (ap (λ x. x || own_set (root_of s a) == q) (eq-eqb _ p own.1)))

      of-b : (root_of s b < n) × (set_at t.sets.items (root_of s b) ≡ p)
      of-b = let own = are.stands b b-in in (own.0, in-both (root_of s b) own.0 (ap (λ x. own_set (root_of s b) == p || x) (eq-eqb _ q own.1) ∙ or-true _))

      of-lesser : (root_of t g ≡ lesser (root_of s a) (root_of s b)) → (root_of t g < n) × (set_at t.sets.items (root_of t g) ≡ p)
      of-lesser e = elim (lesser-is (root_of s a) (root_of s b)) [
        | inl first ↦ subst (λ r. (r < n) × (set_at t.sets.items r ≡ p)) (sym (e ∙ first)) of-a
        | inr second ↦ subst (λ r. (r < n) × (set_at t.sets.items r ≡ p)) (sym (e ∙ second)) of-b
      ]

      by : (c : Bool) → (own_set g == p || own_set g == q) ≡ c → (root_of t g < length t.sets.items) × (set_at t.sets.items (root_of t g) ≡ set_at t.sets.items g)
      by true either-is = let own = of-lesser (root-both g low either-is) in (within-t (root_of t g) own.0, own.1 ∙ sym (in-both g low either-is))
      by false neither-is =
          let own = are.stands g low in
          let apart : (own_set (root_of s g) == p || own_set (root_of s g) == q) ≡ false = ap (λ x. x == p || x == q) own.1 ∙ neither-is in
          subst (λ r. (r < length t.sets.items) × (set_at t.sets.items r ≡ set_at t.sets.items g)) (sym (root-other g low neither-is))
          (within-t (root_of s g) own.0, (in-other (root_of s g) apart).0 ∙ own.1 ∙ sym (in-other g neither-is).0)

  pub moved-sets : AreSets t
  moved-sets = record {
    roots = is.roots_count ∙ are.roots ∙ sym is.sets_count;
    members = is.members_count ∙ are.members ∙ sym is.sets_count;
    facts = is.facts_count ∙ are.facts ∙ sym is.sets_count;
    bounded = bounded;
    complete = complete;
    once = once;
    sound = sound;
    stands = stands;
  }

  -- ---- one class for both

  -- whether a class has the root of the one or of the other
  either : (g : ℕ) → g < n → (root_of s g == root_of s a || root_of s g == root_of s b) ≡ (own_set g == p || own_set g == q)
  either g lt = ap (λ x. x || root_of s g == root_of s b) (root-test s are g a lt a-in) ∙ ap (λ x. own_set g == p || x) (root-test s are g b lt b-in)

  -- a class of neither-is set has neither
  neither : (g : ℕ) → n ≤ g → (root_of s g == root_of s a || root_of s g == root_of s b) ≡ false
  neither g le =
      let past : root_of s g ≡ g = root-past s g le in
      let first = (are.stands a a-in).0 in
      let second = (are.stands b b-in).0 in
      ap (λ x. x || root_of s g == root_of s b) (ap (λ x. x == root_of s a) past ∙ ne_eqb g (root_of s a) (λ e. absurd (omega (arith, e, le, first))))
      ∙ ap (λ x. x == root_of s b) past ∙ ne_eqb g (root_of s b) (λ e. absurd (omega (arith, e, le, second)))

  past-t : (g : ℕ) → n ≤ g → length t.sets.items ≤ g
  past-t g le = let same = is.sets_count in omega (arith, le, same)

  roots : (g : ℕ) → root_of t g ≡ united (root_of s a) (root_of s b) (root_of s g)
  roots g = elim (cases_lt g n) [
    | inl lt ↦ by (own_set g == p || own_set g == q) lt refl
    | inr le ↦ root-past t g (past-t g le) ∙ sym (root-past s g le) ∙ sym (ap (λ c. if c then lesser (root_of s a) (root_of s b) else root_of s g) (neither g le))
  ]
    where
      by : (c : Bool) → g < n → (own_set g == p || own_set g == q) ≡ c → root_of t g ≡ united (root_of s a) (root_of s b) (root_of s g)
      by true lt either-is = root-both g lt either-is ∙ sym (ap (λ c. if c then lesser (root_of s a) (root_of s b) else root_of s g) (either g lt ∙ either-is))
      by false lt neither-is = root-other g lt neither-is ∙ sym (ap (λ c. if c then lesser (root_of s a) (root_of s b) else root_of s g) (either g lt ∙ neither-is))

  -- ---- facts

  in-t-facts : (g : ℕ) → g < n → set_at t.sets.items g < length t.facts.items
  in-t-facts g lt =
      let low = bounded g (within-t g lt) in
      let one = is.sets_count in
      let two = is.facts_count in
      let three = are.facts in
      omega (arith, low, one, two, three)

  facts-both : (g : ℕ) → (root_of s g == root_of s a || root_of s g == root_of s b) ≡ true → AreOfBoth (facts_of s a) (facts_of s b) (facts_of t g)
  facts-both g either-is = elim (cases_lt g n) [
    | inl lt ↦
        let there : facts_of t g ≡ get_or t.facts.items p no_facts = facts-here t g no_facts (within-t g lt) (in-t-facts g lt) ∙ ap (λ r. get_or t.facts.items r no_facts) (in-both g lt (sym (either g lt) ∙ either-is)) in
        subst (AreOfBoth (facts_of s a) (facts_of s b)) (sym there)
        (subst (λ F. AreOfBoth F (facts_of s b) (get_or t.facts.items p no_facts)) (sym (facts-here s a no_facts a-in (in-facts s are a a-in)))
        (subst (λ F. AreOfBoth (get_or s.facts.items p no_facts) F (get_or t.facts.items p no_facts)) (sym (facts-here s b no_facts b-in (in-facts s are b b-in))) (is.facts no_facts)))
    | inr le ↦ absurd (let never : false ≡ true = sym (neither g le) ∙ either-is in cc)
  ]

  facts-other : (g : ℕ) → (root_of s g == root_of s a || root_of s g == root_of s b) ≡ false → facts_of t g ≡ facts_of s g
  facts-other g neither-is = elim (cases_lt g n) [
    | inl lt ↦
        let apart = in-other g (sym (either g lt) ∙ neither-is) in
        facts-here t g no_facts (within-t g lt) (in-t-facts g lt) ∙ ap (λ r. get_or t.facts.items r no_facts) apart.0 ∙ is.other_facts (own_set g) no_facts apart.1 apart.2
        ∙ sym (facts-here s g no_facts lt (in-facts s are g lt))
    | inr le ↦ facts-past t g (past-t g le) ∙ sym (facts-past s g le)
  ]

  pub moved-united : AreUnited s a b t
  moved-united = record {
    roots = roots;
    facts = λ neither-is. facts-both;
    others = facts-other;
    nothing = λ same. absurd (let never : true ≡ false = sym same ∙ root-test s are a b a-in b-in ∙ differ in cc);
  }

-- ---- written into the lists

pub lesser-min : (x y : ℕ) → min x y ≡ lesser x y
lesser-min x y = by (nat_lt y x) refl
  where
    by : (c : Bool) → nat_lt y x ≡ c → min x y ≡ (if c then y else x)
    by true is = let low : y < x = ltb-true y x is in omega (arith, low)
    by false is = let le : x ≤ y = ltb-false y x is in omega (arith, le)

-- two entries of a list written, the second of them at p
module _ (p q : ℕ) (apart : (p == q) ≡ false) where
  pub not-same : p ≢ q
  not-same e = let never : true ≡ false = sym (eq-eqb p q e) ∙ apart in cc

  turned-apart : (q == p) ≡ false
  turned-apart = ne_eqb q p (λ e. not-same (sym e))

  other-one : (r m : ℕ) → (r == m) ≡ false → r ≢ m
  other-one r m other e = let never : true ≡ false = sym (eq-eqb r m e) ∙ other in cc

  module _ {X : Type 0} (xs : List X) (x y : X) (in-p : p < length xs) (in-q : q < length xs) where
    at-p : (d : X) → get_or (set (set xs q x) p y) p d ≡ y
    at-p d = get_or-set_same (set xs q x) p y d (let same = length-set xs q x in omega (arith, in-p, same))

    at-q : (d : X) → get_or (set (set xs q x) p y) q d ≡ x
    at-q d = get_or-set_other (set xs q x) p q y d (λ e. not-same (sym e)) ∙ get_or-set_same xs q x d in-q

    at-other : (r : ℕ) (d : X) → (r == p) ≡ false → (r == q) ≡ false → get_or (set (set xs q x) p y) r d ≡ get_or xs r d
    at-other r d not-p not-q = get_or-set_other (set xs q x) p r y d (other-one r p not-p) ∙ get_or-set_other xs q r x d (other-one r q not-q)

module _ (s t : ClassSets) (p q : ℕ) (are : AreSets s) (p-in : p < length s.sets.items) (q-in : q < length s.sets.items) (apart : (p == q) ≡ false) where
  pub written : (joined : List FactSets) (rest : FactSets)
      → length t.sets.items ≡ length s.sets.items
      → ((g : ℕ) → set_at t.sets.items g ≡ (if has (columns_at s.members.items q) g then p else set_at s.sets.items g))
      → t.members.items ≡ set (set s.members.items p (columns_at s.members.items p ++ columns_at s.members.items q)) q []
      → t.roots.items ≡ set s.roots.items p (lesser (get_or s.roots.items p 0) (get_or s.roots.items q 0))
      → AreFactsJoined s.facts.items p q joined
      → t.facts.items ≡ set joined q rest
      → AreMoved s t p q
  written joined rest count sets members roots are-joined facts =
      let same-roots = are.roots in
      let same-members = are.members in
      let p-root : p < length s.roots.items = omega (arith, p-in, same-roots) in
      let q-root : q < length s.roots.items = omega (arith, q-in, same-roots) in
      let p-member : p < length s.members.items = omega (arith, p-in, same-members) in
      let q-member : q < length s.members.items = omega (arith, q-in, same-members) in
      record {
        sets_count = count;
        roots_count = ap length roots ∙ length-set s.roots.items p _;
        members_count = ap length members ∙ length-set (set s.members.items p _) q _ ∙ length-set s.members.items p _;
        facts_count = ap length facts ∙ length-set joined q rest ∙ are-joined.count;
        set = sets;
        into = ap (λ xs. columns_at xs p) members ∙ at-q q p (turned-apart p q apart) s.members.items _ [] q-member p-member [];
        from = ap (λ xs. columns_at xs q) members ∙ at-p q p (turned-apart p q apart) s.members.items _ [] q-member p-member [];
        others = λ r not-p not-q. ap (λ xs. columns_at xs r) members ∙ at-other q p (turned-apart p q apart) s.members.items _ [] q-member p-member r [] not-q not-p;
        root = λ d. ap (λ xs. get_or xs p d) roots ∙ get_or-set_same s.roots.items p _ d p-root
            ∙ ap (λ x. lesser x (get_or s.roots.items q 0)) (get_or_default s.roots.items p 0 d p-root) ∙ ap (lesser (get_or s.roots.items p d)) (get_or_default s.roots.items q 0 d q-root);
        other_roots = λ r d not-p. ap (λ xs. get_or xs r d) roots ∙ get_or-set_other s.roots.items p r _ d (other-one p q apart r p not-p);
        facts = λ d. subst (AreOfBoth (get_or s.facts.items p d) (get_or s.facts.items q d)) (sym (ap (λ xs. get_or xs p d) facts ∙ get_or-set_other joined q p rest d (not-same p q apart))) (are-joined.both d);
        other_facts = λ r d not-p not-q. ap (λ xs. get_or xs r d) facts ∙ get_or-set_other joined q r rest d (other-one p q apart r q not-q) ∙ are-joined.others r d not-p not-q;
      }

-- two sets' facts, written back one behind the other
module _ (facts : List FactSets) (into from : ℕ) (none first rest : FactSets) (in-p : into < length facts) (in-q : from < length facts) (apart : (into == from) ≡ false) where
  abbrev after : List FactSets
  after = set (set (set facts from none) into first) from rest

  pub facts-joined : ((d : FactSets) → AreOfBoth (get_or facts into d) (get_or facts from d) first) → AreFactsJoined facts into from after
  facts-joined both = record {
    count = length-set (set (set facts from none) into first) from rest ∙ length-set (set facts from none) into first ∙ length-set facts from none;
    both = λ d. subst (AreOfBoth (get_or facts into d) (get_or facts from d))
        (sym (get_or-set_other (set (set facts from none) into first) from into rest d (not-same into from apart) ∙ at-p into from apart facts none first in-p in-q d)) (both d);
    others = λ r d not-p not-q. get_or-set_other (set (set facts from none) into first) from r rest d (other-one into from apart r from not-q) ∙ at-other into from apart facts none first in-p in-q r d not-p not-q;
  }

  pub facts-back : (d : FactSets) → first ≡ get_or (set facts from none) into d → rest ≡ get_or facts from d → after ≡ facts
  facts-back d here there =
      ap (λ x. set (set (set facts from none) into x) from rest) here ∙ ap (λ xs. set xs from rest) (set-get_or (set facts from none) into d)
      ∙ set-set facts from none rest ∙ ap (set facts from) there ∙ set-get_or facts from d

-- ---- in either order

module _ (s t : ClassSets) (a b : ℕ) where
  lesser-turned : (x y : ℕ) → lesser x y ≡ lesser y x
  lesser-turned x y = by (nat_lt y x) (nat_lt x y) refl refl
    where
      by : (c d : Bool) → nat_lt y x ≡ c → nat_lt x y ≡ d → (if c then y else x) ≡ (if d then x else y)
      by true true e f = absurd (let low : y < x = ltb-true y x e in let less : x < y = ltb-true x y f in omega (arith, low, less))
      by true false e f = refl
      by false true e f = refl
      by false false e f = let low : x ≤ y = ltb-false y x e in let less : y ≤ x = ltb-false x y f in omega (arith, low, less)

  equal-turned : (x y : ℕ) → (x == y) ≡ (y == x)
  equal-turned x y = by (x == y) (y == x) refl refl
    where
      by : (c d : Bool) → (x == y) ≡ c → (y == x) ≡ d → c ≡ d
      by true true e f = refl
      by false false e f = refl
      by true false e f = absurd (let never : true ≡ false = sym (eq-eqb y x (sym (eqb-true x y e))) ∙ f in cc)
      by false true e f = absurd (let never : true ≡ false = sym (eq-eqb x y (sym (eqb-true y x f))) ∙ e in cc)

  either-turned : (g : ℕ) → (root_of s g == root_of s b || root_of s g == root_of s a) ≡ (root_of s g == root_of s a || root_of s g == root_of s b)
  either-turned g = or_comm (root_of s g == root_of s b) (root_of s g == root_of s a)

  swapped : (F G both : FactSets) → AreOfBoth G F both → AreOfBoth F G both
  swapped F G both (inl is) = inr is
  swapped F G both (inr is) = inl is

  pub united-turned : AreUnited s b a t → AreUnited s a b t
  united-turned is = record {
    roots = λ g. is.roots g ∙ ap (λ n. if root_of s g == root_of s b || root_of s g == root_of s a then n else root_of s g) (lesser-turned (root_of s b) (root_of s a))
        ∙ ap (λ c. if c then lesser (root_of s a) (root_of s b) else root_of s g) (either-turned g);
    facts = λ differ g in-one. swapped (facts_of s a) (facts_of s b) (facts_of t g) (is.facts (equal-turned (root_of s b) (root_of s a) ∙ differ) g (either-turned g ∙ in-one));
    others = λ g in-none. is.others g (either-turned g ∙ in-none);
    nothing = λ same. is.nothing (equal-turned (root_of s b) (root_of s a) ∙ same);
  }

-- two classes of one set
pub united-already : (s : ClassSets) → AreSets s → (a b : ℕ) → a < length s.sets.items → b < length s.sets.items → set_at s.sets.items a ≡ set_at s.sets.items b → AreUnited s a b s
united-already s are a b a-in b-in same = record {
  roots = λ g. by g (root_of s g == root_of s a || root_of s g == root_of s b) refl;
  facts = λ differ. absurd (let never : true ≡ false = sym (eq-eqb _ _ one) ∙ differ in cc);
  others = λ g in-none. refl;
  nothing = λ is g. refl;
}
  where
    one : root_of s a ≡ root_of s b
    one = reads.one-root s are a b a-in b-in same

    lesser-one : (x y : ℕ) → x ≡ y → lesser x y ≡ x
    lesser-one x y e = by (nat_lt y x)
      where
        by : (c : Bool) → (if c then y else x) ≡ x
        by true = sym e
        by false = refl

    own : (g : ℕ) → (c d : Bool) → (root_of s g == root_of s a) ≡ c → (root_of s g == root_of s b) ≡ d → (c || d) ≡ true → root_of s g ≡ root_of s a
    own g true d e f in-one = eqb-true _ _ e
    own g false true e f in-one = eqb-true _ _ f ∙ sym one
    own g false false e f in-one = cc

    by : (g : ℕ) → (c : Bool) → (root_of s g == root_of s a || root_of s g == root_of s b) ≡ c → root_of s g ≡ (if c then lesser (root_of s a) (root_of s b) else root_of s g)
    by g true e = own g (root_of s g == root_of s a) (root_of s g == root_of s b) refl refl e ∙ sym (lesser-one (root_of s a) (root_of s b) one)
    by g false e = refl

-- sets of the same roots and facts as united ones
pub united-as : (s t u : ClassSets) (a b : ℕ) → AreUnited s a b t → ((g : ℕ) → root_of u g ≡ root_of t g) → ((g : ℕ) → facts_of u g ≡ facts_of t g) → AreUnited s a b u
united-as s t u a b one roots facts = record {
  roots = λ g. roots g ∙ one.roots g;
  facts = λ differ g in-one. subst (AreOfBoth (facts_of s a) (facts_of s b)) (sym (facts g)) (one.facts differ g in-one);
  others = λ g in-none. facts g ∙ one.others g in-none;
  nothing = λ same g. facts g ∙ one.nothing same g;
}

-- sets of the same lists
module _ (s t : ClassSets) (is : AreAlike s t) where
  pub alike-roots : (g : ℕ) → root_of t g ≡ root_of s g
  alike-roots g = ap (λ xs. root_in xs t.roots.items g) is.sets ∙ ap (λ xs. root_in s.sets.items xs g) is.roots

  pub alike-facts : (g : ℕ) → facts_of t g ≡ facts_of s g
  alike-facts g = ap (λ xs. facts_or_none (set_facts xs t.facts.items g)) is.sets ∙ ap (λ xs. facts_or_none (set_facts s.sets.items xs g)) is.facts

  pub alike-sets : AreSets s → AreSets t
  alike-sets are = subst (λ xs. AreSetsOf xs t.roots.items t.members.items t.facts.items) (sym is.sets)
      (subst (λ xs. AreSetsOf s.sets.items xs t.members.items t.facts.items) (sym is.roots)
      (subst (λ xs. AreSetsOf s.sets.items s.roots.items xs t.facts.items) (sym is.members)
      (subst (λ xs. AreSetsOf s.sets.items s.roots.items s.members.items xs) (sym is.facts) are)))

-- a list that was put behind another, and cut off again
pub cut-back : {X : Type 0} (xs ys : List X) → take (length xs) (xs ++ ys) ≡ xs
cut-back [] ys = refl
cut-back (x ∷ xs) ys = ap (λ zs. x ∷ zs) (cut-back xs ys)

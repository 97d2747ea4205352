-- One class more, alone in its set, and one fact more.
use Rattle.std.proofs.Common.{◌≡◌, refl, ap, sym, ◌∙◌, subst, inl, inr, ℕ, ◌+◌, ◌<◌, Bool, true, false, ◌||◌, ◌==◌, if◌then◌else◌, List, [], ◌∷◌, ◌++◌, length, set, get_or, ◌⊎◌, ◌≤◌, cond, arith}
use Rattle.std.proofs.lemmas.Bool.{cases_lt, cases_order, eq-eqb, eqb-true, ne_eqb}
use Rattle.std.proofs.lemmas.List.{length-set, length_push, get_or_push, get_or_append_left, get_or_past, get_or-set_same, get_or-set_other}
use Rattle.algebra.specs.Columns.{has, columns_at}
use Rattle.props.specs.declared.fact.Fact.{Fact}
use Rattle.props.specs.Facts.{no_facts, with_fact}
use Rattle.logs.specs.declared.sets.ClassSets.{ClassSets}
use Rattle.logs.specs.Sets.{AreSets, root_of, facts_of, set_at, times}
use Rattle.logs.proofs.Times.{times-cons}
use Rattle.logs.proofs.SetReads.{root-at, root-past, facts-here, facts-past, in-roots, in-facts, root-test}

module _ (s t : ClassSets) (are : AreSets s) (n : ℕ) (count : n ≡ length s.sets.items)
    (sets : t.sets.items ≡ s.sets.items ++ n ∷ []) (roots : t.roots.items ≡ s.roots.items ++ n ∷ []) (members : t.members.items ≡ s.members.items ++ (n ∷ []) ∷ []) (facts : t.facts.items ≡ s.facts.items ++ no_facts ∷ []) where
  pub pushed-count : length t.sets.items ≡ length s.sets.items + 1
  pushed-count = ap length sets ∙ length_push s.sets.items n

  roots-count : n ≡ length s.roots.items
  roots-count = count ∙ sym are.roots

  members-count : n ≡ length s.members.items
  members-count = count ∙ sym are.members

  facts-count : n ≡ length s.facts.items
  facts-count = count ∙ sym are.facts

  -- an entry of a list with one more
  module _ {X : Type 0} (xs ys : List X) (y d : X) (long : n ≡ length xs) (is : ys ≡ xs ++ y ∷ []) where
    front : (i : ℕ) → i < n → get_or ys i d ≡ get_or xs i d
    front i lt = ap (λ zs. get_or zs i d) is ∙ get_or_append_left xs (y ∷ []) d i (omega (arith, lt, long))

    last : get_or ys n d ≡ y
    last = ap (λ zs. get_or zs n d) is ∙ get_or_push xs y d n (sym long)

    past : (i : ℕ) → n < i → get_or ys i d ≡ d
    past i gt = ap (λ zs. get_or zs i d) is ∙ get_or_past (xs ++ y ∷ []) i d (let more = length_push xs y in omega (arith, gt, long, more))

  set-front : (g : ℕ) → g < n → set_at t.sets.items g ≡ set_at s.sets.items g
  set-front g lt = front s.sets.items t.sets.items n 0 count sets g lt

  set-last : set_at t.sets.items n ≡ n
  set-last = last s.sets.items t.sets.items n 0 count sets

  in-s : (g : ℕ) → g < n → g < length s.sets.items
  in-s g lt = omega (arith, lt, count)

  in-t : (g : ℕ) → g < n → g < length t.sets.items
  in-t g lt = let more = pushed-count in omega (arith, lt, count, more)

  n-in-t : n < length t.sets.items
  n-in-t = let more = pushed-count in omega (arith, count, more)

  low : (g : ℕ) → g < n → set_at s.sets.items g < n
  low g lt = let le = are.bounded g (in-s g lt) in omega (arith, le, count)

  t-roots : length t.roots.items ≡ n + 1
  t-roots = ap length roots ∙ length_push s.roots.items n ∙ ap (λ k. k + 1) (sym roots-count)

  t-facts : length t.facts.items ≡ n + 1
  t-facts = ap length facts ∙ length_push s.facts.items no_facts ∙ ap (λ k. k + 1) (sym facts-count)

  root-front : (g : ℕ) → g < n → root_of t g ≡ root_of s g
  root-front g lt =
      let less = low g lt in
      let more = t-roots in
      root-at t g 0 (in-t g lt) (subst (λ r. r < length t.roots.items) (sym (set-front g lt)) (omega (arith, less, more)))
      ∙ ap (λ r. get_or t.roots.items r 0) (set-front g lt) ∙ front s.roots.items t.roots.items n 0 roots-count roots (set_at s.sets.items g) less
      ∙ sym (root-at s g 0 (in-s g lt) (in-roots s are g (in-s g lt)))

  root-last : root_of t n ≡ n
  root-last =
      let more = t-roots in
      root-at t n 0 n-in-t (subst (λ r. r < length t.roots.items) (sym set-last) (omega (arith, more))) ∙ ap (λ r. get_or t.roots.items r 0) set-last ∙ last s.roots.items t.roots.items n 0 roots-count roots

  pub pushed-roots : (g : ℕ) → root_of t g ≡ root_of s g
  pushed-roots g = elim (cases_order g n) [
    | inl same ↦ ap (root_of t) same ∙ root-last ∙ sym same ∙ sym (root-past s g (omega (arith, same, count)))
    | inr other ↦ elim other [
      | inl lt ↦ root-front g lt
      | inr gt ↦ root-past t g (let more = pushed-count in omega (arith, gt, count, more)) ∙ sym (root-past s g (omega (arith, gt, count)))
    ]
  ]

  pub pushed-facts : (g : ℕ) → facts_of t g ≡ facts_of s g
  pushed-facts g = elim (cases_order g n) [
    | inl same ↦
        let more = t-facts in
        ap (facts_of t) same
        ∙ facts-here t n no_facts n-in-t (subst (λ r. r < length t.facts.items) (sym set-last) (omega (arith, more))) ∙ ap (λ r. get_or t.facts.items r no_facts) set-last ∙ last s.facts.items t.facts.items no_facts no_facts facts-count facts
        ∙ sym (facts-past s g (omega (arith, same, count)))
    | inr other ↦ elim other [
      | inl lt ↦
          let less = low g lt in
          let more = t-facts in
          facts-here t g no_facts (in-t g lt) (subst (λ r. r < length t.facts.items) (sym (set-front g lt)) (omega (arith, less, more)))
          ∙ ap (λ r. get_or t.facts.items r no_facts) (set-front g lt) ∙ front s.facts.items t.facts.items no_facts no_facts facts-count facts (set_at s.sets.items g) less
          ∙ sym (facts-here s g no_facts (in-s g lt) (in-facts s are g (in-s g lt)))
      | inr gt ↦ facts-past t g (let more = pushed-count in omega (arith, gt, count, more)) ∙ sym (facts-past s g (omega (arith, gt, count)))
    ]
  ]

  -- ---- they are sets

  member-front : (r : ℕ) → r < n → columns_at t.members.items r ≡ columns_at s.members.items r
  member-front r lt = front s.members.items t.members.items (n ∷ []) [] members-count members r lt

  either : (g : ℕ) → g < length t.sets.items → (g ≡ n) ⊎ (g < n)
  either g lt = elim (cases_order g n) [
    | inl same ↦ inl same
    | inr other ↦ elim other [
      | inl less ↦ inr less
      | inr gt ↦ absurd (let more = pushed-count in omega (arith, lt, gt, count, more))
    ]
  ]

  bounded : (g : ℕ) → g < length t.sets.items → set_at t.sets.items g < length t.sets.items
  bounded g lt = elim (either g lt) [
    | inl same ↦ subst (λ r. r < length t.sets.items) (sym (ap (set_at t.sets.items) same ∙ set-last)) n-in-t
    | inr less ↦ subst (λ r. r < length t.sets.items) (sym (set-front g less)) (in-t (set_at s.sets.items g) (low g less))
  ]

  complete : (g : ℕ) → g < length t.sets.items → has (columns_at t.members.items (set_at t.sets.items g)) g ≡ true
  complete g lt = elim (either g lt) [
    | inl same ↦
        ap (λ r. has (columns_at t.members.items r) g) (ap (set_at t.sets.items) same ∙ set-last) ∙ ap (λ xs. has xs g) (last s.members.items t.members.items (n ∷ []) [] members-count members)
        ∙ ap (λ b. b || false) (eq-eqb n g (sym same))
    | inr less ↦
        ap (λ r. has (columns_at t.members.items r) g) (set-front g less) ∙ ap (λ xs. has xs g) (member-front (set_at s.sets.items g) (low g less)) ∙ are.complete g (in-s g less)
  ]

  one-member : (g : ℕ) → (n == g || false) ≡ true → g ≡ n
  one-member g is = by (n == g) refl is
    where
      by : (b : Bool) → (n == g) ≡ b → (b || false) ≡ true → g ≡ n
      by true e is = sym (eqb-true n g e)
      by false e is = cc

  once : (r g : ℕ) → times g (columns_at t.members.items r) ≤ 1
  once r g = elim (cases_order r n) [
    | inl same ↦ subst (λ xs. times g xs ≤ 1) (sym (ap (columns_at t.members.items) same ∙ last s.members.items t.members.items (n ∷ []) [] members-count members)) (by (n == g) (times-cons g n []))
    | inr other ↦ elim other [
      | inl less ↦ subst (λ xs. times g xs ≤ 1) (sym (member-front r less)) (are.once r g)
      | inr gt ↦ subst (λ xs. times g xs ≤ 1) (sym (past s.members.items t.members.items (n ∷ []) [] members-count members r gt)) (omega arith)
    ]
  ]
    where
      by : (b : Bool) → times g (n ∷ []) ≡ cond b 1 0 + 0 → times g (n ∷ []) ≤ 1
      by true is = omega (arith, is)
      by false is = omega (arith, is)

  sound : (r g : ℕ) → has (columns_at t.members.items r) g ≡ true → (g < length t.sets.items) × (set_at t.sets.items g ≡ r)
  sound r g has-it = elim (cases_order r n) [
    | inl same ↦
        let is-n : g ≡ n = one-member g (sym (ap (λ xs. has xs g) (ap (columns_at t.members.items) same ∙ last s.members.items t.members.items (n ∷ []) [] members-count members)) ∙ has-it) in
        (subst (λ k. k < length t.sets.items) (sym is-n) n-in-t, ap (set_at t.sets.items) is-n ∙ set-last ∙ sym same)
    | inr other ↦ elim other [
      | inl less ↦
          let own = are.sound r g (sym (ap (λ xs. has xs g) (member-front r less)) ∙ has-it) in
          let in-n : g < n = (let lt = own.0 in omega (arith, lt, count)) in
          (in-t g in-n, set-front g in-n ∙ own.1)
      | inr gt ↦ absurd (let never : false ≡ true = sym (ap (λ xs. has xs g) (past s.members.items t.members.items (n ∷ []) [] members-count members r gt)) ∙ has-it in cc)
    ]
  ]

  stands : (g : ℕ) → g < length t.sets.items → (root_of t g < length t.sets.items) × (set_at t.sets.items (root_of t g) ≡ set_at t.sets.items g)
  stands g lt = elim (either g lt) [
    | inl same ↦
        let is : root_of t g ≡ n = ap (root_of t) same ∙ root-last in
        (subst (λ k. k < length t.sets.items) (sym is) n-in-t, ap (set_at t.sets.items) (is ∙ sym same))
    | inr less ↦
        let own = are.stands g (in-s g less) in
        let in-n : root_of s g < n = (let lt = own.0 in omega (arith, lt, count)) in
        subst (λ k. (k < length t.sets.items) × (set_at t.sets.items k ≡ set_at t.sets.items g)) (sym (root-front g less))
        (in-t (root_of s g) in-n, set-front (root_of s g) in-n ∙ own.1 ∙ sym (set-front g less))
  ]

  pub pushed-sets : AreSets t
  pushed-sets = record {
    roots = t-roots ∙ ap (λ k. k + 1) count ∙ sym pushed-count;
    members = ap length members ∙ length_push s.members.items (n ∷ []) ∙ ap (λ k. k + 1) are.members ∙ sym pushed-count;
    facts = t-facts ∙ ap (λ k. k + 1) count ∙ sym pushed-count;
    bounded = bounded;
    complete = complete;
    once = once;
    sound = sound;
    stands = stands;
  }

-- ---- a fact more

module _ (s t : ClassSets) (are : AreSets s) (class : ℕ) (fact : Fact) (lt : class < length s.sets.items)
    (sets : t.sets.items ≡ s.sets.items) (facts : t.facts.items ≡ set s.facts.items (set_at s.sets.items class) (with_fact (get_or s.facts.items (set_at s.sets.items class) no_facts) fact)) where
  abbrev p : ℕ
  p = set_at s.sets.items class

  same-set : (g : ℕ) → set_at t.sets.items g ≡ set_at s.sets.items g
  same-set g = ap (λ xs. set_at xs g) sets

  in-both : (g : ℕ) → g < length s.sets.items → (g < length t.sets.items) × (set_at t.sets.items g < length t.facts.items)
  in-both g less =
      let same : length t.sets.items ≡ length s.sets.items = ap length sets in
      let long : length t.facts.items ≡ length s.facts.items = ap length facts ∙ length-set s.facts.items p _ in
      let low = in-facts s are g less in
      (omega (arith, less, same), subst (λ r. r < length t.facts.items) (sym (same-set g)) (omega (arith, low, long)))

  pub learnt-facts : (g : ℕ) → facts_of t g ≡ (if root_of s g == root_of s class then with_fact (facts_of s g) fact else facts_of s g)
  learnt-facts g = elim (cases_lt g (length s.sets.items)) [
    | inl less ↦ by less (set_at s.sets.items g == p) refl
    | inr le ↦
        let own = (are.stands class lt).0 in
        let past : root_of s g ≡ g = root-past s g le in
        let other : (root_of s g == root_of s class) ≡ false = ne_eqb (root_of s g) (root_of s class) (λ e. absurd (omega (arith, e, past, le, own))) in
        facts-past t g (let same : length t.sets.items ≡ length s.sets.items = ap length sets in omega (arith, le, same)) ∙ sym (facts-past s g le)
        ∙ sym (ap (λ b. if b then with_fact (facts_of s g) fact else facts_of s g) other)
  ]
    where
      by : g < length s.sets.items → (b : Bool) → (set_at s.sets.items g == p) ≡ b → facts_of t g ≡ (if root_of s g == root_of s class then with_fact (facts_of s g) fact else facts_of s g)
      by less true is =
          let in-t = in-both g less in
          let same : set_at s.sets.items g ≡ p = eqb-true _ p is in
          facts-here t g no_facts in-t.0 in-t.1 ∙ ap (λ r. get_or t.facts.items r no_facts) (same-set g ∙ same) ∙ ap (λ xs. get_or xs p no_facts) facts
          ∙ get_or-set_same s.facts.items p _ no_facts (in-facts s are class lt)
          ∙ ap (λ r. with_fact (get_or s.facts.items r no_facts) fact) (sym same) ∙ ap (λ F. with_fact F fact) (sym (facts-here s g no_facts less (in-facts s are g less)))
          ∙ sym (ap (λ b. if b then with_fact (facts_of s g) fact else facts_of s g) (root-test s are g class less lt ∙ is))
      by less false is =
          let in-t = in-both g less in
          facts-here t g no_facts in-t.0 in-t.1 ∙ ap (λ r. get_or t.facts.items r no_facts) (same-set g) ∙ ap (λ xs. get_or xs (set_at s.sets.items g) no_facts) facts
          ∙ get_or-set_other s.facts.items p (set_at s.sets.items g) _ no_facts (λ e. let never : true ≡ false = sym (eq-eqb _ p e) ∙ is in cc)
          ∙ sym (facts-here s g no_facts less (in-facts s are g less))
          ∙ sym (ap (λ b. if b then with_fact (facts_of s g) fact else facts_of s g) (root-test s are g class less lt ∙ is))

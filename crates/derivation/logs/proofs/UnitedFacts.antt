-- The facts of classes that become the same.
use Rattle.std.proofs.Common.{◌≡◌, refl, ap, sym, ◌∙◌, inl, inr, ◌⊎◌, ℕ, Bool, true, false, ◌&&◌, ◌||◌, ◌==◌, nat_lt, if◌then◌else◌, [], ◌∷◌}
use Rattle.std.proofs.lemmas.Bool.{eq-eqb, eqb-true}
use Rattle.std.proofs.Math.Bool.{or-true, or_comm, and_comm}
use Rattle.props.specs.declared.fact.FactSets.{FactSets}
use Rattle.props.specs.Facts.{with_fact, with_facts}
use Rattle.props.proofs.FactUnions.{learnt-first, learnt-other}
use Rattle.derivation.specs.declared.line.Line.TheVariants.{Founds, Adds, Unites, Alike, Gives}
use Rattle.derivation.specs.Logs.{Log, lesser, united, least, are_same, facts_among}
use Rattle.logs.specs.Sets.{AreOfBoth}

-- ---- numbers of which two become one

lesser-is : (a b : ℕ) → (lesser a b ≡ a) ⊎ (lesser a b ≡ b)
lesser-is a b = by (nat_lt b a)
  where
    by : (c : Bool) → ((if c then b else a) ≡ a) ⊎ ((if c then b else a) ≡ b)
    by true = inr refl
    by false = inl refl

lesser-either : (a b : ℕ) → (lesser a b == a || lesser a b == b) ≡ true
lesser-either a b = elim (lesser-is a b) [
  | inl e ↦ ap (λ c. c || lesser a b == b) (eq-eqb _ a e)
  | inr e ↦ ap (λ c. lesser a b == a || c) (eq-eqb _ b e) ∙ or-true _
]

-- one of which passes a test that the other fails are not the same
apart : (p : ℕ → Bool) (x y : ℕ) → p x ≡ true → p y ≡ false → (x == y) ≡ false
apart p x y passes fails = by (x == y) refl
  where
    by : (c : Bool) → (x == y) ≡ c → c ≡ false
    by false e = refl
    by true e = absurd (let never : true ≡ false = sym passes ∙ ap p (eqb-true x y e) ∙ fails in cc)

other-way : (p : ℕ → Bool) (x y : ℕ) → p x ≡ false → p y ≡ true → (x == y) ≡ false
other-way p x y fails passes = by (x == y) refl
  where
    by : (c : Bool) → (x == y) ≡ c → c ≡ false
    by false e = refl
    by true e = absurd (let never : false ≡ true = sym fails ∙ ap p (eqb-true x y e) ∙ passes in cc)

module _ (a b : ℕ) where
  abbrev pub is_either : ℕ → Bool
  is_either x = x == a || x == b

  pub united-test : (x y : ℕ) → (c d : Bool) → is_either x ≡ c → is_either y ≡ d → (united a b x == united a b y) ≡ (if c then d else x == y)
  united-test x y true true first second =
      let e : united a b x ≡ lesser a b = ap (λ c. if c then lesser a b else x) first in
      let f : united a b y ≡ lesser a b = ap (λ c. if c then lesser a b else y) second in
      eq-eqb _ _ (e ∙ sym f)
  united-test x y true false first second =
      let e : united a b x ≡ lesser a b = ap (λ c. if c then lesser a b else x) first in
      let f : united a b y ≡ y = ap (λ c. if c then lesser a b else y) second in
      ap (λ n. n == united a b y) e ∙ ap (λ n. lesser a b == n) f ∙ apart is_either (lesser a b) y (lesser-either a b) second
  united-test x y false true first second =
      let e : united a b x ≡ x = ap (λ c. if c then lesser a b else x) first in
      let f : united a b y ≡ lesser a b = ap (λ c. if c then lesser a b else y) second in
      ap (λ n. n == united a b y) e ∙ ap (λ n. x == n) f ∙ other-way is_either x (lesser a b) first (lesser-either a b) ∙ sym (other-way is_either x y first second)
  united-test x y false false first second =
      let e : united a b x ≡ x = ap (λ c. if c then lesser a b else x) first in
      let f : united a b y ≡ y = ap (λ c. if c then lesser a b else y) second in
      ap (λ n. n == united a b y) e ∙ ap (λ n. x == n) f

-- ---- the facts of two kinds of classes

among-either : (p q : ℕ → Bool) → ((g : ℕ) → (p g && q g) ≡ false) → (E : Log) → facts_among (λ g. p g || q g) E ≡ with_facts (facts_among p E) (facts_among q E)
among-either p q disjoint [] = refl
among-either p q disjoint (Founds x ∷ E) = among-either p q disjoint E
among-either p q disjoint (Adds g s x ∷ E) = among-either p q disjoint E
among-either p q disjoint (Unites g h s ∷ E) = among-either p q disjoint E
among-either p q disjoint (Alike i j ∷ E) = among-either p q disjoint E
among-either p q disjoint (Gives g m f ∷ E) = by (among-either p q disjoint E) (p g) (q g) (disjoint g)
  where
    F : FactSets
    F = facts_among p E

    G : FactSets
    G = facts_among q E

    by : facts_among (λ g. p g || q g) E ≡ with_facts F G → (c d : Bool) → (c && d) ≡ false
        → (if c || d then with_fact (facts_among (λ g. p g || q g) E) f else facts_among (λ g. p g || q g) E) ≡ with_facts (if c then with_fact F f else F) (if d then with_fact G f else G)
    by rest true true never = cc
    by rest true false never = ap (λ H. with_fact H f) rest ∙ sym (learnt-first F G f)
    by rest false true never = ap (λ H. with_fact H f) rest ∙ sym (learnt-other F G f)
    by rest false false never = rest

pub among-alike : (p q : ℕ → Bool) → ((g : ℕ) → p g ≡ q g) → (E : Log) → facts_among p E ≡ facts_among q E
among-alike p q same E = ap (λ r. facts_among r E) (λ i g. same g i)

-- in either order
pub among-both : (p q : ℕ → Bool) → ((g : ℕ) → (p g && q g) ≡ false) → (E : Log) (both : FactSets) → AreOfBoth (facts_among p E) (facts_among q E) both → both ≡ facts_among (λ g. p g || q g) E
among-both p q disjoint E both is = elim is [
  | inl first ↦ first ∙ sym (among-either p q disjoint E)
  | inr second ↦ second ∙ sym (among-either q p (λ g. and_comm (q g) (p g) ∙ disjoint g) E) ∙ among-alike (λ g. q g || p g) (λ g. p g || q g) (λ g. or_comm (q g) (p g)) E
]

-- ---- classes of one least

pub equal-turned : (x y : ℕ) → (x == y) ≡ (y == x)
equal-turned x y = by (x == y) (y == x) refl refl
  where
    by : (c d : Bool) → (x == y) ≡ c → (y == x) ≡ d → c ≡ d
    by true true e f = refl
    by false false e f = refl
    by true false e f = absurd (let never : true ≡ false = sym (eq-eqb y x (sym (eqb-true x y e))) ∙ f in cc)
    by false true e f = absurd (let never : true ≡ false = sym (eq-eqb x y (sym (eqb-true y x f))) ∙ e in cc)

pub turned-facts : (E : Log) (a : ℕ) → facts_among (are_same E a) E ≡ facts_among (λ h. least E h == least E a) E
turned-facts E a = among-alike (are_same E a) (λ h. least E h == least E a) (λ h. equal-turned (least E a) (least E h)) E

-- a number is one of two different ones alone
pub apart-tests : (a b : ℕ) → (a == b) ≡ false → (E : Log) (h : ℕ) → ((least E h == a) && (least E h == b)) ≡ false
apart-tests a b differ E h = by (least E h == a) (least E h == b) refl refl
  where
    by : (c d : Bool) → (least E h == a) ≡ c → (least E h == b) ≡ d → (c && d) ≡ false
    by false d e f = refl
    by true false e f = refl
    by true true e f = absurd (let never : true ≡ false = sym (eq-eqb a b (sym (eqb-true _ a e) ∙ eqb-true _ b f)) ∙ differ in cc)

-- the facts of a class that is one of two that are the same already
pub one-class : (a b : ℕ) → a ≡ b → (E : Log) (g : ℕ) → is_either a b (least E g) ≡ true → facts_among (are_same E g) E ≡ facts_among (λ h. is_either a b (least E h)) E
one-class a b same E g in-one = among-alike (are_same E g) (λ h. is_either a b (least E h)) (λ h. ap (λ n. n == least E h) own ∙ equal-turned a (least E h) ∙ twice (least E h == a) (least E h == b) (ap (λ n. least E h == n) same)) E
  where
    own : least E g ≡ a
    own = by (least E g == a) (least E g == b) refl refl in-one
      where
        by : (c d : Bool) → (least E g == a) ≡ c → (least E g == b) ≡ d → (c || d) ≡ true → least E g ≡ a
        by true d e f is = eqb-true _ a e
        by false true e f is = eqb-true _ b f ∙ sym same
        by false false e f is = cc

    twice : (c d : Bool) → c ≡ d → c ≡ (c || d)
    twice true d e = refl
    twice false d e = e

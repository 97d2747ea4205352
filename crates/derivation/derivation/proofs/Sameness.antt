-- Classes that are the same.
use Rattle.std.proofs.Common.{◌≡◌, refl, ap, sym, ◌∙◌, subst, inl, inr, ◌⊎◌, ℕ, ◌<◌, ◌≤◌, Bool, true, false, ◌||◌, ◌==◌, nat_lt, [], ◌∷◌, length, if◌then◌else◌, arith}
use Rattle.std.proofs.lemmas.Bool.{eq-eqb, eqb-true, ltb-true, ltb-false}
use Rattle.std.proofs.Math.Nat.{le_trans}
use Rattle.derivation.specs.declared.line.Line.TheVariants.{Founds, Adds, Unites, Alike, Gives}
use Rattle.derivation.specs.Logs.{Log, lesser, united, class_at, least}

-- ---- two classes united

-- one of two numbers
abbrev pub IsEither : ℕ → ℕ → ℕ → Type 0
IsEither a b r = (r ≡ a) ⊎ (r ≡ b)

lesser-is : (a b : ℕ) → IsEither a b (lesser a b)
lesser-is a b = by (nat_lt b a)
  where
    by : (t : Bool) → IsEither a b (if t then b else a)
    by true = inr refl
    by false = inl refl

lesser-low : (a b : ℕ) → (lesser a b ≤ a) × (lesser a b ≤ b)
lesser-low a b = by (nat_lt b a) refl
  where
    by : (t : Bool) → nat_lt b a ≡ t → ((if t then b else a) ≤ a) × ((if t then b else a) ≤ b)
    by true is = let lt : b < a = ltb-true b a is in (omega (arith, lt), omega arith)
    by false is = let le : a ≤ b = ltb-false b a is in (omega arith, omega (arith, le))

-- what a number becomes: the lesser of two if it is one of them, else it stays
united-is : (a b r : ℕ) → (IsEither a b r × (united a b r ≡ lesser a b)) ⊎ ((IsEither a b r → ⊥) × (united a b r ≡ r))
united-is a b r = by (r == a) (r == b) refl refl
  where
    by : (t u : Bool) → (r == a) ≡ t → (r == b) ≡ u → (IsEither a b r × ((if t || u then lesser a b else r) ≡ lesser a b)) ⊎ ((IsEither a b r → ⊥) × ((if t || u then lesser a b else r) ≡ r))
    by true u is other = inl (inl (eqb-true r a is), refl)
    by false true is other = inl (inr (eqb-true r b other), refl)
    by false false is other = inr (
      (λ e. elim e [
        | inl e ↦ let no : false ≡ true = sym is ∙ eq-eqb r a e in cc
        | inr e ↦ let no : false ≡ true = sym other ∙ eq-eqb r b e in cc
      ]),
      refl,
    )

-- numbers that become one were one, or are both of the two
pub united-one : (a b r t : ℕ) → united a b r ≡ united a b t → (r ≡ t) ⊎ (IsEither a b r × IsEither a b t)
united-one a b r t is = elim (united-is a b r) [
  | inl x ↦ elim (united-is a b t) [
    | inl y ↦ inr (x.0, y.0)
    | inr y ↦ absurd (y.0 (subst (IsEither a b) (sym x.1 ∙ is ∙ y.1) (lesser-is a b)))
  ]
  | inr x ↦ elim (united-is a b t) [
    | inl y ↦ absurd (x.0 (subst (IsEither a b) (sym y.1 ∙ sym is ∙ x.1) (lesser-is a b)))
    | inr y ↦ inl (sym x.1 ∙ is ∙ y.1)
  ]
]

-- the two become one
pub united-first : (a b : ℕ) → united a b a ≡ united a b b
united-first a b = elim (united-is a b a) [
  | inl x ↦ elim (united-is a b b) [
    | inl y ↦ x.1 ∙ sym y.1
    | inr y ↦ absurd (y.0 (inr refl))
  ]
  | inr x ↦ absurd (x.0 (inl refl))
]

united-low : (a b r : ℕ) → united a b r ≤ r
united-low a b r = elim (united-is a b r) [
  | inl x ↦ elim x.0 [
    | inl is ↦ let low : lesser a b ≤ a = (lesser-low a b).0 in omega (arith, x.1, is, low)
    | inr is ↦ let low : lesser a b ≤ b = (lesser-low a b).1 in omega (arith, x.1, is, low)
  ]
  | inr x ↦ omega (arith, x.1)
]

united-stays : (a b r : ℕ) → a < r → b < r → united a b r ≡ r
united-stays a b r lt other = elim (united-is a b r) [
  | inl x ↦ elim x.0 [
    | inl is ↦ absurd (omega (arith, lt, is))
    | inr is ↦ absurd (omega (arith, other, is))
  ]
  | inr x ↦ x.1
]

-- ---- the least same class

pub least-low : (E : Log) (k : ℕ) → least E k ≤ k
least-low [] k = omega arith
least-low (Founds x ∷ E) k = least-low E k
least-low (Adds g s x ∷ E) k = least-low E k
least-low (Unites g h s ∷ E) k = le_trans (united-low (least E g) (least E h) (least E k)) (least-low E k)
least-low (Alike i j ∷ E) k = le_trans (united-low (least E (class_at E i)) (least E (class_at E j)) (least E k)) (least-low E k)
least-low (Gives g m f ∷ E) k = least-low E k

-- lines unite classes of earlier lines
abbrev pub AreBelow : Log → Type 0
AreBelow [] = Unit {0}
AreBelow (Founds x ∷ E) = AreBelow E
AreBelow (Adds g s x ∷ E) = AreBelow E
AreBelow (Unites g h s ∷ E) = (g < length E) × (h < length E) × AreBelow E
AreBelow (Alike i j ∷ E) = (class_at E i < length E) × (class_at E j < length E) × AreBelow E
AreBelow (Gives g m f ∷ E) = AreBelow E

-- a number past all lines is the same as no other
high : (E : Log) (g h k : ℕ) → g < length E → h < length E → length E ≤ k → least E k ≡ k → united (least E g) (least E h) (least E k) ≡ k
high E g h k lt other le is =
    let first : least E g ≤ g = least-low E g in
    let second : least E h ≤ h = least-low E h in
    ap (united (least E g) (least E h)) is ∙ united-stays (least E g) (least E h) k (omega (arith, le, first, lt)) (omega (arith, le, second, other))

pub least-high : (E : Log) → AreBelow E → (k : ℕ) → length E ≤ k → least E k ≡ k
least-high [] below k le = refl
least-high (Founds x ∷ E) below k le = least-high E below k (omega (arith, le))
least-high (Adds g s x ∷ E) below k le = least-high E below k (omega (arith, le))
least-high (Unites g h s ∷ E) below k le = let less : length E ≤ k = omega (arith, le) in high E g h k below.0 below.1 less (least-high E below.2 k less)
least-high (Alike i j ∷ E) below k le = let less : length E ≤ k = omega (arith, le) in high E (class_at E i) (class_at E j) k below.0 below.1 less (least-high E below.2 k less)
least-high (Gives g m f ∷ E) below k le = least-high E below k (omega (arith, le))

-- classes that are the same are both of earlier lines, or one
pub same-below : (E : Log) → AreBelow E → (x y : ℕ) → least E x ≡ least E y → (x ≡ y) ⊎ ((x < length E) × (y < length E))
same-below E below x y is = by (nat_lt x (length E)) (nat_lt y (length E)) refl refl
  where
    by : (t u : Bool) → nat_lt x (length E) ≡ t → nat_lt y (length E) ≡ u → (x ≡ y) ⊎ ((x < length E) × (y < length E))
    by true true lt other = inr (ltb-true x (length E) lt, ltb-true y (length E) other)
    by true false lt other =
        let low : least E x ≤ x = least-low E x in
        let first : x < length E = ltb-true x (length E) lt in
        let second : length E ≤ y = ltb-false y (length E) other in
        let high : least E y ≡ y = least-high E below y second in
        absurd (omega (arith, low, first, second, high, is))
    by false true lt other =
        let low : least E y ≤ y = least-low E y in
        let first : y < length E = ltb-true y (length E) other in
        let second : length E ≤ x = ltb-false x (length E) lt in
        let high : least E x ≡ x = least-high E below x second in
        absurd (omega (arith, low, first, second, high, is))
    by false false lt other =
        let first : length E ≤ x = ltb-false x (length E) lt in
        let second : length E ≤ y = ltb-false y (length E) other in
        inl (sym (least-high E below x first) ∙ is ∙ least-high E below y second)

-- ---- one more line that unites two classes

module _ (R : ℕ → ℕ → Type 0) (turned : (x y : ℕ) → R x y → R y x) (along : (x y z : ℕ) → R x y → R y z → R x z)
    (E : Log) (old : (x y : ℕ) → least E x ≡ least E y → R x y) (g h : ℕ) (new : R g h) where
  as-first : (x : ℕ) → IsEither (least E g) (least E h) (least E x) → R x g
  as-first x e = elim e [
    | inl is ↦ old x g is
    | inr is ↦ along x h g (old x h is) (turned g h new)
  ]

  -- what relates the same classes, and these two, relates the same classes then
  pub united-relate : (x y : ℕ) → united (least E g) (least E h) (least E x) ≡ united (least E g) (least E h) (least E y) → R x y
  united-relate x y is = elim (united-one (least E g) (least E h) (least E x) (least E y) is) [
    | inl same ↦ old x y same
    | inr both ↦ along x g y (as-first x both.0) (turned y g (as-first y both.1))
  ]

-- OR over a list, by the rows that stand in it.
use Rattle.std.proofs.Common.{◌≡◌, ◌↔◌, refl, ◌<◌, List, [], ◌∷◌, map, fold, ap, sym, ◌∙◌, arith, ◌⊎◌, inl, inr}
use Rattle.values.specs.declared.truth.Truth.{Truth}
use Rattle.values.specs.declared.truth.Truth.TheVariants.{False, Unknown, True}
use Rattle.values.specs.Truth.{disjunction}
use Rattle.schema.specs.Databases.{Row}
use Rattle.query.specs.Rows.{count}
use Rattle.query.specs.Meaning.{any_of}
use Rattle.query.proofs.Counting.{counted-first, counted-later, counted-either}

or-true : (a b : Truth) → disjunction a b ≡ True → (a ≡ True) ⊎ (b ≡ True)
or-true True b h = inl refl
or-true Unknown True h = inr refl
or-true Unknown Unknown h = cc
or-true Unknown False h = cc
or-true False b h = inr h

pub true-or : (a : Truth) → disjunction a True ≡ True
true-or True = refl
true-or Unknown = refl
true-or False = refl

or-false : (a b : Truth) → disjunction a b ≡ False → (a ≡ False) × (b ≡ False)
or-false True b h = cc
or-false Unknown True h = cc
or-false Unknown Unknown h = cc
or-false Unknown False h = cc
or-false False b h = (refl, h)

module _ (f : Row → Truth) where
  -- OR of a truth and of those of the rows
  abbrev or_rows : Truth → List Row → Truth
  or_rows a L = fold disjunction a (map f L)

  abbrev SomeTrue : List Row → Type 0
  SomeTrue L = (r : Row) × (0 < count r L) × (f r ≡ True)

  or-from_true : (L : List Row) → or_rows True L ≡ True
  or-from_true [] = refl
  or-from_true (r ∷ L) = or-from_true L

  later : (s : Row) (L : List Row) → SomeTrue L → SomeTrue (s ∷ L)
  later s L found = (found.0, counted-later found.0 s L found.1, found.2)

  some-true : (a : Truth) (L : List Row) → or_rows a L ≡ True → (a ≡ True) ⊎ SomeTrue L
  some-true a [] h = inl h
  some-true a (s ∷ L) h = elim (some-true (disjunction a (f s)) L h) as (λ _. (a ≡ True) ⊎ SomeTrue (s ∷ L)) [
    | inl e ↦ elim (or-true a (f s) e) as (λ _. (a ≡ True) ⊎ SomeTrue (s ∷ L)) [ inl d ↦ inl d | inr d ↦ inr (s, counted-first s L, d) ]
    | inr found ↦ inr (later s L found)
  ]

  true-some : (a : Truth) (L : List Row) (r : Row) → 0 < count r L → f r ≡ True → or_rows a L ≡ True
  true-some a [] r h is = absurd (omega arith)
  true-some a (s ∷ L) r h is = elim (counted-either r s L h) [
    | inl e ↦ rw (ap f (sym e) ∙ is, true-or a) (or-from_true L)
    | inr c ↦ true-some (disjunction a (f s)) L r c is
  ]

  each-false : (a : Truth) (L : List Row) → or_rows a L ≡ False → (a ≡ False) × ((r : Row) → 0 < count r L → f r ≡ False)
  each-false a [] h = (h, λ r c. absurd (omega arith))
  each-false a (s ∷ L) h =
      let rest = each-false (disjunction a (f s)) L h in
      let both = or-false a (f s) rest.0 in
      (both.0, λ r c. elim (counted-either r s L c) [ inl e ↦ ap f e ∙ both.1 | inr d ↦ rest.1 r d ])

  false-each : (a : Truth) (L : List Row) → a ≡ False → ((r : Row) → 0 < count r L → f r ≡ False) → or_rows a L ≡ False
  false-each a [] h each = h
  false-each a (s ∷ L) h each = false-each (disjunction a (f s)) L (rw h (each s (counted-first s L))) (λ r c. each r (counted-later r s L c))

  -- OR is true where one is true
  pub any-true : (L : List Row) → any_of (map f L) ≡ True ↔ ((r : Row) × (0 < count r L) × (f r ≡ True))
  any-true L = (
    (λ h. elim (some-true False L h) [ inl never ↦ cc | inr found ↦ found ]),
    (λ found. true-some False L found.0 found.1 found.2),
  )

  -- OR is false where each is false
  pub any-false : (L : List Row) → any_of (map f L) ≡ False ↔ ((r : Row) → 0 < count r L → f r ≡ False)
  any-false L = ((λ h. (each-false False L h).1), (λ each. false-each False L refl each))

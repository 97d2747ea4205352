-- Conjuncts that mention no column of a class, and lists taken apart.
use Rattle.std.proofs.Common.{◌≡◌, refl, inl, inr, ℕ, Bool, true, false, not, List, [], ◌∷◌, Result, Ok}
use Rattle.std.specs.List.{list_all}
use Rattle.std.proofs.lemmas.Bool.{and_parts, or_cases, not-true}
use Rattle.values.specs.Faults.{◌>>=◌, wanted_if}
use Rattle.values.specs.Truth.{is_true}
use Rattle.algebra.specs.declared.condition.Condition.{Condition}
use Rattle.algebra.specs.Columns.{has, are_disjoint}
use Rattle.algebra.specs.Bags.{Bag, lay}
use Rattle.algebra.specs.Conditions.{truth, holds, mentions}
use Rattle.algebra.specs.Expressions.{mentioned}
use Rattle.algebra.specs.ConjunctParts.{part, rest}
use Rattle.algebra.proofs.ConjunctSplits.{split_passes}
use Rattle.algebra.proofs.MentionedColumns.{each_has}
use Rattle.laws.specs.Fitting.{AreFitting}
use Rattle.laws.specs.Rewriting.{Ignores, IsBoth, AreApart}
use Rattle.laws.proofs.Mentions.{holds-reads}
use Rattle.laws.proofs.Ignored.{off, part-passes}
use Rattle.props.specs.Knowledge.{Knowledge, with_rows}
use Rattle.rules.specs.declared.shape.Shape.{Shape}
use Rattle.rules.specs.declared.unfit.Unfit.{Unfit}
use Rattle.rules.specs.declared.unfit.Unfit.TheVariants.{Condition as FailedCondition}
use Rattle.rules.specs.Conjuncts.{is_apart_from, wanted_some}

module _ (K : Knowledge) (g : ℕ) where
  mentioned-apart : (C : List Condition) → list_all (is_apart_from K g) C ≡ true → (c : ℕ) → mentioned K.columns K.free C c ≡ true → has (K.columns g) c ≡ false
  mentioned-apart [] apart c in_ = cc
  mentioned-apart (d ∷ C) apart c in_ =
      let parts = and_parts (is_apart_from K g d) (list_all (is_apart_from K g) C) apart in
      elim (or_cases (mentions d K.columns K.free c) (mentioned K.columns K.free C c) in_) [
        | inl here ↦ none (has (K.columns g) c) (mentions d K.columns K.free c) (λ is. each_has (λ k. not (mentions d K.columns K.free k)) (K.columns g) parts.0 c is) here
        | inr later ↦ mentioned-apart C parts.1 c later
      ]
    where
      none : (h m : Bool) → (h ≡ true → not m ≡ true) → m ≡ true → h ≡ false
      none true true apart is = cc (apart refl)
      none true false apart is = cc
      none false m apart is = refl

  -- conditions that mention no column of the class are asked of rows whatever they have there
  pub apart-ignores : (rows : ℕ → Bag) → AreFitting (with_rows K rows) → (C : List Condition) → list_all (is_apart_from K g) C ≡ true → Ignores (has (K.columns g)) (holds rows C)
  apart-ignores rows fits C apart r s = holds-reads (with_rows K rows) fits C (lay (has (K.columns g)) s r) r (λ c in_. off (has (K.columns g)) s r c (mentioned-apart C apart c in_))

  pub part-ignores : (rows : ℕ → Bag) → AreFitting (with_rows K rows) → (C : List Condition) → Ignores (has (K.columns g)) (holds rows (part (is_apart_from K g) C))
  part-ignores rows fits C = apart-ignores rows fits (part (is_apart_from K g) C) (part-passes (is_apart_from K g) C)

-- a list holds where both of its parts do
pub split-holds : (rows : ℕ → Bag) (t : Condition → Bool) (C : List Condition) → IsBoth (holds rows C) (holds rows (part t C)) (holds rows (rest t C))
split-holds rows t C r = split_passes (λ c. is_true (truth c rows r)) t C

pub disjoint-apart : (A B : List ℕ) → are_disjoint A B ≡ true → AreApart (has A) (has B)
disjoint-apart A B apart c in_ = not-true _ (each_has (λ k. not (has B k)) A apart c in_)

-- what is given for some conjuncts is given for these
pub some-given : {X : Type 0} (P : List Condition) (f : List Condition → Result X Unfit) (s : X) → (wanted_some P >>= f) ≡ Ok s → f P ≡ Ok s
some-given [] f s is = cc
some-given (c ∷ P) f s is = is

-- what is given if a test passes
pub if-given : (b : Bool) (t s : Shape) → wanted_if FailedCondition b t ≡ Ok s → (b ≡ true) × (◌≡◌ {A = Result Shape Unfit} (Ok t) (Ok s))
if-given true t s is = (refl, is)
if-given false t s is = cc

-- Conditions that mention none of some columns are asked of rows whatever they have there.
use Rattle.std.proofs.Common.{◌≡◌, refl, inl, inr, ℕ, Bool, true, false, not, if◌then◌else◌, List, [], ◌∷◌}
use Rattle.std.specs.List.{list_all}
use Rattle.std.proofs.lemmas.Bool.{and_parts, or_cases}
use Rattle.algebra.specs.declared.condition.Condition.{Condition}
use Rattle.algebra.specs.Columns.{ColumnSet, has}
use Rattle.algebra.specs.Bags.{Env, lay}
use Rattle.algebra.specs.Conditions.{holds, mentions}
use Rattle.algebra.specs.ConjunctParts.{is_without, part}
use Rattle.algebra.specs.Expressions.{Classes, mentioned}
use Rattle.algebra.proofs.MentionedColumns.{each_has}
use Rattle.laws.specs.Fitting.{AreFitting}
use Rattle.laws.specs.Rewriting.{Ignores}
use Rattle.laws.proofs.Mentions.{holds-reads}

-- outside its columns nothing is laid over a row
pub off : (B : ColumnSet) (s r : Env) (c : ℕ) → B c ≡ false → lay B s r c ≡ r c
off B s r c out = rw out refl

-- the conditions that pass a test do
pub part-passes : (t : Condition → Bool) (C : List Condition) → list_all t (part t C) ≡ true
part-passes t [] = refl
part-passes t (c ∷ C) = by (t c) refl (part-passes t C)
  where
    by : (b : Bool) → t c ≡ b → list_all t (part t C) ≡ true → list_all t (if b then c ∷ part t C else part t C) ≡ true
    by true is later = rw (is, later) refl
    by false is later = later

module _ (W : Classes) (B : List ℕ) where
  abbrev without : Condition → Bool
  without = is_without W.columns W.free B

  mentioned-without : (C : List Condition) → list_all without C ≡ true → (c : ℕ) → mentioned W.columns W.free C c ≡ true → has B c ≡ false
  mentioned-without [] apart c in_ = cc
  mentioned-without (d ∷ C) apart c in_ =
      let parts = and_parts (without d) (list_all without C) apart in
      elim (or_cases (mentions d W.columns W.free c) (mentioned W.columns W.free C c) in_) [
        | inl here ↦ none (has B c) (mentions d W.columns W.free c) (λ is. each_has (λ k. not (mentions d W.columns W.free k)) B parts.0 c is) here
        | inr later ↦ mentioned-without C parts.1 c later
      ]
    where
      none : (h m : Bool) → (h ≡ true → not m ≡ true) → m ≡ true → h ≡ false
      none true true apart is = cc (apart refl)
      none true false apart is = cc
      none false m apart is = refl

  pub without-ignores : AreFitting W → (C : List Condition) → list_all without C ≡ true → Ignores (has B) (holds W.rows C)
  without-ignores fits C apart r s = holds-reads W fits C (lay (has B) s r) r (λ c in_. off (has B) s r c (mentioned-without C apart c in_))

  -- so are those of a list that mention none of the columns
  pub part-ignores : AreFitting W → (C : List Condition) → Ignores (has B) (holds W.rows (part without C))
  part-ignores fits C = without-ignores fits (part without C) (part-passes without C)

-- The groups of rows by their numbers.
use Rattle.std.proofs.Common.{◌≡◌, ap, sym, subst, ◌∙◌, ℕ, ◌+◌, ◌<◌, Bool, inl, inr, List, [], ◌∷◌, ◌++◌, length, get_or, length-append, arith}
use Rattle.std.specs.List.{range_with_len}
use Rattle.std.proofs.lemmas.Bool.{cases_eq}
use Rattle.std.proofs.Math.ListN.{get_or-append}
use Rattle.std.proofs.Math.Seq.{get_or-append_seam}
use Rattle.grouping.specs.Groups.{AreNumbered, GroupOf, added_at, groups_by}

-- one row more has its number
pub numbered-more : (same : ℕ → ℕ → Bool) (numbers : List ℕ) (group : ℕ) → AreNumbered same numbers → groups_by same (range_with_len 0 (length numbers + 1)) ≡ added_at group (length numbers) (groups_by same (range_with_len 0 (length numbers)))
    → AreNumbered same (numbers ++ group ∷ [])
numbered-more same numbers group all here n below = elim (cases_eq n (length numbers)) [
  | inl e ↦ subst (λ m. groups_by same (range_with_len 0 (m + 1)) ≡ added_at (get_or (numbers ++ group ∷ []) m 0) m (groups_by same (range_with_len 0 m))) (sym e)
      (here ∙ ap (λ g. added_at g (length numbers) (groups_by same (range_with_len 0 (length numbers)))) (sym (get_or-append_seam numbers group [] 0)))
  | inr ne ↦
      let low : n < length numbers = omega (arith, ne, below, length-append numbers (group ∷ [])) in
      all n low ∙ ap (λ g. added_at g n (groups_by same (range_with_len 0 n))) (sym (get_or-append numbers (group ∷ []) 0 n low))
]

-- the same of rows from a number on, whatever groups the first rows have
pub numbered-next : (groups : ℕ → List (GroupOf ℕ)) (first : ℕ) (numbers : List ℕ) (group : ℕ) → ((i : ℕ) → i < length numbers → groups (first + i + 1) ≡ added_at (get_or numbers i 0) (first + i) (groups (first + i)))
    → groups (first + length numbers + 1) ≡ added_at group (first + length numbers) (groups (first + length numbers))
    → (i : ℕ) → i < length (numbers ++ group ∷ []) → groups (first + i + 1) ≡ added_at (get_or (numbers ++ group ∷ []) i 0) (first + i) (groups (first + i))
numbered-next groups first numbers group all here i below = elim (cases_eq i (length numbers)) [
  | inl e ↦ subst (λ m. groups (first + m + 1) ≡ added_at (get_or (numbers ++ group ∷ []) m 0) (first + m) (groups (first + m))) (sym e)
      (here ∙ ap (λ n. added_at n (first + length numbers) (groups (first + length numbers))) (sym (get_or-append_seam numbers group [] 0)))
  | inr ne ↦
      let low : i < length numbers = omega (arith, ne, below, length-append numbers (group ∷ [])) in
      all i low ∙ ap (λ n. added_at n (first + i) (groups (first + i))) (sym (get_or-append numbers (group ∷ []) 0 i low))
]

-- Rows that are selected, and further ones.
use Rattle.std.proofs.Common.{◌≡◌, ap, sym, ◌∙◌, subst, ℕ, Bool, ◌&&◌, List, ◌++◌, map, filter, Result, IfOk, Ok, Err}
use Rattle.std.proofs.lemmas.List.Folds.{list_all-append}
use Rattle.values.specs.Truth.{is_true}
use Rattle.values.proofs.Lists.{filter-map}
use Rattle.schema.specs.Databases.{Row}
use Rattle.algebra.specs.Bags.{Env}
use Rattle.relations.specs.declared.environment.Env as lent
use Rattle.relations.specs.declared.relation.Relation.{Relation}
use Rattle.relations.specs.declared.resolved.Test.{Test}
use Rattle.relations.specs.Parts.{row_at}
use Rattle.relations.specs.Relations.{IsOutput, rows_of}
use Rattle.relations.specs.Resolved.{all_pass, test_truth}
use Rattle.relations.proofs.Narrowed.{filter_twice}
use Rattle.cursors.specs.declared.selected.SelectedRows.{SelectedRows}
use Rattle.cursors.specs.Selected.{IsSelection}

-- equal columns and rows
pub reselected : {E : Type 0} (result : Result SelectedRows E) (K L : List ℕ) (X Y : List Env) (e : lent.Env) → K ≡ L → X ≡ Y → IfOk result (IsSelection K X e) → IfOk result (IsSelection L Y e)
reselected result K L X Y e columns rows reported = subst (λ M. IfOk result (IsSelection M Y e)) columns (subst (λ Z. IfOk result (IsSelection K Z e)) rows reported)

-- with further tests those of the rows are selected at which these are true
pub narrowed : (r : Relation) (l : List Row) (tests more : List Test) (p : Env → Bool) (row : ℕ → Env) → ((n : ℕ) → all_pass r l more n ≡ p (row n)) → (numbers : List ℕ)
    → map row (filter (all_pass r l (tests ++ more)) numbers) ≡ filter p (map row (filter (all_pass r l tests) numbers))
narrowed r l tests more p row means numbers =
    ap (map row) (sym (filter_twice (all_pass r l tests) (λ n. p (row n)) (all_pass r l (tests ++ more)) both numbers)) ∙ sym (filter-map p row (filter (all_pass r l tests) numbers))
  where
    both : (n : ℕ) → all_pass r l (tests ++ more) n ≡ (all_pass r l tests n && p (row n))
    both n = list_all-append (λ t. is_true (test_truth t l (row_at r.rows.parts.items n))) tests more ∙ ap (λ b. all_pass r l tests n && b) (means n)

-- the relation of rows that were chosen
pub reported : {E : Type 0} (result : Result Relation E) (K : List ℕ) (X Y : List Env) (e : Env) → IfOk result (λ r. r.heading.columns ≡ K) → IfOk result (λ r. rows_of r e ≡ X) → X ≡ Y → IfOk result (IsOutput K Y e)
reported (Ok r) K X Y e columns rows is = record { columns_are = columns; rows_are = rows ∙ is }
reported (Err x) K X Y e columns rows is = tt

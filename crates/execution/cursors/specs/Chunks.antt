-- Rows that are looked up a chunk at a time.
use Rattle.std.specs.Prelude.{◌≡◌, ◌-◌, ℕ, List, [], ◌∷◌, ◌++◌, drop, filter, Option, Some, None}
use Rattle.std.specs.List.{range_with_len}
use Rattle.relations.specs.declared.environment.Env as lent
use Rattle.relations.specs.Resolved.{all_pass, inner_row}
use Rattle.cursors.specs.declared.selected.SelectedRows.{SelectedRows}
use Rattle.cursors.specs.declared.chunks.ChunkedRows.{ChunkedRows}

-- the numbers of the selected rows from a row of the relation on
abbrev pub selected_from : lent.Env → SelectedRows → ℕ → List ℕ
selected_from e s start = filter (all_pass s.relation (inner_row e) s.tests.items) (range_with_len start (s.relation.rows.count - start))

-- the numbers of the rows that are still to come: what is left of the chunk, and then those behind it
abbrev pub numbers_to_come : lent.Env → ChunkedRows → List ℕ
numbers_to_come e c = drop c.handed c.chunk.items ++ selected_from e c.selected c.next

-- a number is the first of those to come, or none is to come
abbrev pub IsNextNumber : lent.Env → ChunkedRows → ChunkedRows → Option ℕ → Type 0
IsNextNumber e old new (Some number) = numbers_to_come e old ≡ number ∷ numbers_to_come e new
IsNextNumber e old new None = (numbers_to_come e old ≡ []) × (numbers_to_come e new ≡ [])

-- The next row of a cursor, chunk by chunk.
use Rattle.std.proofs.Common.{◌≡◌, ap, sym, ◌∙◌, ℕ, true, List, [], ◌∷◌, ◌++◌, map, Option, Some, None}
use Rattle.std.specs.Option.{is_some}
use Rattle.schema.specs.Databases.{Row}
use Rattle.relations.specs.declared.environment.Env.{Empty}
use Rattle.cursors.specs.declared.chunks.ChunkedRows.{ChunkedRows}
use Rattle.cursors.specs.declared.selected.SelectedRows.{SelectedRows}
use Rattle.cursors.specs.declared.shown.ShownRows.{ShownRows}
use Rattle.cursors.specs.Chunks.{IsNextNumber, numbers_to_come}
use Rattle.cursors.specs.Progress.{rows_to_come}
use Rattle.cursors.specs.Shown.{shown_row}
use Rattle.cursors.specs.ShownRows.{IsNextRow, shown_chunks, shown_to_come}

-- a row of those at hand has been found, or all of these have been handed over and the others are still to come
abbrev pub Reached : List Row → ShownRows → Option ℕ → Type 0
Reached rows now None = (numbers_to_come Empty now.rows ≡ []) × (shown_to_come now ≡ rows)
Reached rows now (Some number) = rows ≡ shown_row now.rows.selected.relation.rows now.places number ∷ shown_to_come now

-- a number of those at hand is looked up
pub looked-up : (rows : List Row) (old : ChunkedRows) (now : ShownRows) (o : Option ℕ) → now.rows.selected ≡ old.selected → IsNextNumber Empty old now.rows o
    → rows_to_come old now.places ++ shown_chunks now.more now.columns.items ≡ rows → Reached rows now o
looked-up rows old now None same (none, left) is = (
  left,
  ap (λ l. map (shown_row now.rows.selected.relation.rows now.places) l ++ shown_chunks now.more now.columns.items) left
      ∙ sym (ap (λ l. map (shown_row old.selected.relation.rows now.places) l ++ shown_chunks now.more now.columns.items) none) ∙ is,
)
looked-up rows old now (Some number) same next is =
    sym is
    ∙ ap (λ l. map (shown_row old.selected.relation.rows now.places) l ++ shown_chunks now.more now.columns.items) next
    ∙ ap (λ (s : SelectedRows). map (shown_row s.relation.rows now.places) (number ∷ numbers_to_come Empty now.rows) ++ shown_chunks now.more now.columns.items) (sym same)

-- what was reached where the loop ends
pub found : (old : ShownRows) (now : ShownRows) (o : Option ℕ) → is_some o ≡ true → Reached (shown_to_come old) now o → IsNextRow old now o
found old now None some reached = cc
found old now (Some number) some reached = reached

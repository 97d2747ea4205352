use Rattle.std.proofs.Common.{◌≡◌, ◌<◌, ℕ, List, [], ◌∷◌, length, get_or, refl, ap, sym, ◌∙◌, arith}
use Rattle.statistics.specs.Counting.{different_keys}
use Rattle.statistics.proofs.ColumnValues.{are_short}
use Rattle.statistics.proofs.UniqueColumns.{unique_column}
use Rattle.statistics.proofs.UniqueRows.{each_differs}
use Rattle.statistics.proofs.counting.index_keys.Goals as goal

pub returns-then-holds_unique_list : goal.returns-then-holds_unique_list
returns-then-holds_unique_list c = c.len.ensures ∙ sym (each_differs c.args.entry.now c.args.rows.now c.args.places.now c.requires (sym c.holds_unique_list.ensures ∙ c.if-holds_unique_list.true))

pub unique_column_keys-requires : goal.unique_column_keys-requires
unique_column_keys-requires c = unique_column c.args.entry.now c.args.rows.now _ c.requires (sym c.is_unique_column.ensures ∙ c.if-is_unique_column.true)

one_place : (ps : List ℕ) → 0 < length ps → length ps < 2 → ps ≡ get_or ps 0 0 ∷ []
one_place [] some few = absurd (omega (arith, some))
one_place (p ∷ []) some few = refl
one_place (p ∷ q ∷ ps) some few = absurd (omega (arith, few))

pub returns-then-is_unique_column : goal.returns-then-is_unique_column
returns-then-is_unique_column c = c.unique_column_keys.ensures ∙ ap (different_keys c.args.rows.now) (sym (one_place c.args.places.now (omega arith) (omega arith)))

pub different_keys-requires-clause-short : goal.different_keys-requires-clause-short
different_keys-requires-clause-short c = λ place. are_short c.args.entry.now c.args.rows.now place c.requires

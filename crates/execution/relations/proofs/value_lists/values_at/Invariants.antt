use Rattle.std.proofs.Common.{◌≡◌, map, Some}
use Rattle.std.specs.List.{range_with_len}
use Rattle.values.specs.Cells.{value_of}
use Rattle.values.specs.declared.truth.Comparison.TheVariants as by
use Rattle.values.specs.declared.value.Value.{Value}
use Rattle.values.specs.Truth.{compare}
use Rattle.query.specs.Meaning.{any_of}
use Rattle.relations.specs.Parts.{row_at, value_in}
use Rattle.relations.specs.ValueLists.{among}
use Rattle.relations.proofs.value_lists.values_at.Given as goal

abbrev pub invariant-loop-number : goal.invariant-loop-number
invariant-loop-number l = (v : Value) → among v (map value_of l.values.keys) ≡ any_of (map (λ n. compare by.Equal v (value_in (Some l.fn.place) (row_at l.relation.rows.parts.items n))) (range_with_len 0 l.number))

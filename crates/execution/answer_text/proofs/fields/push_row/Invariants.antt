use Rattle.std.proofs.Common.{◌≡◌, ◌++◌, [], get_or, map, take}
use Rattle.csv.specs.Writing.{default_writer, row_body}
use Rattle.store.specs.Fields.{field_of}
use Rattle.answer_text.proofs.fields.push_row.Given as goal

abbrev pub invariant-loop-item : goal.invariant-loop-item
invariant-loop-item g l = l.text.items ≡ l.fn.text.items ++ row_body default_writer (take l.item (map field_of (get_or (g.R.RowSource.rows l.found) l.row [])))

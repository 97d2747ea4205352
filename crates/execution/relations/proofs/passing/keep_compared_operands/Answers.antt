use Rattle.std.proofs.Common.{ap, ◌∙◌, filter}
use Rattle.values.specs.Truth.{compare, is_true}
use Rattle.relations.specs.Parts.{row_at}
use Rattle.relations.specs.Resolved.{inner_row, operand_value}
use Rattle.relations.specs.RowColumns.{column_value}
use Rattle.relations.proofs.passing.keep_compared_operands.Goals as goal

pub returns : goal.returns
returns c =
    let l = inner_row c.args.beside.now in
    let parts = c.args.right.now.rows.parts.items in
    let d = c.args.comparison in
    let first = c.operand_column-first in
    let second = c.operand_column-second in
    c.keep_compared.ensures
    ∙ λ i. filter (λ n. (ap (λ v. is_true (compare d v (column_value second.result n))) (first.ensures n) ∙ ap (λ v. is_true (compare d (operand_value c.args.first.now l (row_at parts n)) v)) (second.ensures n)) i) c.args.rows.now.items

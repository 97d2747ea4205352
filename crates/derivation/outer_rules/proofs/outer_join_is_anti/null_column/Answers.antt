use Rattle.std.proofs.Common.{ap, sym, ◌∙◌}
use Rattle.outer_rules.specs.OuterJoinIsAnti.{null_column}
use Rattle.outer_rules.proofs.NullConditions.{null_column-IsNull, null_column-else}
use Rattle.outer_rules.proofs.outer_join_is_anti.null_column.Goals as goal

pub returns-in-IsNull : goal.returns-in-IsNull
returns-in-IsNull c = c.column_of.ensures ∙ sym (ap null_column c.in-IsNull.is ∙ null_column-IsNull c.in-IsNull.term)

pub returns-in_default : goal.returns-in_default
returns-in_default c = sym (null_column-else c.args.condition.now c.in_default.not-IsNull)

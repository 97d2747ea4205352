use Rattle.std.proofs.Common.{sym, ap, ◌∙◌, Ok}
use Rattle.serde_json.specs.View.{view}
use Rattle.statistics.proofs.ItemCounts.{of_three, of_four}
use Rattle.statistics.proofs.entries.column_keys_of.Goals as goal

pub returns-in_ok-none : goal.returns-in_ok-none
returns-in_ok-none c = of_three c.args.columns.now (view c.args.value.now) (sym c.is_object_of.ensures ∙ c.if-is_object_of.true) ∙ ap Ok (sym c.in_ok-none.ensures)

pub returns-else-is_object_of : goal.returns-else-is_object_of
returns-else-is_object_of c = rw (of_four c.args.columns.now (view c.args.value.now) (sym c.is_object_of.ensures ∙ c.if-is_object_of.false)) c.fourth_of.ensures

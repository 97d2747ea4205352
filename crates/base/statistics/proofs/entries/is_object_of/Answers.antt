use Rattle.std.proofs.Common.{ap, sym, ◌∙◌, ◌==◌}
use Rattle.statistics.proofs.ItemCounts.{members_counted, no_object}
use Rattle.statistics.proofs.entries.is_object_of.Goals as goal

pub returns-in-Some : goal.returns-in-Some
returns-in-Some c = ap (λ n. n == c.args.count) c.len.ensures.len ∙ sym (members_counted c.args.count _ _ c.in-Some.ensures)

pub returns-in-None : goal.returns-in-None
returns-in-None c = sym (no_object c.args.count _ c.in-None.ensures)

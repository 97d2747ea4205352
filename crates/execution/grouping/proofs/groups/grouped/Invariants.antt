use Rattle.std.proofs.Common.{[]}
use Rattle.grouping.proofs.groups.grouped.Given as goal

abbrev pub ghost-add : goal.ghost-add
ghost-add a = []

use Rattle.std.proofs.Common.{◌||◌, ◌==◌, [], not, take}
use Rattle.std.specs.List.{list_all}
use Rattle.physical.specs.declared.plan.Operator.TheVariants.{IndexScan}
use Rattle.labels.specs.Nodes.{Adds, holds_if_fit}
use Rattle.labels.proofs.nodes.push_table_scans.Given as goal

abbrev pub invariant-loop-access : goal.invariant-loop-access
invariant-loop-access l = Adds l.initial.nodes.items l.nodes.items (λ p. list_all (λ a. not (a.line == l.of.line) || holds_if_fit l.of p (IndexScan a [])) (take l.access-index l.of.accesses.now))

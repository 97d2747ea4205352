use Rattle.std.proofs.Common.{ap, subst, sym, ◌∙◌}
use Rattle.physical.specs.declared.plan.Node.{Node}
use Rattle.physical.specs.Outputs.{first, node_rows}
use Rattle.physical.specs.Sorts.{keys_order}
use Rattle.operators.specs.Existence.{Decides, has_some}
use Rattle.operators.proofs.SomeRows.{some-sorted}
use Rattle.operators.proofs.existence.existence_of.Goals as goal

pub returns-in-Sort : goal.returns-in-Sort
returns-in-Sort c = λ instances D inputs e.
    ap (λ (n : Node). has_some (node_rows instances D n inputs e)) c.in-Sort.is ∙ some-sorted (keys_order _) (first inputs e)

pub returns-in-Implements : goal.returns-in-Implements
returns-in-Implements c = subst (λ (n : Node). Decides c.existence_of_operator.result (λ instances D. node_rows instances D n)) (sym c.in-Implements.is) c.existence_of_operator.ensures

use Rattle.std.proofs.Common.{ap, ◌∙◌}
use Rattle.physical.specs.declared.plan.Matching.{Matching}
use Rattle.physical.specs.Outputs.{first, join_rows}
use Rattle.operators.specs.Existence.{has_some}
use Rattle.operators.proofs.SomeRows.{some-left}
use Rattle.operators.proofs.existence.existence_of_join.Goals as goal

pub returns-in-Left : goal.returns-in-Left
returns-in-Left c = λ K b instances D inputs e.
    ap (λ (j : Matching). has_some (join_rows j (K instances inputs) (first inputs) (b instances D inputs) e)) c.in-Left.is ∙ some-left c.in-Left.field-0 (K instances inputs) (first inputs) (b instances D inputs) e

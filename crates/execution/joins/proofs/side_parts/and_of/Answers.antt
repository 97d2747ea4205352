use Rattle.std.proofs.Common.{ap, ◌∙◌}
use Rattle.values.specs.Truth.{is_true}
use Rattle.algebra.specs.Conditions.{truth}
use Rattle.physical.specs.Outputs.{no_classes}
use Rattle.joins.proofs.Branches.{true-and_of}
use Rattle.joins.proofs.side_parts.and_of.Goals as goal

pub returns : goal.returns
returns c = λ i r. (ap (λ d. is_true (truth d no_classes r)) c.in_ok-and.ensures ∙ true-and_of c.args.parts no_classes r) i

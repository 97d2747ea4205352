use Rattle.std.proofs.Common.{◌≡◌, ◌<◌, ℕ, [], slice_get, Some}
use Rattle.joins.specs.declared.stages.JoinStage.{JoinStage}
use Rattle.joins.specs.JoinStages.{stage_to_come}
use Rattle.joins.proofs.join_chains.are_ended.Given as goal

abbrev pub invariant-loop-stage : goal.invariant-loop-stage
invariant-loop-stage l = (i : ℕ) (j : JoinStage) → i < l.stage-index → slice_get l.stages i ≡ Some j → stage_to_come j ≡ []

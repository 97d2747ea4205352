use Rattle.std.proofs.Common.{◌≡◌, ◌++◌, map}
use Rattle.frame.specs.Frames as spec
use Rattle.frame.specs.Lent.{scope_of}
use Rattle.frame.proofs.FrameLoops.{from_place}
use Rattle.frame.proofs.frames.+frames.Given as goal

abbrev pub invariant-conditions-loop-cond : goal.invariant-conditions-loop-cond
invariant-conditions-loop-cond l = record {
  conditions : l.framed ++ (from_place (spec.cond_frame l.instances) (scope_of l.scope) l.conds l.cond-index l.lines).conditions
      ≡ (spec.all_frames (map (spec.cond_frame l.instances) l.conds) (scope_of l.scope) l.fn.lines).conditions;
  lines : (from_place (spec.cond_frame l.instances) (scope_of l.scope) l.conds l.cond-index l.lines).lines ≡ (spec.all_frames (map (spec.cond_frame l.instances) l.conds) (scope_of l.scope) l.fn.lines).lines;
}

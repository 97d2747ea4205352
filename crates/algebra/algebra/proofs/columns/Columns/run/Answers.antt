use Rattle.std.proofs.Common.{rules}
use Rattle.algebra.proofs.Sets.{increasing_range, run_more}
use Rattle.algebra.proofs.columns.Columns.run.Goals as goal

pub loop-place-preserved : goal.loop-place-preserved
loop-place-preserved c = run_more c.args.first c.loop-place.place _ c.loop-place.columns c.push.new.self c.in_ok-push.ensures.ok c.loop-place.invariant (search rules)

pub invariant_of-result : goal.invariant_of-result
invariant_of-result c = rw c.loop-place.invariant (increasing_range _ _)

use Rattle.std.proofs.Common.{map}
use Rattle.closure.proofs.Agreeing.{answers-from}
use Rattle.closure.proofs.standing.class_with.Goals as goal

pub returns : goal.returns
returns c = answers-from c.args.log.now.log (map (λ v. v.items) c.args.over.now) c.args.expr.now _ _ c.requires c.in_ok-lines.ensures c.in_ok-found.ensures

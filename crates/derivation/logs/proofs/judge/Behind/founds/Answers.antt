use Rattle.std.proofs.Common.{◌≡◌, reverse, true, rules}
use Rattle.algebra.specs.Expressions.{classes_pass}
use Rattle.derivation.specs.Logs.{founds}
use Rattle.logs.proofs.NamedLines.{named_below}
use Rattle.logs.proofs.judge.Behind.founds.Goals as goal

pub is_formed-requires : goal.is_formed-requires
is_formed-requires c =
    let pass : classes_pass (founds (reverse c.args.self.lines.now)) c.args.expr.now ≡ true = search rules in
    named_below c.args.self.lines.now _ c.args.expr.now c.requires pass

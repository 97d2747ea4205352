use Rattle.std.proofs.Common.{◌≡◌, ◌++◌, drop, map}
use Rattle.derivation.specs.declared.line.Line.TheVariants.{Founds}
use Rattle.planner.proofs.certificates.lines_of.Given as goal

abbrev pub invariant-loop-expr : goal.invariant-loop-expr
invariant-loop-expr l = l.lines ++ map Founds (drop l.expr-index l.frame) ≡ map Founds l.frame

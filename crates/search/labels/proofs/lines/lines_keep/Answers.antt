use Rattle.std.proofs.Common.{subst, map, arith}
use Rattle.std.specs.List.{AllByRecursion}
use Rattle.std.proofs.lemmas.List.{take_all}
use Rattle.labels.specs.Bounding.{LineKeeps}
use Rattle.labels.proofs.Keeping.{lost-line, read-next}
use Rattle.labels.proofs.lines.lines_keep.Goals as goal

pub returns-then-not-branch : goal.returns-then-not-branch
returns-then-not-branch c = lost-line (LineKeeps c.args.by.now (map (λ l. l.now) c.args.labels.now)) c.args.lines.now c.loop-line.line-index 0 c.loop-line-test.true _ c.if-not-branch.true c.in_ok-line_keeps.ensures

pub loop-line-preserved : goal.loop-line-preserved
loop-line-preserved c = read-next (LineKeeps c.args.by.now (map (λ l. l.now) c.args.labels.now)) c.args.lines.now c.loop-line.line-index 0 c.loop-line-test.true c.loop-line.invariant (c.in_ok-line_keeps.ensures.0 c.if-not-branch.false)

pub returns : goal.returns
returns c =
    let P = LineKeeps c.args.by.now (map (λ l. l.now) c.args.labels.now) in
    (λ so. subst (AllByRecursion P) (take_all c.loop-line.line-index c.args.lines.now (omega arith)) c.loop-line.invariant, λ all. cc)

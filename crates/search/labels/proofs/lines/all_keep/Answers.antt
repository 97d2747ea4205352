use Rattle.std.proofs.Common.{length, arith}
use Rattle.std.specs.List.{AllByRecursion}
use Rattle.labels.specs.Bounding.{IsKeptByAll}
use Rattle.labels.specs.ByClass.{of_class}
use Rattle.labels.proofs.Keeping.{class-more, classes-kept, lost-class}
use Rattle.labels.proofs.lines.all_keep.Goals as goal

pub returns-then-not-branch : goal.returns-then-not-branch
returns-then-not-branch c = lost-class c.args.by.now c.loop-class.class _ c.if-not-branch.true c.in_ok-class_keeps.ensures

pub loop-class-preserved : goal.loop-class-preserved
loop-class-preserved c = class-more (λ k. AllByRecursion (IsKeptByAll c.args.by.now) (of_class c.args.by.now.labels.now k)) c.loop-class.class c.loop-class.invariant (c.in_ok-class_keeps.ensures.0 c.if-not-branch.false)

pub returns : goal.returns
returns c = classes-kept c.args.by.now (length c.args.by.now.derived.log.now.log) c.requires.classes (λ k lt. c.loop-class.invariant k (omega (arith, lt, c.loop-class-test.false, c.in_ok-class-end.ensures, c.len.ensures)))

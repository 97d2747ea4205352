use Rattle.std.proofs.Common.{ap, sym, ◌∙◌, map}
use Rattle.logs.specs.Sets.{times}
use Rattle.labels.proofs.Keeping.{class-kept, class-lost, no-labels, none-of-class}
use Rattle.labels.proofs.lines.class_keeps.Goals as goal

pub returns-in_default : goal.returns-in_default
returns-in_default c = none-of-class c.args.by.now c.args.class (sym (c.requires.labels c.args.class) ∙ c.in_default.ensures)

pub returns-then-is_empty : goal.returns-then-is_empty
returns-then-is_empty c =
    no-labels c.args.by.now c.args.class c.as_slice-labels.result.now (ap (map (λ l. l.now)) c.as_slice-labels.ensures.value ∙ c.in-Some.ensures ∙ c.requires.labels c.args.class) (sym c.is_empty.ensures ∙ c.if-is_empty.true)

pub returns-then-not-branch : goal.returns-then-not-branch
returns-then-not-branch c =
    class-lost c.args.by.now c.args.class (map (λ l. l.now) c.as_slice-labels.result.now) c.as_slice.result.now (λ n. ap (times n) c.as_slice.ensures.value ∙ c.in_ok-lines.ensures n)
    (ap (map (λ l. l.now)) c.as_slice-labels.ensures.value ∙ c.in-Some.ensures ∙ c.requires.labels c.args.class) _ c.if-not-branch.true c.in_ok-lines_keep.ensures

pub returns : goal.returns
returns c =
    class-kept c.args.by.now c.args.class (map (λ l. l.now) c.as_slice-labels.result.now) c.as_slice.result.now (λ n. ap (times n) c.as_slice.ensures.value ∙ c.in_ok-lines.ensures n)
    (ap (map (λ l. l.now)) c.as_slice-labels.ensures.value ∙ c.in-Some.ensures ∙ c.requires.labels c.args.class) c.in_ok-keep.keep c.in_ok-keep.ensures (c.in_ok-lines_keep.ensures.0 c.if-not-branch.false)

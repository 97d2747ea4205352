use Rattle.std.proofs.Common.{◌≡◌, ap, sym, ◌∙◌, ℕ, ◌+◌, ◌<◌, length, reverse, take, get_or, arith}
use Rattle.std.specs.List.{sum_by}
use Rattle.std.proofs.lemmas.List.{take_all}
use Rattle.std.proofs.lemmas.List.Sums.{sum_by_more}
use Rattle.derivation.specs.Logs.{Log, member}
use Rattle.logs.specs.Members.{once_of}
use Rattle.logs.proofs.Relabelled.{read-all}
use Rattle.logs.proofs.class_lines.lines_of.Goals as goal

pub push_lines-requires-clause-class : goal.push_lines-requires-clause-class
push_lines-requires-clause-class c = read-all (λ k. k < length c.args.lines.now) c.args.classes.now c.loop-class.class-index 0 c.requires.classes c.loop-class-test.true

pub loop-class-preserved : goal.loop-class-preserved
loop-class-preserved c =
    let E : Log = reverse c.args.lines.now in
    let classes = c.args.classes.now in
    let i : ℕ = c.loop-class.class-index in
    λ n. c.in_ok-push_lines.ensures n ∙ ap (λ k. k + once_of (member E n) (get_or classes i 0)) (c.loop-class.invariant n) ∙ sym (sum_by_more (once_of (member E n)) classes i 0 c.loop-class-test.true)

pub returns : goal.returns
returns c =
    let all = take_all c.loop-class.class-index c.args.classes.now (omega arith) in
    λ n. c.loop-class.invariant n ∙ ap (sum_by (once_of (member (reverse c.args.lines.now) n))) all

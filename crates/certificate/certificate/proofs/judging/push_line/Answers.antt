use Rattle.std.proofs.Common.{◌≡◌, rules, ap, sym, subst, ◌∙◌, Result, Ok}
use Rattle.values.specs.Faults.{Fails, wanted_if}
use Rattle.frame.specs.FormedFrames.{own_aggregates}
use Rattle.derivation.specs.declared.line.Line.{Line}
use Rattle.derivation.specs.declared.line.LineReason.{LineReason}
use Rattle.derivation.specs.Replay.{stands}
use Rattle.certificate.specs.declared.certificate.CheckRefusal.{CheckRefusal}
use Rattle.certificate.specs.declared.certificate.CheckReason.TheVariants.{OtherLine}
use Rattle.certificate.specs.Replay.{refusal, at_line, line_replays}
use Rattle.certificate.proofs.ReplayedLines.{stands_as, refused_line, framed_line}
use Rattle.certificate.proofs.judging.push_line.Goals as goal

pub returns-in-Err-clause-verdict : goal.returns-in-Err-clause-verdict
returns-in-Err-clause-verdict c =
    let q = c.args.query.now in
    let E = c.args.log.now.log in
    let line = c.args.line.now in
    let same = stands_as q E line c.in_ok-copy.copy c.args.log.now.instances c.args.log.now.own c.requires.instances c.requires.own c.in_ok-copy.ensures in
    refused_line q E line c.len-number.result c.fault_at.result c.len-number.ensures
    (subst (λ (v : Result Line LineReason). Fails c.fault_at.result (at_line c.len-number.result v)) same (c.fault_at.ensures (stands c.args.log.now.instances c.args.log.now.own E c.in_ok-copy.copy) c.in-Err.ensures.verdict))

pub returns-then-not-is_of_frame-clause-verdict : goal.returns-then-not-is_of_frame-clause-verdict
returns-then-not-is_of_frame-clause-verdict c =
    let q = c.args.query.now in
    let E = c.args.log.now.log in
    let line = c.args.line.now in
    let same = stands_as q E line c.in_ok-copy.copy c.args.log.now.instances c.args.log.now.own c.requires.instances c.requires.own c.in_ok-copy.ensures in
    let there = sym same ∙ c.in_default.ensures.verdict ∙ ap Ok c.in_ok-copy.ensures in
    let framed = framed_line q E line c.len-number.result c.args.frame.now c.is_of_frame.result there c.len-number.ensures c.requires.frame c.is_of_frame.ensures in
    subst (λ f. Fails f (line_replays q E line)) (sym c.refused.ensures) (framed ∙ ap (λ b. wanted_if (refusal c.len-number.result OtherLine) b line) c.if-not-is_of_frame.true)

pub returns-clause-verdict : goal.returns-clause-verdict
returns-clause-verdict c =
    let q = c.args.query.now in
    let E = c.args.log.now.log in
    let line = c.args.line.now in
    let same = stands_as q E line c.in_ok-copy.copy c.args.log.now.instances c.args.log.now.own c.requires.instances c.requires.own c.in_ok-copy.ensures in
    let there = sym same ∙ c.in_default.ensures.verdict ∙ ap Ok c.in_ok-copy.ensures in
    framed_line q E line c.len-number.result c.args.frame.now c.is_of_frame.result there c.len-number.ensures c.requires.frame c.is_of_frame.ensures
    ∙ ap (λ b. wanted_if (refusal c.len-number.result OtherLine) b line) c.if-not-is_of_frame.false

use Rattle.std.proofs.Common.{◌<◌, ◌^◌, ◌++◌, flat_map, length, refl, sym, ap, arith}
use Rattle.certificate_text.specs.CertificateText.{line_text}
use Rattle.certificate_text.specs.Readable.{IsReadableLine}
use Rattle.certificate_read.proofs.TextLists.{so_far_whole, so_far_next, so_far_read}
use Rattle.certificate_read.proofs.WordCalls.{fails}
use Rattle.certificate_text.proofs.Exits.{holds_of_fault}
use Rattle.certificate_read.specs.LineReading.{line_wording}
use Rattle.certificate_read.specs.TextCalls.{PassesDerivation}
use Rattle.certificate_read.specs.TextFaults.{IsFaultOfDerivation, IsNextFault, IsOther}
use Rattle.certificate_read.proofs.DerivationLines.{derivation_fault, derivation_passed, line_more, no_lines}
use Rattle.certificate_read.proofs.TextSteps.{from_as}
use Rattle.certificate_read.proofs.reading.derivation.Goals as goal

pub loop-done-init : goal.loop-done-init
loop-done-init c = ((λ ls rest h count e. (ls, (h, ap (λ lines. lines ++ ls) (sym c.new-lines.ensures), e, ap length c.new-lines.ensures))), no_lines c.count.new.text c.in_ok-count.count _ c.new-lines.ensures)

pub returns-in_err-next_line-clause-complete : goal.returns-in_err-next_line-clause-complete
returns-in_err-next_line-clause-complete c = λ ls rest h le e.
    let short : length ls < 2 ^ 32 = omega (arith, le) in
    let count = c.in_ok-count.ensures.complete (length ls) (flat_map line_text ls ++ rest) le short refl e in
    let below : c.loop-done._done < length ls = omega (arith, c.loop-done-test.true, count.0) in
    let next = so_far_next line_text IsReadableLine ls rest c.loop-done.text.left.now c.loop-done.lines c.loop-done._done (c.loop-done.invariant.0 ls rest h (sym count.0) count.1) below in
    fails _ c.from_residual-in_err-next_line.result c.in_err-next_line.field-0.0 c.from_residual-in_err-next_line.ensures.1 (c.in_err-next_line.ensures.complete next.0 (flat_map line_text next.1 ++ rest) next.3 next.6)

pub loop-done-preserved : goal.loop-done-preserved
loop-done-preserved c = (
  (λ ls rest h count e.
      let so_far = c.loop-done.invariant.0 ls rest h count e in
      let below : c.loop-done._done < length ls = omega (arith, c.loop-done-test.true, count) in
      let next = so_far_next line_text IsReadableLine ls rest c.loop-done.text.left.now c.loop-done.lines c.loop-done._done so_far below in
      let read = c.in_ok-next_line.ensures.complete next.0 (flat_map line_text next.1 ++ rest) next.3 next.6 in (
        next.1,
        so_far_read line_text IsReadableLine ls rest c.loop-done.text.left.now c.loop-done.lines c.loop-done._done so_far below c.in_ok-next_line.field-0 c.next_line.new.text.left.now c.push.new.self read.0 read.1
            c.in_ok-push.ensures.ok,
      )),
  line_more c.count.new.text c.loop-done.text c.next_line.new.text c.loop-done.lines c.push.new.self c.in_ok-next_line.field-0 c.in_ok-count.count c.loop-done._done c.loop-done.invariant.1 c.loop-done-test.true c.in_ok-next_line.ensures.exact c.in_ok-push.ensures.ok,
)

pub returns-clause-complete : goal.returns-clause-complete
returns-clause-complete c = λ ls rest h le e.
    let short : length ls < 2 ^ 32 = omega (arith, le) in
    let count = c.in_ok-count.ensures.complete (length ls) (flat_map line_text ls ++ rest) le short refl e in
    let whole = so_far_whole line_text IsReadableLine ls rest c.loop-done.text.left.now c.loop-done.lines c.loop-done._done (c.loop-done.invariant.0 ls rest h (sym count.0) count.1) (omega (arith, c.loop-done-test.false, count.0)) in
    (whole.0, whole.1)

pub returns-in_err-next_line-clause-exact : goal.returns-in_err-next_line-clause-exact
returns-in_err-next_line-clause-exact c =
    let count = c.in_ok-count.ensures.exact (omega arith) refl in
    holds_of_fault (PassesDerivation c.args.text.now c.next_line.new.text) c.from_residual-in_err-next_line.result c.in_err-next_line.field-0.0 c.from_residual-in_err-next_line.ensures.1
    (from_as (IsNextFault (IsOther line_wording)) IsFaultOfDerivation c.args.text.now c.loop-done.text c.in_err-next_line.field-0.0
    (λ r fault. derivation_fault c.in_ok-count.count c.loop-done.lines c.args.text.now c.count.new.text c.loop-done.text r count.0 count.1 c.loop-done.invariant.1 (omega (arith, c.loop-done-test.true, c.loop-done.invariant.1.2)) fault) c.in_err-next_line.ensures.exact)

pub returns-clause-exact : goal.returns-clause-exact
returns-clause-exact c =
    let count = c.in_ok-count.ensures.exact (omega arith) refl in
    derivation_passed c.in_ok-count.count c.loop-done.lines c.args.text.now c.count.new.text c.loop-done.text count.0 count.1 c.loop-done.invariant.1 (omega (arith, c.loop-done-test.false, c.loop-done.invariant.1.2, c.loop-done.invariant.1.3))

use Rattle.std.proofs.Common.{sym, arith}
use Rattle.certificate_text.proofs.ConjunctParts.{not_other}
use Rattle.certificate_text.proofs.Exits.{not_both, same_found, found_none}
use Rattle.certificate_read.proofs.TextCuts.{count_uncut, count_word, count_read}
use Rattle.certificate_text.proofs.ConjunctParts.{not_unequal}
use Rattle.certificate_read.proofs.TextCounts.{large}
use Rattle.certificate_read.proofs.TextCuts.{count_first, count_is, no_count}
use Rattle.certificate_read.proofs.reading.count_of.Goals as goal

pub returns-in_default-clause-complete : goal.returns-in_default-clause-complete
returns-in_default-clause-complete c = λ n le short free e. absurd (count_uncut c.args.word.now n c.args.line.now free short e (rw c.in_default.is at c.split_once.ensures.cases))

pub returns-then-ne-clause-complete : goal.returns-then-ne-clause-complete
returns-then-ne-clause-complete c = λ n le short free e.
    absurd (not_other c.in-Some.first.now c.args.word.now c.ne.result (count_word c.args.word.now n c.args.line.now free short e (c.in-Some.first, c.in-Some.text) (rw c.in-Some.is at c.split_once.ensures.cases)) c.ne.ensures c.if-ne.true)

pub returns-in_err-count-clause-complete : goal.returns-in_err-count-clause-complete
returns-in_err-count-clause-complete c = λ n le short free e.
    let given = count_read c.args.word.now n c.args.line.now free short e (c.in-Some.first, c.in-Some.text) c.number.result (rw c.in-Some.is at c.split_once.ensures.cases) c.number.ensures in
    absurd (not_both c.number.result _ _ c.in_err-count.was given)

pub returns-in_default-2-clause-complete : goal.returns-in_default-2-clause-complete
returns-in_default-2-clause-complete c = λ n le short free e.
    let given = count_read c.args.word.now n c.args.line.now free short e (c.in-Some.first, c.in-Some.text) c.number.result (rw c.in-Some.is at c.split_once.ensures.cases) c.number.ensures in
    absurd (found_none c.number.result c.in_ok-count.field-0 n given c.in_ok-count.was c.in_default-2.is)

pub returns-then-count-most-clause-complete : goal.returns-then-count-most-clause-complete
returns-then-count-most-clause-complete c = λ n le short free e.
    let given = count_read c.args.word.now n c.args.line.now free short e (c.in-Some.first, c.in-Some.text) c.number.result (rw c.in-Some.is at c.split_once.ensures.cases) c.number.ensures in
    sym (same_found c.number.result c.in_ok-count.field-0 n c.in-Some-2.count given c.in_ok-count.was c.in-Some-2.is)

pub returns-else-count-most-clause-complete : goal.returns-else-count-most-clause-complete
returns-else-count-most-clause-complete c = λ n le short free e.
    let given = count_read c.args.word.now n c.args.line.now free short e (c.in-Some.first, c.in-Some.text) c.number.result (rw c.in-Some.is at c.split_once.ensures.cases) c.number.ensures in
    let same = same_found c.number.result c.in_ok-count.field-0 n c.in-Some-2.count given c.in_ok-count.was c.in-Some-2.is in
    absurd (omega (arith, c.if-count-most.false, le, same))

pub returns-in_default-clause-exact : goal.returns-in_default-clause-exact
returns-in_default-clause-exact c = λ short free. no_count c.args.word.now c.args.line.now free (rw c.in_default.is at c.split_once.ensures.cases)

pub returns-then-ne-clause-exact : goal.returns-then-ne-clause-exact
returns-then-ne-clause-exact c = λ short free. λ n e.
    not_other c.in-Some.first.now c.args.word.now c.ne.result (count_first c.args.word.now c.args.line.now free (c.in-Some.first, c.in-Some.text) (rw c.in-Some.is at c.split_once.ensures.cases) n e).0 c.ne.ensures c.if-ne.true

pub returns-in_default-2-clause-exact : goal.returns-in_default-2-clause-exact
returns-in_default-2-clause-exact c = λ short free.
    let past = rw c.in_default-2.is at c.in_ok-count.ensures in
    (past.0, count_is c.args.word.now c.args.line.now free (c.in-Some.first, c.in-Some.text) (rw c.in-Some.is at c.split_once.ensures.cases) (not_unequal c.in-Some.first.now c.args.word.now c.ne.result c.ne.ensures c.if-ne.false) past.0 past.1, large c.args.most past.0 short past.2)

pub returns-then-count-most-clause-exact : goal.returns-then-count-most-clause-exact
returns-then-count-most-clause-exact c = λ short free.
    let read = rw c.in-Some-2.is at c.in_ok-count.ensures in
    (count_is c.args.word.now c.args.line.now free (c.in-Some.first, c.in-Some.text) (rw c.in-Some.is at c.split_once.ensures.cases) (not_unequal c.in-Some.first.now c.args.word.now c.ne.result c.ne.ensures c.if-ne.false) c.in-Some-2.count read.0, c.if-count-most.true)

pub returns-else-count-most-clause-exact : goal.returns-else-count-most-clause-exact
returns-else-count-most-clause-exact c = λ short free.
    let read = rw c.in-Some-2.is at c.in_ok-count.ensures in
    (c.in-Some-2.count, count_is c.args.word.now c.args.line.now free (c.in-Some.first, c.in-Some.text) (rw c.in-Some.is at c.split_once.ensures.cases) (not_unequal c.in-Some.first.now c.args.word.now c.ne.result c.ne.ensures c.if-ne.false) c.in-Some-2.count read.0, omega (arith, c.if-count-most.false))

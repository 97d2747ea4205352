use Rattle.std.proofs.Common.{ap, ◌∙◌, List}
use Rattle.algebra.specs.declared.expr.Aggregation.{Aggregation}
use Rattle.certificate_text.proofs.AggregateLists.{parts_fault, none_rising, past_range, rises, some_read}
use Rattle.certificate_text.proofs.NumberLists.{texts, no_dash}
use Rattle.certificate_text.proofs.aggregates.aggregations.Goals as goal

pub returns-in_err-read : goal.returns-in_err-read
returns-in_err-read c =
    parts_fault c.args.list.now (texts c.as_slice.result.now) (texts c.as_slice.result.now) c.eq.result (no_dash c.args.list.now c.eq.result c.if-eq.false c.eq.ensures) (ap texts c.as_slice.ensures.value ∙ c.in_ok-parts.ensures)
    (λ (a : List Aggregation). a) (λ (a : List Aggregation). a) c.in_err-read.field-0.0 c.from_residual-in_err-read.result c.in_err-read.ensures c.from_residual-in_err-read.ensures.1

pub returns-then-not-are_rising : goal.returns-then-not-are_rising
returns-then-not-are_rising c = rw c.into.ensures
    (none_rising c.args.list.now (texts c.in_ok-parts.parts.items) (texts c.in_ok-words.words.items) c.are_rising.result (no_dash c.args.list.now c.eq.result c.if-eq.false c.eq.ensures) c.in_ok-parts.ensures
    (rw c.as_slice-2.ensures.value at c.in_ok-words.ensures) (rw c.as_slice-3.ensures.value at c.are_rising.ensures) c.if-not-are_rising.true)

pub returns-in_default : goal.returns-in_default
returns-in_default c =
    past_range c.args.list.now (texts c.in_ok-parts.parts.items) (texts c.in_ok-words.words.items) c.are_rising.result (no_dash c.args.list.now c.eq.result c.if-eq.false c.eq.ensures) c.in_ok-parts.ensures
    (rw c.as_slice-2.ensures.value at c.in_ok-words.ensures) (rw c.as_slice-3.ensures.value at c.are_rising.ensures) (λ (a : List Aggregation). a) c.in_ok-read.read c.if-not-are_rising.false (rw c.as_slice.ensures.value at c.in_ok-read.ensures) c.in_default.is

pub returns-in-Some-from_rising : goal.returns-in-Some-from_rising
returns-in-Some-from_rising c =
    some_read c.args.list.now (texts c.in_ok-parts.parts.items) (texts c.in_ok-words.words.items) c.are_rising.result (no_dash c.args.list.now c.eq.result c.if-eq.false c.eq.ensures) c.in_ok-parts.ensures
    (rw c.as_slice-2.ensures.value at c.in_ok-words.ensures) (rw c.as_slice-3.ensures.value at c.are_rising.ensures) (λ (a : List Aggregation). a) c.in_ok-read.read c.in-Some.added c.if-not-are_rising.false (rw c.as_slice.ensures.value at c.in_ok-read.ensures) c.in-Some.is c.in-Some-from_rising.added c.in-Some-from_rising.ensures.0

pub returns : goal.returns
returns c = absurd ((rw c.in-None.is at c.from_rising-2.ensures)
    (rises c.args.list.now (texts c.in_ok-parts.parts.items) (texts c.in_ok-words.words.items) c.are_rising.result (no_dash c.args.list.now c.eq.result c.if-eq.false c.eq.ensures) c.in_ok-parts.ensures
    (rw c.as_slice-2.ensures.value at c.in_ok-words.ensures) (rw c.as_slice-3.ensures.value at c.are_rising.ensures) (λ (a : List Aggregation). a) c.in_ok-read.read c.in-Some.added c.if-not-are_rising.false (rw c.as_slice.ensures.value at c.in_ok-read.ensures) c.in-Some.is))

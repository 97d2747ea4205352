use Rattle.std.proofs.Common.{◌∙◌, ap, ℕ, Vec, Global}
use Rattle.certificate_text.proofs.NumberLists.{texts, no_dash}
use Rattle.certificate_text.proofs.ColumnLists.{none_rising, some_read, past_range, columns_fault}
use Rattle.certificate_text.proofs.column_lists.columns.Goals as goal

pub returns-then-not-are_rising : goal.returns-then-not-are_rising
returns-then-not-are_rising c = rw c.into.ensures
    (none_rising c.args.list.now (texts c.as_slice-words.result.now) c.are_rising.result (no_dash c.args.list.now c.eq.result c.if-eq.false c.eq.ensures) (ap texts c.as_slice-words.ensures.value ∙ c.in_ok-parts.ensures)
    c.are_rising.ensures c.if-not-are_rising.true)

pub returns-in_err-numbers : goal.returns-in_err-numbers
returns-in_err-numbers c =
    columns_fault (λ (v : Vec ℕ Global). v.items) c.args.list.now (texts c.as_slice-words.result.now) (no_dash c.args.list.now c.eq.result c.if-eq.false c.eq.ensures) (ap texts c.as_slice-words.ensures.value ∙ c.in_ok-parts.ensures)
    c.in_err-numbers.field-0.0 c.from_residual-in_err-numbers.result c.in_err-numbers.ensures c.from_residual-in_err-numbers.ensures.1

pub returns-in-Some : goal.returns-in-Some
returns-in-Some c =
    some_read c.args.list.now (texts c.as_slice-words.result.now) c.are_rising.result (no_dash c.args.list.now c.eq.result c.if-eq.false c.eq.ensures) (ap texts c.as_slice-words.ensures.value ∙ c.in_ok-parts.ensures)
    c.are_rising.ensures (λ (v : Vec ℕ Global). v.items) c.in_ok-numbers.numbers c.in-Some.read c.from_vec-in-Some.result c.if-not-are_rising.false c.in_ok-numbers.ensures c.in-Some.is c.from_vec-in-Some.ensures

pub returns : goal.returns
returns c =
    past_range c.args.list.now (texts c.as_slice-words.result.now) c.are_rising.result (no_dash c.args.list.now c.eq.result c.if-eq.false c.eq.ensures) (ap texts c.as_slice-words.ensures.value ∙ c.in_ok-parts.ensures)
    c.are_rising.ensures (λ (v : Vec ℕ Global). v.items) c.in_ok-numbers.numbers c.if-not-are_rising.false c.in_ok-numbers.ensures c.in-None.is

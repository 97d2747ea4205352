use Rattle.certificate_text.specs.Parts.{IsRead}
use Rattle.certificate_text.specs.Spelled.{SpellsAggregation, IsShortAggregation}
use Rattle.certificate_text.proofs.AggregateParts.{aggregation_cut, column_other, word_other, aggregation_read}
use Rattle.certificate_text.proofs.Exits.{holds_of_fault}
use Rattle.certificate_text.proofs.aggregates.aggregation.Goals as goal

pub returns-in_default : goal.returns-in_default
returns-in_default c = λ a e. rw c.in_default.is at (aggregation_cut a c.args.part.now c.split_once.result c.split_once.ensures.cases e)

pub returns-in_err-read : goal.returns-in_err-read
returns-in_err-read c =
    holds_of_fault (IsRead SpellsAggregation IsShortAggregation c.args.part.now) c.from_residual.result c.in_err-read.field-0.0 c.from_residual.ensures.1
    (column_other c.args.part.now (c.in-Some.column, c.in-Some.word) (rw c.in-Some.is at c.split_once.ensures.cases) c.in_err-read.field-0.0 c.in_err-read.ensures)

pub returns-in_err-aggregate : goal.returns-in_err-aggregate
returns-in_err-aggregate c =
    holds_of_fault (IsRead SpellsAggregation IsShortAggregation c.args.part.now) c.from_residual-in_err-aggregate.result c.in_err-aggregate.field-0.0 c.from_residual-in_err-aggregate.ensures.1
    (word_other c.args.part.now (c.in-Some.column, c.in-Some.word) (rw c.in-Some.is at c.split_once.ensures.cases) c.in_err-aggregate.field-0.0 c.in_err-aggregate.ensures)

pub returns : goal.returns
returns c = aggregation_read c.args.part.now (c.in-Some.column, c.in-Some.word) (rw c.in-Some.is at c.split_once.ensures.cases) c.in_ok-read.read c.in_ok-aggregate.field-0 c.aggregation_of.result c.in_ok-read.ensures c.in_ok-aggregate.ensures c.aggregation_of.ensures

use Rattle.std.proofs.Common.{◌∙◌, ◌||◌, ap, sym, subst}
use Rattle.algebra.specs.Columns.{has}
use Rattle.algebra.specs.Expressions.{mentioned}
use Rattle.plan_reads.specs.Readings.{IsReading, also_reading, class_columns, class_free}
use Rattle.plan_reads.proofs.KnownReadings.{if_ok}
use Rattle.plan_reads.proofs.OperatorReadings.{filtered-reads}
use Rattle.plan_reads.proofs.operators.filtered_over.Goals as goal

pub returns : goal.returns
returns c = λ K x all is are.
    let classes = c.args.subqueries.classes.now in
    let readings = c.args.subqueries.readings.now in
    if_ok c.also_reading.result (λ r found.
    subst (IsReading K _)
    (sym (found ∙ ap (also_reading c.args.input) c.as_slice.ensures.value))
    (filtered-reads K x c.args.input _ classes all readings c.args.conditions.now
    (λ k. c.in_ok-add_all_mentioned.ensures k ∙ ap (λ L. has L k || mentioned (class_columns classes readings) (class_free classes readings) c.args.conditions.now k) c.new-read.ensures.items) is are)) c.also_reading.ensures

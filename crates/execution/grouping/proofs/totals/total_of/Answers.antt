use Rattle.std.proofs.Common.{ap, sym, ◌∙◌, length, map, pos, unsigned_abs, arith}
use Rattle.std.specs.Int.{w128}
use Rattle.std.proofs.lemmas.Int.{to_z-of_z}
use Rattle.values.specs.declared.value.Value.TheVariants as value
use Rattle.query.specs.declared.query.Aggregate.{Aggregate}
use Rattle.query.specs.Aggregates.{aggregate_of}
use Rattle.algebra.specs.Bags.{Env}
use Rattle.grouping.proofs.AllRows.{held-value, reads-column}
use Rattle.grouping.proofs.totals.total_of.Goals as goal

pub returns-in-CountRows : goal.returns-in-CountRows
returns-in-CountRows c = λ rows many held.
    ap value.Int (to_z-of_z w128 c.from.result (omega (arith, c.ranges.count.fits, ap unsigned_abs c.from.ensures)) ∙ c.from.ensures)
    ∙ ap (λ n. value.Int (pos n)) many ∙ sym (ap (λ (a : Aggregate). aggregate_of a (length rows) (λ k. map (λ (r : Env). r k) rows)) c.in-CountRows.is)

pub returns-in-Count : goal.returns-in-Count
returns-in-Count c = λ rows many held. c.value.ensures ∙ held-value c.args.of rows c.args.held (held (reads-column c.args.of c.in-Count.is))

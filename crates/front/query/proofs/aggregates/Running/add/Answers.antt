use Rattle.std.proofs.Common.{ap, sym, ◌∙◌, [], ◌∷◌, arith}
use Rattle.std.proofs.lemmas.List.{length-append}
use Rattle.values.specs.Cells.{value_of}
use Rattle.query.specs.Aggregates.{one_more}
use Rattle.query.proofs.RunningAggregates.{aggregated-more}
use Rattle.query.proofs.aggregates.Running.add.Goals as goal

pub returns : goal.returns
returns c = λ a vs before.
    let v = value_of c.args.cell in
    record {
      of = before.of;
      rows = omega (arith, before.rows, length-append vs (v ∷ []));
      holds = c.one_more.ensures.value ∙ ap (λ b. one_more b v (value_of c.args.self.now.so_far)) before.of ∙ ap (one_more a v) before.holds ∙ sym (aggregated-more a vs v);
    }

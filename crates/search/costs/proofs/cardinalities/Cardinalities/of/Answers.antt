use Rattle.std.proofs.Common.{ap, sym, ◌∙◌, List, [], length, reverse}
use Rattle.std.proofs.lemmas.List.{length-reverse}
use Rattle.query.specs.declared.query.TableInstance.{TableInstance}
use Rattle.props.specs.Knowledge.{known}
use Rattle.derivation.specs.Logs.{Log}
use Rattle.costs.specs.Cardinalities.{rows_at, own_rows}
use Rattle.costs.proofs.RowsOfLogs.{are-rows}
use Rattle.costs.proofs.cardinalities.Cardinalities.of.Goals as goal

pub returns : goal.returns
returns c =
    let S = c.args.statistics.now in
    let L = c.args.log.now in
    let lines = c.lines-lines.result.now in
    let K = known c.classes-classes.result in
    are-rows S L.instances L.own L.log K c.as_slice.result.now c.in_ok-rows.rows.items (length lines) c.lines-lines.ensures.replays c.classes-classes.ensures.known
    (sym (length-reverse lines) ∙ ap (λ (E : Log). length E) c.lines-lines.ensures.lines)
    (λ k.
    ap (λ rows. rows_at rows k) c.as_slice.ensures.value ∙ c.in_ok-own.ensures k
    ∙ ap (λ (instances : List TableInstance). own_rows S instances K (reverse lines) k []) c.instances.ensures
    ∙ ap (λ (E : Log). own_rows S L.instances K E k []) c.lines-lines.ensures.lines) c.in_ok-rows.ensures

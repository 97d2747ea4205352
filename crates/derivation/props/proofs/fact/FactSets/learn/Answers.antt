use Rattle.std.proofs.Common.{ap, sym, ◌∙◌}
use Rattle.algebra.specs.Columns.{has}
use Rattle.props.specs.declared.fact.FactSets.{FactSets}
use Rattle.props.specs.Facts.{with_fact}
use Rattle.props.proofs.LearntFacts.{column-known}
use Rattle.props.proofs.fact.FactSets.learn.Goals as goal

pub returns-else-not-contains-clause-learnt : goal.returns-else-not-contains-clause-learnt
returns-else-not-contains-clause-learnt c =
    let known = c.args.self.now in
    ap (λ columns. let all : FactSets = record { not_null = columns; weak_keys = known.weak_keys; strong_keys = known.strong_keys } in all) (column-known known.not_null c.in-NotNull.column c.as_slice.ensures.rising (ap (λ columns. has columns c.in-NotNull.column) (sym c.as_slice.ensures.columns) ∙ sym c.contains.ensures.value ∙ c.if-not-contains.false))
    ∙ ap (with_fact known) (sym c.in-NotNull.is)

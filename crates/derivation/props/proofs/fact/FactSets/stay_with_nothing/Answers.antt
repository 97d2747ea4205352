use Rattle.std.proofs.Common.{ap, refl}
use Rattle.props.specs.declared.fact.FactSets.{FactSets}
use Rattle.props.proofs.LearntFacts.{nothing-behind}
use Rattle.props.proofs.fact.FactSets.stay_with_nothing.Goals as goal
use Rattle.algebra.proofs.Sets.{rising-again}

pub returns-clause-behind : goal.returns-clause-behind
returns-clause-behind c =
    let own : FactSets = c.args.self.now in
    ap (λ columns. let all : FactSets = record { not_null = columns; weak_keys = own.weak_keys; strong_keys = own.strong_keys } in all) (nothing-behind own.not_null c.as_slice-not_null.ensures.rising)

pub returns-clause-before : goal.returns-clause-before
returns-clause-before c =
    let own : FactSets = c.args.self.now in
    rw (rising-again own.not_null c.as_slice-not_null.ensures.rising, c.are_in_order.ensures, c.are_in_order-2.ensures) refl

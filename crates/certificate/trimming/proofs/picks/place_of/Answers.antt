use Rattle.std.proofs.Common.{rules, tests, ◌∙◌, ap, length, unwrap_or}
use Rattle.std.proofs.lemmas.Iterator.{YieldsList-from_slice}
use Rattle.std.proofs.lemmas.Iterator.Search.{position_from_yields_List}
use Rattle.algebra.specs.declared.condition.Condition.{Condition}
use Rattle.algebra.specs.ConditionEquality.{same_condition}
use Rattle.algebra.proofs.Places.{place-or-len}
use Rattle.trimming.proofs.picks.place_of.Goals as goal

pub returns : goal.returns
returns c =
    let is = λ (other : Condition). same_condition other c.args.condition.now in
    c.unwrap_or.ensures ∙ ap (λ o. unwrap_or o (length c.args.conditions.now)) (position_from_yields_List is _ _ c.position-found.result c.position-found.ensures.ran (YieldsList-from_slice c.args.conditions.now c.iter.ensures.rest) (λ x b q k. search (rules, tests)))
    ∙ place-or-len is c.args.conditions.now

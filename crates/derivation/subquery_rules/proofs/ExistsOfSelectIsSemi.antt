-- EXISTS of a selection is a semijoin by its conditions: its laws.
use Rattle.rules.specs.Formed.{IsFormed}
use Rattle.rules.specs.Patterns.{KeepsTo}
use Rattle.rules.specs.Soundness.{IsSound}
use Rattle.rules.specs.Stability.{IsStable}
use Rattle.subquery_rules.specs.Unnesting.{exists_as_semi}
use Rattle.subquery_rules.specs.ExistsOfSelectIsSemi as spec
use Rattle.subquery_rules.proofs.MatchedSubqueries.{of_select-sound, of_select-keeps, of_select-formed, of_select-stable}
use Rattle.subquery_rules.proofs.UnnestedSubqueries.{exists-sound, exists-formed, exists-stable}

pub exists_of_select_is_semi_sound : IsSound spec.exists_of_select_is_semi
exists_of_select_is_semi_sound = of_select-sound exists_as_semi exists-sound

pub exists_of_select_is_semi_keeps : KeepsTo spec.pattern spec.exists_of_select_is_semi
exists_of_select_is_semi_keeps = of_select-keeps exists_as_semi

pub exists_of_select_is_semi_formed : IsFormed spec.exists_of_select_is_semi
exists_of_select_is_semi_formed = of_select-formed exists_as_semi exists-formed

pub exists_of_select_is_semi_stable : IsStable spec.exists_of_select_is_semi
exists_of_select_is_semi_stable = of_select-stable exists_as_semi exists-stable

-- NOT EXISTS of a selection is an antijoin by its conditions: its laws.
use Rattle.rules.specs.Formed.{IsFormed}
use Rattle.rules.specs.Patterns.{KeepsTo}
use Rattle.rules.specs.Soundness.{IsSound}
use Rattle.rules.specs.Stability.{IsStable}
use Rattle.subquery_rules.specs.Unnesting.{not_exists_as_anti}
use Rattle.subquery_rules.specs.NotExistsOfSelectIsAnti as spec
use Rattle.subquery_rules.proofs.MatchedSubqueries.{of_select-sound, of_select-keeps, of_select-formed, of_select-stable}
use Rattle.subquery_rules.proofs.UnnestedSubqueries.{not_exists-sound, not_exists-formed, not_exists-stable}

pub not_exists_of_select_is_anti_sound : IsSound spec.not_exists_of_select_is_anti
not_exists_of_select_is_anti_sound = of_select-sound not_exists_as_anti not_exists-sound

pub not_exists_of_select_is_anti_keeps : KeepsTo spec.pattern spec.not_exists_of_select_is_anti
not_exists_of_select_is_anti_keeps = of_select-keeps not_exists_as_anti

pub not_exists_of_select_is_anti_formed : IsFormed spec.not_exists_of_select_is_anti
not_exists_of_select_is_anti_formed = of_select-formed not_exists_as_anti not_exists-formed

pub not_exists_of_select_is_anti_stable : IsStable spec.not_exists_of_select_is_anti
not_exists_of_select_is_anti_stable = of_select-stable not_exists_as_anti not_exists-stable

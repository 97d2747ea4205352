-- NOT IN of a selection is a null-aware antijoin by its conditions: its laws.
use Rattle.rules.specs.Formed.{IsFormed}
use Rattle.rules.specs.Patterns.{KeepsTo}
use Rattle.rules.specs.Soundness.{IsSound}
use Rattle.rules.specs.Stability.{IsStable}
use Rattle.subquery_rules.specs.Unnesting.{not_in_as_anti}
use Rattle.subquery_rules.specs.NotInSelectIsAnti as spec
use Rattle.subquery_rules.proofs.MatchedSubqueries.{of_select-sound, of_select-keeps, of_select-formed, of_select-stable}
use Rattle.subquery_rules.proofs.UnnestedSubqueries.{not_in-sound, not_in-formed, not_in-stable}

pub not_in_select_is_anti_sound : IsSound spec.not_in_select_is_anti
not_in_select_is_anti_sound = of_select-sound not_in_as_anti not_in-sound

pub not_in_select_is_anti_keeps : KeepsTo spec.pattern spec.not_in_select_is_anti
not_in_select_is_anti_keeps = of_select-keeps not_in_as_anti

pub not_in_select_is_anti_formed : IsFormed spec.not_in_select_is_anti
not_in_select_is_anti_formed = of_select-formed not_in_as_anti not_in-formed

pub not_in_select_is_anti_stable : IsStable spec.not_in_select_is_anti
not_in_select_is_anti_stable = of_select-stable not_in_as_anti not_in-stable

-- NOT IN is a null-aware antijoin: its laws.
use Rattle.rules.specs.Formed.{IsFormed}
use Rattle.rules.specs.Patterns.{KeepsTo}
use Rattle.rules.specs.Soundness.{IsSound}
use Rattle.rules.specs.Stability.{IsStable}
use Rattle.subquery_rules.specs.Unnesting.{not_in_as_anti}
use Rattle.subquery_rules.specs.NotInIsAnti as spec
use Rattle.subquery_rules.proofs.MatchedSubqueries.{alone-sound, alone-keeps, alone-formed, alone-stable}
use Rattle.subquery_rules.proofs.UnnestedSubqueries.{not_in-sound, not_in-formed, not_in-stable}

pub not_in_is_anti_sound : IsSound spec.not_in_is_anti
not_in_is_anti_sound = alone-sound not_in_as_anti not_in-sound

pub not_in_is_anti_keeps : KeepsTo spec.pattern spec.not_in_is_anti
not_in_is_anti_keeps = alone-keeps not_in_as_anti

pub not_in_is_anti_formed : IsFormed spec.not_in_is_anti
not_in_is_anti_formed = alone-formed not_in_as_anti not_in-formed

pub not_in_is_anti_stable : IsStable spec.not_in_is_anti
not_in_is_anti_stable = alone-stable not_in_as_anti not_in-stable

-- NOT EXISTS is an antijoin: its laws.
use Rattle.rules.specs.Formed.{IsFormed}
use Rattle.rules.specs.Patterns.{KeepsTo}
use Rattle.rules.specs.Soundness.{IsSound}
use Rattle.rules.specs.Stability.{IsStable}
use Rattle.subquery_rules.specs.Unnesting.{not_exists_as_anti}
use Rattle.subquery_rules.specs.NotExistsIsAnti as spec
use Rattle.subquery_rules.proofs.MatchedSubqueries.{alone-sound, alone-keeps, alone-formed, alone-stable}
use Rattle.subquery_rules.proofs.UnnestedSubqueries.{not_exists-sound, not_exists-formed, not_exists-stable}

pub not_exists_is_anti_sound : IsSound spec.not_exists_is_anti
not_exists_is_anti_sound = alone-sound not_exists_as_anti not_exists-sound

pub not_exists_is_anti_keeps : KeepsTo spec.pattern spec.not_exists_is_anti
not_exists_is_anti_keeps = alone-keeps not_exists_as_anti

pub not_exists_is_anti_formed : IsFormed spec.not_exists_is_anti
not_exists_is_anti_formed = alone-formed not_exists_as_anti not_exists-formed

pub not_exists_is_anti_stable : IsStable spec.not_exists_is_anti
not_exists_is_anti_stable = alone-stable not_exists_as_anti not_exists-stable

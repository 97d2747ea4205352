-- EXISTS is a semijoin: its laws.
use Rattle.rules.specs.Formed.{IsFormed}
use Rattle.rules.specs.Patterns.{KeepsTo}
use Rattle.rules.specs.Soundness.{IsSound}
use Rattle.rules.specs.Stability.{IsStable}
use Rattle.subquery_rules.specs.Unnesting.{exists_as_semi}
use Rattle.subquery_rules.specs.ExistsIsSemi as spec
use Rattle.subquery_rules.proofs.MatchedSubqueries.{alone-sound, alone-keeps, alone-formed, alone-stable}
use Rattle.subquery_rules.proofs.UnnestedSubqueries.{exists-sound, exists-formed, exists-stable}

pub exists_is_semi_sound : IsSound spec.exists_is_semi
exists_is_semi_sound = alone-sound exists_as_semi exists-sound

pub exists_is_semi_keeps : KeepsTo spec.pattern spec.exists_is_semi
exists_is_semi_keeps = alone-keeps exists_as_semi

pub exists_is_semi_formed : IsFormed spec.exists_is_semi
exists_is_semi_formed = alone-formed exists_as_semi exists-formed

pub exists_is_semi_stable : IsStable spec.exists_is_semi
exists_is_semi_stable = alone-stable exists_as_semi exists-stable

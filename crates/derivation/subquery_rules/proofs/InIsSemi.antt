-- IN is a semijoin by equality: its laws.
use Rattle.rules.specs.Formed.{IsFormed}
use Rattle.rules.specs.Patterns.{KeepsTo}
use Rattle.rules.specs.Soundness.{IsSound}
use Rattle.rules.specs.Stability.{IsStable}
use Rattle.subquery_rules.specs.Unnesting.{in_as_semi}
use Rattle.subquery_rules.specs.InIsSemi as spec
use Rattle.subquery_rules.proofs.MatchedSubqueries.{alone-sound, alone-keeps, alone-formed, alone-stable}
use Rattle.subquery_rules.proofs.UnnestedSubqueries.{in-sound, in-formed, in-stable}

pub in_is_semi_sound : IsSound spec.in_is_semi
in_is_semi_sound = alone-sound in_as_semi in-sound

pub in_is_semi_keeps : KeepsTo spec.pattern spec.in_is_semi
in_is_semi_keeps = alone-keeps in_as_semi

pub in_is_semi_formed : IsFormed spec.in_is_semi
in_is_semi_formed = alone-formed in_as_semi in-formed

pub in_is_semi_stable : IsStable spec.in_is_semi
in_is_semi_stable = alone-stable in_as_semi in-stable

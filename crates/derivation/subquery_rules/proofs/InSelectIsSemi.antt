-- IN of a selection is a semijoin by its conditions and an equality: its laws.
use Rattle.rules.specs.Formed.{IsFormed}
use Rattle.rules.specs.Patterns.{KeepsTo}
use Rattle.rules.specs.Soundness.{IsSound}
use Rattle.rules.specs.Stability.{IsStable}
use Rattle.subquery_rules.specs.Unnesting.{in_as_semi}
use Rattle.subquery_rules.specs.InSelectIsSemi as spec
use Rattle.subquery_rules.proofs.MatchedSubqueries.{of_select-sound, of_select-keeps, of_select-formed, of_select-stable}
use Rattle.subquery_rules.proofs.UnnestedSubqueries.{in-sound, in-formed, in-stable}

pub in_select_is_semi_sound : IsSound spec.in_select_is_semi
in_select_is_semi_sound = of_select-sound in_as_semi in-sound

pub in_select_is_semi_keeps : KeepsTo spec.pattern spec.in_select_is_semi
in_select_is_semi_keeps = of_select-keeps in_as_semi

pub in_select_is_semi_formed : IsFormed spec.in_select_is_semi
in_select_is_semi_formed = of_select-formed in_as_semi in-formed

pub in_select_is_semi_stable : IsStable spec.in_select_is_semi
in_select_is_semi_stable = of_select-stable in_as_semi in-stable

use Rattle.std.proofs.Common.{take}
use Rattle.std.specs.List.{AllByRecursion}
use Rattle.certificate_text.specs.Conditions.{terms_of}
use Rattle.certificate_text.specs.Spelled.{IsReadableTerm}
use Rattle.certificate_text.proofs.kept.+kept.Given as goal

abbrev pub invariant-conditions_are_kept-loop-condition : goal.invariant-conditions_are_kept-loop-condition
invariant-conditions_are_kept-loop-condition l = AllByRecursion (λ c. AllByRecursion IsReadableTerm (terms_of c)) (take l.condition-index l.conditions)

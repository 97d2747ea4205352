-- The AND and the OR of any number of conditions (three-valued logic, as docs/MEANING.md has it): of one it is the condition
-- itself, of none AND is always true and OR always false.
use Rattle.std.specs.Prelude.{pos, List, [], ◌∷◌}
use Rattle.values.specs.declared.value.Value.TheVariants as value
use Rattle.algebra.specs.declared.condition.Term.TheVariants as term
use Rattle.algebra.specs.declared.condition.Condition.{Condition}
use Rattle.algebra.specs.declared.condition.Condition.TheVariants.{IsNull, Not, And, Or}

-- `0 IS NULL`, which is false of every row
abbrev pub never : Condition
never = IsNull (term.Literal (value.Int (pos 0)))

abbrev pub and_of : List Condition → Condition
and_of [] = Not never
and_of (c ∷ []) = c
and_of (c ∷ d ∷ more) = And c d more

abbrev pub or_of : List Condition → Condition
or_of [] = never
or_of (c ∷ []) = c
or_of (c ∷ d ∷ more) = Or c d more

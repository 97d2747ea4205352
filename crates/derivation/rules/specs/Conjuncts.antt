-- Conjuncts that rules move.
use Rattle.std.specs.Prelude.{ℕ, Bool, List, [], ◌∷◌, Result, Ok, Err}
use Rattle.algebra.specs.declared.condition.Condition.{Condition}
use Rattle.algebra.specs.ConjunctParts.{is_without}
use Rattle.props.specs.Knowledge.{Knowledge}
use Rattle.rules.specs.declared.unfit.Unfit.{Unfit}
use Rattle.rules.specs.declared.unfit.Unfit.TheVariants.{Pattern}

-- whether a condition mentions no column of a class
abbrev pub is_apart_from : Knowledge → ℕ → Condition → Bool
is_apart_from K g = is_without K.columns K.free (K.columns g)

-- a rule that moves conjuncts wants some
abbrev pub wanted_some : List Condition → Result (List Condition) Unfit
wanted_some [] = Err Pattern
wanted_some (c ∷ C) = Ok (c ∷ C)

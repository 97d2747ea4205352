-- Lists of numbers of lines and classes.
use Rattle.std.specs.Prelude.{ℕ, List, [], ◌∷◌}
use Rattle.derivation.specs.declared.numbers.Listed.{Listed}
use Rattle.derivation.specs.declared.numbers.Listed.TheVariants.{Nothing, One, Several}

-- the numbers that are listed
abbrev pub listed : Listed → List ℕ
listed Nothing = []
listed (One number) = number ∷ []
listed (Several numbers) = numbers.value.items

-- What the inputs of a filter by subqueries read of a row.
use Rattle.std.specs.Prelude.{ℕ, List, [], ◌∷◌}
use Rattle.algebra.specs.Columns.{has}
use Rattle.laws.specs.Fitting.{Fits}
use Rattle.physical.specs.Outputs.{Output}

-- where two environments read the same in the columns, the rows are the same but for the environment around them
abbrev pub IsReading : Output → List ℕ → Type 0
IsReading x columns = Fits (has x.columns) (has columns) x.rows

-- each input has such columns
abbrev pub AreReadings : List Output → List (List ℕ) → Type 0
AreReadings [] [] = Unit {0}
AreReadings [] (K ∷ reads) = ⊥
AreReadings (x ∷ inputs) [] = ⊥
AreReadings (x ∷ inputs) (K ∷ reads) = IsReading x K × AreReadings inputs reads

-- Tables without rows.
use Rattle.std.proofs.Common.{ℕ, List, [], ◌∷◌, map, arith}
use Rattle.std.specs.List.{AllByRecursion}
use Rattle.schema.specs.declared.schema.Table.{Table}
use Rattle.schema.specs.Databases.{IsUnique, SatisfyTables}

none-same : (places : List (List ℕ)) → AllByRecursion (IsUnique []) places
none-same [] = tt
none-same (p ∷ places) = ((λ i j lt below known. absurd (omega (arith, below))), none-same places)

-- they satisfy any schema
pub no-rows : (ts : List Table) → SatisfyTables ts (map (λ t. []) ts)
no-rows [] = tt
no-rows (t ∷ ts) = (record { few = omega arith; fit = tt; unique = none-same t.unique }, no-rows ts)

-- The aggregates of a group in rising order of their columns, the first of each column (this project's profile).
use Rattle.std.specs.Prelude.{Bool, ◌==◌, nat_le, if◌then◌else◌, List, [], ◌∷◌, map}
use Rattle.std.specs.List.Sorted.{IsStrictlyIncreasing}
use Rattle.algebra.specs.declared.expr.Aggregation.{Aggregation}

-- where the search for an aggregate's place ends: at one whose column isn't below its own
abbrev pub ends_search : Aggregation → Aggregation → Bool
ends_search a b = nat_le a.column b.column

-- an aggregate put at its place in a list in order, in the place of one of its column
abbrev pub put_aggregate : Aggregation → List Aggregation → List Aggregation
put_aggregate a [] = a ∷ []
put_aggregate a (b ∷ G) = if ends_search a b then (if b.column == a.column then a ∷ G else a ∷ b ∷ G) else b ∷ put_aggregate a G

-- the aggregates in order
abbrev pub by_column : List Aggregation → List Aggregation
by_column [] = []
by_column (a ∷ G) = put_aggregate a (by_column G)

-- their columns rise strictly
abbrev pub AreByColumn : List Aggregation → Type 0
AreByColumn G = IsStrictlyIncreasing (map (λ a. a.column) G)

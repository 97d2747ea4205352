-- Where columns stand in rows, the columns and their places given.
use Rattle.std.specs.Prelude.{ℕ, ◌+◌, ◌==◌, if◌then◌else◌, List, [], ◌∷◌, flat_map, Option, Some, None}
use Rattle.relations.specs.declared.headings.Place.{Place}

-- the place of a column
abbrev pub place_in : List ℕ → List Place → ℕ → Option Place
place_in [] places c = None
place_in (k ∷ columns) [] c = None
place_in (k ∷ columns) (p ∷ places) c = if k == c then Some p else place_in columns places c

abbrev pub listed : Option Place → List Place
listed None = []
listed (Some p) = p ∷ []

-- the places of those of some columns that have one
abbrev pub place_list : List ℕ → List Place → List ℕ → List Place
place_list columns places K = flat_map (λ c. listed (place_in columns places c)) K

-- a place of the first part
abbrev pub first_at : ℕ → Place
first_at n = record { part = 0; at = n }

-- the only place of a part
abbrev pub own_part : ℕ → Place
own_part n = record { part = n; at = 0 }

-- a place of rows that stand behind so many parts
abbrev pub behind : ℕ → Place → Place
behind parts p = record { part = parts + p.part; at = p.at }

-- a column's place in pairs of rows, its places in both of them given: the right row stands behind so many parts
abbrev pub joined_place : ℕ → Option Place → Option Place → Option Place
joined_place parts left None = left
joined_place parts left (Some p) = Some (behind parts p)

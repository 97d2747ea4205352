-- The words that SQL keeps for itself (this project's profile), which no table and no column may have as its name.
use Rattle.std.specs.Prelude.{ℕ, List, [], ◌∷◌, codes}

-- in lower case, in the order of their letters
abbrev pub reserved_words : List (List ℕ)
reserved_words =
    codes "and" ∷ codes "as" ∷ codes "asc" ∷ codes "by" ∷ codes "count" ∷ codes "cross" ∷ codes "desc" ∷ codes "distinct" ∷
    codes "exists" ∷ codes "from" ∷ codes "full" ∷ codes "group" ∷ codes "having" ∷ codes "in" ∷ codes "inner" ∷ codes "is" ∷
    codes "join" ∷ codes "left" ∷ codes "max" ∷ codes "min" ∷ codes "natural" ∷ codes "not" ∷ codes "null" ∷ codes "on" ∷
    codes "or" ∷ codes "order" ∷ codes "outer" ∷ codes "right" ∷ codes "select" ∷ codes "sum" ∷ codes "where" ∷ []

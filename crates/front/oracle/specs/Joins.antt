-- What a join makes of a left row.
use Rattle.std.specs.Prelude.{ℕ, List, ◌++◌, filter, Option, Some, None}
use Rattle.schema.specs.Databases.{Row}
use Rattle.query.specs.Rows.{Env, Tables, nulls}
use Rattle.query.specs.Meaning.{CondMeaning, passes, pairs_of, or_else_row}

-- its pairs with the right rows at which the ON is true; of an outer join the row with so many Nulls where there are none
abbrev pub joined_at : CondMeaning → Option ℕ → List Row → Tables → Env → Row → List Row
joined_at on None rights D e l = filter (passes on D e) (pairs_of l rights)
joined_at on (Some n) rights D e l = or_else_row (l ++ nulls n) (filter (passes on D e) (pairs_of l rights))

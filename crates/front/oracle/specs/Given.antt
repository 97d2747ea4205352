-- What the evaluator is lent, as the meaning of queries sees it.
use Rattle.std.specs.Prelude.{List, [], ◌∷◌, map}
use Rattle.std.specs.Borrow.{Bor}
use Rattle.schema.specs.Databases.{Row}
use Rattle.query.specs.Rows as rows
use Rattle.oracle.specs.declared.environment.Env.{Env, Empty, Inner'}

-- the rows of an environment, the innermost first
abbrev pub env_of : Env → rows.Env
env_of Empty = []
env_of (Inner' row _ outer) = row.now ∷ env_of outer

-- the rows that are lent
abbrev pub rows_at : List (Bor Row) → List Row
rows_at lent = map (λ r. r.now) lent

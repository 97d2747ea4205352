-- What a query shows of the rows that a plan produces, and the order that its ORDER BY asks of them.
use Rattle.std.specs.Prelude.{ℕ, not, ◌==◌, List, [], ◌∷◌, filter, slice_get, Option, Some, None}
use Rattle.schema.specs.Databases.{Row}
use Rattle.query.specs.declared.query.SortKey as order_by
use Rattle.query.specs.declared.query.Query.{Query}
use Rattle.query.specs.Rows.{Tables}
use Rattle.algebra.specs.Bags.{nulls}
use Rattle.frame.specs.Frames.{query_numbers, query_shown}
use Rattle.physical.specs.declared.plan.OrderKey.{OrderKey}
use Rattle.physical.specs.declared.plan.Plan.{Plan}
use Rattle.physical.specs.Outputs.{output_rows}

-- the order by the items' columns that ORDER BY asks for; a key that names no item decides nothing
abbrev pub ordered_column : Option ℕ → order_by.SortKey → List OrderKey → List OrderKey
ordered_column None k keys = keys
ordered_column (Some c) k keys = record { column = c; descending = k.descending } ∷ keys

abbrev pub ordered_columns : List ℕ → List order_by.SortKey → List OrderKey
ordered_columns numbers [] = []
ordered_columns numbers (k ∷ keys) = ordered_column (slice_get numbers k.item) k (ordered_columns numbers keys)

-- the first key of each column: a later one by it decides nothing
abbrev pub first_keys : List OrderKey → List OrderKey
first_keys [] = []
first_keys (k ∷ keys) = k ∷ filter (λ j. not (k.column == j.column)) (first_keys keys)

abbrev pub query_order : Query → List OrderKey
query_order q = first_keys (ordered_columns (query_numbers q) q.order)

-- the query's items, read from the rows that a plan produces where no column has a value
abbrev pub answer : Query → Tables → Plan → List Row
answer q D plan = query_shown q (output_rows q.tables D plan nulls)

-- The lines of a bound query's frame are well formed, each over the classes before it.
use Rattle.std.specs.Prelude.{◌≡◌, ◌-◌, ◌<◌, Bool, true, List, [], length, reverse, flat_map}
use Rattle.query.specs.declared.query.Query.{Query}
use Rattle.query.specs.Bound.{is_bound}
use Rattle.algebra.specs.declared.expr.Aggregation.{Aggregation}
use Rattle.algebra.specs.declared.expr.Expr.{Expr}
use Rattle.algebra.specs.declared.expr.Expr.TheVariants.{Group}
use Rattle.algebra.specs.Columns.{is_subset}
use Rattle.algebra.specs.Classes.{class_columns, AreFormed}
use Rattle.algebra.specs.TableColumns.{is_table_column, are_apart}
use Rattle.frame.specs.Frames.{query_frame, query_numbers}

-- the aggregates of a Group; another line has none
abbrev pub group_aggregates : Expr → List Aggregation
group_aggregates (Group K G x) = G
group_aggregates _ = []

-- the aggregates of a query: those of all its groups, each with its column's number
abbrev pub own_aggregates : Query → List Aggregation
own_aggregates q = flat_map group_aggregates (query_frame q)

-- whether these read columns of table instances alone, and stand in none
abbrev pub own_apart : Query → Bool
own_apart q = are_apart (is_table_column q.tables) (own_aggregates q)

-- whether all that a query shows is among the columns of its frame's last class
abbrev pub shown_subset : Query → Bool
shown_subset q = is_subset (query_numbers q) (class_columns q.tables (reverse (query_frame q)) (length (query_frame q) - 1))

-- the frame has a line, each line is well formed, the last class has the columns that the query shows, and aggregates are apart
pub record FrameFormed (q : Query) : Type 0 where
  pub lines : AreFormed q.tables (own_aggregates q) (reverse (query_frame q))
  pub shown : shown_subset q ≡ true
  pub some : 0 < length (query_frame q)
  pub apart : own_apart q ≡ true

-- so it is for each bound query
abbrev pub FramesAreFormed : Type 0
FramesAreFormed = (q : Query) → is_bound q ≡ true → FrameFormed q

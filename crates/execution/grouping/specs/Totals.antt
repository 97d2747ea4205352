-- The aggregates of all rows, while these come a chunk at a time.
use Rattle.std.specs.Prelude.{◌≡◌, List, length, map}
use Rattle.std.specs.List.{AllZip}
use Rattle.query.specs.Aggregates.{column_of}
use Rattle.query.specs.Running.{IsAfter}
use Rattle.query.specs.declared.aggregates.Running.{Running}
use Rattle.query.specs.declared.query.Aggregate.{Aggregate}
use Rattle.query.specs.declared.query.Aggregate.TheVariants as by
use Rattle.algebra.specs.declared.expr.Aggregation.{Aggregation}
use Rattle.algebra.specs.Bags.{Env}
use Rattle.grouping.specs.declared.totals.Totals.{Totals}

-- what is held of an aggregate of rows; of their count nothing is, for it is known
abbrev pub IsHeld : Aggregate → List Env → Running → Type 0
IsHeld a rows r = ((a ≡ by.CountRows) → ⊥) → IsAfter a (map (λ e. e (column_of a)) rows) r

-- so many rows came, and these are their aggregates
pub record AreTotals (A : List Aggregation) (rows : List Env) (t : Totals) : Type 0 where
  pub count_is : t.count ≡ length rows
  pub held : AllZip (λ a r. IsHeld a.aggregate rows r) A t.running.items

-- What is held of an aggregate while its values come one by one.
use Rattle.std.specs.Prelude.{◌≡◌, List, length}
use Rattle.values.specs.declared.value.Value.{Value}
use Rattle.values.specs.Cells.{value_of}
use Rattle.query.specs.declared.query.Aggregate.{Aggregate}
use Rattle.query.specs.declared.aggregates.Running.{Running}
use Rattle.query.specs.Aggregates.{aggregate_of}

-- it is the aggregate of these values, one of each row
pub record IsAfter (a : Aggregate) (values : List Value) (r : Running) : Type 0 where
  pub of : r.of ≡ a
  pub rows : r.rows ≡ length values
  pub holds : value_of r.so_far ≡ aggregate_of a (length values) (λ place. values)

-- Rows that are sorted by their numbers, with their values at the index's first place at hand.
use Rattle.std.specs.Prelude.{◌≡◌, ℕ, List}
use Rattle.std.specs.Ordering.{on, then_cmp}
use Rattle.std.specs.declared.cmp.Ordering.{Ordering}
use Rattle.values.specs.Cells.{value_of}
use Rattle.values.specs.Order.{order}
use Rattle.schema.specs.Databases.{Row}
use Rattle.store.specs.Indexes.{index_order, value_at}
use Rattle.store.specs.declared.indexes.Keyed.{Keyed}

abbrev pub HasValueAt : List Row → ℕ → Keyed → Type 0
HasValueAt rows place k = value_of k.value ≡ value_at rows k.number place

-- by the values, and where they tie by the later places and the rows' numbers
abbrev pub keyed_order : List Row → List ℕ → Keyed → Keyed → Ordering
keyed_order rows later = then_cmp (on (λ (k : Keyed). value_of k.value) order) (on (λ (k : Keyed). k.number) (index_order rows later))

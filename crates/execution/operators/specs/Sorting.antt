-- Rows that are sorted by their numbers, with their values in the first key's column at hand.
use Rattle.std.specs.Prelude.{ℕ, List}
use Rattle.std.specs.Ordering.{on, then_cmp}
use Rattle.std.specs.declared.cmp.Ordering.{Ordering}
use Rattle.values.specs.declared.value.Value.{Value}
use Rattle.values.specs.Cells.{value_of}
use Rattle.values.specs.Order.{directed}
use Rattle.algebra.specs.Bags.{Env}
use Rattle.physical.specs.declared.plan.OrderKey.{OrderKey}
use Rattle.physical.specs.Sorts.{keys_order}
use Rattle.operators.specs.declared.sorting.Keyed.{Keyed}

abbrev pub keyed_of : Keyed → Value × ℕ
keyed_of k = (value_of k.value, k.number)

-- the order of the values, and where they tie that of the rows by the later keys
abbrev pub keyed_order : OrderKey → List OrderKey → (ℕ → Env) → Value × ℕ → Value × ℕ → Ordering
keyed_order first later row = then_cmp (on (λ (a : Value × ℕ). a.0) (directed first.descending)) (on (λ (a : Value × ℕ). row a.1) (keys_order later))

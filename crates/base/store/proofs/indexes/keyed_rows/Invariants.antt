use Rattle.std.proofs.Common.{◌≡◌, map}
use Rattle.std.specs.List.{All, range_with_len}
use Rattle.store.specs.KeyedRows.{HasValueAt}
use Rattle.store.proofs.indexes.keyed_rows.Given as goal

abbrev pub invariant-loop-number : goal.invariant-loop-number
invariant-loop-number l = (map (λ k. k.number) l.keyed.items ≡ range_with_len 0 l.number) × All (HasValueAt l.rows l.place) l.keyed.items

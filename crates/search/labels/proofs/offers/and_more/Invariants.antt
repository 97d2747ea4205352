use Rattle.std.proofs.Common.{◌≡◌, ◌++◌, ◌==◌, drop, filter, not}
use Rattle.std.specs.List.{list_any}
use Rattle.physical.specs.Indexes.{rising_keys}
use Rattle.labels.proofs.offers.and_more.Given as goal

abbrev pub invariant-loop-column : goal.invariant-loop-column
invariant-loop-column l = l.keys ++ rising_keys (filter (λ c. not (list_any (λ k. k.column == c) l.order)) (drop l.column-index l.columns)) ≡ l.order ++ rising_keys (filter (λ c. not (list_any (λ k. k.column == c) l.order)) l.columns)

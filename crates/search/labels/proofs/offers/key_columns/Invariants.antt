use Rattle.std.proofs.Common.{◌≡◌, ◌++◌, map, drop}
use Rattle.labels.proofs.offers.key_columns.Given as goal

abbrev pub invariant-loop-key : goal.invariant-loop-key
invariant-loop-key l = l.columns.items ++ map (λ k. k.column) (drop l.key-index l.keys) ≡ map (λ k. k.column) l.keys

use Rattle.std.proofs.Common.{◌≡◌, ◌++◌, codes, flat_map, take}
use Rattle.explain.specs.Names as spec
use Rattle.explain.proofs.names.push_more_columns.Given as goal

abbrev pub invariant-loop-column : goal.invariant-loop-column
invariant-loop-column l = l.text.items ≡ l.fn.text.items ++ flat_map (λ c. codes "," ++ spec.column_text l.names c) (take l.column-index l.more)

use Rattle.std.proofs.Common.{◌≡◌, map, take}
use Rattle.query.specs.Bound.{number_at}
use Rattle.frame.proofs.frames.key_columns.Given as goal

abbrev pub invariant-loop-key : goal.invariant-loop-key
invariant-loop-key l = l.columns.items ≡ map (number_at l.numbers) (take l.key-index l.keys)

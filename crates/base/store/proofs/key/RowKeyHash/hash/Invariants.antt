use Rattle.std.proofs.Common.{◌≡◌, fold, take}
use Rattle.store.specs.Keys.{key_writes}
use Rattle.store.proofs.key.RowKeyHash.hash.Given as goal

abbrev pub invariant-loop-number : goal.invariant-loop-number
invariant-loop-number g l = l.state ≡ fold g.H.Hasher.write l.fn.state (key_writes (take l.number l.self))

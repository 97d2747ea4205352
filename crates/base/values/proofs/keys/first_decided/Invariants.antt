use Rattle.std.proofs.Common.{◌≡◌, drop}
use Rattle.std.specs.Fn.{FnReturnsAt}
use Rattle.std.specs.declared.cmp.Ordering.{Ordering}
use Rattle.values.specs.Keys.{first_decided}
use Rattle.values.proofs.keys.first_decided.Given as goal

abbrev pub invariant-loop-key : goal.invariant-loop-key
invariant-loop-key g l =
    goal.F-IsAlwaysCallable g l.by_key
    × ((order : _ → Ordering) → ((k : _) (o : Ordering) → FnReturnsAt g.F.Fn l.by_key k o → o ≡ order k) → first_decided order l.keys ≡ first_decided order (drop l.key-index l.keys))

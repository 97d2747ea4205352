use Rattle.std.proofs.Common.{◌≡◌, drop}
use Rattle.std.specs.HashMap as hash
use Rattle.binder.specs.contracts.named.IdentityPartialEq.TheImpl.{eq-value}
use Rattle.query.specs.declared.query.Item.{Item}
use Rattle.binder.specs.Ordering.{same_item}
use Rattle.binder.specs.Named.{identity_of}
use Rattle.binder.proofs.Naming.{first_at}
use Rattle.binder.proofs.named.firsts.Given as goal

abbrev pub invariant-loop-i : goal.invariant-loop-i
invariant-loop-i l = (q : Item) → hash.get eq-value.it l.firsts (identity_of q) ≡ first_at (λ o. same_item o.item q) l.i (drop l.i l.outputs)

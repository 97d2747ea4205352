use Rattle.std.proofs.Common.{◌≡◌, drop}
use Rattle.schema.specs.Each.{each}
use Rattle.schema.proofs.Loops.{after}
use Rattle.binder.specs.Chained.{scopes_of}
use Rattle.binder.specs.Outputs.{key_in}
use Rattle.binder.proofs.output.keys.Given as goal

abbrev pub invariant-loop-name : goal.invariant-loop-name
invariant-loop-name l = after l.keys (each (key_in (scopes_of l.scopes)) (drop l.name-index l.group)) ≡ each (key_in (scopes_of l.scopes)) l.group

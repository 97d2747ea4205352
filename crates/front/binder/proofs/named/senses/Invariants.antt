use Rattle.std.proofs.Common.{take}
use Rattle.binder.specs.Named.{HasSenses}
use Rattle.binder.proofs.named.senses.Given as goal

abbrev pub invariant-loop-output : goal.invariant-loop-output
invariant-loop-output l = HasSenses (take l.output-index l.outputs) l.senses

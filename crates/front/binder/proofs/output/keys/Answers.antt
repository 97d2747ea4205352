use Rattle.std.proofs.Common.{arith}
use Rattle.std.proofs.lemmas.Result.{err_from_is_err_and}
use Rattle.schema.specs.Each.{each}
use Rattle.schema.proofs.Loops.{goes_on, ends, is_done}
use Rattle.binder.specs.Chained.{scopes_of}
use Rattle.binder.specs.Outputs.{key_in}
use Rattle.binder.proofs.output.keys.Goals as goal

pub returns-in_err-key : goal.returns-in_err-key
returns-in_err-key c =
    let p = err_from_is_err_and c.from_residual.result c.from_residual.ensures.1 in
    let read = key_in (scopes_of c.args.scopes.now) in
    rw (p.1, p.2) (ends read c.in_err-key.field-0.0 c.loop-name.keys c.args.group.now c.loop-name.name-index c.name-item.result (each read c.args.group.now) (omega arith) c.name-item.is c.in_err-key.ensures c.loop-name.invariant)

pub loop-name-preserved : goal.loop-name-preserved
loop-name-preserved c =
    let read = key_in (scopes_of c.args.scopes.now) in
    rw c.in_ok-keys.ensures (goes_on read c.loop-name.keys c.args.group.now c.loop-name.name-index c.name-item.result c.in_ok-key.field-0 (each read c.args.group.now) (omega arith) c.name-item.is c.in_ok-key.ensures c.loop-name.invariant)

pub returns : goal.returns
returns c =
    let read = key_in (scopes_of c.args.scopes.now) in
    is_done read c.loop-name.keys c.args.group.now c.loop-name.name-index (each read c.args.group.now) (omega arith) c.loop-name.invariant

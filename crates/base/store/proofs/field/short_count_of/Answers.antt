use Rattle.std.proofs.Common.{arith}
use Rattle.store.proofs.Decimals.{count_fits, count_next, count_all}
use Rattle.store.proofs.field.short_count_of.Goals as goal

pub overflow_mul-count : goal.overflow_mul-count
overflow_mul-count c =
    let fits = count_fits c.args.bytes.now c.loop-place.place c.loop-place.count (omega arith) (omega arith) c.loop-place.invariant.digits c.loop-place.invariant.number in
    omega (arith, fits)

pub overflow_add-count : goal.overflow_add-count
overflow_add-count c =
    let fits = count_fits c.args.bytes.now c.loop-place.place c.loop-place.count (omega arith) (omega arith) c.loop-place.invariant.digits c.loop-place.invariant.number in
    omega (arith, fits, c.from.type_inv)

pub loop-place-preserved : goal.loop-place-preserved
loop-place-preserved c =
    let next = count_next c.args.bytes.now c.loop-place.place c.loop-place.count (omega arith) c.if-byte-lt48.false c.if-byte-gt57.false c.loop-place.invariant.digits c.loop-place.invariant.number in
    rw c.from.ensures (record { digits = next.0; number = next.1 })

pub returns : goal.returns
returns c = count_all c.args.bytes.now c.loop-place.place c.loop-place.count (omega arith) (omega arith) c.loop-place.invariant.digits c.loop-place.invariant.number

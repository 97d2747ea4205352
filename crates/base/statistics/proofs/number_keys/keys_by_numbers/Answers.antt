use Rattle.std.proofs.Common.{refl, arith}
use Rattle.statistics.proofs.NumberKeys.{keys-fit, known-few, number-short, with-null, without-null}
use Rattle.statistics.proofs.number_keys.keys_by_numbers.Goals as goal

pub known_numbers-requires-clause-short : goal.known_numbers-requires-clause-short
known_numbers-requires-clause-short c = number-short c.args.rows.now c.args.place c.in-Some.column c.in-Some.ensures c.requires.short

pub different_numbers-requires : goal.different_numbers-requires
different_numbers-requires c =
    let low = known-few c.args.rows.now c.args.place c.in-Some.column c.in_ok-known.known.items _ c.in-Some.ensures c.requires.short c.in_ok-known.ensures refl in
    let few = c.requires.few in
    record { few = omega (arith, low, few) }

pub overflow_add-result : goal.overflow_add-result
overflow_add-result c =
    let fits = keys-fit c.args.rows.now c.args.place c.in-Some.column c.in_ok-known.known.items c.in_ok-keys.keys c.in-Some.ensures c.requires.short c.in_ok-known.ensures c.in_ok-keys.ensures c.requires.few in
    omega (arith, fits)

pub returns-then-numbers-len : goal.returns-then-numbers-len
returns-then-numbers-len c =
    let lt = c.if-numbers-len.true in
    let numbers = c.len-numbers.ensures in
    let rows = c.len.ensures in
    with-null c.args.rows.now c.args.place c.in-Some.column c.in_ok-known.known.items c.in_ok-keys.keys c.in-Some.ensures c.requires.short c.in_ok-known.ensures c.in_ok-keys.ensures (omega (arith, lt, numbers, rows))

pub returns : goal.returns
returns c =
    let le = c.if-numbers-len.false in
    let numbers = c.len-numbers.ensures in
    let rows = c.len.ensures in
    without-null c.args.rows.now c.args.place c.in-Some.column c.in_ok-known.known.items c.in_ok-keys.keys c.in-Some.ensures c.requires.short c.in_ok-known.ensures c.in_ok-keys.ensures (omega (arith, le, numbers, rows))

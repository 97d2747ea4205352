use Rattle.std.proofs.Common.{◌≤◌, ◌+◌, ◌-◌, ◌*◌, ◌/◌, sym, ap, ◌∙◌, arith}
use Rattle.std.proofs.Math.Nat.{div-le_self}
use Rattle.std.proofs.lemmas.List.FromFn.{sum_by-map-range_with_len_more}
use Rattle.statistics.proofs.column_keys.estimate.Goals as goal

pub loop-taken-preserved : goal.loop-taken-preserved
loop-taken-preserved c =
    let slots = c.args.slots in
    let taken = c.loop-taken.taken in
    let more = sum_by-map-range_with_len_more (λ x. x) (λ j. 1000 * slots / (slots - j)) 0 taken taken (omega arith) in
    let before = c.loop-taken.invariant in
    let low : 1000 * slots / (slots - taken) ≤ 1000 * slots = div-le_self (1000 * slots) (slots - taken) in
    let few = c.requires.few in
    (ap (λ n. n + 1000 * slots / (slots - taken)) before.0 ∙ sym more, omega (arith, before.1, low, few))

use Rattle.std.proofs.Common.{◌≡◌, ◌≤◌, ap, ◌∙◌, length, nat_eq, arith}
use Rattle.std.specs.Set.{distinct_count}
use Rattle.std.proofs.lemmas.Map.Made.{distinct_count-le}
use Rattle.statistics.proofs.number_keys.different_numbers.Goals as goal

pub overflow_add-result : goal.overflow_add-result
overflow_add-result c =
    let left = c.loop-sift_number.left.items in
    let count : c.in_ok-told_by_set.field-0 ≡ distinct_count nat_eq left = c.in_ok-told_by_set.ensures ∙ ap (distinct_count nat_eq) c.as_slice-2.ensures.value in
    let low : distinct_count nat_eq left ≤ length left = distinct_count-le nat_eq left in
    let few = c.loop-sift_number.invariant.few in
    let told = c.loop-sift_number.invariant.low in
    omega (arith, count, low, few, told)

use Rattle.std.proofs.Common.{ap, ◌∙◌, ℕ, List, map, rules, arith}
use Rattle.std.proofs.lemmas.List.{take_all}
use Rattle.std.proofs.lemmas.List.Sorted.{All-permutation, IsPermutation-map}
use Rattle.store.specs.KeyedRows.{HasValueAt, keyed_order}
use Rattle.store.specs.declared.indexes.Keyed.{Keyed}
use Rattle.store.proofs.IndexLists.{keyed_sorted, keyed_total, sorted_by_closure}
use Rattle.store.proofs.indexes.sorted_numbers.Goals as goal

pub returns : goal.returns
returns c =
    let rows = c.args.rows.now in
    let place = c.args.first in
    let later = c.args.later.now in
    let number : Keyed → ℕ = λ k. k.number in
    let keyed : List Keyed = c.in_ok-keyed.keyed.items in
    let sorted : List Keyed = c.sort_unstable_by.new.self.items in
    let moved = c.sort_unstable_by.ensures.permutation in
    let all = All-permutation (HasValueAt rows place) keyed sorted moved c.in_ok-keyed.ensures.values in
    let rises = sorted_by_closure (keyed_order rows later) (keyed_total rows later) sorted c.sort_unstable_by.ensures.sorted (λ a r f' k. search rules) in
    let kept = c.loop-row.invariant ∙ ap (map number) (take_all c.loop-row.row-index c.as_slice-row-items.result.now (omega arith) ∙ c.as_slice-row-items.ensures.value) in
    rw (kept) (record {
      each = rw (← c.in_ok-keyed.ensures.numbers) (IsPermutation-map number keyed sorted moved);
      sorted = keyed_sorted rows place later sorted all rises;
    })

use Rattle.std.proofs.Common.{◌≡◌, ap, sym, ◌∙◌, ◌∷◌, ℕ, List, map, map-id, rules, arith}
use Rattle.std.proofs.lemmas.List.{take_all}
use Rattle.std.specs.declared.cmp.Ordering.{Ordering}
use Rattle.std.specs.Cmp.{IsTotalOrder}
use Rattle.std.proofs.lemmas.Cmp.{on_total, then_total}
use Rattle.std.proofs.lemmas.List.Sorted.{IsPermutation-map}
use mathlib.Core.List.{map-map}
use Rattle.values.specs.declared.value.Value.{Value}
use Rattle.values.proofs.Orders.{directed_total}
use Rattle.algebra.specs.Bags.{Env}
use Rattle.physical.specs.Sorts.{keys_order, sorted}
use Rattle.physical.proofs.SortedRows.{keys_total}
use Rattle.physical.proofs.ClosureSorts.{sorted-by_closure}
use Rattle.physical.proofs.Sorting.{map-sorted}
use Rattle.operators.specs.declared.sorting.Keyed.{Keyed}
use Rattle.relations.specs.Relations.{env_of, numbered_env, numbers_of}
use Rattle.operators.specs.Sorting.{keyed_of, keyed_order}
use Rattle.operators.proofs.sorting.sorted_numbers.Goals as goal

pub returns-clause-rows : goal.returns-clause-rows
returns-clause-rows c =
    let k = c.args.first.now in
    let ks = c.args.later.now in
    let row : ℕ → Env = numbered_env c.args.input.now (env_of c.args.env.now) in
    let numbers : List ℕ = numbers_of c.args.input.now in
    let R : Value × ℕ → Value × ℕ → Ordering = keyed_order k ks row in
    let total : IsTotalOrder R = then_total (on_total (λ (a : Value × ℕ). a.0) (directed_total k.descending)) (on_total (λ (a : Value × ℕ). row a.1) (keys_total ks)) in
    let made : ℕ → Value × ℕ = λ n. (row n k.column, n) in
    let keyed : List Keyed = c.in_ok-keyed.keyed.items in
    let stands = sorted-by_closure (λ a b. R (keyed_of a) (keyed_of b)) (on_total keyed_of total) keyed c.sort_by.new.self.items c.in_ok-sort_by.ensures.sorted c.in_ok-sort_by.ensures.stable (λ a r f' h. search rules) in
    let made-order : List ℕ = sorted (λ m n. R (made m) (made n)) numbers in
    ap (map row) (c.loop-row.invariant ∙ ap (map (λ (x : Keyed). x.number)) (take_all c.loop-row.row-index c.as_slice-row-items.result.now (omega arith) ∙ c.as_slice-row-items.ensures.value ∙ stands)
    ∙ sym (map-map (λ (a : Value × ℕ). a.1) keyed_of (sorted (λ a b. R (keyed_of a) (keyed_of b)) keyed))
    ∙ ap (map (λ (a : Value × ℕ). a.1)) (map-sorted keyed_of R keyed ∙ ap (sorted R) c.in_ok-keyed.ensures ∙ sym (map-sorted made R numbers)))
    ∙ map-map row (λ (a : Value × ℕ). a.1) (map made made-order) ∙ map-map (λ (a : Value × ℕ). row a.1) made made-order
    ∙ map-sorted row (keys_order (k ∷ ks)) numbers

pub returns-clause-each : goal.returns-clause-each
returns-clause-each c =
    let k = c.args.first.now in
    let row : ℕ → Env = numbered_env c.args.input.now (env_of c.args.env.now) in
    let numbers : List ℕ = numbers_of c.args.input.now in
    let number : Keyed → ℕ = λ x. x.number in
    let second : Value × ℕ → ℕ = λ a. a.1 in
    let made : ℕ → Value × ℕ = λ n. (row n k.column, n) in
    let keyed : List Keyed = c.in_ok-keyed.keyed.items in
    let ordered : List Keyed = c.sort_by.new.self.items in
    let kept = c.loop-row.invariant ∙ ap (map number) (take_all c.loop-row.row-index c.as_slice-row-items.result.now (omega arith) ∙ c.as_slice-row-items.ensures.value) in
    let numbered : map number keyed ≡ numbers = sym (map-map second keyed_of keyed) ∙ ap (map second) c.in_ok-keyed.ensures ∙ map-map second made numbers ∙ map-id numbers in
    rw (kept, ← numbered) (IsPermutation-map number keyed ordered c.sort_by.ensures.permutation)

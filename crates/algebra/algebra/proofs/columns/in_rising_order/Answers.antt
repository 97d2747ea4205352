use Rattle.std.proofs.Common.{ℕ, List, eqb, ◌∙◌, sym}
use Rattle.std.specs.List.{dedup}
use Rattle.std.proofs.lemmas.List.Filters.{dedup_is}
use Rattle.std.proofs.lemmas.List.Kept.{Contains-dedup_nat, Contains-from_dedup}
use Rattle.std.proofs.lemmas.List.Sorted.{Contains-permutation, IsPermutation-sym}
use Rattle.std.proofs.lemmas.Map.Keys.{IsStrictlyIncreasing-dedup}
use Rattle.algebra.specs.Columns.{rising}
use Rattle.algebra.proofs.Sets.{one-rising, rises, rises-rising, has-rising, same-has}
use Rattle.algebra.proofs.columns.in_rising_order.Goals as goal

pub returns-clause-increasing : goal.returns-clause-increasing
returns-clause-increasing c = rw (dedup_is _ _ _ c.dedup.ensures.filtered) (IsStrictlyIncreasing-dedup _ c.sort_unstable.ensures.sorted)

pub returns-clause-rising : goal.returns-clause-rising
returns-clause-rising c =
    let sorted : List ℕ = c.sort_unstable.new.self.items in
    let moved = c.sort_unstable.ensures.permutation in
    let is = dedup_is _ _ _ c.dedup.ensures.filtered in
    is ∙ one-rising (dedup eqb sorted) (rising c.args.numbers.items) (rises _ (IsStrictlyIncreasing-dedup _ c.sort_unstable.ensures.sorted)) (rises-rising c.args.numbers.items) (λ k.
    same-has (dedup eqb sorted) c.args.numbers.items
    (λ x h. Contains-permutation _ _ x (IsPermutation-sym _ _ moved) (Contains-from_dedup _ _ x h))
    (λ x h. Contains-dedup_nat _ x (Contains-permutation _ _ x moved h)) k ∙ sym (has-rising k c.args.numbers.items))

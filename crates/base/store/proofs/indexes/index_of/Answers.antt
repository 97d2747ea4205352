use Rattle.std.proofs.Common.{◌≡◌, sym, ◌∷◌, [], ℕ, List, length, arith}
use Rattle.std.specs.List.{range_with_len}
use Rattle.std.specs.List.Sorted.{IsSorted}
use Rattle.std.proofs.lemmas.List.Sorted.{IsPermutation-refl}
use Rattle.store.specs.Indexes.{index_order}
use Rattle.schema.specs.Databases.{Row}
use Rattle.store.proofs.IndexLists.{sorted_by_number}
use Rattle.store.proofs.indexes.index_of.Goals as goal
use Rattle.store.proofs.indexes.index_of.Goals.{in-Some+else-not-is_sorted, in_default}

no-place : (rows : List Row) (places : List ℕ) (n : ℕ) → 0 ≡ length places → IsSorted (index_order rows places) (range_with_len 0 n)
no-place rows [] n none = sorted_by_number rows n
no-place rows (p ∷ places) n none = absurd (omega (arith, none))

pub returns : goal.returns
returns c = rw (c.from_vec-2.ensures, c.in_ok-numbers-2.ensures, c.len.ensures) (record {
  each = IsPermutation-refl _;
  sorted = elim c.match-split_first.branch [
    | in-Some+else-not-is_sorted w ↦ w.is_sorted.ensures w.if-not-is_sorted.false
    | in_default w ↦ no-place c.args.rows.now c.args.places.now (length c.args.rows.now) (sym w.in_default.ensures.cases)
  ];
})

pub returns-then-not-is_sorted : goal.returns-then-not-is_sorted
returns-then-not-is_sorted c = rw (c.from_vec.ensures, c.in-Some.ensures.cases.0) c.in_ok-numbers.ensures

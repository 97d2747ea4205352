use Rattle.std.proofs.Common.{◌≡◌, ℕ, ◌+◌, ◌≤◌, length, vec_len}
use Rattle.std.specs.Vec.{vec_capacity}
use Rattle.algebra.specs.Columns.{columns_at}
use Rattle.logs.proofs.known.put_free.Given as goal

abbrev pub invariant-loop-none : goal.invariant-loop-none
invariant-loop-none l = record {
  len : vec_len l.list ≡ l._none;
  count : length l.list.items ≡ l._none;
  room : l.class + 1 ≤ vec_capacity l.list;
  columns : (g : ℕ) → columns_at l.list.items g ≡ columns_at l.fn.list.items g;
}

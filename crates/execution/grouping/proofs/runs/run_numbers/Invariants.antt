use Rattle.std.proofs.Common.{◌≡◌, ℕ, ◌+◌, length}
use Rattle.std.specs.List.{range_with_len}
use Rattle.store.specs.Keys.{key_eq, key_equiv}
use Rattle.relations.specs.Parts.{row_at}
use Rattle.grouping.specs.Groups.{AreNumbered, first_seen, key_at, same_at}
use Rattle.grouping.specs.RowNumbers.{numbers_in}
use Rattle.grouping.proofs.FirstSeen.{place}
use Rattle.grouping.proofs.runs.run_numbers.Given as goal

abbrev pub invariant-loop-number : goal.invariant-loop-number
invariant-loop-number l = record {
  firsts : numbers_in l.groups.firsts ≡ first_seen (same_at l.places l.rows) (range_with_len 0 l.number);
  numbered : AreNumbered (same_at l.places l.rows) (numbers_in l.groups.numbers);
  each : length (numbers_in l.groups.numbers) ≡ l.number;
  last : (m : ℕ) → l.number ≡ m + 1 → l.group ≡ place (λ n. key_at l.places (row_at l.rows.parts.items n)) key_eq key_equiv (range_with_len 0 m) m;
}

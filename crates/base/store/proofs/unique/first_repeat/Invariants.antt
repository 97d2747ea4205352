use Rattle.std.proofs.Common.{◌≡◌, length}
use Rattle.store.specs.Chains.{AreChained, bucket_at}
use Rattle.store.specs.Tables.{UniqueTo}
use Rattle.store.proofs.unique.first_repeat.Given as goal

abbrev pub invariant-loop-row : goal.invariant-loop-row
invariant-loop-row l = record {
  size : length l.seen.heads ≡ l.buckets;
  chained : AreChained (bucket_at l.rows l.places l.buckets) l.row l.seen;
  unique : UniqueTo l.row l.rows l.places;
}

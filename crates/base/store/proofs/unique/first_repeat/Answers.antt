use Rattle.std.proofs.Common.{◌∙◌, ◌+◌, arith}
use Rattle.store.specs.Chains.{bucket_at}
use Rattle.store.proofs.Repeats.{unique_null, unique_new, bucket_null, bucket_key}
use Rattle.store.proofs.unique.first_repeat.Goals as goal

pub loop-row-init : goal.loop-row-init
loop-row-init c = record {
  size = c.in_ok-seen.ensures.size;
  chained = c.in_ok-seen.ensures.empty _;
  unique = λ i j lt low. absurd (omega arith);
}

pub loop-row-preserved-in_default : goal.loop-row-preserved-in_default
loop-row-preserved-in_default c =
    let null = rw c.in_default.is at c.key_of.ensures in
    let rows = c.args.rows.now in
    let places = c.args.places.now in
    let past = bucket_null rows places (c.args.limit + 1) c.loop-row.row null in
    record {
      size = c.push_apart.ensures.size ∙ c.loop-row.invariant.size;
      chained = c.in_ok-push_apart.ensures.chained (bucket_at rows places (c.args.limit + 1)) c.loop-row.row c.loop-row.invariant.chained (omega (arith, past, c.loop-row.invariant.size));
      unique = unique_null rows places c.loop-row.row c.loop-row.invariant.unique null;
    }

pub loop-row-preserved : goal.loop-row-preserved
loop-row-preserved c =
    let key = rw c.in-Some.is at c.key_of.ensures in
    let rows = c.args.rows.now in
    let places = c.args.places.now in
    let nowhere = rw (c.in_default-earlier_of.is, c.loop-row.invariant.size, c.loop-row.invariant.chained.count) at c.earlier_of.ensures in
    record {
      size = c.push.ensures.size ∙ c.loop-row.invariant.size;
      chained = c.in_ok-push.ensures.chained (bucket_at rows places (c.args.limit + 1)) c.loop-row.row c.loop-row.invariant.chained (bucket_key rows places (c.args.limit + 1) c.loop-row.row c.bucket_of-bucket.result c.in-Some.key c.bucket_of-bucket.ensures.is key.0 key.1);
      unique = unique_new rows places (c.args.limit + 1) c.loop-row.row c.bucket_of-bucket.result c.in-Some.key c.loop-row.invariant.unique nowhere c.bucket_of-bucket.ensures.is key.0;
    }

use Rattle.std.proofs.Common.{ap, sym, subst, ◌∙◌, get_or, take, arith}
use Rattle.std.proofs.lemmas.List.{take_all, take_more}
use Rattle.grouping.specs.GroupHashes.{HasChains, bucket_of}
use Rattle.grouping.proofs.GroupHashes.{chains-more}
use Rattle.grouping.proofs.group_hashes.chained.Goals as goal

pub push-requires-clause-bucket : goal.push-requires-clause-bucket
push-requires-clause-bucket c = let within = c.bucket_of.ensures.within in omega (arith, within, c.loop-hash.invariant.wide)

pub loop-hash-preserved : goal.loop-hash-preserved
loop-hash-preserved c =
    let hashes = c.args.hashes.now in
    let i = c.loop-hash.hash-index in
    let bucket = c.bucket_of.ensures.is ∙ ap (λ n. bucket_of n (get_or hashes i 0)) (sym c.loop-hash.invariant.wide) in
    record {
      has = subst (λ l. HasChains l c.push.new.self) (sym (take_more hashes i 0 (omega arith)))
          (chains-more (take i hashes) (get_or hashes i 0) c.bucket_of.result c.loop-hash.chains c.push.new.self c.loop-hash.invariant.has bucket c.in_ok-push.ensures.buckets c.in_ok-push.ensures.groups c.in_ok-push.ensures.chained);
      wide = c.in_ok-push.ensures.buckets ∙ c.loop-hash.invariant.wide;
    }

use Rattle.std.proofs.Common.{ap, sym, subst, ◌∙◌}
use Rattle.grouping.specs.declared.group_hashes.GroupHashes.{GroupHashes}
use Rattle.grouping.specs.GroupHashes.{HasChains, bucket_of}
use Rattle.grouping.proofs.GroupHashes.{chains-more}
use Rattle.grouping.proofs.group_hashes.GroupHashes.push.Goals.{then-buckets-len+then-buckets+in_ok-self, else-buckets-len}
use Rattle.grouping.proofs.group_hashes.GroupHashes.push.Goals as goal

pub returns-clause-chained : goal.returns-clause-chained
returns-clause-chained c =
    let self = c.if-buckets-len.self in
    let has : HasChains self.hashes.items self.chains = elim c.if-buckets-len.branch [
      | then-buckets-len+then-buckets+in_ok-self w ↦ subst (λ (s : GroupHashes). HasChains s.hashes.items s.chains) (sym w.self-is) (subst (λ l. HasChains l w.in_ok-self.field-0) w.as_slice.ensures.value w.in_ok-self.ensures)
      | else-buckets-len w ↦ subst (λ (s : GroupHashes). HasChains s.hashes.items s.chains) (sym w.self-is) c.requires
    ] in
    let bucket = c.bucket_of-bucket.ensures.is ∙ ap (λ n. bucket_of n c.args.hash) c.buckets.ensures in
    subst (λ l. HasChains l c.push.new.self) (sym c.in_ok-push-2.ensures.items)
    (chains-more self.hashes.items c.args.hash c.bucket_of-bucket.result self.chains c.push.new.self has bucket c.in_ok-push.ensures.buckets c.in_ok-push.ensures.groups c.in_ok-push.ensures.chained)

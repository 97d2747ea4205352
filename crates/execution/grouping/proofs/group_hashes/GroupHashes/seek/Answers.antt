use Rattle.std.proofs.Common.{ap, sym, ◌∙◌, ◌-◌, ◌<◌, ◌≤◌, ℕ, length, arith}
use Rattle.std.proofs.lemmas.List.{get_or_default}
use Rattle.grouping.specs.GroupHashes.{bucket_of, hash_at}
use Rattle.grouping.specs.RowNumbers.{numbers_in}
use Rattle.grouping.proofs.GroupHashes.{search-begun, search-next}
use Rattle.grouping.proofs.group_hashes.GroupHashes.seek.Goals as goal

pub loop-from-init : goal.loop-from-init
loop-from-init c =
    let self = c.args.self.now in
    record { below = c.requires.from; searched = λ end last. search-begun (bucket_of (length (numbers_in self.chains.lasts))) (hash_at self.hashes.items) c.args.hash end c.args.from last }

pub loop-from-preserved : goal.loop-from-preserved
loop-from-preserved c =
    let self = c.args.self.now in
    let bucket : ℕ → ℕ = bucket_of (length (numbers_in self.chains.lasts)) in
    let key : ℕ → ℕ = hash_at self.hashes.items in
    let group = c.loop-from.from - 1 in
    let at = c.before-from.ensures (λ n. bucket (key n)) c.requires.chained.chained in
    let low = at.within in
    record {
      below = let old = c.loop-from.invariant.below in omega (arith, low, old, c.loop-from-test.true);
      searched = λ end last. search-next bucket key c.args.hash end c.loop-from.from group c.before-from.result (omega (arith, c.loop-from-test.true)) (c.loop-from.invariant.searched end last) (λ e. c.if-index-hash.false (c.index.ensures ∙ get_or_default self.hashes.items group _ 0 (omega (arith, c.loop-from.invariant.below, c.loop-from-test.true)) ∙ sym e)) at;
    }

pub returns : goal.returns
returns c = λ end last.
    let searched = c.loop-from.invariant.searched end last in
    record {
      within = omega arith;
      there = λ n e. absurd (omega (arith, e));
      apart = λ j low high is. searched.apart j (omega (arith, c.loop-from-test.false)) high (sym is);
    }

use Rattle.std.proofs.Common.{◌≡◌, ◌∙◌, ◌<◌, ◌-◌, [], ℕ, List, length, slice_index_or, sym, ap, arith}
use Rattle.schema.specs.Databases.{values_at}
use Rattle.store.specs.Chains.{IsNewest, bucket_at}
use Rattle.store.specs.Keys.{key_decides}
use Rattle.store.proofs.Repeats.{keys_apart, sought_first, sought_next}
use Rattle.store.proofs.unique.earlier_of.Goals as goal

pub loop-at-init : goal.loop-at-init
loop-at-init c =
    let buckets = length c.args.seen.now.heads in
    let n = length c.args.seen.now.olders in
    let newest = c.newest-at.ensures (bucket_at c.args.rows.now c.args.places.now buckets) n c.requires.chained in
    sought_first c.args.rows.now c.args.places.now buckets n c.args.bucket c.args.key.now c.newest-at.result newest

pub returns-then-eq : goal.returns-then-eq
returns-then-eq c =
    let low = c.loop-at.invariant.within in
    let is : c.new.result ≡ values_at c.args.places.now (slice_index_or c.args.rows.now (c.loop-at.at - 1) []) = c.new.ensures ∙ ap (λ (places : List ℕ). values_at places (slice_index_or c.args.rows.now (c.loop-at.at - 1) [])) c.as_slice.ensures in
    (omega (arith, low), c.loop-at.invariant.there (omega arith), sym is ∙ (key_decides c.new.result c.args.key.now).0 (sym c.eq.ensures ∙ c.if-eq.true))

pub loop-at-smaller : goal.loop-at-smaller
loop-at-smaller c =
    let buckets = length c.args.seen.now.heads in
    let n = length c.args.seen.now.olders in
    let f = bucket_at c.args.rows.now c.args.places.now buckets in
    let at = c.loop-at.at in
    let here : f (at - 1) ≡ c.args.bucket = c.loop-at.invariant.there (omega arith) in
    let within : f (at - 1) < buckets = rw here c.requires.bucket in
    let newest : IsNewest f (f (at - 1)) (at - 1) c.older-at.result = c.older-at.ensures f n c.requires.chained within in
    omega (arith, newest.within)

pub loop-at-preserved : goal.loop-at-preserved
loop-at-preserved c =
    let buckets = length c.args.seen.now.heads in
    let n = length c.args.seen.now.olders in
    let f = bucket_at c.args.rows.now c.args.places.now buckets in
    let at = c.loop-at.at in
    let here : f (at - 1) ≡ c.args.bucket = c.loop-at.invariant.there (omega arith) in
    let within : f (at - 1) < buckets = rw here c.requires.bucket in
    let newest : IsNewest f (f (at - 1)) (at - 1) c.older-at.result = c.older-at.ensures f n c.requires.chained within in
    let is : c.new.result ≡ values_at c.args.places.now (slice_index_or c.args.rows.now (at - 1) []) = c.new.ensures ∙ ap (λ (places : List ℕ). values_at places (slice_index_or c.args.rows.now (at - 1) [])) c.as_slice.ensures in
    let other : values_at c.args.places.now (slice_index_or c.args.rows.now (at - 1) []) ≡ c.args.key.now → ⊥ = λ e. keys_apart c.new.result c.args.key.now (sym c.eq.ensures ∙ c.if-eq.false) (is ∙ e) in
    sought_next c.args.rows.now c.args.places.now buckets n c.args.bucket c.args.key.now at c.older-at.result (omega arith) c.loop-at.invariant other newest

use Rattle.std.proofs.Common.{ap, sym, ◌∙◌, ◌<◌, ◌&&◌, not, length, map, take, arith}
use Rattle.std.proofs.lemmas.List.{length-set, map-append}
use Rattle.algebra.proofs.Lists.{two}
use Rattle.labels.proofs.Bucketed.{at-all, next-list, next-once, own-list, twice-among}
use Rattle.labels.proofs.by_class.labels_by_class.Goals as goal

pub returns-then-is_among : goal.returns-then-is_among
returns-then-is_among c =
    let l = c.label-item.result in
    let labels = c.args.labels.now in
    let i = c.loop-label.label-index in
    let below : l.goal.class < c.args.count = at-all (λ l. l.goal.class < c.args.count) labels i l c.loop-label-test.true c.label-item.is c.requires in
    let low : l.goal.class < length c.loop-label.classes.items = omega (arith, below, c.loop-label.invariant.count) in
    let own = own-list (λ v. map (λ l. l.now) v.items) c.loop-label.classes.items (take i labels) l.goal.class c.index_mut-own.result.now low c.index_mut-own.ensures.value c.loop-label.invariant.each in
    twice-among labels i l (map (λ l. l.now) c.as_slice.result.now) c.loop-label-test.true c.label-item.is (ap (map (λ l. l.now)) c.as_slice.ensures.value ∙ own) (sym c.is_among.ensures ∙ c.if-is_among.true)

pub loop-label-preserved : goal.loop-label-preserved
loop-label-preserved c =
    let l = c.label-item.result in
    let labels = c.args.labels.now in
    let i = c.loop-label.label-index in
    let below : l.goal.class < c.args.count = at-all (λ l. l.goal.class < c.args.count) labels i l c.loop-label-test.true c.label-item.is c.requires in
    let low : l.goal.class < length c.loop-label.classes.items = omega (arith, below, c.loop-label.invariant.count) in
    let own = own-list (λ v. map (λ l. l.now) v.items) c.loop-label.classes.items (take i labels) l.goal.class c.index_mut-own.result.now low c.index_mut-own.ensures.value c.loop-label.invariant.each in
    record {
      count = length-set c.loop-label.classes.items l.goal.class c.push-in-loop-label.new.self ∙ c.loop-label.invariant.count;
      once = next-once labels i l (map (λ l. l.now) c.as_slice.result.now) c.loop-label-test.true c.label-item.is (ap (map (λ l. l.now)) c.as_slice.ensures.value ∙ own)
          ∙ two (λ a b. a && not b) c.loop-label.invariant.once (sym c.is_among.ensures ∙ c.if-is_among.false);
      each = next-list (λ v. map (λ l. l.now) v.items) c.loop-label.classes.items labels i l c.index_mut-own.result.now c.push-in-loop-label.new.self c.loop-label-test.true c.label-item.is low c.index_mut-own.ensures.value
          (ap (map (λ l. l.now)) c.in_ok-push-2.ensures.items ∙ map-append (λ l. l.now) c.index_mut-own.result.now.items _) c.loop-label.invariant.each;
    }

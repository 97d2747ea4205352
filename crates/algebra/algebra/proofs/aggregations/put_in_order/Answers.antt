use Rattle.std.proofs.Common.{◌≡◌, ◌≤◌, ◌<◌, ◌==◌, rules, ap, sym, ◌∙◌, ℕ, false, List, length, arith}
use Rattle.std.specs.Prelude.{slice_index_or, slice_set}
use Rattle.std.specs.List.{insert, position_or_len}
use Rattle.std.proofs.lemmas.Bool.{eq-eqb, ne_eqb}
use Rattle.std.proofs.lemmas.List.{get_or_default}
use Rattle.std.proofs.lemmas.List.Sums.{prefix_len-le-length}
use Rattle.algebra.specs.declared.expr.Aggregation.{Aggregation}
use Rattle.algebra.specs.AggregateOrder.{ends_search}
use Rattle.algebra.proofs.AggregateLists.{put-there, put-new}
use Rattle.algebra.proofs.aggregations.put_in_order.Goals as goal
use Rattle.algebra.proofs.aggregations.put_in_order.Goals.{else-place-len-via-then-place-len+else-index-new, else-place-len-via-else-place-len}

pub returns-then-index-new : goal.returns-then-index-new
returns-then-index-new c =
    let order : List Aggregation = c.args.order.items in
    let place : c.place_of-place.result ≡ position_or_len (ends_search c.args.new) order = search rules in
    let below : c.place_of-place.result < length order = search (rules, arith) in
    ap (λ (n : ℕ). slice_set order n c.args.new) place
    ∙ put-there c.args.new c.index.result.now order (rw place at below) (c.index.ensures ∙ ap (λ (n : ℕ). slice_index_or order n c.index.result.now) place) (eq-eqb _ _ c.if-index-new.true)

pub insert-requires : goal.insert-requires
insert-requires c =
    let place : c.place_of-place.result ≡ position_or_len (ends_search c.args.new) c.args.order.items = search rules in
    let within : position_or_len (ends_search c.args.new) c.args.order.items ≤ length c.args.order.items = prefix_len-le-length _ c.args.order.items in
    search (rules, place, within)

pub returns : goal.returns
returns c =
    let order : List Aggregation = c.args.order.items in
    let place : c.place_of-place.result ≡ position_or_len (ends_search c.args.new) order = search rules in
    let other : (b : Aggregation) → position_or_len (ends_search c.args.new) order < length order → b ≡ slice_index_or order (position_or_len (ends_search c.args.new) order) b → (b.column == c.args.new.column) ≡ false = λ b lt at.
    elim c.else-place-len.branch [
      | else-place-len-via-then-place-len+else-index-new w ↦
          let is : b ≡ w.index.result.now =
          at ∙ get_or_default order (position_or_len (ends_search c.args.new) order) b w.index.result.now lt ∙ sym (ap (λ (n : ℕ). slice_index_or order n w.index.result.now) place) ∙ sym w.index.ensures in
          ap (λ (x : Aggregation). x.column == c.args.new.column) is ∙ ne_eqb _ _ w.if-index-new.false
      | else-place-len-via-else-place-len w ↦ absurd (omega (arith, w.if-place-len.false, c.len.ensures, place, lt))
    ] in
    c.in_ok-insert.ensures.items ∙ ap (λ (n : ℕ). insert order n c.args.new) place ∙ put-new c.args.new order other

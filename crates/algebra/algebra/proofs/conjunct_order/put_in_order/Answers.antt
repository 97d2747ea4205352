use Rattle.std.proofs.Common.{◌≡◌, ◌≤◌, rules, refl, ap, sym, subst, ◌∙◌, ℕ, false, List, length, Some, None}
use Rattle.std.specs.List.{slice_get, insert, position_or_len}
use Rattle.std.proofs.lemmas.List.Sums.{prefix_len-le-length}
use Rattle.std.proofs.lemmas.Option.{slice_get_read, slice_get_past}
use Rattle.algebra.specs.declared.condition.Condition.{Condition}
use Rattle.algebra.specs.ConditionEquality.{same_condition}
use Rattle.algebra.specs.ConjunctOrder.{ends_search}
use Rattle.algebra.proofs.Places.{put-there, put-new}
use Rattle.algebra.proofs.conjunct_order.put_in_order.Goals as goal
use Rattle.algebra.proofs.conjunct_order.put_in_order.Goals.{in-Some+else-same, in_default}

pub returns-then-same : goal.returns-then-same
returns-then-same c =
    let place : c.place_of-place.result ≡ position_or_len (ends_search c.args.new) c.args.order.items = search rules in
    let there : slice_get c.args.order.items c.place_of-place.result ≡ Some c.in-Some.other.now =
    ap (λ (ds : List Condition). slice_get ds c.place_of-place.result) (sym c.deref.ensures.value)
    ∙ slice_get_read c.deref.result.now (length c.deref.result.now) c.place_of-place.result c.in-Some.other.now refl c.in-Some.ensures.lookup.3.0 (c.in-Some.ensures.lookup.3.1 c.in-Some.other.now) in
    sym (put-there c.args.new c.in-Some.other.now c.args.order.items (ap (slice_get c.args.order.items) (sym place) ∙ there) (search rules))

pub insert-requires : goal.insert-requires
insert-requires c =
    let place : c.place_of-place.result ≡ position_or_len (ends_search c.args.new) c.args.order.items = search rules in
    let within : position_or_len (ends_search c.args.new) c.args.order.items ≤ length c.args.order.items = prefix_len-le-length _ c.args.order.items in
    search (rules, place, within)

pub returns : goal.returns
returns c =
    let place : c.place_of-place.result ≡ position_or_len (ends_search c.args.new) c.args.order.items = search rules in
    let other : (e : Condition) → slice_get c.args.order.items (position_or_len (ends_search c.args.new) c.args.order.items) ≡ Some e → same_condition c.args.new e ≡ false = λ e at. elim c.match-get.branch [
      | in-Some+else-same w ↦
          let there : slice_get c.args.order.items c.place_of-place.result ≡ Some w.in-Some.other.now =
          ap (λ (ds : List Condition). slice_get ds c.place_of-place.result) (sym c.deref.ensures.value)
          ∙ slice_get_read c.deref.result.now (length c.deref.result.now) c.place_of-place.result w.in-Some.other.now refl w.in-Some.ensures.lookup.3.0 (w.in-Some.ensures.lookup.3.1 w.in-Some.other.now) in
          let found : Some e ≡ Some w.in-Some.other.now = sym at ∙ ap (slice_get c.args.order.items) (sym place) ∙ there in
          let is : e ≡ w.in-Some.other.now = cc in
          ap (same_condition c.args.new) (is ∙ sym w.get-in-Some.ensures) ∙ sym w.same.ensures ∙ w.if-same.false
      | in_default w ↦
          let past : length c.args.order.items ≤ c.place_of-place.result = subst (λ (ds : List Condition). length ds ≤ c.place_of-place.result) c.deref.ensures.value w.in_default.ensures.lookup.3 in
          let none : slice_get c.args.order.items c.place_of-place.result ≡ None = slice_get_past c.args.order.items c.place_of-place.result past in
          let never : None ≡ Some e = sym none ∙ ap (slice_get c.args.order.items) place ∙ at in
          cc
    ] in
    c.in_ok-insert.ensures.items ∙ ap (λ (d : Condition). insert c.args.order.items c.place_of-place.result d) c.in_ok-new.ensures ∙ ap (λ (n : ℕ). insert c.args.order.items n c.args.new) place ∙ sym (put-new c.args.new c.args.order.items other)

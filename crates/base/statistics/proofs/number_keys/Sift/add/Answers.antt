use Rattle.std.proofs.Common.{◌≡◌, sym, ap, ◌∙◌, subst, ℕ, ◌+◌, ◌%◌, ◌^◌, ◌<◌, List, inl, inr, ⊎_elim, ◌++◌, ◌∷◌, [], length, get_or}
use Rattle.statistics.specs.ColumnKeys.{slot_at}
use Rattle.statistics.specs.NumberKeys.{AreSifted, slot_in_sift}
use Rattle.statistics.proofs.Sifts.{in-slot, kept-first, seen-again, seen-other}
use Rattle.statistics.proofs.number_keys.Sift.add.Goals as goal

pub returns-then-number-self-clause-seen : goal.returns-then-number-self-clause-seen
returns-then-number-self-clause-seen c = λ seen h has.
    let s = c.args.self.now in
    let slot = slot_in_sift (length s.kept) s.salt in
    let here : c.slot_of-slot.result ≡ slot c.args.number = c.slot_of-slot.ensures.slot ∙ ap (λ n. slot_at n ((c.args.number + s.salt) % 2 ^ 64)) c.len-slots.ensures in
    let low : c.slot_of-slot.result < length s.kept = subst (λ n. c.slot_of-slot.result < n) c.len-slots.ensures c.slot_of-slot.ensures.within in
    let there : get_or s.kept (slot c.args.number) s.first ≡ get_or c.as_slice.result.now c.slot_of-slot.result 0 = in-slot slot s.first c.args.number c.as_slice.result.now s.kept c.slot_of-slot.result c.as_slice.ensures here low in
    seen-again slot s.first c.args.number seen s.kept s.told s.others.items h (⊎_elim (λ e. inl e) (λ e. inr (there ∙ e.1)) c.then-number-self.either) has

pub returns-then-there-self-clause-seen : goal.returns-then-there-self-clause-seen
returns-then-there-self-clause-seen c = λ seen h has.
    let s = c.args.self.now in
    let slot = slot_in_sift (length s.kept) s.salt in
    let here : c.slot_of-slot.result ≡ slot c.args.number = c.slot_of-slot.ensures.slot ∙ ap (λ n. slot_at n ((c.args.number + s.salt) % 2 ^ 64)) c.len-slots.ensures in
    let low : c.slot_of-slot.result < length s.kept = subst (λ n. c.slot_of-slot.result < n) c.len-slots.ensures c.slot_of-slot.ensures.within in
    let there : get_or s.kept (slot c.args.number) s.first ≡ get_or c.as_slice.result.now c.slot_of-slot.result 0 = in-slot slot s.first c.args.number c.as_slice.result.now s.kept c.slot_of-slot.result c.as_slice.ensures here low in
    subst (λ (l : List ℕ). AreSifted slot s.first (seen ++ c.args.number ∷ []) s.kept s.told l) (sym c.in_ok-push.ensures.items)
    (seen-other slot s.first c.args.number seen s.kept s.told s.others.items h c.if-number-self.false (λ e. c.if-there-number.false (sym there ∙ e)) (λ e. c.if-there-self.true (sym there ∙ e)))

pub returns-clause-seen : goal.returns-clause-seen
returns-clause-seen c = λ seen h has.
    let s = c.args.self.now in
    let slot = slot_in_sift (length s.kept) s.salt in
    let here : c.slot_of-slot.result ≡ slot c.args.number = c.slot_of-slot.ensures.slot ∙ ap (λ n. slot_at n ((c.args.number + s.salt) % 2 ^ 64)) c.len-slots.ensures in
    let low : c.slot_of-slot.result < length s.kept = subst (λ n. c.slot_of-slot.result < n) c.len-slots.ensures c.slot_of-slot.ensures.within in
    let there : get_or s.kept (slot c.args.number) s.first ≡ get_or c.as_slice.result.now c.slot_of-slot.result 0 = in-slot slot s.first c.args.number c.as_slice.result.now s.kept c.slot_of-slot.result c.as_slice.ensures here low in
    kept-first s.salt s.first c.args.number seen s.kept c.set.new.self s.told s.others.items c.slot_of-slot.result h c.set.ensures here low c.if-number-self.false (there ∙ c.if-there-self.false)

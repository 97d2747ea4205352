use Rattle.std.proofs.Common.{◌≡◌, sym, ap, ◌∙◌, subst, ℕ, List, ◌++◌, ◌∷◌, [], ◌+◌, ◌||◌, take, true, nat_eq, get_or}
use Rattle.std.specs.Set.{is_member}
use Rattle.std.specs.List.{list_any}
use Rattle.std.proofs.lemmas.List.{take_more}
use Rattle.statistics.specs.NumberKeys.{HasSeen}
use Rattle.statistics.proofs.Marks.{eqb_same}
use Rattle.statistics.proofs.number_keys.sifted.Goals as goal

pub loop-number-preserved : goal.loop-number-preserved
loop-number-preserved c =
    let old = c.loop-number.sift in
    let new = c.add.new.self in
    let i = c.loop-number.number-index in
    let xs = c.args.numbers.now in
    let h = c.loop-number.invariant in
    let has : is_member nat_eq (old.first ∷ take i xs) old.first ≡ true = ap (λ b. b || list_any (nat_eq old.first) (take i xs)) (eqb_same old.first) in
    let more : take (i + 1) xs ≡ take i xs ++ get_or xs i 0 ∷ [] = take_more xs i 0 c.loop-number-test.true in
    record {
      slots = c.in_ok-add.ensures.slots ∙ h.slots;
      first = c.in_ok-add.ensures.first ∙ h.first;
      seen = subst (λ (f : ℕ). HasSeen new (f ∷ take (i + 1) xs)) (sym c.in_ok-add.ensures.first) (subst (λ (l : List ℕ). HasSeen new (old.first ∷ l)) (sym more) (c.in_ok-add.ensures.seen (old.first ∷ take i xs) h.seen has));
    }

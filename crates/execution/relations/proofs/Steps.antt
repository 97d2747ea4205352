-- One more item of a list, in a list that is made of those so far.
use Rattle.std.proofs.Common.{◌≡◌, ap, sym, ◌∙◌, List, [], ◌∷◌}
use Rattle.std.specs.Iterator.{Yields}
use Rattle.std.specs.Vec.Iter.{into_iter_items, into_iter_len, into_iter_steps}
use Rattle.std.specs.declared.vec.IntoIter.{IntoIter}
use Rattle.std.proofs.lemmas.List.{nil_from_length}

-- what an iterator over a vector by value has given when nothing is left
pub yielded-all : {X A : Type 0} (s t : IntoIter X A) (xs : List X) → Yields into_iter_steps s xs t → into_iter_len t ≡ 0 → xs ≡ s.rest.items
yielded-all s t [] y h = sym (ap into_iter_items y ∙ nil_from_length (into_iter_items t) (sym t.rest.ok.0 ∙ h))
yielded-all s t (x ∷ xs) y h = ap (λ l. x ∷ l) (yielded-all y.0 t xs y.2 h) ∙ sym y.1.0

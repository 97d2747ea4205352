-- A list of tokens has one first fault at most, and a word within the limit has none, whatever the grammar.
use Rattle.std.proofs.Common.{◌≡◌, ℕ, ◌⊎◌, inl, inr, List, [], ◌∷◌, ◌++◌, Some, None, refl, sym, ◌∙◌, ap, subst, append_assoc}
use Rattle.std.proofs.lemmas.List.{append-nil}
use Rattle.grammar.specs.Grammars.{Grammar, Language}
use Rattle.grammar.specs.Words.{Reads, Begins}
use Rattle.grammar.specs.Faults.{Fault, Unexpected, TooDeep, room, IsWithin, Halts, IsUnexpected, IsTooDeep, IsFirstFault}
use Rattle.grammar.proofs.Rooms.{room_append, room_opened, room_none}

module _ {T : Type 0} where
  -- the one list goes on with a token where the other ends, and that token is the next of the other's rest
  abbrev Longer : List T → List T → List T → Type 0
  Longer w r v = (t : T) × (x y : List T) × (v ≡ w ++ t ∷ x) × (r ≡ t ∷ y)

  abbrev Splits : List T → List T → List T → List T → Type 0
  Splits w r v s = ((w ≡ v) × (r ≡ s)) ⊎ (Longer w r v ⊎ Longer v s w)

  splits_behind : (t u : T) (w r v s : List T) → t ≡ u → Splits w r v s → Splits (t ∷ w) r (u ∷ v) s
  splits_behind t u w r v s e (inl (h, k)) = let both : t ∷ w ≡ u ∷ v = cc in inl (both, k)
  splits_behind t u w r v s e (inr (inl (a, x, y, h, k))) = let both : u ∷ v ≡ t ∷ (w ++ a ∷ x) = cc in inr (inl (a, x, y, both, k))
  splits_behind t u w r v s e (inr (inr (a, x, y, h, k))) = let both : t ∷ w ≡ u ∷ (v ++ a ∷ x) = cc in inr (inr (a, x, y, both, k))

  -- two ways to split a list are one, or the one ends inside the other
  splits : (w r v s : List T) → w ++ r ≡ v ++ s → Splits w r v s
  splits [] r [] s e = inl (refl, e)
  splits [] r (u ∷ v) s e = inr (inl (u, v, v ++ s, refl, e))
  splits (t ∷ w) r [] s e = inr (inr (t, w, w ++ r, refl, sym e))
  splits (t ∷ w) r (u ∷ v) s e =
      let first : t ≡ u = cc in
      let others : w ++ r ≡ v ++ s = cc in
      splits_behind t u w r v s first (splits w r v s others)

module _ {T : Type 0} {P : Type 0 → Type 1} (L : Language T P) {A : Type 0} (g : Grammar T P A) where
  -- what begins a word with more tokens begins one without them
  begins_before : (w : List T) (t : T) (x v : List T) → v ≡ w ++ t ∷ x → Begins L g v → Begins L g (w ++ t ∷ [])
  begins_before w t x v e (more, tree, reads) =
      let same : v ++ more ≡ (w ++ t ∷ []) ++ (x ++ more) = ap (λ z. z ++ more) e ∙ append_assoc w (t ∷ x) more ∙ sym (append_assoc w (t ∷ []) (x ++ more)) in
      (x ++ more, tree, subst (λ z. Reads L g z tree) same reads)

  -- behind the token at which no word goes on there is no beginning
  no_longer : (w r v : List T) → Halts L g w r → Longer w r v → Begins L g v → ⊥
  no_longer w r v halts (t, x, y, e, f) begins = subst (Halts L g w) f halts (begins_before w t x v e begins)

  -- behind a parenthesis too many there is no room
  no_room : (n : ℕ) (w : List T) (t : T) (x v : List T) (m : ℕ) → room L (Some n) w ≡ Some 0 → L.class t ≡ L.class L.opening → v ≡ w ++ t ∷ x → room L (Some n) v ≡ Some m → ⊥
  no_room n w t x v m full opens e within =
      let none : room L (Some n) v ≡ None = ap (room L (Some n)) e ∙ room_append L (Some n) w (t ∷ x) ∙ ap (λ z. room L z (t ∷ x)) full ∙ room_opened L (Some 0) t x opens ∙ room_none L x in
      let same = sym none ∙ within in
      cc

  -- ---- a word has no fault

  none_unexpected : (ts w r : List T) (tree : A) → ts ≡ w ++ r → Halts L g w r → Reads L g ts tree → ⊥
  none_unexpected ts w [] tree e halts reads = halts tree (subst (λ z. Reads L g z tree) (e ∙ append-nil w) reads)
  none_unexpected ts w (t ∷ r) tree e halts reads =
      halts (r, tree, subst (λ z. Reads L g z tree) (e ∙ sym (append_assoc w (t ∷ []) r)) reads)

  -- a word within the limit has no fault
  pub no_fault : (limit : ℕ) (ts : List T) (tree : A) (f : Fault T) → Reads L g ts tree → IsWithin L limit ts → IsFirstFault L g limit ts f → ⊥
  no_fault limit ts tree (Unexpected r) reads within k = none_unexpected ts k.w r tree k.split k.halts reads
  no_fault limit ts tree (TooDeep r) reads within k = no_room limit k.w k.t k.behind ts within.0 k.full k.opens (k.split ∙ ap (λ z. k.w ++ z) k.next) within.1

  -- ---- two faults are one

  both_unexpected : (limit : ℕ) (ts r s : List T) (k : IsUnexpected L g limit ts r) (l : IsUnexpected L g limit ts s) → Splits k.w r l.w s → r ≡ s
  both_unexpected limit ts r s k l (inl same) = same.1
  both_unexpected limit ts r s k l (inr (inl longer)) = absurd (no_longer k.w r l.w k.halts longer l.begins)
  both_unexpected limit ts r s k l (inr (inr longer)) = absurd (no_longer l.w s k.w l.halts longer k.begins)

  -- the token that opens a parenthesis too many, as the next of a rest
  next_of : (w r v : List T) (t : T) (b : List T) → r ≡ t ∷ b → (h : Longer w r v) → v ≡ w ++ t ∷ h.1
  next_of w r v t b e (a, x, y, f, k) = let same : a ≡ t = cc in f ∙ ap (λ z. w ++ z ∷ x) same

  both_deep : (limit : ℕ) (ts r s : List T) (k : IsTooDeep L g limit ts r) (l : IsTooDeep L g limit ts s) → Splits k.w r l.w s → r ≡ s
  both_deep limit ts r s k l (inl same) = same.1
  both_deep limit ts r s k l (inr (inl longer)) = absurd (no_room limit k.w k.t longer.1 l.w 0 k.full k.opens (next_of k.w r l.w k.t k.behind k.next longer) l.full)
  both_deep limit ts r s k l (inr (inr longer)) = absurd (no_room limit l.w l.t longer.1 k.w 0 l.full l.opens (next_of l.w s k.w l.t l.behind l.next longer) k.full)

  never_both : (limit : ℕ) (ts r s : List T) (k : IsUnexpected L g limit ts r) (l : IsTooDeep L g limit ts s) → Splits k.w r l.w s → ⊥
  never_both limit ts r s k l (inl same) =
      let begins : Begins L g (k.w ++ l.t ∷ []) = subst (λ z. Begins L g (z ++ l.t ∷ [])) (sym same.0) l.begins in
      subst (Halts L g k.w) (same.1 ∙ l.next) k.halts begins
  never_both limit ts r s k l (inr (inl (t, x, y, e, f))) =
      no_longer k.w r (l.w ++ l.t ∷ []) k.halts (t, x ++ l.t ∷ [], y, ap (λ z. z ++ l.t ∷ []) e ∙ append_assoc k.w (t ∷ x) (l.t ∷ []), f) l.begins
  never_both limit ts r s k l (inr (inr longer)) =
      no_room limit l.w l.t longer.1 k.w k.within.0 l.full l.opens (next_of l.w s k.w l.t l.behind l.next longer) k.within.1

  -- the first fault of tokens is one
  pub one_fault : (limit : ℕ) (ts : List T) (e f : Fault T) → IsFirstFault L g limit ts e → IsFirstFault L g limit ts f → e ≡ f
  one_fault limit ts (Unexpected r) (Unexpected s) k l = ap (λ z. Unexpected z) (both_unexpected limit ts r s k l (splits k.w r l.w s (sym k.split ∙ l.split)))
  one_fault limit ts (Unexpected r) (TooDeep s) k l = absurd (never_both limit ts r s k l (splits k.w r l.w s (sym k.split ∙ l.split)))
  one_fault limit ts (TooDeep r) (Unexpected s) k l = absurd (never_both limit ts s r l k (splits l.w s k.w r (sym l.split ∙ k.split)))
  one_fault limit ts (TooDeep r) (TooDeep s) k l = ap (λ z. TooDeep z) (both_deep limit ts r s k l (splits k.w r l.w s (sym k.split ∙ l.split)))

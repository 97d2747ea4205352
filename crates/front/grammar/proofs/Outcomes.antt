-- What a reader reports of the tokens it is given, and how it is reported of more of them.
use Rattle.std.proofs.Common.{◌≡◌, ℕ, List, [], ◌∷◌, ◌++◌, Some, Result, Ok, Err, refl, sym, ◌∙◌, ap, subst, append_assoc}
use Rattle.grammar.specs.Grammars.{Language}
use Rattle.grammar.specs.Readers.{member, sees}
use Rattle.grammar.specs.Faults.{Fault, Unexpected, TooDeep, room, IsWithin}

module _ {T : Type 0} where
  -- the two begin with the same token, or are both at the end
  abbrev pub Alike : List T → List T → Type 0
  Alike [] [] = Unit {0}
  Alike [] (y ∷ ys) = ⊥
  Alike (x ∷ xs) [] = ⊥
  Alike (x ∷ xs) (y ∷ ys) = x ≡ y

  alike_append : (w r s : List T) → Alike r s → Alike (w ++ r) (w ++ s)
  alike_append [] r s h = h
  alike_append (t ∷ w) r s h = refl

  pub alike_split : (ts w r s : List T) → ts ≡ w ++ r → Alike r s → Alike ts (w ++ s)
  alike_split ts w r s e h = subst (λ z. Alike z (w ++ s)) (sym e) (alike_append w r s h)

  -- the tokens from a fault's place on
  abbrev pub rest : Fault T → List T
  rest (Unexpected r) = r
  rest (TooDeep r) = r

  -- A word was read, and would be before any tokens that begin as those behind it do.
  pub record Read {A : Type 0} (Q : List T → Result (A × List T) (Fault T) → Type 0) (I : List T → A → Type 0) (ts : List T) (v : A) (r : List T) : Type 0 where
    pub w : List T
    pub split : ts ≡ w ++ r
    pub word : I w v
    pub again : (s : List T) → Alike r s → Q (w ++ s) (Ok (v, s))

module _ {T : Type 0} {P : Type 0 → Type 1} (L : Language T P) where
  pub sees_alike : (classes : List ℕ) (r s : List T) → Alike r s → sees L classes s ≡ sees L classes r
  sees_alike classes (x ∷ xs) (y ∷ ys) h = ap (λ t. member (L.class t) classes) (sym h)
  sees_alike classes [] [] h = refl
  sees_alike classes [] (y ∷ ys) h = absurd h
  sees_alike classes (x ∷ xs) [] h = absurd h

  -- What is known at a fault. No token but this one could stand there, however deep the reader may go; or it is a parenthesis that may.
  abbrev pub Known : {A : Type 0} → (List T → Result (A × List T) (Fault T) → Type 0) → ℕ → Fault T → List T → List T → Type 0
  Known Q d (Unexpected r) w more = IsWithin L d w × ((s : List T) → Alike r s → Q (w ++ s) (Err (Unexpected s)))
  Known Q d (TooDeep r) w more = (t : T) × (b c : List T) × (r ≡ t ∷ b) × (more ≡ t ∷ c) × (L.class t ≡ L.class L.opening) × (room L (Some d) w ≡ Some 0)

  -- What was read begins a word, and there is a fault behind it.
  pub record Stop {A : Type 0} (Q : List T → Result (A × List T) (Fault T) → Type 0) (J : List T → A → Type 0) (d : ℕ) (ts : List T) (f : Fault T) : Type 0 where
    pub w : List T
    pub more : List T
    pub tree : A
    pub split : ts ≡ w ++ rest f
    pub begins : J (w ++ more) tree
    pub known : Known Q d f w more

  abbrev pub Law : {A : Type 0} → (List T → Result (A × List T) (Fault T) → Type 0) → (I J : List T → A → Type 0) → ℕ → List T → Result (A × List T) (Fault T) → Type 0
  Law Q I J d ts (Ok x) = Read Q I ts x.0 x.1
  Law Q I J d ts (Err f) = Stop Q J d ts f

  -- A fault behind the tokens a is one of the whole.
  module _ {A B : Type 0} (Q : List T → Result (A × List T) (Fault T) → Type 0) (J : List T → A → Type 0) (d : ℕ)
      (S : List T → Result (B × List T) (Fault T) → Type 0) (K : List T → B → Type 0) (e : ℕ)
      (a us ts : List T) (tree : A → B) (ends : List T → List T)
      (split : ts ≡ a ++ us)
      (head : (t : T) (c : List T) → ends (t ∷ c) ≡ t ∷ ends c)
      (rooms : (u : List T) → room L (Some e) (a ++ u) ≡ room L (Some d) u)
      (words : (w more : List T) (v : A) → J (w ++ more) v → K (a ++ (w ++ ends more)) (tree v))
      (agains : (w r s : List T) → us ≡ w ++ r → Alike r s → Q (w ++ s) (Err (Unexpected s)) → S (a ++ (w ++ s)) (Err (Unexpected s))) where
    known_behind : (f : Fault T) (w more : List T) → us ≡ w ++ rest f → Known Q d f w more → Known S e f (a ++ w) (ends more)
    known_behind (Unexpected r) w more q ((n, m), h) = ((n, rooms w ∙ m), λ s i. rw append_assoc (agains w r s q i (h s i)))
    known_behind (TooDeep r) w more q (t, b, c, h, i, k, m) = (t, b, ends c, h, ap ends i ∙ head t c, k, rooms w ∙ m)

    pub stop_behind : (f : Fault T) → Stop Q J d us f → Stop S K e ts f
    stop_behind f s = record {
      w = a ++ s.w;
      more = ends s.more;
      tree = tree s.tree;
      split = split ∙ ap (λ z. a ++ z) s.split ∙ sym (append_assoc a s.w (rest f));
      begins = rw append_assoc (words s.w s.more s.tree s.begins);
      known = known_behind f s.w s.more s.split s.known;
    }

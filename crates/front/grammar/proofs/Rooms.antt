-- How many parentheses may be opened behind a word, and that a word is within a depth where its parentheses are.
use Rattle.std.proofs.Common.{◌≡◌, ℕ, zero, suc, ◌≤◌, inl, inr, Bool, true, false, ◌==◌, if◌then◌else◌, List, [], ◌∷◌, ◌++◌, Option, Some, None, refl, sym, ◌∙◌, ap, arith}
use Rattle.std.proofs.lemmas.Bool.{eq-eqb, not-true}
use Rattle.grammar.specs.Grammars.{Grammar, tok, pure, seq, map, alt, many, nested, Language}
use Rattle.grammar.specs.Words.{Repeats, In, Nested}
use Rattle.grammar.specs.Readers.{paired, IsDecided}
use Rattle.grammar.specs.Faults.{room, fewer, more}
use Rattle.grammar.proofs.Tests.{and_left, and_right}

module _ {T : Type 0} {P : Type 0 → Type 1} (L : Language T P) where
  pub room_append : (n : Option ℕ) (a b : List T) → room L n (a ++ b) ≡ room L (room L n a) b
  room_append n [] b = refl
  room_append n (t ∷ a) b = room_append (if L.class t == L.class L.opening then fewer n else if L.class t == L.class L.closing then more n else n) a b

  step : Bool → Bool → Option ℕ → Option ℕ
  step opens closes n = if opens then fewer n else if closes then more n else n

  none_stays : (opens closes : Bool) → step opens closes None ≡ None
  unfolding step
  none_stays true closes = refl
  none_stays false true = refl
  none_stays false false = refl

  pub room_none : (w : List T) → room L None w ≡ None
  unfolding step
  room_none [] = refl
  room_none (t ∷ w) = rw (none_stays (L.class t == L.class L.opening) (L.class t == L.class L.closing)) (room_none w)

  pub room_opened : (n : Option ℕ) (t : T) (w : List T) → L.class t ≡ L.class L.opening → room L n (t ∷ w) ≡ room L (fewer n) w
  room_opened n t w k = let h : (L.class t == L.class L.opening) ≡ true = eq-eqb (L.class t) (L.class L.opening) k in rw h refl

  room_other : (n : Option ℕ) (t : T) → (L.class t == L.class L.opening) ≡ false → (L.class t == L.class L.closing) ≡ false → room L n (t ∷ []) ≡ n
  room_other n t h k = rw (h, k) refl

  room_through : (n m k : Option ℕ) (a b w : List T) → w ≡ a ++ b → room L n a ≡ m → room L m b ≡ k → room L n w ≡ k
  room_through n m k a b w e x y = ap (room L n) e ∙ room_append n a b ∙ ap (λ z. room L z b) x ∙ y

  -- a part has room where the whole has
  pub room_part : (n m : ℕ) (a b w : List T) → w ≡ a ++ b → room L (Some n) w ≡ Some m → (k : ℕ) × (room L (Some n) a ≡ Some k) × (room L (Some k) b ≡ Some m)
  room_part n m a b w e h = by (room L (Some n) a) refl (sym (ap (room L (Some n)) e ∙ room_append (Some n) a b) ∙ h)
    where
      by : (z : Option ℕ) → room L (Some n) a ≡ z → room L (room L (Some n) a) b ≡ Some m → (k : ℕ) × (room L (Some n) a ≡ Some k) × (room L (Some k) b ≡ Some m)
      by None i j = let q : None ≡ Some m = sym (room_none b) ∙ sym (ap (λ z. room L z b) i) ∙ j in cc
      by (Some k) i j = (k, i, sym (ap (λ z. room L z b) i) ∙ j)

  -- ---- behind a word there is as much room as before it

  abbrev pub Even : ℕ → List T → Type 0
  Even d w = (n : ℕ) → d ≤ n → room L (Some n) w ≡ Some n

  module _ (d : ℕ) (I : (A : Type 0) → P A → List T → A → Type 0)
      (inner : (A : Type 0) (p : P A) (w : List T) (v : A) → I A p w v → (n : ℕ) → d ≤ n → room L (fewer (Some n)) w ≡ Some n) where
    all_even : {A : Type 0} (Q : List T → A → Type 0) → ((w : List T) (v : A) → Q w v → Even d w) → (vs : List A) (w : List T) → Repeats Q w vs → Even d w
    all_even Q f [] w e n l = ap (room L (Some n)) e
    all_even Q f (v ∷ vs) w (a, b, e, x, y) n l = room_through (Some n) (Some n) (Some n) a b w e (f a v x n l) (all_even Q f vs b y n l)

    even_by : {A : Type 0} (g : Grammar T P A) → paired L g ≡ true → (w : List T) (v : A) → In L I g w v → Even d w
    even_by (tok s) p w v (k, e) n l =
        let x : (L.class v == L.class L.opening) ≡ false = ap (λ z. z == L.class L.opening) k ∙ not-true (L.class s == L.class L.opening) (and_left _ _ p) in
        let y : (L.class v == L.class L.closing) ≡ false = ap (λ z. z == L.class L.closing) k ∙ not-true (L.class s == L.class L.closing) (and_right _ _ p) in
        ap (room L (Some n)) e ∙ room_other (Some n) v x y
    even_by (pure x) p w v (e, s) n l = ap (room L (Some n)) e
    even_by (seq g h) p w v (a, b, e, x, y) n l =
        room_through (Some n) (Some n) (Some n) a b w e (even_by g (and_left _ _ p) a v.0 x n l) (even_by h (and_right _ _ p) b v.1 y n l)
    even_by (map f g) p w v (x, e, y) n l = even_by g p w x y n l
    even_by (alt g h) p w v (inl x) n l = even_by g (and_left _ _ p) w v x n l
    even_by (alt g h) p w v (inr x) n l = even_by h (and_right _ _ p) w v x n l
    even_by (many g) p w v h n l = all_even (In L I g) (even_by g p) v w h n l
    even_by (nested {A} q) p w v (t, a, k, e, x) n l = ap (room L (Some n)) e ∙ room_opened (Some n) t a k ∙ inner A q a v x n l

  module _ (is : IsDecided L) where
    room_closed : (n : ℕ) (t : T) → L.class t ≡ L.class L.closing → room L (Some n) (t ∷ []) ≡ Some (suc n)
    room_closed n t k =
        let h : (L.class t == L.class L.opening) ≡ false = ap (λ z. z == L.class L.opening) k ∙ is.distinct in
        let i : (L.class t == L.class L.closing) ≡ true = eq-eqb (L.class t) (L.class L.closing) k in
        rw (h, i) refl

    uneven : (d : ℕ) (A : Type 0) (p : P A) (w : List T) (v : A) → Nested L d A p w v → (n : ℕ) → d ≤ n → room L (fewer (Some n)) w ≡ Some n
    uneven zero A p w v h n l = absurd h
    uneven (suc d) A p w v h zero l = absurd (omega arith)
    uneven (suc d) A p w v (x, e, (a, b, s, i, (k, f))) (suc n) l =
        room_through (Some n) (Some n) (Some (suc n)) a b w s (even_by d (Nested L d) (uneven d) (L.body A p) (is.pairs A p) a x.0 i n (omega arith))
        (ap (room L (Some n)) f ∙ room_closed n x.1 k)

    pub even : (d : ℕ) {A : Type 0} (g : Grammar T P A) → paired L g ≡ true → (w : List T) (v : A) → In L (Nested L d) g w v → Even d w
    even d g p w v h = even_by d (Nested L d) (uneven d) g p w v h

    -- ---- where the parentheses have room, the word is within the depth

    module _ (I : (A : Type 0) → P A → List T → A → Type 0)
        (inner : (A : Type 0) (p : P A) (w : List T) (v : A) → I A p w v → (n m : ℕ) → room L (fewer (Some n)) w ≡ Some m → Nested L n A p w v) where
      abbrev Lowers : {A : Type 0} → (List T → A → Type 0) → (ℕ → List T → A → Type 0) → Type 0
      Lowers {A = A} Q R = (w : List T) (v : A) → Q w v → (n m : ℕ) → room L (Some n) w ≡ Some m → R n w v

      all_lower : {A : Type 0} (Q : List T → A → Type 0) (R : ℕ → List T → A → Type 0) → Lowers Q R → ((n : ℕ) (w : List T) (v : A) → R n w v → room L (Some n) w ≡ Some n)
          → (vs : List A) (w : List T) → Repeats Q w vs → (n m : ℕ) → room L (Some n) w ≡ Some m → Repeats (R n) w vs
      all_lower Q R f stays [] w h n m r = h
      all_lower Q R f stays (v ∷ vs) w (a, b, e, x, y) n m r =
          let k = room_part n m a b w e r in
          let i : R n a v = f a v x n k.0 k.1 in
          let same : Some n ≡ Some k.0 = sym (stays n a v i) ∙ k.1 in
          (a, b, e, i, all_lower Q R f stays vs b y n m (ap (λ z. room L z b) same ∙ k.2))

      lower_by : {A : Type 0} (g : Grammar T P A) → paired L g ≡ true → Lowers (In L I g) (λ n w v. In L (Nested L n) g w v)
      lower_by (tok s) p w v h n m r = h
      lower_by (pure x) p w v h n m r = h
      lower_by (seq g h) p w v (a, b, e, x, y) n m r =
          let k = room_part n m a b w e r in
          let i : In L (Nested L n) g a v.0 = lower_by g (and_left _ _ p) a v.0 x n k.0 k.1 in
          let same : Some n ≡ Some k.0 = sym (even n g (and_left _ _ p) a v.0 i n (omega arith)) ∙ k.1 in
          (a, b, e, i, lower_by h (and_right _ _ p) b v.1 y n m (ap (λ z. room L z b) same ∙ k.2))
      lower_by (map f g) p w v (x, e, y) n m r = (x, e, lower_by g p w x y n m r)
      lower_by (alt g h) p w v (inl x) n m r = inl (lower_by g (and_left _ _ p) w v x n m r)
      lower_by (alt g h) p w v (inr x) n m r = inr (lower_by h (and_right _ _ p) w v x n m r)
      lower_by (many g) p w v h n m r = all_lower (In L I g) (λ n. In L (Nested L n) g) (lower_by g p) (λ n w v i. even n g p w v i n (omega arith)) v w h n m r
      lower_by (nested {A} q) p w v (t, a, k, e, x) n m r = (t, a, k, e, inner A q a v x n m (sym (ap (room L (Some n)) e ∙ room_opened (Some n) t a k) ∙ r))

    lower_inner : (e : ℕ) (A : Type 0) (p : P A) (w : List T) (v : A) → Nested L e A p w v → (n m : ℕ) → room L (fewer (Some n)) w ≡ Some m → Nested L n A p w v
    lower_inner zero A p w v h n m r = absurd h
    lower_inner (suc e) A p w v h zero m r = let q : None ≡ Some m = sym (room_none w) ∙ r in cc
    lower_inner (suc e) A p w v (x, q, (a, b, s, i, k)) (suc n) m r =
        let j = room_part n m a b w s r in
        (x, q, (a, b, s, lower_by (Nested L e) (lower_inner e) (L.body A p) (is.pairs A p) a x.0 i n j.0 j.1, k))

    pub lower : (e : ℕ) {A : Type 0} (g : Grammar T P A) → paired L g ≡ true → (w : List T) (v : A) → In L (Nested L e) g w v → (n m : ℕ) → room L (Some n) w ≡ Some m → In L (Nested L n) g w v
    lower e g p = lower_by (Nested L e) (lower_inner e) g p

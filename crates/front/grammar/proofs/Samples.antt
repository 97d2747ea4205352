-- Facts of the words of a grammar: which are empty, how they begin, and that each grammar has one.
use Rattle.std.proofs.Common.{◌≡◌, ℕ, zero, suc, inl, inr, Bool, true, false, ◌==◌, if◌then◌else◌, List, [], ◌∷◌, ◌++◌, refl, sym, ◌∙◌, ap, subst}
use Rattle.std.proofs.lemmas.Bool.{eq-eqb, or_left, or_right}
use Rattle.grammar.specs.Grammars.{Grammar, tok, pure, seq, map, alt, many, nested, Language, closed}
use Rattle.grammar.specs.Words.{Repeats, In, Nested}
use Rattle.grammar.specs.Readers.{member, null, first, IsDecided}
use Rattle.grammar.proofs.Tests.{member_left, member_right}

module _ {T : Type 0} where
  both_empty : (a b : List T) → [] ≡ a ++ b → (a ≡ []) × (b ≡ [])
  both_empty [] b h = (refl, sym h)
  both_empty (x ∷ a) b h = cc

  repeats_raise : {A : Type 0} (I J : List T → A → Type 0) → ((w : List T) (v : A) → I w v → J w v) → (vs : List A) (w : List T) → Repeats I w vs → Repeats J w vs
  repeats_raise I J f [] w h = h
  repeats_raise I J f (v ∷ vs) w (a, b, e, x, y) = (a, b, e, f a v x, repeats_raise I J f vs b y)

module _ {T : Type 0} {P : Type 0 → Type 1} (L : Language T P) where
  -- the next token, if there is one, is of these classes
  abbrev pub stops : List ℕ → List T → Bool
  stops classes [] = true
  stops classes (t ∷ ts) = member (L.class t) classes

  pub stops_right : (xs ys : List ℕ) (r : List T) → stops ys r ≡ true → stops (xs ++ ys) r ≡ true
  stops_right xs ys [] h = refl
  stops_right xs ys (t ∷ r) h = member_right (L.class t) xs ys h

  module _ (I : (A : Type 0) → P A → List T → A → Type 0) where
    -- a grammar with an empty word is found to have one
    pub nulls : {A : Type 0} (g : Grammar T P A) (w : List T) (v : A) → w ≡ [] → In L I g w v → null g ≡ true
    nulls (tok s) w v e (k, h) = let x : [] ≡ v ∷ [] = sym e ∙ h in cc
    nulls (pure x) w v e h = refl
    nulls (seq g h) w v e (a, b, s, x, y) =
        let p = both_empty a b (sym e ∙ s) in
        let m : null g ≡ true = nulls g a v.0 p.0 x in
        let n : null h ≡ true = nulls h b v.1 p.1 y in
        rw (m, n) refl
    nulls (map f g) w v e (x, s, y) = nulls g w x e y
    nulls (alt g h) w v e (inl x) = or_left (null g) (null h) (nulls g w v e x)
    nulls (alt g h) w v e (inr x) = or_right (null g) (null h) (nulls h w v e x)
    nulls (many g) w v e h = refl
    nulls (nested p) w v e (t, a, k, s, x) = let y : [] ≡ t ∷ a = sym e ∙ s in cc

    pub starts_all : {A : Type 0} (classes : List ℕ) (Q : List T → A → Type 0) → ((t : T) (w : List T) (v : A) → Q (t ∷ w) v → member (L.class t) classes ≡ true)
        → (t : T) (w : List T) (vs : List A) → Repeats Q (t ∷ w) vs → member (L.class t) classes ≡ true
    starts_all classes Q f t w [] h = cc
    starts_all classes Q f t w (v ∷ vs) ([], b, e, x, y) = starts_all classes Q f t w vs (subst (λ z. Repeats Q z vs) (sym e) y)
    starts_all classes Q f t w (v ∷ vs) (u ∷ a, b, e, x, y) = let s : u ≡ t = cc in subst (λ z. member (L.class z) classes ≡ true) s (f u a v x)

    -- a word begins with one of the first tokens
    pub starts : {A : Type 0} (g : Grammar T P A) (t : T) (w : List T) (v : A) → In L I g (t ∷ w) v → member (L.class t) (first L g) ≡ true
    starts (tok s) t w v (k, e) = let q : v ≡ t = cc in or_left (L.class t == L.class s) false (eq-eqb (L.class t) (L.class s) (ap L.class (sym q) ∙ k))
    starts (pure x) t w v (e, s) = cc
    starts (seq g h) t w v ([], b, e, x, y) =
        let m : null g ≡ true = nulls g [] v.0 refl x in
        let n : member (L.class t) (first L h) ≡ true = starts h t w v.1 (subst (λ z. In L I h z v.1) (sym e) y) in
        member_right (L.class t) (first L g) (if null g then first L h else []) (rw m n)
    starts (seq g h) t w v (u ∷ a, b, e, x, y) =
        let s : u ≡ t = cc in
        member_left (L.class t) (first L g) (if null g then first L h else []) (subst (λ z. member (L.class z) (first L g) ≡ true) s (starts g u a v.0 x))
    starts (map f g) t w v (x, e, y) = starts g t w x y
    starts (alt g h) t w v (inl x) = member_left (L.class t) (first L g) (first L h) (starts g t w v x)
    starts (alt g h) t w v (inr x) = member_right (L.class t) (first L g) (first L h) (starts h t w v x)
    starts (many g) t w v h = starts_all (first L g) (In L I g) (starts g) t w v h
    starts (nested p) t w v (u, a, k, e, x) = let s : u ≡ t = cc in or_left (L.class t == L.class L.opening) false (eq-eqb (L.class t) (L.class L.opening) (ap L.class (sym s) ∙ k))

    -- what may stand behind a word before one of h
    pub follows : {A : Type 0} (h : Grammar T P A) (follow : List ℕ) (b r : List T) (v : A) → In L I h b v → stops follow r ≡ true
        → stops (first L h ++ (if null h then follow else [])) (b ++ r) ≡ true
    follows h follow [] r v i s = let m : null h ≡ true = nulls h [] v refl i in stops_right (first L h) (if null h then follow else []) r (rw m s)
    follows h follow (t ∷ b) r v i s = member_left (L.class t) (first L h) (if null h then follow else []) (starts h t b v i)

  module _ (I J : (A : Type 0) → P A → List T → A → Type 0) (up : (A : Type 0) (p : P A) (w : List T) (v : A) → I A p w v → J A p w v) where
    pub raise : {A : Type 0} (g : Grammar T P A) (w : List T) (v : A) → In L I g w v → In L J g w v
    raise (tok s) w v h = h
    raise (pure x) w v h = h
    raise (seq g h) w v (a, b, e, x, y) = (a, b, e, raise g a v.0 x, raise h b v.1 y)
    raise (map f g) w v (x, e, y) = (x, e, raise g w x y)
    raise (alt g h) w v (inl x) = inl (raise g w v x)
    raise (alt g h) w v (inr x) = inr (raise h w v x)
    raise (many g) w v h = repeats_raise (In L I g) (In L J g) (raise g) v w h
    raise (nested {A} p) w v (t, a, k, e, x) = (t, a, k, e, up A p a v x)

  -- one more parenthesis may be open
  pub up : (d : ℕ) (A : Type 0) (p : P A) (w : List T) (v : A) → Nested L d A p w v → Nested L (suc d) A p w v
  up zero A p w v h = absurd h
  up (suc d) A p w v h = raise (Nested L d) (Nested L (suc d)) (up d) (closed L A p) w v h

  none_up : (d : ℕ) (A : Type 0) (p : P A) (w : List T) (v : A) → Nested L 0 A p w v → Nested L d A p w v
  none_up d A p w v h = absurd h

  module _ (is : IsDecided L) where
    pub record Word (d : ℕ) {A : Type 0} (g : Grammar T P A) : Type 0 where
      pub w : List T
      pub v : A
      pub word : In L (Nested L (suc d)) g w v

    -- what stands behind an opening parenthesis
    pub behind : (d : ℕ) (A : Type 0) (p : P A) → (w : List T) × (v : A) × Nested L (suc d) A p w v
    behind d A p =
        let s = is.sample A p in
        (s.0 ++ L.closing ∷ [], s.1, ((s.1, L.closing), refl, (s.0, L.closing ∷ [], refl, raise (Nested L 0) (Nested L d) (none_up d) (L.body A p) s.0 s.1 s.2, (refl, refl))))

    pub word_of : (d : ℕ) {A : Type 0} (g : Grammar T P A) → Word d g
    word_of d (tok s) = record { w = s ∷ []; v = s; word = (refl, refl) }
    word_of d (pure x) = record { w = []; v = x; word = (refl, refl) }
    word_of d (seq g h) = let a = word_of d g in let b = word_of d h in record { w = a.w ++ b.w; v = (a.v, b.v); word = (a.w, b.w, refl, a.word, b.word) }
    word_of d (map f g) = let a = word_of d g in record { w = a.w; v = f a.v; word = (a.v, refl, a.word) }
    word_of d (alt g h) = let a = word_of d g in record { w = a.w; v = a.v; word = inl a.word }
    word_of d (many g) = record { w = []; v = []; word = refl }
    word_of d (nested {A} p) = let a = behind d A p in record { w = L.opening ∷ a.0; v = a.1; word = (L.opening, a.0, refl, refl, a.2) }

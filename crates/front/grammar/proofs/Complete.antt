-- A word is read whole, wherever what follows it may follow.
use Rattle.std.proofs.Common.{◌≡◌, ℕ, zero, suc, ◌≤◌, inl, inr, Bool, true, false, not, ◌&&◌, ◌==◌, if◌then◌else◌, List, [], ◌∷◌, ◌++◌, length, Ok, refl, sym, ◌∙◌, ap, subst, append_assoc, arith, length-append}
use Rattle.std.proofs.lemmas.Bool.{eq-eqb, cond-true}
use Rattle.std.proofs.lemmas.List.{append-nil}
use Rattle.grammar.specs.Grammars.{Grammar, tok, pure, seq, map, alt, many, nested, Language, closed}
use Rattle.grammar.specs.Words.{Repeats, In, Nested}
use Rattle.grammar.specs.Readers.{◌>>=◌, member, apart, Reader, Reported, null, sees, first, decides, one, repeat, parse, inside, whole, finished, IsDecided}
use Rattle.grammar.proofs.Tests.{and_left, and_right, not_and, member_left, not_member}
use Rattle.grammar.proofs.Samples.{nulls, stops, stops_right, starts, starts_all, follows}

module _ {T : Type 0} {P : Type 0 → Type 1} (L : Language T P) where
  apart_stops : (xs ys : List ℕ) (r : List T) → apart xs ys ≡ true → stops L ys r ≡ true → sees L xs r ≡ false
  apart_stops xs ys [] d h = refl
  apart_stops xs ys (t ∷ r) d h = not_member (L.class t) xs ys d h

  -- what is known of two sides that one token decides between
  record Parted {A : Type 0} (g h : Grammar T P A) (follow : List ℕ) : Type 0 where
    left : decides L follow g ≡ true
    right : decides L follow h ≡ true
    solid : null g ≡ true → ⊥
    away : apart (first L g) (first L h) ≡ true
    empty : null h ≡ true → apart (first L g) follow ≡ true

  parted : {A : Type 0} (g h : Grammar T P A) (follow : List ℕ) → decides L follow (alt g h) ≡ true → Parted g h follow
  parted g h follow d =
      let ending : Bool = if null h then apart (first L g) follow else true in
      let b : (decides L follow h && (not (null g) && (apart (first L g) (first L h) && ending))) ≡ true = and_right (decides L follow g) _ d in
      let c : (not (null g) && (apart (first L g) (first L h) && ending)) ≡ true = and_right (decides L follow h) _ b in
      let e : (apart (first L g) (first L h) && ending) ≡ true = and_right (not (null g)) _ c in
      record {
        left = and_left (decides L follow g) _ d;
        right = and_left (decides L follow h) _ b;
        solid = not_and (null g) (and_left (not (null g)) _ c);
        away = and_left (apart (first L g) (first L h)) _ e;
        empty = λ m. sym (cond-true (null h) (apart (first L g) follow) true m) ∙ and_right (apart (first L g) (first L h)) ending e;
      }

  module _ {E : Type 0} (reported : Reported T E) (R : (A : Type 0) → P A → List T → Reader T E A) (I : (A : Type 0) → P A → List T → A → Type 0)
      (inner : (A : Type 0) (p : P A) (w r : List T) (v : A) → In L I (nested p) w v → parse L reported R (nested p) (w ++ r) ≡ Ok (v, r)) where
    module _ {A : Type 0} (read : Reader T E A) (classes follow : List ℕ) (Q : List T → A → Type 0)
        (begins : (t : T) (w : List T) (v : A) → Q (t ∷ w) v → member (L.class t) classes ≡ true)
        (solid : (v : A) → Q [] v → ⊥) (d : apart classes follow ≡ true)
        (reads : (w r : List T) (v : A) → Q w v → stops L (classes ++ follow) r ≡ true → read (w ++ r) ≡ Ok (v, r)) where
      none : (n : ℕ) (r : List T) → stops L follow r ≡ true → repeat L reported n classes read r ≡ Ok ([], r)
      none zero r s = refl
      none (suc n) r s = let h : sees L classes r ≡ false = apart_stops classes follow r d s in rw h refl

      next : (b r : List T) (vs : List A) → Repeats Q b vs → stops L follow r ≡ true → stops L (classes ++ follow) (b ++ r) ≡ true
      next [] r vs i s = stops_right L classes follow r s
      next (t ∷ b) r vs i s = member_left (L.class t) classes follow (starts_all L I classes Q begins t b vs i)

      -- the fuel is enough, since each turn takes a token
      all : (n : ℕ) (w r : List T) (vs : List A) → Repeats Q w vs → stops L follow r ≡ true → length (w ++ r) ≤ n → repeat L reported n classes read (w ++ r) ≡ Ok (vs, r)
      all n w r [] e s l = subst (λ z. repeat L reported n classes read (z ++ r) ≡ Ok ([], r)) (sym e) (none n r s)
      all n w r (v ∷ vs) ([], b, e, x, y) s l = absurd (solid v x)
      all zero w r (v ∷ vs) (t ∷ a, b, e, x, y) s l = let q : length (((t ∷ a) ++ b) ++ r) ≤ 0 = subst (λ z. length (z ++ r) ≤ 0) e l in absurd (omega arith)
      all (suc n) w r (v ∷ vs) (t ∷ a, b, e, x, y) s l =
          let q : length (((t ∷ a) ++ b) ++ r) ≤ suc n = subst (λ z. length (z ++ r) ≤ suc n) e l in
          let c : length (b ++ r) ≤ n = simp length-append (let k = simp length-append at q in omega arith) in
          let h : member (L.class t) classes ≡ true = begins t a v x in
          let f : read ((t ∷ a) ++ (b ++ r)) ≡ Ok (v, b ++ r) = reads (t ∷ a) (b ++ r) v x (next b r vs y s) in
          let k : repeat L reported n classes read (b ++ r) ≡ Ok (vs, r) = all n b r vs y s c in
          let turn : repeat L reported (suc n) classes read ((t ∷ a) ++ (b ++ r)) ≡ Ok (v ∷ vs, r) =
          rw h (ap (λ z. z >>= λ x. (repeat L reported n classes read x.1 >>= λ y. Ok (x.0 ∷ y.0, y.1))) f ∙ ap (λ z. z >>= λ y. Ok (v ∷ y.0, y.1)) k) in
          subst (λ z. repeat L reported (suc n) classes read (z ++ r) ≡ Ok (v ∷ vs, r)) (sym e) (rw append_assoc turn)

    pub complete : {A : Type 0} (g : Grammar T P A) (follow : List ℕ) → decides L follow g ≡ true → (w r : List T) (v : A) → In L I g w v → stops L follow r ≡ true
        → parse L reported R g (w ++ r) ≡ Ok (v, r)
    complete (tok s) follow d w r v (k, e) stop =
        let q : (L.class v == L.class s) ≡ true = eq-eqb (L.class v) (L.class s) k in
        subst (λ z. one L reported (L.class s) (z ++ r) ≡ Ok (v, r)) (sym e) (rw q refl)
    complete (pure x) follow d w r v (e, f) stop = rw (e, f) refl
    complete (seq g h) follow d w r v (a, b, e, x, y) stop =
        let f : parse L reported R g (a ++ (b ++ r)) ≡ Ok (v.0, b ++ r) =
        complete g (first L h ++ (if null h then follow else [])) (and_left _ _ d) a (b ++ r) v.0 x (follows L I h follow b r v.1 y stop) in
        let k : parse L reported R h (b ++ r) ≡ Ok (v.1, r) = complete h follow (and_right _ _ d) b r v.1 y stop in
        let both : parse L reported R (seq g h) (a ++ (b ++ r)) ≡ Ok ((v.0, v.1), r) =
        ap (λ z. z >>= λ x. (parse L reported R h x.1 >>= λ y. Ok ((x.0, y.0), y.1))) f ∙ ap (λ z. z >>= λ y. Ok ((v.0, y.0), y.1)) k in
        subst (λ z. parse L reported R (seq g h) (z ++ r) ≡ Ok (v, r)) (sym e) (rw append_assoc both)
    complete (map f g) follow d w r v (x, e, y) stop =
        ap (λ z. z >>= λ x. Ok (f x.0, x.1)) (complete g follow d w r x y stop) ∙ ap (λ z. Ok (z, r)) (sym e)
    complete (alt g h) follow d [] r v (inl x) stop = absurd ((parted g h follow d).solid (nulls L I g [] v refl x))
    complete (alt g h) follow d (t ∷ w) r v (inl x) stop =
        let b : member (L.class t) (first L g) ≡ true = starts L I g t w v x in
        rw b (complete g follow (parted g h follow d).left (t ∷ w) r v x stop)
    complete (alt g h) follow d [] r v (inr x) stop =
        let b : sees L (first L g) r ≡ false = apart_stops (first L g) follow r ((parted g h follow d).empty (nulls L I h [] v refl x)) stop in
        rw b (complete h follow (parted g h follow d).right [] r v x stop)
    complete (alt g h) follow d (t ∷ w) r v (inr x) stop =
        let b : member (L.class t) (first L g) ≡ false = not_member (L.class t) (first L g) (first L h) (parted g h follow d).away (starts L I h t w v x) in
        rw b (complete h follow (parted g h follow d).right (t ∷ w) r v x stop)
    complete (many g) follow d w r v i stop =
        all (parse L reported R g) (first L g) follow (In L I g) (starts L I g)
        (λ v i. not_and (null g) (and_left _ _ (and_right _ _ d)) (nulls L I g [] v refl i)) (and_right _ _ (and_right _ _ d))
        (complete g (first L g ++ follow) (and_left _ _ d)) (length (w ++ r)) w r v i stop (omega arith)
    complete (nested {A} p) follow d w r v i stop = inner A p w r v i

  module _ {E : Type 0} (reported : Reported T E) (is : IsDecided L) where
    -- What stands in parentheses ends with one, so anything may follow.
    pub closed_decides : (follow : List ℕ) (A : Type 0) (p : P A) → decides L follow (closed L A p) ≡ true
    closed_decides follow A p = let h = is.decided A p in rw h refl

    any_class : List T → List ℕ
    any_class [] = []
    any_class (t ∷ ts) = L.class t ∷ []

    stops_there : (r : List T) → stops L (any_class r) r ≡ true
    unfolding any_class
    stops_there [] = refl
    stops_there (t ∷ r) = let h : (L.class t == L.class t) ≡ true = eq-eqb (L.class t) (L.class t) refl in rw h refl

    nested_complete : (d : ℕ) (A : Type 0) (p : P A) (w r : List T) (v : A) → In L (Nested L d) (nested p) w v → parse L reported (inside L reported d) (nested p) (w ++ r) ≡ Ok (v, r)
    nested_complete zero A p w r v (t, a, k, e, x) = absurd x
    nested_complete (suc d) A p w r v (t, a, k, e, x) =
        let h : (L.class t == L.class L.opening) ≡ true = eq-eqb (L.class t) (L.class L.opening) k in
        let f : parse L reported (inside L reported d) (closed L A p) (a ++ r) ≡ Ok (v, r) =
        complete reported (inside L reported d) (Nested L d) (nested_complete d) (closed L A p) (any_class r) (closed_decides (any_class r) A p) a r v x (stops_there r) in
        subst (λ z. parse L reported (inside L reported (suc d)) (nested p) (z ++ r) ≡ Ok (v, r)) (sym e) (rw h f)

    -- a word within a depth is read whole
    pub whole_complete : {A : Type 0} (g : Grammar T P A) → decides L [] g ≡ true → (d : ℕ) (w : List T) (v : A) → In L (Nested L d) g w v → whole L reported d g w ≡ Ok v
    whole_complete g dec d w v h =
        let f : parse L reported (inside L reported d) g (w ++ []) ≡ Ok (v, []) = complete reported (inside L reported d) (Nested L d) (nested_complete d) g [] dec w [] v h refl in
        let k : parse L reported (inside L reported d) g w ≡ Ok (v, []) = rw append-nil at f in
        ap (λ z. z >>= finished L reported) k

-- What the reader of each grammar reports, by the grammar's constructs.
use Rattle.std.proofs.Common.{◌≡◌, ℕ, zero, suc, ◌≤◌, inl, inr, Bool, true, false, ◌==◌, if◌then◌else◌, List, [], ◌∷◌, ◌++◌, length, Some, Result, Ok, Err, refl, sym, ◌∙◌, ap, subst, append_assoc, arith, length-append}
use Rattle.std.proofs.lemmas.Bool.{eqb-true}
use Rattle.std.proofs.lemmas.List.{append-nil}
use Rattle.grammar.specs.Grammars.{Grammar, tok, pure, seq, map, alt, many, nested, Language, closed}
use Rattle.grammar.specs.Words.{Repeats, In, Nested}
use Rattle.grammar.specs.Readers.{◌>>=◌, null, sees, first, decides, paired, one, repeat, parse, inside, IsDecided}
use Rattle.grammar.specs.Faults.{Fault, Unexpected, room}
use Rattle.grammar.proofs.Tests.{and_left, and_right, not_and}
use Rattle.grammar.proofs.Samples.{nulls, raise, up, word_of, behind}
use Rattle.grammar.proofs.Rooms.{room_append, room_opened, even}
use Rattle.grammar.proofs.Outcomes.{Alike, alike_split, sees_alike, Read, Law, stop_behind}
use Rattle.grammar.proofs.Reporting.{plain}

module _ {T : Type 0} {P : Type 0 → Type 1} (L : Language T P) where
  -- the reader with so much room, at these tokens
  abbrev pub By : ℕ → {A : Type 0} → Grammar T P A → List T → Result (A × List T) (Fault T) → Type 0
  By e g ts z = parse L plain (inside L plain e) g ts ≡ z

  -- Read with room d; a fault there is reported with room e as well.
  abbrev pub LawOf : ℕ → ℕ → {A : Type 0} → Grammar T P A → List T → Result (A × List T) (Fault T) → Type 0
  LawOf d e g ts z = Law L (By e g) (In L (Nested L d) g) (In L (Nested L (suc d)) g) d ts z

  module _ (is : IsDecided L) (d e : ℕ) where
    one_alike : (class : ℕ) (ts : List T) → ((s : List T) → Alike ts s → one L plain class s ≡ Err (Unexpected s)) → (s : T) → L.class s ≡ class → LawOf d e (tok s) ts (Err (Unexpected ts))
    one_alike class ts f s k = record {
      w = [];
      more = s ∷ [];
      tree = s;
      split = refl;
      begins = (refl, refl);
      known = ((d, refl), λ r h. subst (λ c. one L plain c r ≡ Err (Unexpected r)) (sym k) (f r h));
    }

    pub at_end : (class : ℕ) (s : List T) → Alike [] s → one L plain class s ≡ Err (Unexpected s)
    at_end class [] h = refl
    at_end class (u ∷ s) h = absurd h

    pub at_other : (class : ℕ) (t : T) (ts : List T) → (L.class t == class) ≡ false → (s : List T) → Alike (t ∷ ts) s → one L plain class s ≡ Err (Unexpected s)
    at_other class t ts h [] i = absurd i
    at_other class t ts h (u ∷ s) i = let x : (L.class u == class) ≡ false = ap (λ z. L.class z == class) (sym i) ∙ h in rw x refl

    one_law : (s t : T) (ts : List T) (b : Bool) → (L.class t == L.class s) ≡ b → LawOf d e (tok s) (t ∷ ts) (if b then Ok (t, ts) else Err (Unexpected (t ∷ ts)))
    one_law s t ts true h = record { w = t ∷ []; split = refl; word = (eqb-true (L.class t) (L.class s) h, refl); again = λ r i. rw h refl }
    one_law s t ts false h = one_alike (L.class s) (t ∷ ts) (at_other (L.class s) t ts h) s refl

    token_law : (s : T) (ts : List T) → LawOf d e (tok s) ts (one L plain (L.class s) ts)
    token_law s [] = one_alike (L.class s) [] (at_end (L.class s)) s refl
    token_law s (t ∷ ts) = one_law s t ts (L.class t == L.class s) refl

    map_law : {A B : Type 0} (f : A → B) (g : Grammar T P A) (ts : List T) (z : Result (A × List T) (Fault T)) → LawOf d e g ts z → LawOf d e (map f g) ts (z >>= λ x. Ok (f x.0, x.1))
    map_law f g ts (Ok x) o = record { w = o.w; split = o.split; word = (x.0, refl, o.word); again = λ s h. ap (λ y. y >>= λ x. Ok (f x.0, x.1)) (o.again s h) }
    map_law f g ts (Err k) o =
        stop_behind L (By e g) (In L (Nested L (suc d)) g) d (By e (map f g)) (In L (Nested L (suc d)) (map f g)) d [] ts ts f (λ m. m) refl (λ t c. refl) (λ u. refl)
        (λ w more v h. (v, refl, h)) (λ w r s q h i. ap (λ y. y >>= λ x. Ok (f x.0, x.1)) i) k o

    -- a word takes no room
    no_room : {A : Type 0} (g : Grammar T P A) → paired L g ≡ true → (w : List T) (v : A) → In L (Nested L d) g w v → (u : List T) → room L (Some d) (w ++ u) ≡ room L (Some d) u
    no_room g p w v h u = room_append L (Some d) w u ∙ ap (λ z. room L z u) (even L is d g p w v h d (omega arith))

    higher : {A : Type 0} (g : Grammar T P A) (w : List T) (v : A) → In L (Nested L d) g w v → In L (Nested L (suc d)) g w v
    higher g w v h = raise L (Nested L d) (Nested L (suc d)) (up L d) g w v h

    module _ {A B : Type 0} (g : Grammar T P A) (h : Grammar T P B) where
      abbrev both : Result (A × List T) (Fault T) → Result ((A × B) × List T) (Fault T)
      both z = z >>= λ x. (parse L plain (inside L plain e) h x.1 >>= λ y. Ok ((x.0, y.0), y.1))

      second : (ts : List T) (x : A × List T) → Read (By e g) (In L (Nested L d) g) ts x.0 x.1 → paired L g ≡ true
          → (y : Result (B × List T) (Fault T)) → LawOf d e h x.1 y → LawOf d e (seq g h) ts (y >>= λ y. Ok ((x.0, y.0), y.1))
      second ts x o p (Ok y) k = record {
        w = o.w ++ k.w;
        split = o.split ∙ ap (λ z. o.w ++ z) k.split ∙ sym (append_assoc o.w k.w y.1);
        word = (o.w, k.w, refl, o.word, k.word);
        again = λ s i. rw append_assoc (ap both (o.again (k.w ++ s) (alike_split x.1 k.w y.1 s k.split i)) ∙ ap (λ z. z >>= λ y. Ok ((x.0, y.0), y.1)) (k.again s i));
      }
      second ts x o p (Err f) k =
          stop_behind L (By e h) (In L (Nested L (suc d)) h) d (By e (seq g h)) (In L (Nested L (suc d)) (seq g h)) d o.w x.1 ts (λ v. (x.0, v)) (λ m. m)
          o.split (λ t c. refl) (no_room g p o.w x.0 o.word)
          (λ w more v i. (o.w, w ++ more, refl, higher g o.w x.0 o.word, i))
          (λ w r s q i j. ap both (o.again (w ++ s) (alike_split x.1 w r s q i)) ∙ ap (λ z. z >>= λ y. Ok ((x.0, y.0), y.1)) j) f k

      seq_law : (ts : List T) (z : Result (A × List T) (Fault T)) → LawOf d e g ts z → paired L g ≡ true → ((us : List T) → LawOf d e h us (parse L plain (inside L plain d) h us))
          → LawOf d e (seq g h) ts (z >>= λ x. (parse L plain (inside L plain d) h x.1 >>= λ y. Ok ((x.0, y.0), y.1)))
      seq_law ts (Ok x) o p k = second ts x o p (parse L plain (inside L plain d) h x.1) (k x.1)
      seq_law ts (Err f) o p k =
          let b = word_of L is d h in
          stop_behind L (By e g) (In L (Nested L (suc d)) g) d (By e (seq g h)) (In L (Nested L (suc d)) (seq g h)) d [] ts ts (λ v. (v, b.v)) (λ m. m ++ b.w)
          refl (λ t c. refl) (λ u. refl) (λ w more v i. (w ++ more, b.w, sym (append_assoc w more b.w), i, b.word)) (λ w r s q i j. ap both j) f o

    module _ {A : Type 0} (g h : Grammar T P A) where
      left_law : (ts : List T) → sees L (first L g) ts ≡ true → (z : Result (A × List T) (Fault T)) → LawOf d e g ts z → LawOf d e (alt g h) ts z
      left_law ts b (Ok x) o = record {
        w = o.w;
        split = o.split;
        word = inl o.word;
        again = λ s i. let c : sees L (first L g) (o.w ++ s) ≡ true = sees_alike L (first L g) ts (o.w ++ s) (alike_split ts o.w x.1 s o.split i) ∙ b in rw c (o.again s i);
      }
      left_law ts b (Err f) o =
          stop_behind L (By e g) (In L (Nested L (suc d)) g) d (By e (alt g h)) (In L (Nested L (suc d)) (alt g h)) d [] ts ts (λ v. v) (λ m. m)
          refl (λ t c. refl) (λ u. refl) (λ w more v i. inl i)
          (λ w r s q i j. let c : sees L (first L g) (w ++ s) ≡ true = sees_alike L (first L g) ts (w ++ s) (alike_split ts w r s q i) ∙ b in rw c j) f o

      right_law : (ts : List T) → sees L (first L g) ts ≡ false → (z : Result (A × List T) (Fault T)) → LawOf d e h ts z → LawOf d e (alt g h) ts z
      right_law ts b (Ok x) o = record {
        w = o.w;
        split = o.split;
        word = inr o.word;
        again = λ s i. let c : sees L (first L g) (o.w ++ s) ≡ false = sees_alike L (first L g) ts (o.w ++ s) (alike_split ts o.w x.1 s o.split i) ∙ b in rw c (o.again s i);
      }
      right_law ts b (Err f) o =
          stop_behind L (By e h) (In L (Nested L (suc d)) h) d (By e (alt g h)) (In L (Nested L (suc d)) (alt g h)) d [] ts ts (λ v. v) (λ m. m)
          refl (λ t c. refl) (λ u. refl) (λ w more v i. inr i)
          (λ w r s q i j. let c : sees L (first L g) (w ++ s) ≡ false = sees_alike L (first L g) ts (w ++ s) (alike_split ts w r s q i) ∙ b in rw c j) f o

      alt_law : (ts : List T) (b : Bool) → sees L (first L g) ts ≡ b → LawOf d e g ts (parse L plain (inside L plain d) g ts) → LawOf d e h ts (parse L plain (inside L plain d) h ts)
          → LawOf d e (alt g h) ts (if b then parse L plain (inside L plain d) g ts else parse L plain (inside L plain d) h ts)
      alt_law ts true b x y = left_law ts b (parse L plain (inside L plain d) g ts) x
      alt_law ts false b x y = right_law ts b (parse L plain (inside L plain d) h ts) y

    -- ---- repetition

    module _ {A : Type 0} (g : Grammar T P A) (p : paired L g ≡ true) (solid : null g ≡ true → ⊥)
        (law : (ts : List T) → LawOf d e g ts (parse L plain (inside L plain d) g ts)) where
      abbrev again_by : ℕ → List T → Result (List A × List T) (Fault T)
      again_by m ts = repeat L plain m (first L g) (parse L plain (inside L plain e) g) ts

      -- reported by as many turns as there are tokens, or more
      abbrev Enough : List T → Result (List A × List T) (Fault T) → Type 0
      Enough ts z = (m : ℕ) → length ts ≤ m → again_by m ts ≡ z

      abbrev LawAll : List T → Result (List A × List T) (Fault T) → Type 0
      LawAll ts z = Law L Enough (Repeats (In L (Nested L d) g)) (Repeats (In L (Nested L (suc d)) g)) d ts z

      abbrev in_front : A → Result (List A × List T) (Fault T) → Result (List A × List T) (Fault T)
      in_front v z = z >>= λ y. Ok (v ∷ y.0, y.1)

      halt : (m : ℕ) (ts : List T) → sees L (first L g) ts ≡ false → again_by m ts ≡ Ok ([], ts)
      halt zero ts h = refl
      halt (suc m) ts h = rw h refl

      turn : (m : ℕ) (ts : List T) → sees L (first L g) ts ≡ true → again_by (suc m) ts ≡ (parse L plain (inside L plain e) g ts >>= λ x. in_front x.0 (again_by m x.1))
      turn m ts h = rw h refl

      turn_err : (m : ℕ) (u : List T) (f : Fault T) → sees L (first L g) u ≡ true → length u ≤ m → parse L plain (inside L plain e) g u ≡ Err f → again_by m u ≡ Err f
      turn_err m [] f h b i = cc
      turn_err zero (t ∷ u) f h b i = absurd (omega arith)
      turn_err (suc m) (t ∷ u) f h b i = turn m (t ∷ u) h ∙ ap (λ z. z >>= λ x. in_front x.0 (again_by m x.1)) i

      shorter : (n : ℕ) (ts w r : List T) (v : A) → In L (Nested L d) g w v → ts ≡ w ++ r → length ts ≤ suc n → length r ≤ n
      shorter n ts [] r v i q b = absurd (solid (nulls L (Nested L d) g [] v refl i))
      shorter n ts (t ∷ w) r v i q b = let l = simp length-append at (ap length q) in omega arith

      -- one more of them, and then the others
      turn_ok : (m : ℕ) (w u : List T) (v : A) (z : Result (List A × List T) (Fault T)) → In L (Nested L d) g w v → sees L (first L g) (w ++ u) ≡ true → length (w ++ u) ≤ m
          → parse L plain (inside L plain e) g (w ++ u) ≡ Ok (v, u) → Enough u z → again_by m (w ++ u) ≡ in_front v z
      turn_ok m [] u v z i h b j k = absurd (solid (nulls L (Nested L d) g [] v refl i))
      turn_ok zero (t ∷ w) u v z i h b j k = absurd (omega arith)
      turn_ok (suc m) (t ∷ w) u v z i h b j k =
          let c : length u ≤ m = shorter m ((t ∷ w) ++ u) (t ∷ w) u v i refl b in
          turn m ((t ∷ w) ++ u) h ∙ ap (λ y. y >>= λ x. in_front x.0 (again_by m x.1)) j ∙ ap (in_front v) (k m c)

      with_more : (ts : List T) (x : A × List T) (o : Read (By e g) (In L (Nested L d) g) ts x.0 x.1) → sees L (first L g) ts ≡ true
          → (u : List T) → Alike x.1 u → (z : Result (List A × List T) (Fault T)) → Enough u z → Enough (o.w ++ u) (in_front x.0 z)
      with_more ts x o h u i z k m b =
          let head : sees L (first L g) (o.w ++ u) ≡ true = sees_alike L (first L g) ts (o.w ++ u) (alike_split ts o.w x.1 u o.split i) ∙ h in
          turn_ok m o.w u x.0 z o.word head b (o.again u i) k

      others : (ts : List T) → sees L (first L g) ts ≡ true → (x : A × List T) → Read (By e g) (In L (Nested L d) g) ts x.0 x.1
          → (y : Result (List A × List T) (Fault T)) → LawAll x.1 y → LawAll ts (in_front x.0 y)
      others ts h x o (Ok y) k = record {
        w = o.w ++ k.w;
        split = o.split ∙ ap (λ z. o.w ++ z) k.split ∙ sym (append_assoc o.w k.w y.1);
        word = (o.w, k.w, refl, o.word, k.word);
        again = λ s i. rw append_assoc (with_more ts x o h (k.w ++ s) (alike_split x.1 k.w y.1 s k.split i) (Ok (y.0, s)) (k.again s i));
      }
      others ts h x o (Err f) k =
          stop_behind L Enough (Repeats (In L (Nested L (suc d)) g)) d Enough (Repeats (In L (Nested L (suc d)) g)) d o.w x.1 ts (λ vs. x.0 ∷ vs) (λ m. m)
          o.split (λ t c. refl) (no_room g p o.w x.0 o.word)
          (λ w more vs i. (o.w, w ++ more, refl, higher g o.w x.0 o.word, i))
          (λ w r s q i j. with_more ts x o h (w ++ s) (alike_split x.1 w r s q i) (Err (Unexpected s)) j) f k

      items : (n : ℕ) (ts : List T) → length ts ≤ suc n → sees L (first L g) ts ≡ true
          → ((us : List T) → length us ≤ n → LawAll us (repeat L plain n (first L g) (parse L plain (inside L plain d) g) us))
          → (z : Result (A × List T) (Fault T)) → LawOf d e g ts z
          → LawAll ts (z >>= λ x. in_front x.0 (repeat L plain n (first L g) (parse L plain (inside L plain d) g) x.1))
      items n ts b h f (Ok x) o = others ts h x o (repeat L plain n (first L g) (parse L plain (inside L plain d) g) x.1) (f x.1 (shorter n ts o.w x.1 x.0 o.word o.split b))
      items n ts b h f (Err k) o =
          stop_behind L (By e g) (In L (Nested L (suc d)) g) d Enough (Repeats (In L (Nested L (suc d)) g)) d [] ts ts (λ v. v ∷ []) (λ m. m)
          refl (λ t c. refl) (λ u. refl) (λ w more v i. (w ++ more, [], sym (append-nil (w ++ more)), i, refl))
          (λ w r s q i j m c. turn_err m (w ++ s) (Unexpected s) (sees_alike L (first L g) ts (w ++ s) (alike_split ts w r s q i) ∙ h) c j) k o

      none : (ts : List T) → sees L (first L g) ts ≡ false → LawAll ts (Ok ([], ts))
      none ts h = record { w = []; split = refl; word = refl; again = λ s i m c. halt m s (sees_alike L (first L g) ts s i ∙ h) }

      step : (n : ℕ) (ts : List T) → length ts ≤ suc n
          → ((us : List T) → length us ≤ n → LawAll us (repeat L plain n (first L g) (parse L plain (inside L plain d) g) us))
          → (b : Bool) → sees L (first L g) ts ≡ b
          → LawAll ts (if b then (parse L plain (inside L plain d) g ts >>= λ x. in_front x.0 (repeat L plain n (first L g) (parse L plain (inside L plain d) g) x.1)) else Ok ([], ts))
      step n ts c f true h = items n ts c h f (parse L plain (inside L plain d) g ts) (law ts)
      step n ts c f false h = none ts h

      repeat_law : (n : ℕ) (ts : List T) → length ts ≤ n → LawAll ts (repeat L plain n (first L g) (parse L plain (inside L plain d) g) ts)
      repeat_law zero [] h = none [] refl
      repeat_law zero (t ∷ ts) h = absurd (omega arith)
      repeat_law (suc n) ts h = step n ts h (repeat_law n) (sees L (first L g) ts) refl

      many_by : (ts : List T) (z : Result (List A × List T) (Fault T)) → LawAll ts z → LawOf d e (many g) ts z
      many_by ts (Ok x) o = record { w = o.w; split = o.split; word = o.word; again = λ s i. o.again s i (length (o.w ++ s)) (omega arith) }
      many_by ts (Err f) o =
          stop_behind L Enough (Repeats (In L (Nested L (suc d)) g)) d (By e (many g)) (Repeats (In L (Nested L (suc d)) g)) d [] ts ts (λ v. v) (λ m. m)
          refl (λ t c. refl) (λ u. refl) (λ w more v i. i) (λ w r s q i j. j (length (w ++ s)) (omega arith)) f o

      many_law : (ts : List T) → LawOf d e (many g) ts (parse L plain (inside L plain d) (many g) ts)
      many_law ts = many_by ts (parse L plain (inside L plain d) (many g) ts) (repeat_law (length ts) ts (omega arith))

    module _ (inner : (A : Type 0) (p : P A) (ts : List T) → LawOf d e (nested p) ts (parse L plain (inside L plain d) (nested p) ts)) where
      pub law : {A : Type 0} (g : Grammar T P A) (follow : List ℕ) → decides L follow g ≡ true → paired L g ≡ true → (ts : List T) → LawOf d e g ts (parse L plain (inside L plain d) g ts)
      law (tok s) follow c p ts = token_law s ts
      law (pure x) follow c p ts = record { w = []; split = refl; word = (refl, refl); again = λ s i. refl }
      law (seq g h) follow c p ts =
          seq_law g h ts (parse L plain (inside L plain d) g ts) (law g (first L h ++ (if null h then follow else [])) (and_left _ _ c) (and_left _ _ p) ts)
          (and_left _ _ p) (law h follow (and_right _ _ c) (and_right _ _ p))
      law (map f g) follow c p ts = map_law f g ts (parse L plain (inside L plain d) g ts) (law g follow c p ts)
      law (alt g h) follow c p ts =
          alt_law g h ts (sees L (first L g) ts) refl (law g follow (and_left _ _ c) (and_left _ _ p) ts) (law h follow (and_left _ _ (and_right _ _ c)) (and_right _ _ p) ts)
      law (many g) follow c p ts = many_law g p (not_and (null g) (and_left _ _ (and_right _ _ c))) (law g (first L g ++ follow) (and_left _ _ c) p) ts
      law (nested {A} q) follow c p ts = inner A q ts

      -- the closing parenthesis has no pair behind the opening one
      pub closed_law : (A : Type 0) (p : P A) (ts : List T) → LawOf d e (closed L A p) ts (parse L plain (inside L plain d) (closed L A p) ts)
      closed_law A p ts =
          map_law (λ x. x.0) (seq (L.body A p) (tok L.closing)) ts (parse L plain (inside L plain d) (seq (L.body A p) (tok L.closing)) ts)
          (seq_law (L.body A p) (tok L.closing) ts (parse L plain (inside L plain d) (L.body A p) ts) (law (L.body A p) (L.class L.closing ∷ []) (is.decided A p) (is.pairs A p) ts)
          (is.pairs A p) (token_law L.closing))

  -- ---- between parentheses

  module _ (is : IsDecided L) where
    abbrev Outer : ℕ → ℕ → (A : Type 0) → P A → List T → Result (A × List T) (Fault T) → Type 0
    Outer d e A p ts z = LawOf d e (nested p) ts z

    not_opened : (d e : ℕ) (A : Type 0) (p : P A) (ts : List T) → ((s : List T) → Alike ts s → one L plain (L.class L.opening) s ≡ Err (Unexpected s)) → Outer d e A p ts (Err (Unexpected ts))
    not_opened d e A p ts f = let a = behind L is d A p in record {
      w = [];
      more = L.opening ∷ a.0;
      tree = a.1;
      split = refl;
      begins = (L.opening, a.0, refl, refl, a.2);
      known = ((d, refl), λ s i. ap (λ z. z >>= λ x. inside L plain e A p s x.1) (f s i));
    }

    opened : (d e : ℕ) (A : Type 0) (p : P A) (t : T) (ts : List T) → (L.class t == L.class L.opening) ≡ true → (z : Result (A × List T) (Fault T))
        → LawOf d e (closed L A p) ts z → Outer (suc d) (suc e) A p (t ∷ ts) z
    opened d e A p t ts h (Ok x) o = record {
      w = t ∷ o.w;
      split = ap (λ z. t ∷ z) o.split;
      word = (t, o.w, eqb-true (L.class t) (L.class L.opening) h, refl, o.word);
      again = λ s i. rw h (o.again s i);
    }
    opened d e A p t ts h (Err f) o =
        stop_behind L (By e (closed L A p)) (In L (Nested L (suc d)) (closed L A p)) d (By (suc e) (nested p)) (In L (Nested L (suc (suc d))) (nested p)) (suc d) (t ∷ []) ts (t ∷ ts) (λ v. v) (λ m. m)
        refl (λ t c. refl) (λ u. room_opened L (Some (suc d)) t u (eqb-true (L.class t) (L.class L.opening) h))
        (λ w more v i. (t, w ++ more, eqb-true (L.class t) (L.class L.opening) h, refl, i)) (λ w r s q i j. rw h j) f o

    abbrev token_or : Bool → T → List T → Result (T × List T) (Fault T)
    token_or b t ts = if b then Ok (t, ts) else Err (Unexpected (t ∷ ts))

    -- no room: the parenthesis is one too many
    full_law : (e : ℕ) (A : Type 0) (p : P A) (t : T) (ts : List T) (b : Bool) → (L.class t == L.class L.opening) ≡ b
        → Outer zero e A p (t ∷ ts) (token_or b t ts >>= λ x. inside L plain zero A p (t ∷ ts) x.1)
    full_law e A p t ts false h = not_opened zero e A p (t ∷ ts) (at_other is zero e (L.class L.opening) t ts h)
    full_law e A p t ts true h = let a = behind L is zero A p in let k = eqb-true (L.class t) (L.class L.opening) h in record {
      w = [];
      more = t ∷ a.0;
      tree = a.1;
      split = refl;
      begins = (t, a.0, k, refl, a.2);
      known = (t, ts, a.0, refl, refl, k, refl);
    }

    room_law : (d e : ℕ) → ((A : Type 0) (p : P A) (ts : List T) → Outer d e A p ts (parse L plain (inside L plain d) (nested p) ts))
        → (A : Type 0) (p : P A) (t : T) (ts : List T) (b : Bool) → (L.class t == L.class L.opening) ≡ b
        → Outer (suc d) (suc e) A p (t ∷ ts) (token_or b t ts >>= λ x. inside L plain (suc d) A p (t ∷ ts) x.1)
    room_law d e f A p t ts false h = not_opened (suc d) (suc e) A p (t ∷ ts) (at_other is d e (L.class L.opening) t ts h)
    room_law d e f A p t ts true h = opened d e A p t ts h (parse L plain (inside L plain d) (closed L A p) ts) (closed_law is d e f A p ts)

    nested_law : (d e : ℕ) → d ≤ e → (A : Type 0) (p : P A) (ts : List T) → Outer d e A p ts (parse L plain (inside L plain d) (nested p) ts)
    nested_law d e l A p [] = not_opened d e A p [] (at_end is d e (L.class L.opening))
    nested_law zero e l A p (t ∷ ts) = full_law e A p t ts (L.class t == L.class L.opening) refl
    nested_law (suc d) zero l A p (t ∷ ts) = absurd (omega arith)
    nested_law (suc d) (suc e) l A p (t ∷ ts) = room_law d e (nested_law d e (omega arith)) A p t ts (L.class t == L.class L.opening) refl

    -- what the reader with room d reports, any reader with more room reports too
    pub law_at : (d e : ℕ) → d ≤ e → {A : Type 0} (g : Grammar T P A) (follow : List ℕ) → decides L follow g ≡ true → paired L g ≡ true
        → (ts : List T) → LawOf d e g ts (parse L plain (inside L plain d) g ts)
    law_at d e l g follow c p ts = law is d e (nested_law d e l) g follow c p ts

-- A list that is read turn by turn, as a loop does it.
use Rattle.std.proofs.Common.{◌≡◌, ℕ, zero, suc, ◌-◌, ◌≤◌, ◌<◌, true, false, List, [], ◌∷◌, ◌++◌, length, Result, Ok, Err, refl, sym, ◌∙◌, ap, subst, append_assoc, arith, length-append}
use Rattle.grammar.specs.Grammars.{Grammar, many, Language, closed}
use Rattle.grammar.specs.Words.{In, Nested}
use Rattle.grammar.specs.Readers.{◌>>=◌, Reader, Reported, null, sees, first, decides, paired, repeat, parse, inside, with_front, IsDecided}
use Rattle.grammar.specs.Faults.{Fault}
use Rattle.grammar.proofs.Tests.{and_left, and_right, not_and}
use Rattle.grammar.proofs.Samples.{nulls}
use Rattle.grammar.proofs.Laws.{LawOf, law_at}
use Rattle.grammar.proofs.Reporting.{plain, reported_again, parse_reported}

module _ {T : Type 0} {P : Type 0 → Type 1} (L : Language T P) where
  -- one parenthesis opened
  pub inside_opened : {E : Type 0} (reported : Reported T E) (d : ℕ) (A : Type 0) (p : P A) (from ts : List T) → 0 < d
      → inside L reported d A p from ts ≡ parse L reported (inside L reported (d - 1)) (closed L A p) ts
  inside_opened reported zero A p from ts h = absurd (omega arith)
  inside_opened reported (suc d) A p from ts h = let e : suc d - 1 ≡ d = omega arith in ap (λ z. parse L reported (inside L reported z) (closed L A p) ts) (sym e)

  module _ (is : IsDecided L) {E : Type 0} (reported : Reported T E) (d : ℕ) {A : Type 0} (g : Grammar T P A) where
    module _ (follow : List ℕ) (decided : decides L follow g ≡ true) (pairs : paired L g ≡ true) (solid : null g ≡ true → ⊥) where
      -- what can't be empty takes a token
      pub takes : (ts : List T) (v : A) (r : List T) → parse L reported (inside L reported d) g ts ≡ Ok (v, r) → length r < length ts
      takes ts v r h = by (parse L plain (inside L plain d) g ts) (sym (parse_reported reported L d g ts) ∙ h) (law_at L is d d (omega arith) g follow decided pairs ts)
        where
          by_word : (w : List T) → In L (Nested L d) g w v → length ts ≡ length (w ++ r) → length r < length ts
          by_word [] i q = absurd (solid (nulls L (Nested L d) g [] v refl i))
          by_word (t ∷ w) i q = let l = simp length-append at q in omega arith

          by : (z : Result (A × List T) (Fault T)) → reported_again reported z ≡ Ok (v, r) → LawOf L d d g ts z → length r < length ts
          by (Ok x) e o = let i : x.0 ≡ v = cc in let j : x.1 ≡ r = cc in
              by_word o.w (subst (λ z. In L (Nested L d) g o.w z) i o.word) (ap length (o.split ∙ ap (λ z. o.w ++ z) j))
          by (Err f) e o = cc

    module _ (decided : decides L [] (many g) ≡ true) (pairs : paired L g ≡ true) where
      abbrev read : Reader T E A
      read = parse L reported (inside L reported d) g

      abbrev all_of : Reader T E (List A)
      all_of = parse L reported (inside L reported d) (many g)

      abbrev then_more : ℕ → Result (A × List T) E → Result (List A × List T) E
      then_more n z = z >>= λ x. (repeat L reported n (first L g) read x.1 >>= λ y. Ok (x.0 ∷ y.0, y.1))

      pub less : (ts : List T) (v : A) (r : List T) → parse L reported (inside L reported d) g ts ≡ Ok (v, r) → length r < length ts
      less = takes (first L g ++ []) (and_left _ _ decided) pairs (not_and (null g) (and_left _ _ (and_right _ _ decided)))

      one_then : (n m : ℕ) (ts : List T) → length ts ≤ suc n → length ts ≤ suc m
          → ((us : List T) → length us ≤ n → length us ≤ m → repeat L reported n (first L g) read us ≡ repeat L reported m (first L g) read us)
          → (z : Result (A × List T) E) → read ts ≡ z → then_more n z ≡ then_more m z
      one_then n m ts a b f (Ok x) e = let l = less ts x.0 x.1 e in ap (λ z. z >>= λ y. Ok (x.0 ∷ y.0, y.1)) (f x.1 (omega arith) (omega arith))
      one_then n m ts a b f (Err k) e = refl

      -- more turns than tokens are as good
      fuel : (n m : ℕ) (ts : List T) → length ts ≤ n → length ts ≤ m → repeat L reported n (first L g) read ts ≡ repeat L reported m (first L g) read ts
      fuel zero zero ts a b = refl
      fuel zero (suc m) [] a b = refl
      fuel (suc n) zero [] a b = refl
      fuel (suc n) (suc m) [] a b = refl
      fuel zero (suc m) (t ∷ ts) a b = absurd (omega arith)
      fuel (suc n) zero (t ∷ ts) a b = absurd (omega arith)
      fuel (suc n) (suc m) (t ∷ ts) a b = let e = one_then n m (t ∷ ts) a b (fuel n m) (read (t ∷ ts)) refl in rw e refl

      turn : (ts : List T) → sees L (first L g) ts ≡ true → all_of ts ≡ then_more (length ts - 1) (read ts)
      turn [] h = cc
      turn (t ∷ ts) h = let e : suc (length ts) - 1 ≡ length ts = omega arith in rw (e, h) refl

      -- one more of them, and what is left is the rest of the list
      pub turn_ok : (front : List A) (ts : List T) (v : A) (r : List T) (z : Result (List A × List T) E) → sees L (first L g) ts ≡ true
          → parse L reported (inside L reported d) g ts ≡ Ok (v, r)
          → with_front front (parse L reported (inside L reported d) (many g) ts) ≡ z → with_front (front ++ v ∷ []) (parse L reported (inside L reported d) (many g) r) ≡ z
      turn_ok front ts v r z h e i =
          let l : length r < length ts = less ts v r e in
          let f : repeat L reported (length ts - 1) (first L g) read r ≡ all_of r = fuel (length ts - 1) (length r) r (omega arith) (omega arith) in
          let w : all_of ts ≡ (all_of r >>= λ y. Ok (v ∷ y.0, y.1)) = turn ts h ∙ ap (then_more (length ts - 1)) e ∙ ap (λ z. z >>= λ y. Ok (v ∷ y.0, y.1)) f in
          move (all_of r) ∙ sym (ap (with_front front) w) ∙ i
        where
          move : (y : Result (List A × List T) E) → with_front (front ++ v ∷ []) y ≡ with_front front (y >>= λ y. Ok (v ∷ y.0, y.1))
          move (Ok y) = simp append_assoc
          move (Err k) = refl

      -- a fault in one of them is one of the list
      pub turn_err : (front : List A) (ts : List T) (k : E) (z : Result (List A × List T) E) → sees L (first L g) ts ≡ true → parse L reported (inside L reported d) g ts ≡ Err k
          → with_front front (parse L reported (inside L reported d) (many g) ts) ≡ z → z ≡ Err k
      turn_err front ts k z h f i = sym i ∙ ap (with_front front) (turn ts h ∙ ap (then_more (length ts - 1)) f)

      halt : (n : ℕ) (ts : List T) → sees L (first L g) ts ≡ false → repeat L reported n (first L g) read ts ≡ Ok ([], ts)
      halt zero ts h = refl
      halt (suc n) ts h = rw h refl

-- A reader takes its way whatever its faults are reported as.
use Rattle.std.proofs.Common.{◌≡◌, ℕ, zero, suc, Bool, true, false, ◌==◌, if◌then◌else◌, List, [], ◌∷◌, length, Result, Ok, Err, refl, ◌∙◌, ap}
use Rattle.grammar.specs.Grammars.{Grammar, tok, pure, seq, map, alt, many, nested, Language, closed}
use Rattle.grammar.specs.Readers.{◌>>=◌, Reader, Reported, sees, first, one, repeat, parse, inside, finished, whole}
use Rattle.grammar.specs.Faults.{Fault, Unexpected, TooDeep}

-- reported as itself
abbrev pub plain : {T : Type 0} → Reported T (Fault T)
plain = record { unexpected = λ r. Unexpected r; too_deep = λ r. TooDeep r }

module _ {T E : Type 0} (reported : Reported T E) where
  abbrev pub report : Fault T → E
  report (Unexpected r) = reported.unexpected r
  report (TooDeep r) = reported.too_deep r

  abbrev pub reported_again : {A : Type 0} → Result A (Fault T) → Result A E
  reported_again (Ok x) = Ok x
  reported_again (Err f) = Err (report f)

  bind_reported_again : {A B : Type 0} (z : Result A (Fault T)) (f : A → Result B E) (g : A → Result B (Fault T)) → ((x : A) → f x ≡ reported_again (g x)) → (reported_again z >>= f) ≡ reported_again (z >>= g)
  bind_reported_again (Ok x) f g h = h x
  bind_reported_again (Err e) f g h = refl

  if_reported_again : {A : Type 0} (b : Bool) (x y : Result A E) (u v : Result A (Fault T)) → x ≡ reported_again u → y ≡ reported_again v → (if b then x else y) ≡ reported_again (if b then u else v)
  if_reported_again true x y u v h k = h
  if_reported_again false x y u v h k = k

  module _ {P : Type 0 → Type 1} (L : Language T P) where
    one_reported_again : (class : ℕ) (ts : List T) → one L reported class ts ≡ reported_again (one L plain class ts)
    one_reported_again class [] = refl
    one_reported_again class (t ∷ ts) = if_reported_again (L.class t == class) (Ok (t, ts)) (Err (reported.unexpected (t ∷ ts))) (Ok (t, ts)) (Err (Unexpected (t ∷ ts))) refl refl

    repeat_reported_again : {A : Type 0} (p : Reader T E A) (q : Reader T (Fault T) A) → ((ts : List T) → p ts ≡ reported_again (q ts)) → (classes : List ℕ) (n : ℕ) (ts : List T)
        → repeat L reported n classes p ts ≡ reported_again (repeat L plain n classes q ts)
    repeat_reported_again p q same classes zero ts = refl
    repeat_reported_again p q same classes (suc n) ts =
        if_reported_again (sees L classes ts) (p ts >>= λ x. (repeat L reported n classes p x.1 >>= λ y. Ok (x.0 ∷ y.0, y.1))) (Ok ([], ts))
        (q ts >>= λ x. (repeat L plain n classes q x.1 >>= λ y. Ok (x.0 ∷ y.0, y.1))) (Ok ([], ts))
        (ap (λ z. z >>= λ x. (repeat L reported n classes p x.1 >>= λ y. Ok (x.0 ∷ y.0, y.1))) (same ts)
        ∙ bind_reported_again (q ts) (λ x. repeat L reported n classes p x.1 >>= λ y. Ok (x.0 ∷ y.0, y.1)) (λ x. repeat L plain n classes q x.1 >>= λ y. Ok (x.0 ∷ y.0, y.1))
        (λ x. ap (λ z. z >>= λ y. Ok (x.0 ∷ y.0, y.1)) (repeat_reported_again p q same classes n x.1)
        ∙ bind_reported_again (repeat L plain n classes q x.1) (λ y. Ok (x.0 ∷ y.0, y.1)) (λ y. Ok (x.0 ∷ y.0, y.1)) (λ y. refl)))
        refl

    module _ (R : (A : Type 0) → P A → List T → Reader T E A) (S : (A : Type 0) → P A → List T → Reader T (Fault T) A)
        (same : (A : Type 0) (p : P A) (from ts : List T) → R A p from ts ≡ reported_again (S A p from ts)) where
      parse_reported_again : {A : Type 0} (g : Grammar T P A) (ts : List T) → parse L reported R g ts ≡ reported_again (parse L plain S g ts)
      parse_reported_again (tok s) ts = one_reported_again (L.class s) ts
      parse_reported_again (pure x) ts = refl
      parse_reported_again (seq g h) ts =
          ap (λ z. z >>= λ x. (parse L reported R h x.1 >>= λ y. Ok ((x.0, y.0), y.1))) (parse_reported_again g ts)
          ∙ bind_reported_again (parse L plain S g ts) (λ x. parse L reported R h x.1 >>= λ y. Ok ((x.0, y.0), y.1)) (λ x. parse L plain S h x.1 >>= λ y. Ok ((x.0, y.0), y.1))
          (λ x. ap (λ z. z >>= λ y. Ok ((x.0, y.0), y.1)) (parse_reported_again h x.1)
          ∙ bind_reported_again (parse L plain S h x.1) (λ y. Ok ((x.0, y.0), y.1)) (λ y. Ok ((x.0, y.0), y.1)) (λ y. refl))
      parse_reported_again (map f g) ts =
          ap (λ z. z >>= λ x. Ok (f x.0, x.1)) (parse_reported_again g ts) ∙ bind_reported_again (parse L plain S g ts) (λ x. Ok (f x.0, x.1)) (λ x. Ok (f x.0, x.1)) (λ x. refl)
      parse_reported_again (alt g h) ts =
          if_reported_again (sees L (first L g) ts) (parse L reported R g ts) (parse L reported R h ts) (parse L plain S g ts) (parse L plain S h ts) (parse_reported_again g ts) (parse_reported_again h ts)
      parse_reported_again (many g) ts = repeat_reported_again (parse L reported R g) (parse L plain S g) (parse_reported_again g) (first L g) (length ts) ts
      parse_reported_again (nested {A} p) ts =
          ap (λ z. z >>= λ x. R A p ts x.1) (one_reported_again (L.class L.opening) ts)
          ∙ bind_reported_again (one L plain (L.class L.opening) ts) (λ x. R A p ts x.1) (λ x. S A p ts x.1) (λ x. same A p ts x.1)

    inside_reported_again : (d : ℕ) (A : Type 0) (p : P A) (from ts : List T) → inside L reported d A p from ts ≡ reported_again (inside L plain d A p from ts)
    inside_reported_again zero A p from ts = refl
    inside_reported_again (suc d) A p from ts = parse_reported_again (inside L reported d) (inside L plain d) (inside_reported_again d) (closed L A p) ts

    pub parse_reported : (d : ℕ) {A : Type 0} (g : Grammar T P A) (ts : List T) → parse L reported (inside L reported d) g ts ≡ reported_again (parse L plain (inside L plain d) g ts)
    parse_reported d g ts = parse_reported_again (inside L reported d) (inside L plain d) (inside_reported_again d) g ts

    pub whole_reported : (d : ℕ) {A : Type 0} (g : Grammar T P A) (ts : List T) → whole L reported d g ts ≡ reported_again (whole L plain d g ts)
    whole_reported d {A = A} g ts = ap (λ z. z >>= finished L reported) (parse_reported d g ts)
        ∙ bind_reported_again (parse L plain (inside L plain d) g ts) (finished L reported) (finished L plain) ended
      where
        ended : (x : A × List T) → finished L reported x ≡ reported_again (finished L plain x)
        ended (v, []) = refl
        ended (v, t ∷ r) = refl

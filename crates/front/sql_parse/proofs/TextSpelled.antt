-- What is read behind an opening quote, in terms of how a text is spelled.
use Rattle.std.proofs.Common.{◌≡◌, ◌==◌, ◌+◌, ◌≤◌, ℕ, if◌then◌else◌, Bool, true, false, [], ◌∷◌, ◌++◌, length, Some, None, refl, sym, ◌∙◌, ap, arith, append_assoc, append-nil, length-append}
use Rattle.std.proofs.lemmas.Bool.Decides.{nat_tests}
use Rattle.sql_parse.specs.Tokens.{Bytes, doubled}
use Rattle.sql_parse.specs.Reading.{with, quoted_at}
use Rattle.sql_parse.proofs.TextQuotes.{Read, with_none, with_more, other}

-- a character with its quote doubled
abbrev pub spelled : ℕ → Bytes
spelled c = if c == 39 then 39 ∷ 39 ∷ [] else c ∷ []

-- the bytes are the spelling of what was read and its closing quote, or that of a text with none
abbrev pub Reports : Bytes → Read → Type 0
Reports z None = (t : Bytes) × (z ≡ doubled t)
Reports z (Some x) = z ≡ doubled x.0 ++ 39 ∷ x.1

more_reported : (c : ℕ) (front z : Bytes) (o : Read) → front ≡ spelled c → Reports z o → Reports (front ++ z) (with (c ∷ []) o)
more_reported c front z None e h = (c ∷ h.0, ap (λ x. x ++ z) e ∙ ap (λ x. spelled c ++ x) h.1)
more_reported c front z (Some x) e h =
    ap (λ y. y ++ z) e ∙ ap (λ y. spelled c ++ y) h ∙ sym (append_assoc (spelled c) (doubled x.0) (39 ∷ x.1))

pub reported : (z : Bytes) → Reports z (quoted_at z)
reported [] = ([], refl)
reported (b ∷ []) = one (b == 39) refl where
  one : (t : Bool) → (b == 39) ≡ t → Reports (b ∷ []) (if t then Some ([], []) else None)
  one true h = let e : b ≡ 39 = grind (arith, nat_tests) in ap (λ x. x ∷ []) e
  one false h = (b ∷ [], sym (ap (λ t. (if t then 39 ∷ 39 ∷ [] else b ∷ []) ++ []) h))
reported (b ∷ c ∷ z) = two (b == 39) (c == 39) refl refl (reported z) (reported (c ∷ z)) where
  two : (t u : Bool) → (b == 39) ≡ t → (c == 39) ≡ u → Reports z (quoted_at z) → Reports (c ∷ z) (quoted_at (c ∷ z))
      → Reports (b ∷ c ∷ z) (if t then (if u then with (39 ∷ []) (quoted_at z) else Some ([], c ∷ z)) else with (b ∷ []) (quoted_at (c ∷ z)))
  two true true h i f g =
      let x : b ≡ 39 = grind (arith, nat_tests) in
      let y : c ≡ 39 = grind (arith, nat_tests) in
      let e : b ∷ c ∷ [] ≡ 39 ∷ 39 ∷ [] = ap (λ w. w ∷ c ∷ []) x ∙ ap (λ w. 39 ∷ w ∷ []) y in
      more_reported 39 (b ∷ c ∷ []) z (quoted_at z) e f
  two true false h i f g = let x : b ≡ 39 = grind (arith, nat_tests) in ap (λ w. w ∷ c ∷ z) x
  two false u h i f g = more_reported b (b ∷ []) (c ∷ z) (quoted_at (c ∷ z)) (sym (ap (λ t. if t then 39 ∷ 39 ∷ [] else b ∷ []) h)) g

-- the spelling of a text is read as it
pub read_doubled_text : (t y : Bytes) → quoted_at (doubled t ++ y) ≡ with t (quoted_at y)
read_doubled_text [] y = sym (with_none (quoted_at y))
read_doubled_text (c ∷ t) y = one (c == 39) refl ∙ ap (with (c ∷ [])) (read_doubled_text t y) ∙ sym (with_more (c ∷ []) t (quoted_at y)) where
  one : (b : Bool) → (c == 39) ≡ b → quoted_at (((if b then 39 ∷ 39 ∷ [] else c ∷ []) ++ doubled t) ++ y) ≡ with (c ∷ []) (quoted_at (doubled t ++ y))
  one true h = let e : 39 ≡ c = grind (arith, nat_tests) in ap (λ x. with (x ∷ []) (quoted_at (doubled t ++ y))) e
  one false h = other c (doubled t ++ y) h

doubled-append : (a b : Bytes) → doubled (a ++ b) ≡ doubled a ++ doubled b
doubled-append [] b = refl
doubled-append (c ∷ a) b = ap (λ x. spelled c ++ x) (doubled-append a b) ∙ sym (append_assoc (spelled c) (doubled a) (doubled b))

-- ---- how far it is read

-- of this many bytes
abbrev pub reported_len : ℕ → Read → ℕ
reported_len n None = n
reported_len n (Some x) = length (doubled x.0) + 1

-- as far as the closing quote, or to the end
unfoldable pub text_len : Bytes → ℕ
text_len z = reported_len (length z) (quoted_at z)

with_reaches : (t : Bytes) (n k : ℕ) (o : Read) → length (doubled t) + k ≤ n → k ≤ 1 → length (doubled t) + k ≤ reported_len n (with t o)
with_reaches t n k None h l = h
with_reaches t n k (Some x) h l = rw (doubled-append t x.0) (omega (arith, length-append (doubled t) (doubled x.0)))

-- no less than the spelling of a text, and a quote behind it
pub text_reaches : (t y : Bytes) (k : ℕ) → k ≤ length y → k ≤ 1 → length (doubled t) + k ≤ text_len (doubled t ++ y)
unfolding text_len
text_reaches t y k h l = rw (read_doubled_text t y) (with_reaches t (length (doubled t ++ y)) k (quoted_at y) (omega (arith, length-append (doubled t) y)) l)

-- where it ends behind the spelling of a text and a quote, that is the text
pub text_ends : (t rest : Bytes) → text_len (doubled t ++ 39 ∷ rest) ≡ length (doubled t) + 1 → quoted_at (doubled t ++ 39 ∷ rest) ≡ Some (t, rest)
unfolding text_len
text_ends t [] h = read_doubled_text t (39 ∷ []) ∙ ap (λ x. Some (x, [])) (append-nil t)
text_ends t (c ∷ r) h = one (c == 39) refl where
  one : (b : Bool) → (c == 39) ≡ b → quoted_at (doubled t ++ 39 ∷ c ∷ r) ≡ Some (t, c ∷ r)
  one false e =
      read_doubled_text t (39 ∷ c ∷ r) ∙ ap (λ b. with t (if b then with (39 ∷ []) (quoted_at r) else Some ([], c ∷ r))) e ∙ ap (λ x. Some (x, c ∷ r)) (append-nil t)
  one true e = absurd (long (quoted_at r) (sym (ap (reported_len n) read) ∙ h)) where
    n : ℕ
    n = length (doubled t ++ 39 ∷ c ∷ r)

    read : quoted_at (doubled t ++ 39 ∷ c ∷ r) ≡ with t (with (39 ∷ []) (quoted_at r))
    read = read_doubled_text t (39 ∷ c ∷ r) ∙ ap (λ b. with t (if b then with (39 ∷ []) (quoted_at r) else Some ([], c ∷ r))) e

    long : (o : Read) → reported_len n (with t (with (39 ∷ []) o)) ≡ length (doubled t) + 1 → ⊥
    long None k = omega (arith, length-append (doubled t) (39 ∷ c ∷ r))
    long (Some x) k = omega (arith, ap length (doubled-append t (39 ∷ x.0)), length-append (doubled t) (doubled (39 ∷ x.0)))

-- A text token, read from behind its opening quote.
use Rattle.std.proofs.Common.{◌≡◌, ◌≢◌, ◌==◌, ◌<◌, ℕ, suc, false, [], ◌∷◌, ◌++◌, length, get_or, Option, Some, None, refl, sym, ◌∙◌, ap, arith, append_assoc, append-nil}
use Rattle.std.proofs.lemmas.Bool.Decides.{nat_tests}
use Rattle.sql_parse.specs.Tokens.{Bytes}
use Rattle.sql_parse.specs.Reading.{with, quoted_at}

abbrev pub Read : Type 0
Read = Option (Bytes × Bytes)

-- no quote stands in it
abbrev pub IsPlain : Bytes → Type 0
IsPlain f = (i : ℕ) → i < length f → get_or f i 0 ≢ 39

pub with_none : (o : Read) → with [] o ≡ o
with_none None = refl
with_none (Some x) = refl

pub with_more : (f g : Bytes) (o : Read) → with (f ++ g) o ≡ with f (with g o)
with_more f g None = refl
with_more f g (Some x) = ap (λ (y : Bytes). Some (y, x.1)) (append_assoc f g x.0)

pub other : (b : ℕ) (z : Bytes) → (b == 39) ≡ false → quoted_at (b ∷ z) ≡ with (b ∷ []) (quoted_at z)
other b [] h = rw h refl
other b (c ∷ z) h = rw h refl

not_quote : (b : ℕ) (f : Bytes) → IsPlain (b ∷ f) → (b == 39) ≡ false
not_quote b f h = let k : b ≢ 39 = h 0 (omega arith) in grind (arith, nat_tests)

behind_first : (b : ℕ) (f : Bytes) → IsPlain (b ∷ f) → IsPlain f
behind_first b f h = λ i l. h (suc i) (omega arith)

-- up to the next quote, it is read as it stands
pub read_run : (f r : Bytes) → IsPlain f → quoted_at (f ++ 39 ∷ r) ≡ with f (quoted_at (39 ∷ r))
read_run [] r h = sym (with_none (quoted_at (39 ∷ r)))
read_run (b ∷ f) r h =
    other b (f ++ 39 ∷ r) (not_quote b f h) ∙ ap (with (b ∷ [])) (read_run f r (behind_first b f h)) ∙ sym (with_more (b ∷ []) f (quoted_at (39 ∷ r)))

-- with no quote it isn't closed
pub read_open : (f : Bytes) → IsPlain f → quoted_at f ≡ None
read_open [] h = refl
read_open (b ∷ f) h = other b f (not_quote b f h) ∙ ap (with (b ∷ [])) (read_open f (behind_first b f h))

-- a quote with no other behind it closes
pub read_close : (r : Bytes) → ((more : Bytes) → r ≢ 39 ∷ more) → quoted_at (39 ∷ r) ≡ Some ([], r)
read_close [] h = refl
read_close (c ∷ r) h = let k : c ≢ 39 = λ e. h r (ap (λ x. x ∷ r) e) in let q : (c == 39) ≡ false = grind (arith, nat_tests) in rw q refl

-- a part with a doubled quote at its end
pub read_doubled : (front f rest after more : Bytes) (all : Read) → IsPlain f → rest ≡ f ++ 39 ∷ after → after ≡ 39 ∷ more
    → with front (quoted_at rest) ≡ all → with ((front ++ f) ++ 39 ∷ []) (quoted_at more) ≡ all
read_doubled front f rest after more all plain e d h =
    with_more (front ++ f) (39 ∷ []) (quoted_at more)
    ∙ with_more front f (with (39 ∷ []) (quoted_at more))
    ∙ ap (with front) (sym (ap quoted_at (e ∙ ap (λ x. f ++ 39 ∷ x) d) ∙ read_run f (39 ∷ more) plain))
    ∙ h

-- a part with a closing quote at its end
pub read_closed : (front f rest after : Bytes) (all : Read) → IsPlain f → rest ≡ f ++ 39 ∷ after → ((more : Bytes) → after ≢ 39 ∷ more)
    → with front (quoted_at rest) ≡ all → Some (front ++ f, after) ≡ all
read_closed front f rest after all plain e d h =
    sym (ap (with front) (ap quoted_at e ∙ read_run f after plain ∙ ap (with f) (read_close after d)) ∙ ap (λ (x : Bytes). Some (front ++ x, after)) (append-nil f))
    ∙ h

-- a part with no quote
pub read_unclosed : (front rest : Bytes) (all : Read) → IsPlain rest → with front (quoted_at rest) ≡ all → None ≡ all
read_unclosed front rest all plain h = sym (ap (with front) (read_open rest plain)) ∙ h

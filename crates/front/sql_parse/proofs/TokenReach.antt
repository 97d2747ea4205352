-- How far the token at the front reaches, or what is none but isn't taken apart: no whole spelling reaches farther.
use Rattle.std.proofs.Common.{◌≡◌, ◌==◌, ◌+◌, ◌<◌, ◌≤◌, ℕ, if◌then◌else◌, Bool, true, false, [], ◌∷◌, ◌++◌, length, drop, Some, None, refl, sym, ◌∙◌, ap, subst, inl, inr, arith, append_assoc, length-append}
use Rattle.std.proofs.lemmas.Bool.Decides.{nat_tests}
use Rattle.std.specs.Char.{is_ascii_digit}
use Rattle.std.specs.List.{prefix_len}
use Rattle.std.specs.Prelude.{slice_index}
use Rattle.values.specs.declared.truth.Comparison.{Comparison}
use Rattle.values.specs.declared.truth.Comparison.TheVariants as by
use Rattle.sql_parse.specs.declared.token.Symbol.{Symbol}
use Rattle.sql_parse.specs.declared.token.Symbol.TheVariants as s
use Rattle.sql_parse.specs.declared.token.TokenKind.{TokenKind}
use Rattle.sql_parse.specs.declared.token.TokenKind.TheVariants as token
use Rattle.sql_parse.specs.Tokens.{Bytes, Are, is_word_start, is_word_character, IsWord, IsDigits, IsNumber, doubled, opened, quoted, symbol_text, Spells, IsWhole}
use Rattle.sql_parse.specs.Reading.{word_len, digits_len, number_len, starts_number, symbol_of, comparison_of, sign_by, sign_of}
use Rattle.sql_parse.proofs.TextSpelled.{text_len, text_reaches}
use Rattle.sql_parse.proofs.TokenSigns.{Found}

abbrev pub found_len : Found → ℕ
found_len None = 0
found_len (Some x) = x.1

-- how many bytes the token at the front takes
unfoldable pub reach : Bytes → ℕ
reach bs =
    if is_word_start (slice_index bs 0) then word_len bs
    else if starts_number bs then number_len bs
    else if slice_index bs 0 == 39 then 1 + text_len (drop 1 bs)
    else found_len (sign_of (slice_index bs 0) (slice_index bs 1))

run_reaches : (p : ℕ → Bool) (v more : Bytes) → Are p v → length v ≤ prefix_len p (v ++ more)
run_reaches p [] more h = omega arith
run_reaches p (c ∷ v) more h =
    let k = run_reaches p v more h.1 in
    rw (h.0) (omega arith)

-- a letter isn't a digit, a sign or a quote
pub at_word : (c : ℕ) (z : Bytes) → is_word_start c ≡ true → reach (c ∷ z) ≡ word_len (c ∷ z)
unfolding reach
at_word c z h = rw h refl

starts_word_character : (c : ℕ) → is_word_start c ≡ true → is_word_character c ≡ true
starts_word_character c h = rw h refl

word_reaches : (v more : Bytes) → IsWord v → length v ≤ reach (v ++ more)
word_reaches [] more h = absurd h
word_reaches (c ∷ v) more h = rw (at_word c (v ++ more) h.0) (run_reaches is_word_character (c ∷ v) more (starts_word_character c h.0, h.1))

digit_starts_no_word : (c : ℕ) → is_ascii_digit c ≡ true → is_word_start c ≡ false
digit_starts_no_word c h = grind (arith, nat_tests)

digit_is_no_minus : (c : ℕ) → is_ascii_digit c ≡ true → (c == 45) ≡ false
digit_is_no_minus c h = grind (arith, nat_tests)

pub at_digit : (c : ℕ) (z : Bytes) → is_ascii_digit c ≡ true → reach (c ∷ z) ≡ digits_len (c ∷ z)
unfolding reach number_len
at_digit c z h = rw (digit_starts_no_word c h, h, digit_is_no_minus c h) refl

pub at_minus : (z : Bytes) → is_ascii_digit (slice_index z 0) ≡ true → reach (45 ∷ z) ≡ 1 + digits_len z
unfolding reach number_len
at_minus z h = rw h refl

digits_reach : (v more : Bytes) → IsDigits v → length v ≤ digits_len (v ++ more)
digits_reach [] more h = absurd h
digits_reach (c ∷ v) more h = run_reaches is_ascii_digit (c ∷ v) more h

pub first_digit : (v more : Bytes) → IsDigits v → is_ascii_digit (slice_index (v ++ more) 0) ≡ true
first_digit [] more h = absurd h
first_digit (c ∷ v) more h = h.0

number_reaches : (v more : Bytes) → IsNumber v → length v ≤ reach (v ++ more)
number_reaches [] more h = absurd h
number_reaches (c ∷ v) more (inl h) = rw (at_digit c (v ++ more) h.0) (digits_reach (c ∷ v) more h)
number_reaches (c ∷ v) more (inr h) =
    let k = digits_reach v more h.1 in
    let e : reach (c ∷ v ++ more) ≡ 1 + digits_len (v ++ more) = ap (λ x. reach (x ∷ v ++ more)) h.0 ∙ at_minus (v ++ more) (first_digit v more h.1) in
    omega arith

pub at_quote : (z : Bytes) → reach (39 ∷ z) ≡ 1 + text_len z
unfolding reach
at_quote z = refl

opened_reaches : (t more : Bytes) → length (opened t) ≤ reach (opened t ++ more)
opened_reaches t more = omega (arith, at_quote (doubled t ++ more), text_reaches t more 0 (omega arith) (omega arith))

quoted_reaches : (t more : Bytes) → length (quoted t) ≤ reach (quoted t ++ more)
quoted_reaches t more =
    let a : quoted t ++ more ≡ 39 ∷ doubled t ++ (39 ∷ more) = append_assoc (39 ∷ doubled t) (39 ∷ []) more in
    let l = length-append (opened t) (39 ∷ []) in
    let r = text_reaches t (39 ∷ more) 1 (omega arith) (omega arith) in
    rw a (omega (arith, at_quote (doubled t ++ 39 ∷ more)))

symbol_reaches : (symbol : Symbol) (more : Bytes) → length (symbol_text symbol) ≤ reach (symbol_text symbol ++ more)
unfolding reach sign_of symbol_of comparison_of
symbol_reaches s.OpenParenthesis more = omega arith
symbol_reaches s.CloseParenthesis more = omega arith
symbol_reaches s.Comma more = omega arith
symbol_reaches s.Dot more = omega arith
symbol_reaches s.Star more = omega arith
symbol_reaches s.Semicolon more = omega arith

less_reaches : (z : Bytes) → 1 ≤ reach (60 ∷ z)
unfolding reach sign_of symbol_of comparison_of
less_reaches z = one (slice_index z 0 == 61) (slice_index z 0 == 62) where
  one : (a b : Bool) → 1 ≤ found_len (sign_by None (if a then Some (by.LessOrEqual, 2) else if b then Some (by.NotEqual, 2) else Some (by.Less, 1)))
  one true b = omega arith
  one false true = omega arith
  one false false = omega arith

greater_reaches : (z : Bytes) → 1 ≤ reach (62 ∷ z)
unfolding reach sign_of symbol_of comparison_of
greater_reaches z = one (slice_index z 0 == 61) where
  one : (a : Bool) → 1 ≤ found_len (sign_by None (if a then Some (by.GreaterOrEqual, 2) else Some (by.Greater, 1)))
  one true = omega arith
  one false = omega arith

signs_reach : (first second : ℕ) (more : Bytes) → 2 ≤ reach (first ∷ second ∷ more) → (v : Bytes) → v ≡ first ∷ second ∷ [] → length v ≤ reach (v ++ more)
signs_reach first second more h v e = subst (λ v. length v ≤ reach (v ++ more)) (sym e) h

comparison_reaches : (v more : Bytes) (c : Comparison) → Spells v (token.Comparison c) → length v ≤ reach (v ++ more)
unfolding reach sign_of symbol_of comparison_of
comparison_reaches v more by.Equal h = subst (λ v. length v ≤ reach (v ++ more)) (sym h) (omega arith)
comparison_reaches v more by.NotEqual (inl h) = signs_reach 60 62 more (omega arith) v h
comparison_reaches v more by.NotEqual (inr h) = signs_reach 33 61 more (omega arith) v h
comparison_reaches v more by.Less h = subst (λ v. length v ≤ reach (v ++ more)) (sym h) (less_reaches more)
comparison_reaches v more by.LessOrEqual h = signs_reach 60 61 more (omega arith) v h
comparison_reaches v more by.Greater h = subst (λ v. length v ≤ reach (v ++ more)) (sym h) (greater_reaches more)
comparison_reaches v more by.GreaterOrEqual h = signs_reach 62 61 more (omega arith) v h

spelled_reaches : (v more : Bytes) (kind : TokenKind) → Spells v kind → length v ≤ reach (v ++ more)
spelled_reaches v more (token.Keyword k) h = word_reaches v more h.0
spelled_reaches v more (token.Name n) h = word_reaches v more h.0
spelled_reaches v more (token.Number n) h = number_reaches v more h.0
spelled_reaches v more (token.Text t) h = subst (λ v. length v ≤ reach (v ++ more)) (sym h) (quoted_reaches t more)
spelled_reaches v more (token.Symbol symbol) h = subst (λ v. length v ≤ reach (v ++ more)) (sym h) (symbol_reaches symbol more)
spelled_reaches v more (token.Comparison c) h = comparison_reaches v more c h

-- what is whole reaches no farther
pub reaches : (v more : Bytes) → IsWhole v → length v ≤ reach (v ++ more)
reaches v more (inl h) = spelled_reaches v more h.0 h.1
reaches v more (inr (inl h)) = number_reaches v more h
reaches v more (inr (inr h)) = subst (λ v. length v ≤ reach (v ++ more)) (sym h.1) (opened_reaches h.0 more)

word_some : (v : Bytes) → IsWord v → 0 < length v
word_some [] h = absurd h
word_some (c ∷ v) h = omega arith

number_some : (v : Bytes) → IsNumber v → 0 < length v
number_some [] h = absurd h
number_some (c ∷ v) h = omega arith

symbol_some : (symbol : Symbol) → 0 < length (symbol_text symbol)
symbol_some s.OpenParenthesis = omega arith
symbol_some s.CloseParenthesis = omega arith
symbol_some s.Comma = omega arith
symbol_some s.Dot = omega arith
symbol_some s.Star = omega arith
symbol_some s.Semicolon = omega arith

comparison_some : (v : Bytes) (c : Comparison) → Spells v (token.Comparison c) → 0 < length v
comparison_some v by.Equal h = omega (arith, ap length h)
comparison_some v by.NotEqual (inl h) = omega (arith, ap length h)
comparison_some v by.NotEqual (inr h) = omega (arith, ap length h)
comparison_some v by.Less h = omega (arith, ap length h)
comparison_some v by.LessOrEqual h = omega (arith, ap length h)
comparison_some v by.Greater h = omega (arith, ap length h)
comparison_some v by.GreaterOrEqual h = omega (arith, ap length h)

spelled_some : (v : Bytes) (kind : TokenKind) → Spells v kind → 0 < length v
spelled_some v (token.Keyword k) h = word_some v h.0
spelled_some v (token.Name n) h = word_some v h.0
spelled_some v (token.Number n) h = number_some v h.0
spelled_some v (token.Text t) h = omega (arith, ap length h)
spelled_some v (token.Symbol symbol) h = omega (arith, ap length h, symbol_some symbol)
spelled_some v (token.Comparison c) h = comparison_some v c h

-- nothing whole is empty
pub whole_some : (v : Bytes) → IsWhole v → 0 < length v
whole_some v (inl h) = spelled_some v h.0 h.1
whole_some v (inr (inl h)) = number_some v h
whole_some v (inr (inr h)) = omega (arith, ap length h.1)

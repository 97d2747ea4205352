-- A token that is read is spelled so, and is the longest that fits.
use Rattle.std.proofs.Common.{◌≡◌, ◌==◌, ◌+◌, ◌<◌, ℕ, cond, if◌then◌else◌, Bool, true, false, [], ◌∷◌, ◌++◌, length, map, take, drop, Option, Some, None, Ok, Err, refl, sym, ◌∙◌, ap, subst, inl, inr, arith, append_assoc, length-append, w64}
use Rattle.std.proofs.lemmas.Bool.{false≢true}
use Rattle.std.proofs.lemmas.Bool.Decides.{nat_tests}
use Rattle.std.proofs.lemmas.List.{take-append-drop, length-take-le}
use Rattle.std.proofs.lemmas.List.Sums.{take_while-cons}
use Rattle.std.specs.Char.{to_ascii_lowercase}
use Rattle.std.specs.Prelude.{slice_index, FitsSigned}
use Rattle.std.specs.Str.Parse.{signed_digits_value}
use Rattle.sql_parse.specs.declared.fault.ParseReason.{ParseReason}
use Rattle.sql_parse.specs.declared.fault.ParseReason.TheVariants.{NoToken, OpenText, NumberRange, Unexpected, TooDeep, TooLong}
use Rattle.sql_parse.specs.declared.fault.ParseRefusal.{ParseRefusal}
use Rattle.sql_parse.specs.declared.token.Keyword.{Keyword}
use Rattle.sql_parse.specs.declared.token.Symbol.{Symbol}
use Rattle.sql_parse.specs.declared.token.Symbol.TheVariants as s
use Rattle.sql_parse.specs.declared.token.TokenKind.{TokenKind}
use Rattle.sql_parse.specs.declared.token.TokenKind.TheVariants as token
use Rattle.sql_parse.specs.Tokens.{Bytes, is_word_start, is_word_character, IsWord, IsNumber, doubled, opened, quoted, symbol_text, keyword_of, Spells, is_space, IsLongest, IsNoToken}
use Rattle.sql_parse.specs.Reading.{Lexed, refusal, word_len, word_kind_by, word_at, number_len, starts_number, fits, number_at, quoted_at, text_found, text_at, sign_of, sign_found, sign_at, token_at}
use Rattle.sql_parse.proofs.TextRuns.{word_cut, number_cut}
use Rattle.sql_parse.proofs.TextSpelled.{Reports, reported, reported_len, text_len}
use Rattle.sql_parse.proofs.TokenNumbers.{are_run, number_spelled, SFits-from_fits, fits_from}
use Rattle.sql_parse.proofs.TokenSigns.{symbol_code, by_sign}
use Rattle.sql_parse.proofs.TokenReach.{found_len, reach, reaches, whole_some}

-- what no token is, n bytes long
abbrev pub Refuses : Bytes → ℕ → ParseReason → Type 0
Refuses bs n NoToken = n ≡ 0
Refuses bs n OpenText = (t : Bytes) × (bs ≡ opened t) × (length bs ≡ n)
Refuses bs n NumberRange = (w rest : Bytes) × (bs ≡ w ++ rest) × (length w ≡ n) × IsNumber w × (FitsSigned w64 (signed_digits_value 10 w) → ⊥)
Refuses bs n _ = ⊥

-- what is read of bytes at this place, n bytes long
abbrev pub Sound : ℕ → Bytes → ℕ → Lexed → Type 0
Sound at bs n (Ok x) = (w : Bytes) × (bs ≡ w ++ x.1) × (length w ≡ n) × Spells w x.0
Sound at bs n (Err r) = (r.at ≡ at) × Refuses bs n r.reason

word_by : (w : Bytes) → IsWord w → (o : Option Keyword) → keyword_of (map to_ascii_lowercase w) ≡ o → Spells w (word_kind_by (map to_ascii_lowercase w) o)
word_by w h None e = (h, refl, e)
word_by w h (Some k) e = (h, e)

is_word : (c : ℕ) (z : Bytes) → is_word_start c ≡ true → IsWord (take (word_len (c ∷ z)) (c ∷ z))
is_word c z h =
    let e : is_word_character c ≡ true = rw h refl in
    subst IsWord (sym (take_while-cons is_word_character c z ∙ ap (λ b. cond b (c ∷ take (word_len z) z) []) e)) (h, are_run is_word_character z)

word_sound : (bs : Bytes) → is_word_start (slice_index bs 0) ≡ true → (at : ℕ) → Sound at bs (word_len bs) (Ok (word_at bs))
unfolding word_at
word_sound [] h at = cc
word_sound (c ∷ z) h at =
    let bs = c ∷ z in
    let n = word_len bs in
    let w = take n bs in
    (w, sym (take-append-drop n bs), length-take-le n bs (word_cut bs).within, word_by w (is_word c z h) (keyword_of (map to_ascii_lowercase w)) refl)

number_sound : (at : ℕ) (bs : Bytes) → starts_number bs ≡ true → Sound at bs (number_len bs) (number_at at bs)
unfolding number_at
number_sound at bs h = one (fits (signed_digits_value 10 w)) refl where
  n : ℕ
  n = number_len bs

  w : Bytes
  w = take n bs

  parts : bs ≡ w ++ drop n bs
  parts = sym (take-append-drop n bs)

  long : length w ≡ n
  long = length-take-le n bs (number_cut bs).within

  one : (b : Bool) → fits (signed_digits_value 10 w) ≡ b
      → Sound at bs n (if b then Ok (token.Number (signed_digits_value 10 w), drop n bs) else Err (refusal NumberRange at))
  one true e = (w, parts, long, (number_spelled bs h, refl, SFits-from_fits (signed_digits_value 10 w) e))
  one false e = (refl, (w, drop n bs, parts, long, number_spelled bs h, λ f. false≢true (sym e ∙ fits_from (signed_digits_value 10 w) f)))

text_sound : (at : ℕ) (z : Bytes) → Sound at (39 ∷ z) (1 + text_len z) (text_at at (39 ∷ z))
unfolding text_at text_len
text_sound at z = one (quoted_at z) (reported z) where
  one : (o : Option (Bytes × Bytes)) → Reports z o → Sound at (39 ∷ z) (1 + reported_len (length z) o) (text_found at o)
  one None h = (refl, (h.0, ap (λ x. 39 ∷ x) h.1, omega arith))
  one (Some x) h =
      (quoted x.0, ap (λ y. 39 ∷ y) h ∙ sym (append_assoc (39 ∷ doubled x.0) (39 ∷ []) x.1), omega (arith, length-append (opened x.0) (39 ∷ [])), refl)

-- ---- signs

one_sign : (bs : Bytes) (c : ℕ) → slice_index bs 0 ≡ c → 0 < c → bs ≡ (c ∷ []) ++ drop 1 bs
one_sign [] c h p = absurd (omega arith)
one_sign (b ∷ bs) c h p = ap (λ x. x ∷ bs) h

two_signs : (bs : Bytes) (c d : ℕ) → slice_index bs 0 ≡ c → slice_index bs 1 ≡ d → 0 < d → bs ≡ (c ∷ d ∷ []) ++ drop 2 bs
two_signs [] c d h i p = absurd (omega arith)
two_signs (b ∷ []) c d h i p = absurd (omega arith)
two_signs (a ∷ b ∷ bs) c d h i p = ap (λ x. x ∷ b ∷ bs) h ∙ ap (λ x. c ∷ x ∷ bs) i

symbol_sound : (symbol : Symbol) → (0 < symbol_code symbol) × (symbol_text symbol ≡ symbol_code symbol ∷ [])
symbol_sound s.OpenParenthesis = (omega arith, refl)
symbol_sound s.CloseParenthesis = (omega arith, refl)
symbol_sound s.Comma = (omega arith, refl)
symbol_sound s.Dot = (omega arith, refl)
symbol_sound s.Star = (omega arith, refl)
symbol_sound s.Semicolon = (omega arith, refl)

sign_sound : (at : ℕ) (bs : Bytes) → Sound at bs (found_len (sign_of (slice_index bs 0) (slice_index bs 1))) (sign_at at bs)
unfolding sign_at
sign_sound at bs =
    by_sign (λ c d o. slice_index bs 0 ≡ c → slice_index bs 1 ≡ d → Sound at bs (found_len o) (sign_found at bs o))
    (λ symbol d h i. let k = symbol_sound symbol in (symbol_code symbol ∷ [], one_sign bs (symbol_code symbol) h k.0, refl, sym k.1))
    (λ d h i. (61 ∷ [], one_sign bs 61 h (omega arith), refl, refl))
    (λ h i. (60 ∷ 61 ∷ [], two_signs bs 60 61 h i (omega arith), refl, refl))
    (λ h i. (60 ∷ 62 ∷ [], two_signs bs 60 62 h i (omega arith), refl, inl refl))
    (λ d _ _ h i. (60 ∷ [], one_sign bs 60 h (omega arith), refl, refl))
    (λ h i. (62 ∷ 61 ∷ [], two_signs bs 62 61 h i (omega arith), refl, refl))
    (λ d _ h i. (62 ∷ [], one_sign bs 62 h (omega arith), refl, refl))
    (λ h i. (33 ∷ 61 ∷ [], two_signs bs 33 61 h i (omega arith), refl, inr refl))
    (λ c d h i. (refl, refl))
    (slice_index bs 0) (slice_index bs 1) refl refl

quote_first : (at : ℕ) (bs : Bytes) → (slice_index bs 0 == 39) ≡ true → Sound at bs (1 + text_len (drop 1 bs)) (text_at at bs)
quote_first at [] h = cc
quote_first at (c ∷ z) h =
    let e : 39 ≡ c = grind (arith, nat_tests) in
    subst (λ x. Sound at (x ∷ z) (1 + text_len z) (text_at at (x ∷ z))) e (text_sound at z)

pub sound : (at : ℕ) (bs : Bytes) → Sound at bs (reach bs) (token_at at bs)
unfolding reach token_at
sound at bs = one (is_word_start (slice_index bs 0)) (starts_number bs) (slice_index bs 0 == 39) refl refl refl where
  one : (a b c : Bool) → is_word_start (slice_index bs 0) ≡ a → starts_number bs ≡ b → (slice_index bs 0 == 39) ≡ c
      → Sound at bs (if a then word_len bs else if b then number_len bs else if c then 1 + text_len (drop 1 bs) else found_len (sign_of (slice_index bs 0) (slice_index bs 1)))
      (if a then Ok (word_at bs) else if b then number_at at bs else if c then text_at at bs else sign_at at bs)
  one true b c h i j = word_sound bs h at
  one false true c h i j = number_sound at bs i
  one false false true h i j = quote_first at bs j
  one false false false h i j = sign_sound at bs

-- what is whole is no longer
pub longest_by : (bs w rest : Bytes) → bs ≡ w ++ rest → length w ≡ reach bs → IsLongest w rest
longest_by bs w rest e l v more k whole =
    let r = reaches v more whole in
    let same : reach (v ++ more) ≡ reach bs = ap reach (k ∙ sym e) in
    omega arith

-- what is read is a token, and the longest
pub token_found : (at : ℕ) (bs : Bytes) (x : TokenKind × Bytes) → token_at at bs ≡ Ok x → (w : Bytes) × (bs ≡ w ++ x.1) × Spells w x.0 × IsLongest w x.1
token_found at bs x e =
    let h = subst (Sound at bs (reach bs)) e (sound at bs) in
    (h.0, h.1, h.3, longest_by bs h.0 x.1 h.1 h.2)

no_token : (reason : ParseReason) (c : ℕ) (z : Bytes) → is_space c ≡ false → Refuses (c ∷ z) (reach (c ∷ z)) reason → IsNoToken reason (c ∷ z)
no_token NoToken c z s h = (
  s,
  λ v more k whole.
      let r = reaches v more whole in
      let some = whole_some v whole in
      let same : reach (v ++ more) ≡ reach (c ∷ z) = ap reach k in
      omega arith,
)
no_token OpenText c z s h = (h.0, h.1)
no_token NumberRange c z s h = (h.0, h.1, h.2, h.4, longest_by (c ∷ z) h.0 h.1 h.2 h.3, h.5)
no_token Unexpected c z s h = absurd h
no_token TooDeep c z s h = absurd h
no_token TooLong c z s h = absurd h

-- where none is read there is none
pub token_none : (at c : ℕ) (z : Bytes) (r : ParseRefusal) → is_space c ≡ false → token_at at (c ∷ z) ≡ Err r → (r.at ≡ at) × IsNoToken r.reason (c ∷ z)
token_none at c z r s e =
    let h = subst (Sound at (c ∷ z) (reach (c ∷ z))) e (sound at (c ∷ z)) in
    (h.0, no_token r.reason c z s h.1)

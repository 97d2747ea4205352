-- A token that is the longest that fits is read.
use Rattle.std.proofs.Common.{◌≡◌, ◌==◌, ◌+◌, ◌≤◌, ℕ, ℤ, ◌||◌, ◌&&◌, if◌then◌else◌, Bool, true, false, [], ◌∷◌, ◌++◌, length, map, take, drop, Some, None, Ok, Err, refl, sym, ◌∙◌, ap, subst, inl, inr, arith, append_assoc, append-nil, length-append, codes}
use Rattle.std.proofs.lemmas.Bool.Decides.{nat_tests}
use Rattle.std.proofs.lemmas.List.{take_at, drop_at}
use Rattle.std.specs.Char.{is_ascii_digit, to_ascii_lowercase}
use Rattle.std.specs.Prelude.{slice_index}
use Rattle.std.specs.Str.Parse.{signed_digits_value}
use Rattle.values.specs.declared.truth.Comparison.{Comparison}
use Rattle.values.specs.declared.truth.Comparison.TheVariants as by
use Rattle.sql_parse.specs.declared.fault.ParseReason.{ParseReason}
use Rattle.sql_parse.specs.declared.fault.ParseReason.TheVariants.{NoToken, OpenText, NumberRange, Unexpected, TooDeep, TooLong}
use Rattle.sql_parse.specs.declared.token.Symbol.{Symbol}
use Rattle.sql_parse.specs.declared.token.Symbol.TheVariants as s
use Rattle.sql_parse.specs.declared.token.TokenKind.{TokenKind}
use Rattle.sql_parse.specs.declared.token.TokenKind.TheVariants as token
use Rattle.sql_parse.specs.Tokens.{Bytes, is_word_start, IsWord, IsNumber, doubled, opened, quoted, symbol_text, Spells, IsLongest}
use Rattle.sql_parse.specs.Reading.{Lexed, refusal, word_len, word_kind_by, word_kind, word_at, number_len, starts_number, fits, number_found, number_at, text_found, text_at, symbol_of, comparison_of, sign_by, sign_of, sign_found, sign_at, token_at}
use Rattle.sql_parse.proofs.TextSpelled.{text_len, text_ends}
use Rattle.sql_parse.proofs.TokenNumbers.{fits_from}
use Rattle.sql_parse.proofs.TokenReach.{found_len, reach, reaches, at_word, at_quote, first_digit}
use Rattle.sql_parse.proofs.TokenSound.{Refuses, Sound, sound}

-- what is read of w and rest, w being all that is taken
abbrev pub IsRead : Bytes → Bytes → TokenKind → Type 0
IsRead w rest kind = (at : ℕ) → reach (w ++ rest) ≡ length w → token_at at (w ++ rest) ≡ Ok (kind, rest)

at_word_start : (at c : ℕ) (z : Bytes) → is_word_start c ≡ true → token_at at (c ∷ z) ≡ Ok (word_at (c ∷ z))
unfolding token_at
at_word_start at c z h = rw h refl

word_read : (w rest : Bytes) (kind : TokenKind) → IsWord w → word_kind (map to_ascii_lowercase w) ≡ kind → IsRead w rest kind
unfolding word_at
word_read [] rest kind h e at k = absurd h
word_read (c ∷ v) rest kind h e at k =
    let bs = c ∷ v ++ rest in
    let n : length (c ∷ v) ≡ word_len bs = sym k ∙ at_word c (v ++ rest) h.0 in
    at_word_start at c (v ++ rest) h.0
    ∙ ap (λ w. Ok (word_kind (map to_ascii_lowercase w), drop (word_len bs) bs)) (take_at (c ∷ v) rest (word_len bs) n)
    ∙ ap (λ x. Ok (x, drop (word_len bs) bs)) e ∙ ap (λ r. Ok (kind, r)) (drop_at (c ∷ v) rest (word_len bs) n)

pub number_starts : (w rest : Bytes) → IsNumber w → starts_number (w ++ rest) ≡ true
number_starts [] rest h = absurd h
number_starts (c ∷ w) rest (inl h) = let e = h.0 in grind arith
number_starts (c ∷ w) rest (inr h) =
    let e : is_ascii_digit (slice_index (w ++ rest) 0) ≡ true = first_digit w rest h.1 in
    ap (λ x. starts_number (x ∷ w ++ rest)) h.0 ∙ e

no_word : (c : ℕ) (b : Bool) → (is_ascii_digit c || (c == 45 && b)) ≡ true → is_word_start c ≡ false
no_word c b h = grind (arith, nat_tests)

pub number_reach : (bs : Bytes) → starts_number bs ≡ true → reach bs ≡ number_len bs
unfolding reach
number_reach bs h = rw (no_word (slice_index bs 0) (is_ascii_digit (slice_index bs 1)) h, h) refl

pub at_number : (at : ℕ) (bs : Bytes) → starts_number bs ≡ true → token_at at bs ≡ number_at at bs
unfolding token_at
at_number at bs h = rw (no_word (slice_index bs 0) (is_ascii_digit (slice_index bs 1)) h, h) refl

number_read : (w rest : Bytes) (n : ℤ) → Spells w (token.Number n) → IsRead w rest (token.Number n)
unfolding number_at
number_read w rest n h at k =
    let bs = w ++ rest in
    let starts = number_starts w rest h.0 in
    let len : number_len bs ≡ length w = sym (number_reach bs starts) ∙ k in
    let front = take_at w rest (length w) refl in
    let e : signed_digits_value 10 (take (length w) bs) ≡ n = ap (signed_digits_value 10) front ∙ h.1 in
    at_number at bs starts ∙ ap (number_found at bs) len
    ∙ ap (λ v. if fits v then Ok (token.Number v, drop (length w) bs) else Err (refusal NumberRange at)) e
    ∙ ap (λ b. if b then Ok (token.Number n, drop (length w) bs) else Err (refusal NumberRange at)) (fits_from n h.2)
    ∙ ap (λ r. Ok (token.Number n, r)) (drop_at w rest (length w) refl)

pub at_text : (at : ℕ) (z : Bytes) → token_at at (39 ∷ z) ≡ text_at at (39 ∷ z)
unfolding token_at
at_text at z = refl

text_read : (t rest : Bytes) → IsRead (quoted t) rest (token.Text t)
unfolding text_at
text_read t rest at k =
    let a : quoted t ++ rest ≡ 39 ∷ doubled t ++ (39 ∷ rest) = append_assoc (39 ∷ doubled t) (39 ∷ []) rest in
    let l = length-append (39 ∷ doubled t) (39 ∷ []) in
    let m : reach (39 ∷ doubled t ++ (39 ∷ rest)) ≡ length (quoted t) = ap reach (sym a) ∙ k in
    let n : text_len (doubled t ++ 39 ∷ rest) ≡ length (doubled t) + 1 = omega (arith, at_quote (doubled t ++ 39 ∷ rest)) in
    ap (token_at at) a ∙ at_text at (doubled t ++ 39 ∷ rest) ∙ ap (text_found at) (text_ends t rest n)

symbol_read : (symbol : Symbol) (rest : Bytes) → IsRead (symbol_text symbol) rest (token.Symbol symbol)
unfolding token_at sign_at sign_of symbol_of comparison_of
symbol_read s.OpenParenthesis rest at k = refl
symbol_read s.CloseParenthesis rest at k = refl
symbol_read s.Comma rest at k = refl
symbol_read s.Dot rest at k = refl
symbol_read s.Star rest at k = refl
symbol_read s.Semicolon rest at k = refl

less_read : (rest : Bytes) → IsRead (60 ∷ []) rest (token.Comparison by.Less)
unfolding reach token_at sign_at sign_of symbol_of comparison_of
less_read rest at k = one (slice_index rest 0 == 61) (slice_index rest 0 == 62) k where
  one : (a b : Bool) → found_len (sign_by None (if a then Some (by.LessOrEqual, 2) else if b then Some (by.NotEqual, 2) else Some (by.Less, 1))) ≡ 1
      → sign_found at (60 ∷ rest) (sign_by None (if a then Some (by.LessOrEqual, 2) else if b then Some (by.NotEqual, 2) else Some (by.Less, 1))) ≡ Ok (token.Comparison by.Less, rest)
  one true b k = absurd (omega arith)
  one false true k = absurd (omega arith)
  one false false k = refl

greater_read : (rest : Bytes) → IsRead (62 ∷ []) rest (token.Comparison by.Greater)
unfolding reach token_at sign_at sign_of symbol_of comparison_of
greater_read rest at k = one (slice_index rest 0 == 61) k where
  one : (a : Bool) → found_len (sign_by None (if a then Some (by.GreaterOrEqual, 2) else Some (by.Greater, 1))) ≡ 1
      → sign_found at (62 ∷ rest) (sign_by None (if a then Some (by.GreaterOrEqual, 2) else Some (by.Greater, 1))) ≡ Ok (token.Comparison by.Greater, rest)
  one true k = absurd (omega arith)
  one false k = refl

spelled_as : (w v rest : Bytes) (kind : TokenKind) → w ≡ v → IsRead v rest kind → IsRead w rest kind
spelled_as w v rest kind e h = subst (λ w. IsRead w rest kind) (sym e) h

comparison_read : (w rest : Bytes) (c : Comparison) → Spells w (token.Comparison c) → IsRead w rest (token.Comparison c)
unfolding token_at sign_at sign_of symbol_of comparison_of
comparison_read w rest by.Equal h = spelled_as w (codes "=") rest (token.Comparison by.Equal) h (λ at k. refl)
comparison_read w rest by.NotEqual (inl h) = spelled_as w (codes "<>") rest (token.Comparison by.NotEqual) h (λ at k. refl)
comparison_read w rest by.NotEqual (inr h) = spelled_as w (codes "!=") rest (token.Comparison by.NotEqual) h (λ at k. refl)
comparison_read w rest by.Less h = spelled_as w (codes "<") rest (token.Comparison by.Less) h (less_read rest)
comparison_read w rest by.LessOrEqual h = spelled_as w (codes "<=") rest (token.Comparison by.LessOrEqual) h (λ at k. refl)
comparison_read w rest by.Greater h = spelled_as w (codes ">") rest (token.Comparison by.Greater) h (greater_read rest)
comparison_read w rest by.GreaterOrEqual h = spelled_as w (codes ">=") rest (token.Comparison by.GreaterOrEqual) h (λ at k. refl)

spelled_read : (w rest : Bytes) (kind : TokenKind) → Spells w kind → IsRead w rest kind
spelled_read w rest (token.Keyword k) h = word_read w rest (token.Keyword k) h.0 (ap (word_kind_by (map to_ascii_lowercase w)) h.1)
spelled_read w rest (token.Name n) h = word_read w rest (token.Name n) h.0 (ap word_kind h.1 ∙ ap (word_kind_by n) h.2)
spelled_read w rest (token.Number n) h = number_read w rest n h
spelled_read w rest (token.Text t) h = spelled_as w (quoted t) rest (token.Text t) h (text_read t rest)
spelled_read w rest (token.Symbol symbol) h = spelled_as w (symbol_text symbol) rest (token.Symbol symbol) h (symbol_read symbol rest)
spelled_read w rest (token.Comparison c) h = comparison_read w rest c h

no_farther_by : (w rest : Bytes) (n : ℕ) → IsLongest w rest → (reason : ParseReason) → Refuses (w ++ rest) n reason → n ≤ length w
no_farther_by w rest n longest NoToken h = omega arith
no_farther_by w rest n longest OpenText h =
    let k = longest (opened h.0) [] (append-nil (opened h.0) ∙ sym h.1) (inr (inr (h.0, refl))) in
    omega (arith, ap length h.1, h.2)
no_farther_by w rest n longest NumberRange h = let k = longest h.0 h.1 (sym h.2) (inr (inl h.4)) in let l = h.3 in omega arith
no_farther_by w rest n longest Unexpected h = absurd h
no_farther_by w rest n longest TooDeep h = absurd h
no_farther_by w rest n longest TooLong h = absurd h

pub no_farther : (at : ℕ) (w rest : Bytes) (n : ℕ) → IsLongest w rest → (r : Lexed) → Sound at (w ++ rest) n r → n ≤ length w
no_farther at w rest n longest (Ok x) h = let k = longest h.0 x.1 (sym h.1) (inl (x.0, h.3)) in let l = h.2 in omega arith
no_farther at w rest n longest (Err r) h = no_farther_by w rest n longest r.reason h.1

-- the longest token that stands there is read
pub token_only : (at : ℕ) (w rest : Bytes) (kind : TokenKind) → Spells w kind → IsLongest w rest → token_at at (w ++ rest) ≡ Ok (kind, rest)
token_only at w rest kind h longest =
    let low = reaches w rest (inl (kind, h)) in
    let high = no_farther at w rest (reach (w ++ rest)) longest (token_at at (w ++ rest)) (sound at (w ++ rest)) in
    spelled_read w rest kind h at (omega arith)

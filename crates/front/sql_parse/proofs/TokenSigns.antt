-- The tokens of one or two signs.
use Rattle.std.proofs.Common.{◌≡◌, ◌==◌, ◌<◌, ◌&&◌, ℕ, if◌then◌else◌, Bool, true, false, [], ◌∷◌, Option, Some, None, refl, subst, arith}
use Rattle.std.proofs.lemmas.Bool.Decides.{nat_tests}
use Rattle.std.proofs.lemmas.Str.Ascii.{IsAscii-cons, IsAscii-nil}
use Rattle.std.specs.Prelude.{slice_index}
use Rattle.values.specs.declared.truth.Comparison.TheVariants as by
use Rattle.sql_parse.specs.declared.token.Symbol.{Symbol}
use Rattle.sql_parse.specs.declared.token.Symbol.TheVariants as s
use Rattle.sql_parse.specs.declared.token.TokenKind.{TokenKind}
use Rattle.sql_parse.specs.declared.token.TokenKind.TheVariants as token
use Rattle.sql_parse.specs.Tokens.{Bytes}
use Rattle.sql_parse.specs.Reading.{IsCut, symbol_of, comparison_of, sign_by, sign_of}

abbrev pub symbol_code : Symbol → ℕ
symbol_code s.OpenParenthesis = 40
symbol_code s.CloseParenthesis = 41
symbol_code s.Comma = 44
symbol_code s.Dot = 46
symbol_code s.Star = 42
symbol_code s.Semicolon = 59

same_code : (f n : ℕ) → (f == n) ≡ true → n ≡ f
same_code f n h = grind (arith, nat_tests)

abbrev pub Found : Type 0
Found = Option (TokenKind × ℕ)

-- A fact of what two characters begin: one case for each token.
pub by_sign : (P : ℕ → ℕ → Found → Type 0)
    → ((symbol : Symbol) (d : ℕ) → P (symbol_code symbol) d (Some (token.Symbol symbol, 1)))
    → ((d : ℕ) → P 61 d (Some (token.Comparison by.Equal, 1)))
    → P 60 61 (Some (token.Comparison by.LessOrEqual, 2))
    → P 60 62 (Some (token.Comparison by.NotEqual, 2))
    → ((d : ℕ) → (d == 61) ≡ false → (d == 62) ≡ false → P 60 d (Some (token.Comparison by.Less, 1)))
    → P 62 61 (Some (token.Comparison by.GreaterOrEqual, 2))
    → ((d : ℕ) → (d == 61) ≡ false → P 62 d (Some (token.Comparison by.Greater, 1)))
    → P 33 61 (Some (token.Comparison by.NotEqual, 2))
    → ((c d : ℕ) → P c d None)
    → (c d : ℕ) → P c d (sign_of c d)
unfolding sign_of symbol_of comparison_of
by_sign P symbol equal at_most unequal less at_least greater other none c d =
    paren (c == 40) refl where
      -- the comparisons
      bang : (b e : Bool) → (c == 33) ≡ b → (d == 61) ≡ e → P c d (sign_by None (if b && e then Some (by.NotEqual, 2) else None))
      bang true true h i = subst (λ x. P x d (Some (token.Comparison by.NotEqual, 2))) (same_code c 33 h) (subst (λ y. P 33 y (Some (token.Comparison by.NotEqual, 2))) (same_code d 61 i) other)
      bang true false h i = none c d
      bang false e h i = none c d

      more_equal : (b : Bool) → (d == 61) ≡ b → P 62 d (sign_by None (if b then Some (by.GreaterOrEqual, 2) else Some (by.Greater, 1)))
      more_equal true h = subst (λ y. P 62 y (Some (token.Comparison by.GreaterOrEqual, 2))) (same_code d 61 h) at_least
      more_equal false h = greater d h

      more : (b : Bool) → (c == 62) ≡ b → P c d (sign_by None (if b then (if d == 61 then Some (by.GreaterOrEqual, 2) else Some (by.Greater, 1)) else if c == 33 && d == 61 then Some (by.NotEqual, 2) else None))
      more true h = subst (λ x. P x d (sign_by None (if d == 61 then Some (by.GreaterOrEqual, 2) else Some (by.Greater, 1)))) (same_code c 62 h) (more_equal (d == 61) refl)
      more false h = bang (c == 33) (d == 61) refl refl

      less_unequal : (a b : Bool) → (d == 61) ≡ a → (d == 62) ≡ b → P 60 d (sign_by None (if a then Some (by.LessOrEqual, 2) else if b then Some (by.NotEqual, 2) else Some (by.Less, 1)))
      less_unequal true b h i = subst (λ y. P 60 y (Some (token.Comparison by.LessOrEqual, 2))) (same_code d 61 h) at_most
      less_unequal false true h i = subst (λ y. P 60 y (Some (token.Comparison by.NotEqual, 2))) (same_code d 62 i) unequal
      less_unequal false false h i = less d h i

      fewer : (b : Bool) → (c == 60) ≡ b → P c d (sign_by None (if b then (if d == 61 then Some (by.LessOrEqual, 2) else if d == 62 then Some (by.NotEqual, 2) else Some (by.Less, 1))
          else if c == 62 then (if d == 61 then Some (by.GreaterOrEqual, 2) else Some (by.Greater, 1)) else if c == 33 && d == 61 then Some (by.NotEqual, 2) else None))
      fewer true h = subst (λ x. P x d (sign_by None (if d == 61 then Some (by.LessOrEqual, 2) else if d == 62 then Some (by.NotEqual, 2) else Some (by.Less, 1)))) (same_code c 60 h) (less_unequal (d == 61) (d == 62) refl refl)
      fewer false h = more (c == 62) refl

      even : (b : Bool) → (c == 61) ≡ b → P c d (sign_by None (if b then Some (by.Equal, 1) else if c == 60 then (if d == 61 then Some (by.LessOrEqual, 2) else if d == 62 then Some (by.NotEqual, 2) else Some (by.Less, 1))
          else if c == 62 then (if d == 61 then Some (by.GreaterOrEqual, 2) else Some (by.Greater, 1)) else if c == 33 && d == 61 then Some (by.NotEqual, 2) else None))
      even true h = subst (λ x. P x d (Some (token.Comparison by.Equal, 1))) (same_code c 61 h) (equal d)
      even false h = fewer (c == 60) refl

      -- the symbols
      one : (symbol_found : Symbol) → (c == symbol_code symbol_found) ≡ true → P c d (Some (token.Symbol symbol_found, 1))
      one t h = subst (λ x. P x d (Some (token.Symbol t, 1))) (same_code c (symbol_code t) h) (symbol t d)

      semicolon : (b : Bool) → (c == 59) ≡ b → P c d (sign_by (if b then Some s.Semicolon else None) (comparison_of c d))
      semicolon true h = one s.Semicolon h
      semicolon false h = even (c == 61) refl

      star : (b : Bool) → (c == 42) ≡ b → P c d (sign_by (if b then Some s.Star else if c == 59 then Some s.Semicolon else None) (comparison_of c d))
      star true h = one s.Star h
      star false h = semicolon (c == 59) refl

      dot : (b : Bool) → (c == 46) ≡ b → P c d (sign_by (if b then Some s.Dot else if c == 42 then Some s.Star else if c == 59 then Some s.Semicolon else None) (comparison_of c d))
      dot true h = one s.Dot h
      dot false h = star (c == 42) refl

      comma : (b : Bool) → (c == 44) ≡ b → P c d (sign_by (if b then Some s.Comma else if c == 46 then Some s.Dot else if c == 42 then Some s.Star else if c == 59 then Some s.Semicolon else None) (comparison_of c d))
      comma true h = one s.Comma h
      comma false h = dot (c == 46) refl

      close : (b : Bool) → (c == 41) ≡ b → P c d (sign_by (if b then Some s.CloseParenthesis else if c == 44 then Some s.Comma else if c == 46 then Some s.Dot else if c == 42 then Some s.Star else if c == 59 then Some s.Semicolon else None) (comparison_of c d))
      close true h = one s.CloseParenthesis h
      close false h = comma (c == 44) refl

      paren : (b : Bool) → (c == 40) ≡ b → P c d (sign_by (if b then Some s.OpenParenthesis else if c == 41 then Some s.CloseParenthesis else if c == 44 then Some s.Comma else if c == 46 then Some s.Dot else if c == 42 then Some s.Star else if c == 59 then Some s.Semicolon else None) (comparison_of c d))
      paren true h = one s.OpenParenthesis h
      paren false h = close (c == 41) refl

-- ---- how long they are

abbrev pub FoundCut : Bytes → Found → Type 0
FoundCut bs None = Unit {0}
FoundCut bs (Some x) = IsCut bs x.1

one_sign : (bs : Bytes) (c : ℕ) → slice_index bs 0 ≡ c → 0 < c → c < 128 → IsCut bs 1
one_sign [] c h p q = absurd (omega arith)
one_sign (b ∷ bs) c h p q = record { within = omega arith; ascii = IsAscii-cons b [] (omega arith) IsAscii-nil }

two_signs : (bs : Bytes) (c d : ℕ) → slice_index bs 0 ≡ c → slice_index bs 1 ≡ d → 0 < d → c < 128 → d < 128 → IsCut bs 2
two_signs [] c d h i p q r = absurd (omega arith)
two_signs (b ∷ []) c d h i p q r = absurd (omega arith)
two_signs (a ∷ b ∷ bs) c d h i p q r =
    record { within = omega arith; ascii = IsAscii-cons a (b ∷ []) (omega arith) (IsAscii-cons b [] (omega arith) IsAscii-nil) }

symbol_low : (symbol : Symbol) → (0 < symbol_code symbol) × (symbol_code symbol < 128)
symbol_low s.OpenParenthesis = (omega arith, omega arith)
symbol_low s.CloseParenthesis = (omega arith, omega arith)
symbol_low s.Comma = (omega arith, omega arith)
symbol_low s.Dot = (omega arith, omega arith)
symbol_low s.Star = (omega arith, omega arith)
symbol_low s.Semicolon = (omega arith, omega arith)

pub sign_cut : (bs : Bytes) → FoundCut bs (sign_of (slice_index bs 0) (slice_index bs 1))
sign_cut bs =
    by_sign (λ c d o. slice_index bs 0 ≡ c → slice_index bs 1 ≡ d → FoundCut bs o)
    (λ symbol d h i. let low = symbol_low symbol in one_sign bs (symbol_code symbol) h low.0 low.1)
    (λ d h i. one_sign bs 61 h (omega arith) (omega arith))
    (λ h i. two_signs bs 60 61 h i (omega arith) (omega arith) (omega arith))
    (λ h i. two_signs bs 60 62 h i (omega arith) (omega arith) (omega arith))
    (λ d _ _ h i. one_sign bs 60 h (omega arith) (omega arith))
    (λ h i. two_signs bs 62 61 h i (omega arith) (omega arith) (omega arith))
    (λ d _ h i. one_sign bs 62 h (omega arith) (omega arith))
    (λ h i. two_signs bs 33 61 h i (omega arith) (omega arith) (omega arith))
    (λ c d h i. tt)
    (slice_index bs 0) (slice_index bs 1) refl refl

-- Bytes are one list of tokens at most, and have one place at most where none begins.
use Rattle.std.proofs.Common.{◌≡◌, ◌+◌, ℕ, if◌then◌else◌, Bool, true, false, List, [], ◌∷◌, ◌++◌, length, drop, None, Ok, Err, refl, sym, ◌∙◌, ap, subst, inl, inr, arith, append-nil, length-append}
use Rattle.std.proofs.lemmas.List.{take_at}
use Rattle.std.specs.Prelude.{FitsSigned}
use Rattle.std.specs.Int.{w64}
use Rattle.std.specs.Str.Parse.{signed_digits_value}
use Rattle.sql_parse.specs.declared.fault.ParseReason.{ParseReason}
use Rattle.sql_parse.specs.declared.fault.ParseReason.TheVariants.{NoToken, OpenText, NumberRange, Unexpected, TooDeep, TooLong}
use Rattle.sql_parse.specs.declared.fault.ParseRefusal.{ParseRefusal}
use Rattle.sql_parse.specs.declared.token.Token.{Token}
use Rattle.sql_parse.specs.declared.token.TokenKind.{TokenKind}
use Rattle.sql_parse.specs.declared.token.TokenKind.TheVariants as token
use Rattle.sql_parse.specs.Tokens.{Bytes, is_space, IsNumber, opened, doubled, IsLongest, Begins, AreTokens, IsNoToken, IsLexicalFault}
use Rattle.sql_parse.specs.Reading.{Lexed, refusal, fits, number_at, number_found, number_len, quoted_at, text_at, text_found, token_at}
use Rattle.sql_parse.specs.OneReading.{TokensAreOne}
use Rattle.sql_parse.proofs.TextSpelled.{read_doubled_text}
use Rattle.sql_parse.proofs.TokenLists.{Starts, same_front, number_begins, spelled_starts, read_as, same_pair, token_of}
use Rattle.sql_parse.proofs.TokenNumbers.{SFits-from_fits}
use Rattle.sql_parse.proofs.TokenOnly.{at_number, at_text, no_farther, number_reach, number_starts, token_only}
use Rattle.sql_parse.proofs.TokenReach.{reach, reaches, whole_some}
use Rattle.sql_parse.proofs.TokenSound.{sound, token_found, token_none}

-- ---- where no token begins none is read

open_unread : (at : ℕ) (t : Bytes) → token_at at (opened t) ≡ Err (refusal OpenText at)
unfolding text_at
open_unread at t =
    let none : quoted_at (doubled t) ≡ None = ap quoted_at (sym (append-nil (doubled t))) ∙ read_doubled_text t [] in
    at_text at (doubled t) ∙ ap (text_found at) none

abbrev as_number : ℕ → Bytes → Bytes → Lexed
as_number at w rest = if fits (signed_digits_value 10 w) then Ok (token.Number (signed_digits_value 10 w), rest) else Err (refusal NumberRange at)

past_range : (at : ℕ) (w rest : Bytes) (b : Bool) → fits (signed_digits_value 10 w) ≡ b → (FitsSigned w64 (signed_digits_value 10 w) → ⊥) → as_number at w rest ≡ Err (refusal NumberRange at)
past_range at w rest true is past = absurd (past (SFits-from_fits (signed_digits_value 10 w) is))
past_range at w rest false is past = rw is refl

range_unread : (at : ℕ) (w rest : Bytes) → IsNumber w → IsLongest w rest → (FitsSigned w64 (signed_digits_value 10 w) → ⊥) → token_at at (w ++ rest) ≡ Err (refusal NumberRange at)
unfolding number_at
range_unread at w rest number longest past =
    let bs = w ++ rest in
    let starts = number_starts w rest number in
    let low = reaches w rest (inr (inl number)) in
    let high = no_farther at w rest (reach bs) longest (token_at at bs) (sound at bs) in
    let read = number_reach bs starts in
    let len : number_len bs ≡ length w = omega arith in
    at_number at bs starts ∙ ap (number_found at bs) len ∙ ap (λ v. as_number at v (drop (length w) bs)) (take_at w rest (length w) refl)
    ∙ past_range at w (drop (length w) bs) (fits (signed_digits_value 10 w)) refl past

none_unread : (at c : ℕ) (z : Bytes) (x : Lexed) → token_at at (c ∷ z) ≡ x → IsNoToken NoToken (c ∷ z) → token_at at (c ∷ z) ≡ Err (refusal NoToken at)
none_unread at c z (Ok x) is none = let found = token_found at (c ∷ z) x is in absurd (none.1 found.0 x.1 (sym found.1) (inl (x.0, found.2)))
none_unread at c z (Err r) is none = by r.reason refl (token_none at c z r none.0 is) where
  by : (reason : ParseReason) → r.reason ≡ reason → (r.at ≡ at) × IsNoToken r.reason (c ∷ z) → token_at at (c ∷ z) ≡ Err (refusal NoToken at)
  by NoToken same h = let e : refusal r.reason r.at ≡ refusal NoToken at = cc in is ∙ ap (λ (x : ParseRefusal). Err x) e
  by OpenText same h = let k = rw same at h.1 in absurd (none.1 (opened k.0) [] (append-nil (opened k.0) ∙ sym k.1) (inr (inr (k.0, refl))))
  by NumberRange same h = let k = rw same at h.1 in absurd (none.1 k.0 k.1 (sym k.2) (inr (inl k.3)))
  by Unexpected same h = absurd (rw same at h.1)
  by TooDeep same h = absurd (rw same at h.1)
  by TooLong same h = absurd (rw same at h.1)

-- where there is no token for a reason none is read for it
unread : (at : ℕ) (reason : ParseReason) (bs : Bytes) → IsNoToken reason bs → token_at at bs ≡ Err (refusal reason at)
unread at NoToken [] none = absurd none
unread at NoToken (c ∷ z) none = none_unread at c z (token_at at (c ∷ z)) refl none
unread at OpenText bs none = ap (token_at at) none.1 ∙ open_unread at none.0
unread at NumberRange bs none = ap (token_at at) none.2 ∙ range_unread at none.0 none.1 none.3 none.4 none.5
unread at Unexpected bs none = absurd none
unread at TooDeep bs none = absurd none
unread at TooLong bs none = absurd none

-- it is no white space, and no token is read there
abbrev NoneAt : Bytes → Type 0
NoneAt bs = Starts is_space bs × ((at : ℕ) (x : TokenKind × Bytes) → token_at at bs ≡ Ok x → ⊥)

none_starts : (reason : ParseReason) (bs : Bytes) → IsNoToken reason bs → Starts is_space bs
none_starts NoToken [] none = absurd none
none_starts NoToken (c ∷ z) none = none.0
none_starts OpenText bs none = subst (Starts is_space) (sym none.1) refl
none_starts NumberRange bs none = subst (Starts is_space) (sym none.2) (number_begins none.0 none.1 none.3)
none_starts Unexpected bs none = absurd none
none_starts TooDeep bs none = absurd none
none_starts TooLong bs none = absurd none

none_at : (reason : ParseReason) (bs : Bytes) → IsNoToken reason bs → NoneAt bs
none_at reason bs none = (none_starts reason bs none, λ at x is. let e = sym (unread at reason bs none) ∙ is in cc)

none_at_end : NoneAt []
unfolding token_at
none_at_end = (tt, λ at x is. let found = token_found at [] x is in absurd (omega (arith, whole_some found.0 (inl (x.0, found.2)), ap length found.1, length-append found.0 x.1)))

-- ---- what is before it is one list of tokens

abbrev Same : List Token → List Token → ℕ → ℕ → Bytes → Bytes → Type 0
Same xs ys a b r q = (xs ≡ ys) × (a ≡ b) × (r ≡ q)

-- up to where none begins bytes are one list of tokens
one_run : (place : ℕ) (bs : Bytes) (xs ys : List Token) (a b : ℕ) (r q : Bytes) → NoneAt r → NoneAt q → Begins place bs xs a r → Begins place bs ys b q → Same xs ys a b r q
one_run place bs [] [] a b r q n m (s, e, u, k) (z, f, v, l) =
    let same = same_front is_space s z r q u v n.0 m.0 (sym e ∙ f) in
    (refl, omega (arith, ap length same.0), same.1)
one_run place bs [] (t ∷ ys) a b r q n m (s, e, u, k) (z, w, behind, f, v, l, spells, longest, more) =
    let same = same_front is_space s z r (w ++ behind) u v n.0 (spelled_starts w behind t.kind spells) (sym e ∙ f) in
    absurd (n.1 0 (t.kind, behind) (ap (token_at 0) same.1 ∙ token_only 0 w behind t.kind spells longest))
one_run place bs (t ∷ xs) [] a b r q n m (z, w, behind, f, v, l, spells, longest, more) (s, e, u, k) =
    let same = same_front is_space s z q (w ++ behind) u v m.0 (spelled_starts w behind t.kind spells) (sym e ∙ f) in
    absurd (m.1 0 (t.kind, behind) (ap (token_at 0) same.1 ∙ token_only 0 w behind t.kind spells longest))
one_run place bs (t ∷ xs) (o ∷ ys) a b r q n m (s, w, rest, e, u, k, spells, longest, more) (z, y, behind, f, v, l, spelled, longer, others) =
    let same = same_front is_space s z (w ++ rest) (y ++ behind) u v (spelled_starts w rest t.kind spells) (spelled_starts y behind o.kind spelled) (sym e ∙ f) in
    let read : read_as (t.kind, rest) ≡ read_as (o.kind, behind) = sym (token_only 0 w rest t.kind spells longest) ∙ ap (token_at 0) same.1 ∙ token_only 0 y behind o.kind spelled longer in
    let pair = same_pair (t.kind, rest) (o.kind, behind) read in
    let left = pair.1 in
    let at : t.at ≡ o.at = omega (arith, ap length same.0) in
    let end : o.at + length y ≡ t.at + length w = omega (arith, ap length same.1, ap length left, length-append w rest, length-append y behind) in
    let go = one_run (t.at + length w) rest xs ys a b r q n m more (subst (λ p. Begins p rest ys b q) end (subst (λ x. Begins (o.at + length y) x ys b q) (sym left) others)) in
    let kinds = pair.0 in
    let first : token_of t.kind t.at ≡ token_of o.kind o.at = cc in
    let behind_it = go.0 in
    let all : token_of t.kind t.at ∷ xs ≡ token_of o.kind o.at ∷ ys = cc in
    (all, go.1, go.2)

pub one_tokens : TokensAreOne
one_tokens bytes x y are also = (one_run 0 bytes x y (length bytes) (length bytes) [] [] none_at_end none_at_end are also).0

none_of_nothing : (reason : ParseReason) → IsNoToken reason [] → ⊥
none_of_nothing NoToken none = none
none_of_nothing OpenText none = let e = none.1 in cc
none_of_nothing NumberRange none = absurd (omega (arith, whole_some none.0 (inr (inl none.3)), ap length none.2, length-append none.0 none.1))
none_of_nothing Unexpected none = none
none_of_nothing TooDeep none = none
none_of_nothing TooLong none = none

-- bytes that are tokens have no place where none begins
pub tokens_whole : (bytes : Bytes) (ts : List Token) (r : ParseRefusal) → AreTokens bytes ts → IsLexicalFault bytes r → ⊥
tokens_whole bytes ts r are fault =
    let same = one_run 0 bytes ts fault.tokens (length bytes) r.at [] fault.rest none_at_end (none_at r.reason fault.rest fault.none) are fault.begins in
    none_of_nothing r.reason (subst (IsNoToken r.reason) (sym same.2) fault.none)

-- and others have one such place
pub one_break : (bytes : Bytes) (q r : ParseRefusal) → IsLexicalFault bytes q → IsLexicalFault bytes r → q ≡ r
one_break bytes q r first fault =
    let same = one_run 0 bytes first.tokens fault.tokens q.at r.at first.rest fault.rest (none_at q.reason first.rest first.none) (none_at r.reason fault.rest fault.none) first.begins fault.begins in
    let at = same.1 in
    let read : Err (refusal q.reason 0) ≡ token_at 0 fault.rest = sym (unread 0 q.reason first.rest first.none) ∙ ap (token_at 0) same.2 in
    let both : Err (refusal q.reason 0) ≡ Err (refusal r.reason 0) = read ∙ unread 0 r.reason fault.rest fault.none in
    let why : refusal q.reason 0 ≡ refusal r.reason 0 = cc in
    let reason = ap (λ (x : ParseRefusal). x.reason) why in
    let all : refusal q.reason q.at ≡ refusal r.reason r.at = cc in
    all

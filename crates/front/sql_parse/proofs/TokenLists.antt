-- The tokens of a text, one after another.
use Rattle.std.proofs.Common.{◌≡◌, ◌==◌, ◌+◌, ◌-◌, ◌<◌, ◌≤◌, ℕ, suc, Bool, true, false, List, [], ◌∷◌, ◌++◌, length, take, drop, Result, Ok, Err, refl, sym, ◌∙◌, ap, subst, inl, inr, arith, append_assoc, append-nil, length-append}
use Rattle.std.proofs.lemmas.Bool.{false≢true}
use Rattle.std.proofs.lemmas.Bool.Decides.{nat_tests}
use Rattle.std.proofs.lemmas.List.{take-append-drop, length-take-le, length-drop}
use Rattle.std.proofs.lemmas.List.Sums.{prefix_len-le-length}
use Rattle.std.specs.List.{prefix_len}
use Rattle.values.specs.declared.truth.Comparison.TheVariants as by
use Rattle.values.specs.declared.fault.Fault.{Fault}
use Rattle.values.specs.declared.fault.Fault.TheVariants.{Memory, Refused}
use Rattle.values.specs.Faults.{Fails, Gives}
use Rattle.sql_parse.specs.declared.fault.ParseRefusal.{ParseRefusal}
use Rattle.sql_parse.specs.declared.token.Symbol.TheVariants as s
use Rattle.sql_parse.specs.declared.token.Token.{Token}
use Rattle.sql_parse.specs.declared.token.TokenKind.{TokenKind}
use Rattle.sql_parse.specs.declared.token.TokenKind.TheVariants as token
use Rattle.sql_parse.specs.Tokens.{Bytes, Are, is_space, IsWord, IsNumber, Spells, Begins, AreTokens, IsLexicalFault}
use Rattle.sql_parse.specs.ReadingFaults.{IfRefused}
use Rattle.sql_parse.specs.Reading.{Lexed, token_at}
use Rattle.sql_parse.proofs.TokenNumbers.{are_run}
use Rattle.sql_parse.proofs.TokenOnly.{token_only}
use Rattle.sql_parse.proofs.TokenReach.{whole_some}
use Rattle.sql_parse.proofs.TokenSound.{token_found, token_none}

-- ---- runs of characters

pub are_append : (p : ℕ → Bool) (a b : Bytes) → Are p a → Are p b → Are p (a ++ b)
are_append p [] b h k = k
are_append p (c ∷ a) b h k = (h.0, are_append p a b h.1 k)

-- the first character, if any, fails the test
abbrev pub Starts : (ℕ → Bool) → Bytes → Type 0
Starts p [] = Unit {0}
Starts p (c ∷ z) = p c ≡ false

stops : (p : ℕ → Bool) (bs : Bytes) → Starts p (drop (prefix_len p bs) bs)
stops p [] = tt
stops p (c ∷ bs) = one (p c) refl (stops p bs) where
  one : (b : Bool) → p c ≡ b → Starts p (drop (prefix_len p bs) bs) → Starts p (drop (prefix_len p (c ∷ bs)) (c ∷ bs))
  one true e h =
      let m : prefix_len p (c ∷ bs) ≡ suc (prefix_len p bs) = rw e (omega arith) in
      subst (λ n. Starts p (drop n (c ∷ bs))) (sym m) h
  one false e h = let m : prefix_len p (c ∷ bs) ≡ 0 = rw e refl in subst (λ n. Starts p (drop n (c ∷ bs))) (sym m) e

-- where runs end is determined
pub same_front : (p : ℕ → Bool) (a b x y : Bytes) → Are p a → Are p b → Starts p x → Starts p y → a ++ x ≡ b ++ y → (a ≡ b) × (x ≡ y)
same_front p [] [] x y h k u v e = (refl, e)
same_front p [] (c ∷ b) x y h k u v e = absurd (false≢true (sym (subst (Starts p) e u) ∙ k.0))
same_front p (c ∷ a) [] x y h k u v e = absurd (false≢true (sym (subst (Starts p) (sym e) v) ∙ h.0))
same_front p (c ∷ a) (d ∷ b) x y h k u v e =
    let i : c ≡ d = cc in
    let j : a ++ x ≡ b ++ y = cc in
    let r = same_front p a b x y h.1 k.1 u v j in
    (ap (λ z. z ∷ a) i ∙ ap (λ z. d ∷ z) r.0, r.1)

-- ---- a token begins with no white space

word_starts : (w more : Bytes) → IsWord w → Starts is_space (w ++ more)
word_starts [] more h = absurd h
word_starts (c ∷ w) more h = let e = h.0 in grind (arith, nat_tests)

pub number_begins : (w more : Bytes) → IsNumber w → Starts is_space (w ++ more)
number_begins [] more h = absurd h
number_begins (c ∷ w) more (inl h) = let e = h.0 in grind (arith, nat_tests)
number_begins (c ∷ w) more (inr h) = ap is_space h.0

pub spelled_starts : (w more : Bytes) (kind : TokenKind) → Spells w kind → Starts is_space (w ++ more)
spelled_starts w more (token.Keyword k) h = word_starts w more h.0
spelled_starts w more (token.Name n) h = word_starts w more h.0
spelled_starts w more (token.Number n) h = number_begins w more h.0
spelled_starts w more (token.Text t) h = subst (λ w. Starts is_space (w ++ more)) (sym h) refl
spelled_starts w more (token.Symbol s.OpenParenthesis) h = subst (λ w. Starts is_space (w ++ more)) (sym h) refl
spelled_starts w more (token.Symbol s.CloseParenthesis) h = subst (λ w. Starts is_space (w ++ more)) (sym h) refl
spelled_starts w more (token.Symbol s.Comma) h = subst (λ w. Starts is_space (w ++ more)) (sym h) refl
spelled_starts w more (token.Symbol s.Dot) h = subst (λ w. Starts is_space (w ++ more)) (sym h) refl
spelled_starts w more (token.Symbol s.Star) h = subst (λ w. Starts is_space (w ++ more)) (sym h) refl
spelled_starts w more (token.Symbol s.Semicolon) h = subst (λ w. Starts is_space (w ++ more)) (sym h) refl
spelled_starts w more (token.Comparison by.Equal) h = subst (λ w. Starts is_space (w ++ more)) (sym h) refl
spelled_starts w more (token.Comparison by.NotEqual) (inl h) = subst (λ w. Starts is_space (w ++ more)) (sym h) refl
spelled_starts w more (token.Comparison by.NotEqual) (inr h) = subst (λ w. Starts is_space (w ++ more)) (sym h) refl
spelled_starts w more (token.Comparison by.Less) h = subst (λ w. Starts is_space (w ++ more)) (sym h) refl
spelled_starts w more (token.Comparison by.LessOrEqual) h = subst (λ w. Starts is_space (w ++ more)) (sym h) refl
spelled_starts w more (token.Comparison by.Greater) h = subst (λ w. Starts is_space (w ++ more)) (sym h) refl
spelled_starts w more (token.Comparison by.GreaterOrEqual) h = subst (λ w. Starts is_space (w ++ more)) (sym h) refl

-- ---- white space before tokens

skip_into : (place : ℕ) (spaces bs : Bytes) (ts : List Token) (at : ℕ) (rest : Bytes) → Are is_space spaces → Begins (place + length spaces) bs ts at rest → Begins place (spaces ++ bs) ts at rest
skip_into place a bs [] at rest s (b, e, u, k) =
    (a ++ b, ap (λ x. a ++ x) e ∙ sym (append_assoc a b rest), are_append is_space a b s u, omega (arith, length-append a b))
skip_into place a bs (t ∷ ts) at rest s (b, w, behind, e, u, k, spells, longest, more) =
    (a ++ b, w, behind, ap (λ x. a ++ x) e ∙ sym (append_assoc a b (w ++ behind)), are_append is_space a b s u, omega (arith, length-append a b), spells, longest, more)

skip_out : (place : ℕ) (spaces bs : Bytes) (ts : List Token) (at : ℕ) → Are is_space spaces → Starts is_space bs → Begins place (spaces ++ bs) ts at [] → Begins (place + length spaces) bs ts at []
skip_out place a bs [] at s n (b, e, u, k) =
    let same = same_front is_space a b bs [] s u n tt e in
    ([], same.1, tt, omega (arith, ap length same.0))
skip_out place a bs (t ∷ ts) at s n (b, w, behind, e, u, k, spells, longest, more) =
    let same = same_front is_space a b bs (w ++ behind) s u n (spelled_starts w behind t.kind spells) e in
    ([], w, behind, same.1, tt, omega (arith, ap length same.0), spells, longest, more)

abbrev spaces : Bytes → ℕ
spaces bs = prefix_len is_space bs

-- what is behind the white space at the front
abbrev trimmed : Bytes → Bytes
trimmed bs = drop (spaces bs) bs

trimmed_place : (place : ℕ) (bs : Bytes) → place + length (take (spaces bs) bs) ≡ place + (length bs - length (trimmed bs))
trimmed_place place bs = omega (arith, length-take-le (spaces bs) bs (prefix_len-le-length is_space bs), length-drop (spaces bs) bs, prefix_len-le-length is_space bs)

trimmed_into : (place : ℕ) (bs : Bytes) (ts : List Token) (at : ℕ) (rest : Bytes) → Begins (place + (length bs - length (trimmed bs))) (trimmed bs) ts at rest → Begins place bs ts at rest
trimmed_into place bs ts at rest h =
    let n = spaces bs in
    subst (λ b. Begins place b ts at rest) (take-append-drop n bs)
    (skip_into place (take n bs) (drop n bs) ts at rest (are_run is_space bs) (subst (λ k. Begins k (drop n bs) ts at rest) (sym (trimmed_place place bs)) h))

trimmed_out : (place : ℕ) (bs : Bytes) (ts : List Token) (at : ℕ) → Begins place bs ts at [] → Begins (place + (length bs - length (trimmed bs))) (trimmed bs) ts at []
trimmed_out place bs ts at h =
    let n = spaces bs in
    subst (λ k. Begins k (drop n bs) ts at []) (trimmed_place place bs)
    (skip_out place (take n bs) (drop n bs) ts at (are_run is_space bs) (stops is_space bs) (subst (λ b. Begins place b ts at []) (sym (take-append-drop n bs)) h))

-- ---- one token

abbrev pub token_of : TokenKind → ℕ → Token
token_of kind at = record { kind = kind; at = at }

step_into : (at : ℕ) (bs behind : Bytes) (kind : TokenKind) (more : List Token) (end : ℕ) (rest : Bytes) → token_at at bs ≡ Ok (kind, behind)
    → Begins (at + (length bs - length behind)) behind more end rest → Begins at bs (token_of kind at ∷ more) end rest
step_into at bs behind kind more end rest e h =
    let f = token_found at bs (kind, behind) e in
    let m : at + (length bs - length behind) ≡ at + length f.0 = omega (arith, ap length f.1, length-append f.0 behind) in
    ([], f.0, behind, f.1, tt, omega arith, f.2, f.3, subst (λ n. Begins n behind more end rest) m h)

-- what the tokens are, where a token begins
record Next (at : ℕ) (bs : Bytes) (ts : List Token) (end : ℕ) : Type 0 where
  kind : TokenKind
  behind : Bytes
  more : List Token
  read : token_at at bs ≡ Ok (kind, behind)
  tokens : ts ≡ token_of kind at ∷ more
  rest : Begins (at + (length bs - length behind)) behind more end []

next : (at : ℕ) (bs : Bytes) (ts : List Token) (end : ℕ) → Starts is_space bs → 0 < length bs → Begins at bs ts end [] → Next at bs ts end
next at [] ts end n l h = absurd (omega arith)
next at (c ∷ z) [] end n l (b, e, u, k) =
    let same = same_front is_space [] b (c ∷ z) [] tt u n tt e in cc
next at (c ∷ z) (t ∷ ts) end n l (b, w, behind, e, u, place, spells, longest, more) =
    let bs = c ∷ z in
    let same = same_front is_space [] b bs (w ++ behind) tt u n (spelled_starts w behind t.kind spells) e in
    let k : t.at ≡ at = omega (arith, ap length same.0) in
    let m : t.at + length w ≡ at + (length bs - length behind) = omega (arith, ap length same.1, length-append w behind) in
    record {
      kind = t.kind;
      behind = behind;
      more = ts;
      read = ap (token_at at) same.1 ∙ token_only at w behind t.kind spells longest;
      tokens = ap (λ (n : ℕ). token_of t.kind n ∷ ts) k;
      rest = subst (λ n. Begins n behind ts end []) m more;
    }

abbrev pub read_as : TokenKind × Bytes → Lexed
read_as x = Ok x

same_ok : (x y : TokenKind × Bytes) → read_as x ≡ read_as y → x ≡ y
same_ok x y e = cc

pub same_pair : (x y : TokenKind × Bytes) → read_as x ≡ read_as y → (x.0 ≡ y.0) × (x.1 ≡ y.1)
same_pair x y e = let p = same_ok x y e in (ap (λ z. z.0) p, ap (λ z. z.1) p)

-- ---- all of them

-- the text's tokens are these, and then those of the rest
pub record Stands (text : Bytes) (done : List Token) (rest : Bytes) : Type 0 where
  pub within : length rest ≤ length text
  pub starts : Starts is_space rest
  pub into : (more : List Token) (end : ℕ) (left : Bytes) → Begins (length text - length rest) rest more end left → Begins 0 text (done ++ more) end left
  pub out : (ts : List Token) (end : ℕ) → Begins 0 text ts end [] → (more : List Token) × (ts ≡ done ++ more) × Begins (length text - length rest) rest more end []

pub stands_first : (text : Bytes) → Stands text [] (trimmed text)
stands_first text =
    let rest = trimmed text in
    let e : 0 + (length text - length rest) ≡ length text - length rest = omega arith in
    record {
      within = omega (arith, length-drop (spaces text) text);
      starts = stops is_space text;
      into = λ more end left h. trimmed_into 0 text more end left (subst (λ n. Begins n rest more end left) (sym e) h);
      out = λ ts end h. (ts, refl, subst (λ n. Begins n rest ts end []) e (trimmed_out 0 text ts end h));
    }

pub stands_next : (text : Bytes) (done : List Token) (rest behind : Bytes) (kind : TokenKind) (at : ℕ) → Stands text done rest → at ≡ length text - length rest → 0 < length rest
    → token_at at rest ≡ Ok (kind, behind) → Stands text (done ++ token_of kind at ∷ []) (trimmed behind)
stands_next text done rest behind kind at s p l e =
    record {
      within = omega (arith, shorter, shortest, s.within);
      starts = stops is_space behind;
      into = λ more end left h.
          subst (λ ts. Begins 0 text ts end left) (sym (append_assoc done (token_of kind at ∷ []) more))
          (s.into (token_of kind at ∷ more) end left (subst (λ n. Begins n rest (token_of kind at ∷ more) end left) p (step_into at rest behind kind more end left e
          (trimmed_into (at + (length rest - length behind)) behind more end left (subst (λ n. Begins n last more end left) (sym place) h)))));
      out = λ ts end h. found ts end h (s.out ts end h);
    } where
      last : Bytes
      last = trimmed behind

      shorter : length behind ≤ length rest
      shorter = let f = token_found at rest (kind, behind) e in omega (arith, ap length f.1, length-append f.0 behind)

      shortest : length last ≤ length behind
      shortest = omega (arith, length-drop (spaces behind) behind)

      place : at + (length rest - length behind) + (length behind - length last) ≡ length text - length last
      place = omega (arith, shorter, shortest, s.within)

      found : (ts : List Token) (end : ℕ) → Begins 0 text ts end [] → (more : List Token) × (ts ≡ done ++ more) × Begins (length text - length rest) rest more end []
          → (more : List Token) × (ts ≡ (done ++ token_of kind at ∷ []) ++ more) × Begins (length text - length last) last more end []
      found ts end h (more, k, b) =
          let n = next at rest more end s.starts l (subst (λ m. Begins m rest more end []) (sym p) b) in
          let same : read_as (n.kind, n.behind) ≡ read_as (kind, behind) = sym n.read ∙ e in
          let pair = same_pair (n.kind, n.behind) (kind, behind) same in
          let i = pair.0 in
          let j = pair.1 in (
            n.more,
            k ∙ ap (λ x. done ++ x) n.tokens ∙ ap (λ x. done ++ token_of x at ∷ n.more) i ∙ sym (append_assoc done (token_of kind at ∷ []) n.more),
            subst (λ m. Begins m last n.more end []) place (trimmed_out (at + (length rest - length behind)) behind n.more end
                (subst (λ x. Begins (at + (length rest - length x)) x n.more end []) j n.rest)),
          )

-- with nothing left they are all
pub stands_last : (text : Bytes) (done : List Token) (rest : Bytes) → Stands text done rest → length rest ≡ 0 → AreTokens text done
stands_last text done [] s h =
    subst (λ ts. Begins 0 text ts (length text) []) (append-nil done) (s.into [] (length text) [] ([], refl, tt, omega arith))
stands_last text done (c ∷ rest) s h = absurd (omega arith)

no_more : (place : ℕ) (more : List Token) (end : ℕ) → Begins place [] more end [] → more ≡ []
no_more place [] end h = refl
no_more place (t ∷ ts) end (b, w, behind, e, u, k, spells, longest, more) =
    absurd (omega (arith, whole_some w (inl (t.kind, spells)), ap length e, length-append b (w ++ behind), length-append w behind))

pub stands_only : (text : Bytes) (done : List Token) (rest : Bytes) → Stands text done rest → length rest ≡ 0 → (ts : List Token) → AreTokens text ts → done ≡ ts
stands_only text done [] s h ts k =
    let o = s.out ts (length text) k in
    sym (o.1 ∙ ap (λ x. done ++ x) (no_more (length text - 0) o.0 (length text) o.2) ∙ append-nil done)
stands_only text done (c ∷ rest) s h ts k = absurd (omega arith)

-- where no token is read there is none
pub stands_none : (text : Bytes) (done : List Token) (rest : Bytes) (at : ℕ) (r : ParseRefusal) → Stands text done rest → at ≡ length text - length rest → 0 < length rest
    → token_at at rest ≡ Err r → (ts : List Token) → AreTokens text ts → ⊥
stands_none text done rest at r s p l e ts h =
    let o = s.out ts (length text) h in
    let n = next at rest o.0 (length text) s.starts l (subst (λ k. Begins k rest o.0 (length text) []) (sym p) o.2) in
    let same = sym e ∙ n.read in
    cc

-- and there the fault is
pub stands_fault : (text : Bytes) (done : List Token) (rest : Bytes) (at : ℕ) (r : ParseRefusal) → Stands text done rest → at ≡ length text - length rest → 0 < length rest
    → token_at at rest ≡ Err r → IsLexicalFault text r
stands_fault text done [] at r s p l e = absurd (omega arith)
stands_fault text done (c ∷ z) at r s p l e =
    let f = token_none at c z r s.starts e in
    record {
      tokens = done;
      rest = c ∷ z;
      begins = subst (λ ts. Begins 0 text ts r.at (c ∷ z)) (append-nil done) (s.into [] r.at (c ∷ z) ([], refl, tt, omega (arith, f.0)));
      none = f.1;
    }

-- ---- what the fault of a reader says

pub some_left : (n : ℕ) (b : Bool) → b ≡ false → b ≡ (n == 0) → 0 < n
some_left n b h e = grind (arith, nat_tests)

pub none_left : (n : ℕ) (b : Bool) → b ≡ true → b ≡ (n == 0) → n ≡ 0
none_left n b h e = grind (arith, nat_tests)

pub shorter : (at : ℕ) (rest behind : Bytes) (kind : TokenKind) → token_at at rest ≡ Ok (kind, behind) → length (trimmed behind) < length rest
shorter at rest behind kind e =
    let f = token_found at rest (kind, behind) e in
    omega (arith, ap length f.1, length-append f.0 behind, whole_some f.0 (inl (kind, f.2)), length-drop (spaces behind) behind)

pub fault_only : (text : Bytes) (done : List Token) (rest : Bytes) (fault : Fault ParseRefusal) → Stands text done rest → 0 < length rest
    → Fails fault (token_at (length text - length rest) rest) → (ts : List Token) → AreTokens text ts → Fails fault (Ok ts)
fault_only text done rest Memory s l e ts h = tt
fault_only text done rest (Refused r) s l e ts h = absurd (stands_none text done rest (length text - length rest) r s refl l e ts h)

pub fault_reported : (text : Bytes) (done : List Token) (rest : Bytes) (fault : Fault ParseRefusal) → Stands text done rest → 0 < length rest
    → Fails fault (token_at (length text - length rest) rest) → IfRefused fault (IsLexicalFault text)
fault_reported text done rest Memory s l e = tt
fault_reported text done rest (Refused r) s l e = stands_fault text done rest (length text - length rest) r s refl l e

abbrev ok_of : List Token → Result (List Token) (Fault ParseRefusal)
ok_of done = Ok done

pub read_all : (text : Bytes) (done : List Token) (rest : Bytes) → Stands text done rest → length rest ≡ 0 → (ts : List Token) → AreTokens text ts → Gives (λ (x : List Token). x) (ok_of done) (Ok ts)
read_all text done rest s h ts k = ap (λ x. Ok x) (sym (stands_only text done rest s h ts k))

-- The first fault of a list of tokens that is no word, or opens too many parentheses. It is reported at the first token that no
-- word has there: the viable-prefix property (Aho, Lam, Sethi and Ullman, Compilers, section 4.1).
use Rattle.std.specs.Prelude.{◌≡◌, ℕ, zero, suc, ◌==◌, if◌then◌else◌, List, [], ◌∷◌, ◌++◌, Option, Some, None}
use Rattle.grammar.specs.Grammars.{Grammar, Language}
use Rattle.grammar.specs.Words.{Reads, Begins}

-- a fault, by the tokens from its place on
pub data Fault (T : Type 0) : Type 0 where
  -- a token that can't stand there, or the end
  Unexpected : List T → Fault T
  -- a parenthesis too many
  TooDeep : List T → Fault T

-- one parenthesis less may be opened
abbrev pub fewer : Option ℕ → Option ℕ
fewer None = None
fewer (Some zero) = None
fewer (Some (suc n)) = Some n

abbrev pub more : Option ℕ → Option ℕ
more None = None
more (Some n) = Some (suc n)

module _ {T : Type 0} {P : Type 0 → Type 1} (L : Language T P) where
  -- How many more parentheses may be opened behind these tokens, of so many before them. None: one of theirs was too many.
  abbrev pub room : Option ℕ → List T → Option ℕ
  room n [] = n
  room n (t ∷ w) = room (if L.class t == L.class L.opening then fewer n else if L.class t == L.class L.closing then more n else n) w

  -- at most so many parentheses are open at once
  abbrev pub IsWithin : ℕ → List T → Type 0
  IsWithin limit w = (n : ℕ) × (room (Some limit) w ≡ Some n)

  module _ {A : Type 0} (g : Grammar T P A) where
    -- No word goes on with the next token; at the end, the tokens are no word.
    abbrev pub Halts : List T → List T → Type 0
    Halts w [] = (v : A) → Reads L g w v → ⊥
    Halts w (t ∷ r) = Begins L g (w ++ t ∷ []) → ⊥

    -- The first token that no word has there is the first of these, or it is the end. None before it is a parenthesis too many.
    pub record IsUnexpected (limit : ℕ) (ts r : List T) : Type 0 where
      pub w : List T
      pub split : ts ≡ w ++ r
      pub begins : Begins L g w
      pub halts : Halts w r
      pub within : IsWithin limit w

    -- The first of these is an opening parenthesis that may stand there, where so many are open. None before it was one too many.
    pub record IsTooDeep (limit : ℕ) (ts r : List T) : Type 0 where
      pub w : List T
      pub t : T
      pub behind : List T
      pub split : ts ≡ w ++ r
      pub next : r ≡ t ∷ behind
      pub opens : L.class t ≡ L.class L.opening
      pub begins : Begins L g (w ++ t ∷ [])
      pub full : room (Some limit) w ≡ Some 0

    -- the first fault of the tokens
    abbrev pub IsFirstFault : ℕ → List T → Fault T → Type 0
    IsFirstFault limit ts (Unexpected r) = IsUnexpected limit ts r
    IsFirstFault limit ts (TooDeep r) = IsTooDeep limit ts r

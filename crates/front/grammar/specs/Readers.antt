-- Reading a word from the left with one token of look-ahead, and when one token is enough: first sets and LL(1) grammars (Aho,
-- Lam, Sethi and Ullman, Compilers, section 4.4).
use Rattle.std.specs.Prelude.{◌≡◌, ℕ, zero, suc, Bool, true, false, not, ◌&&◌, ◌||◌, ◌==◌, if◌then◌else◌, List, [], ◌∷◌, ◌++◌, length, Result, Ok, Err}
use Rattle.grammar.specs.Grammars.{Grammar, tok, pure, seq, map, alt, many, nested, Language, closed}
use Rattle.grammar.specs.Words.{Within}

-- what is read next, unless there was a fault
infixl 10 ◌>>=◌
abbrev pub ◌>>=◌ : {A B E : Type 0} → Result A E → (A → Result B E) → Result B E
(Ok x) >>= f = f x
(Err e) >>= f = Err e

abbrev pub member : ℕ → List ℕ → Bool
member x [] = false
member x (y ∷ ys) = (x == y) || member x ys

-- no number is in both lists
abbrev pub apart : List ℕ → List ℕ → Bool
apart [] ys = true
apart (x ∷ xs) ys = not (member x ys) && apart xs ys

-- the tree that is read, and the tokens behind it
abbrev pub Reader : Type 0 → Type 0 → Type 0 → Type 0
Reader T E A = List T → Result (A × List T) E

-- How a fault is reported, from the tokens from its place on: a token that can't stand there, or a parenthesis too many.
pub record Reported (T E : Type 0) : Type 0 where
  pub unexpected : List T → E
  pub too_deep : List T → E

module _ {T : Type 0} {P : Type 0 → Type 1} where
  -- no token is a word
  abbrev pub null : {A : Type 0} → Grammar T P A → Bool
  null (tok s) = false
  null (pure x) = true
  null (seq g h) = null g && null h
  null (map f g) = null g
  null (alt g h) = null g || null h
  null (many g) = true
  null (nested p) = false

module _ {T : Type 0} {P : Type 0 → Type 1} (L : Language T P) where
  -- the next token is of one of these classes
  abbrev pub sees : List ℕ → List T → Bool
  sees classes [] = false
  sees classes (t ∷ ts) = member (L.class t) classes

  -- the classes of the tokens with which a word begins
  abbrev pub first : {A : Type 0} → Grammar T P A → List ℕ
  first (tok s) = L.class s ∷ []
  first (pure x) = []
  first (seq g h) = first g ++ (if null g then first h else [])
  first (map f g) = first g
  first (alt g h) = first g ++ first h
  first (many g) = first g
  first (nested p) = L.class L.opening ∷ []

  -- One token of look-ahead decides each choice in the grammar, where a token of these classes follows its words.
  abbrev pub decides : {A : Type 0} → List ℕ → Grammar T P A → Bool
  decides follow (tok s) = true
  decides follow (pure x) = true
  decides follow (seq g h) = decides (first h ++ (if null h then follow else [])) g && decides follow h
  decides follow (map f g) = decides follow g
  decides follow (alt g h) = decides follow g && (decides follow h && (not (null g) && (apart (first g) (first h) && (if null h then apart (first g) follow else true))))
  decides follow (many g) = decides (first g ++ follow) g && (not (null g) && apart (first g) follow)
  decides follow (nested p) = true

  -- parentheses stand in words of the grammar in pairs alone
  abbrev pub paired : {A : Type 0} → Grammar T P A → Bool
  paired (tok s) = not (L.class s == L.class L.opening) && not (L.class s == L.class L.closing)
  paired (pure x) = true
  paired (seq g h) = paired g && paired h
  paired (map f g) = paired g
  paired (alt g h) = paired g && paired h
  paired (many g) = paired g
  paired (nested p) = true

module _ {T : Type 0} {P : Type 0 → Type 1} (L : Language T P) {E : Type 0} (reported : Reported T E) where
  -- one token of a class
  abbrev pub one : ℕ → Reader T E T
  one class [] = Err (reported.unexpected [])
  one class (t ∷ ts) = if L.class t == class then Ok (t, ts) else Err (reported.unexpected (t ∷ ts))

  -- as long as the next token is of these classes; n is as many times as there are tokens
  abbrev pub repeat : {A : Type 0} → ℕ → List ℕ → Reader T E A → Reader T E (List A)
  repeat zero classes read ts = Ok ([], ts)
  repeat (suc n) classes read ts = if sees L classes ts then (read ts >>= λ x. (repeat n classes read x.1 >>= λ y. Ok (x.0 ∷ y.0, y.1))) else Ok ([], ts)

  -- R reads what stands behind an opening parenthesis, given the tokens from it on.
  abbrev pub parse : ((A : Type 0) → P A → List T → Reader T E A) → {A : Type 0} → Grammar T P A → Reader T E A
  parse R (tok s) ts = one (L.class s) ts
  parse R (pure x) ts = Ok (x, ts)
  parse R (seq g h) ts = parse R g ts >>= λ x. (parse R h x.1 >>= λ y. Ok ((x.0, y.0), y.1))
  parse R (map f g) ts = parse R g ts >>= λ x. Ok (f x.0, x.1)
  parse R (alt g h) ts = if sees L (first L g) ts then parse R g ts else parse R h ts
  parse R (many g) ts = repeat (length ts) (first L g) (parse R g) ts
  parse R (nested {A} p) ts = one (L.class L.opening) ts >>= λ x. R A p ts x.1

  -- behind an opening parenthesis, where so many might have been opened
  abbrev pub inside : ℕ → (A : Type 0) → P A → List T → Reader T E A
  inside zero A p from ts = Err (reported.too_deep from)
  inside (suc d) A p from ts = parse (inside d) (closed L A p) ts

  -- nothing is left
  abbrev pub finished : {A : Type 0} → A × List T → Result A E
  finished (v, []) = Ok v
  finished (v, t ∷ ts) = Err (reported.unexpected (t ∷ ts))

  -- all of the tokens, with at most so many parentheses open
  abbrev pub whole : ℕ → {A : Type 0} → Grammar T P A → List T → Result A E
  whole d g ts = parse (inside d) g ts >>= finished

-- ---- when reading by one token is right

module _ {T : Type 0} {P : Type 0 → Type 1} where
  abbrev pub Sample : Language T P → (A : Type 0) → P A → Type 0
  Sample L A p = (w : List T) × (v : A) × Within L 0 (L.body A p) w v

  -- What stands between parentheses is decided by one token, at each place, and can be something.
  pub record IsDecided (L : Language T P) : Type 1 where
    pub distinct : (L.class L.closing == L.class L.opening) ≡ false
    pub decided : (A : Type 0) (p : P A) → decides L (L.class L.closing ∷ []) (L.body A p) ≡ true
    pub pairs : (A : Type 0) (p : P A) → paired L (L.body A p) ≡ true
    pub sample : (A : Type 0) (p : P A) → Sample L A p

module _ {T E : Type 0} where
  -- a list whose front has been read
  abbrev pub with_front : {A : Type 0} → List A → Result (List A × List T) E → Result (List A × List T) E
  with_front front z = z >>= λ y. Ok (front ++ y.0, y.1)

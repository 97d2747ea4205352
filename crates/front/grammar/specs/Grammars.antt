-- Grammars as values, by the constructs of extended Backus-Naur form (ISO/IEC 14977).
use Rattle.std.specs.Prelude.{ℕ, List, ◌∷◌, Option, Some, None}

-- A grammar over the tokens T, whose words have trees of the index type. P A names what may stand between parentheses
-- with a tree of A; a grammar comes back to itself there alone.
pub data Grammar (T : Type 0) (P : Type 0 → Type 1) : Type 0 → Type 1 where
  -- a token of the same class as this one
  tok : T → Grammar T P T
  -- no token
  pure : {A : Type 0} → A → Grammar T P A
  -- the one, and then the other
  seq : {A B : Type 0} → Grammar T P A → Grammar T P B → Grammar T P (A × B)
  -- with another tree
  map : {A B : Type 0} → (A → B) → Grammar T P A → Grammar T P B
  -- the one or the other
  alt : {A : Type 0} → Grammar T P A → Grammar T P A → Grammar T P A
  -- any number of them
  many : {A : Type 0} → Grammar T P A → Grammar T P (List A)
  -- an opening parenthesis, what stands behind it, and a closing one
  nested : {A : Type 0} → P A → Grammar T P A

-- What a grammar sees of a token is its class.
pub record Language (T : Type 0) (P : Type 0 → Type 1) : Type 1 where
  pub class : T → ℕ
  -- an opening and a closing parenthesis
  pub opening : T
  pub closing : T
  -- what may stand between them
  pub body : (A : Type 0) → P A → Grammar T P A

module _ {T : Type 0} {P : Type 0 → Type 1} where
  -- the tree of the second of two
  abbrev pub after : {A B : Type 0} → Grammar T P A → Grammar T P B → Grammar T P B
  after g h = map (λ x. x.1) (seq g h)

  -- the tree of the first of two
  abbrev pub before : {A B : Type 0} → Grammar T P A → Grammar T P B → Grammar T P A
  before g h = map (λ x. x.0) (seq g h)

  -- `[g]`
  abbrev pub optional : {A : Type 0} → Grammar T P A → Grammar T P (Option A)
  optional g = alt (map (λ x. Some x) g) (pure None)

  -- `g {separator g}`
  abbrev pub separated : T → {A : Type 0} → Grammar T P A → Grammar T P (List A)
  separated separator g = map (λ x. x.0 ∷ x.1) (seq g (many (after (tok separator) g)))

  -- what stands behind an opening parenthesis, with the closing one
  abbrev pub closed : Language T P → (A : Type 0) → P A → Grammar T P A
  closed L A p = before (L.body A p) (tok L.closing)

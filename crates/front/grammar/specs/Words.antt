-- Which lists of tokens are words of a grammar, and with which tree: the language that a grammar generates (N. Chomsky,
-- Three Models for the Description of Language, 1956).
use Rattle.std.specs.Prelude.{◌≡◌, ℕ, zero, suc, List, [], ◌∷◌, ◌++◌, ◌⊎◌}
use Rattle.grammar.specs.Grammars.{Grammar, tok, pure, seq, map, alt, many, nested, Language, closed}

module _ {T : Type 0} where
  -- words one after another
  abbrev pub Repeats : {A : Type 0} → (List T → A → Type 0) → List T → List A → Type 0
  Repeats I w [] = w ≡ []
  Repeats I w (x ∷ xs) = (a b : List T) × (w ≡ a ++ b) × I a x × Repeats I b xs

module _ {T : Type 0} {P : Type 0 → Type 1} (L : Language T P) where
  -- The tokens are a word of the grammar, with this tree. I says it of what stands behind an opening parenthesis.
  abbrev pub In : ((A : Type 0) → P A → List T → A → Type 0) → {A : Type 0} → Grammar T P A → List T → A → Type 0
  In I (tok s) w v = (L.class v ≡ L.class s) × (w ≡ v ∷ [])
  In I (pure x) w v = (w ≡ []) × (v ≡ x)
  In I (seq g h) w v = (a b : List T) × (w ≡ a ++ b) × In I g a v.0 × In I h b v.1
  In I (map f g) w v = (x : _) × (v ≡ f x) × In I g w x
  In I (alt g h) w v = In I g w v ⊎ In I h w v
  In I (many g) w v = Repeats (In I g) w v
  In I (nested {A} p) w v = (t : T) × (a : List T) × (L.class t ≡ L.class L.opening) × (w ≡ t ∷ a) × I A p a v

  -- what stands behind an opening parenthesis, with at most so many parentheses open at once, that one too
  abbrev pub Nested : ℕ → (A : Type 0) → P A → List T → A → Type 0
  Nested zero A p w v = ⊥
  Nested (suc d) A p w v = In (Nested d) (closed L A p) w v

  -- a word of the grammar with at most so many parentheses open at once
  abbrev pub Within : ℕ → {A : Type 0} → Grammar T P A → List T → A → Type 0
  Within d g w v = In (Nested d) g w v

  -- The tokens are a word of the grammar, and this is its tree.
  abbrev pub Reads : {A : Type 0} → Grammar T P A → List T → A → Type 0
  Reads g w v = (d : ℕ) × Within d g w v

  -- Some more tokens make them a word.
  abbrev pub Begins : {A : Type 0} → Grammar T P A → List T → Type 0
  Begins {A = A} g w = (more : List T) × (v : A) × Reads g (w ++ more) v

-- The first item of which something holds, the only one, and that either is one item.
use Rattle.std.proofs.Common.{◌≡◌, refl, sym, ◌∙◌, ap, ℕ, zero, suc, ◌+◌, ◌≤◌, Bool, true, false, if◌then◌else◌, List, [], ◌∷◌, ◌++◌, length, Option, Some, None, arith, bytes_eq, slice_get, subst}
use Rattle.std.proofs.lemmas.Slice.Eq.{bytes_eq-Decides}
use Rattle.schema.specs.declared.schema.Kind.{Kind}
use Rattle.schema.specs.declared.schema.Column as entries
use Rattle.binder.specs.Lookups.{find_column}
use Rattle.binder.specs.Scopes.{columns_named}
use Rattle.binder.specs.Meanings.{Stands, HasAny, HasTwo, IsFirst, IsOnly}

module _ {A : Type 0} (P : A → Type 0) where
  -- ---- one more item in front

  pub any-behind : (x : A) (xs : List A) → HasAny P xs → HasAny P (x ∷ xs)
  any-behind x xs (i, y, stands) = (suc i, y, stands)

  pub none-here : (x : A) (xs : List A) → (P x → ⊥) → (HasAny P xs → ⊥) → HasAny P (x ∷ xs) → ⊥
  none-here x xs other none (zero, y, (is, holds)) = let same : x ≡ y = cc in other (subst P (sym same) holds)
  none-here x xs other none (suc i, y, stands) = none (i, y, stands)

  pub first-here : (x : A) (xs : List A) → P x → IsFirst P (x ∷ xs) 0 x
  first-here x xs holds = record { stands = (refl, holds); first = λ j y stands. omega arith }

  behind-first : (x : A) (xs : List A) (i : ℕ) (y : A) → (P x → ⊥) → IsFirst P xs i y → (j : ℕ) (z : A) → Stands P (x ∷ xs) j z → suc i ≤ j
  behind-first x xs i y other is zero z (at, holds) = let same : x ≡ z = cc in absurd (other (subst P (sym same) holds))
  behind-first x xs i y other is (suc j) z stands = let le = is.first j z stands in omega (arith, le)

  pub first-behind : (x : A) (xs : List A) (i : ℕ) (y : A) → (P x → ⊥) → IsFirst P xs i y → IsFirst P (x ∷ xs) (suc i) y
  first-behind x xs i y other is = record { stands = is.stands; first = behind-first x xs i y other is }

  only-one-here : (x : A) (xs : List A) → (HasAny P xs → ⊥) → (j : ℕ) (z : A) → Stands P (x ∷ xs) j z → j ≡ 0
  only-one-here x xs none zero z stands = refl
  only-one-here x xs none (suc j) z stands = absurd (none (j, z, stands))

  pub only-here : (x : A) (xs : List A) → P x → (HasAny P xs → ⊥) → IsOnly P (x ∷ xs) 0 x
  only-here x xs holds none = record { stands = (refl, holds); only = only-one-here x xs none }

  behind-only : (x : A) (xs : List A) (i : ℕ) (y : A) → (P x → ⊥) → IsOnly P xs i y → (j : ℕ) (z : A) → Stands P (x ∷ xs) j z → j ≡ suc i
  behind-only x xs i y other is zero z (at, holds) = let same : x ≡ z = cc in absurd (other (subst P (sym same) holds))
  behind-only x xs i y other is (suc j) z stands = ap suc (is.only j z stands)

  pub only-behind : (x : A) (xs : List A) (i : ℕ) (y : A) → (P x → ⊥) → IsOnly P xs i y → IsOnly P (x ∷ xs) (suc i) y
  only-behind x xs i y other is = record { stands = is.stands; only = behind-only x xs i y other is }

  pub two-here : (x : A) (xs : List A) (i : ℕ) (y : A) → P x → Stands P xs i y → HasTwo P (x ∷ xs)
  two-here x xs i y holds stands = (0, suc i, x, y, (refl, holds), stands, λ same. omega arith)

  pub two-behind : (x : A) (xs : List A) → HasTwo P xs → HasTwo P (x ∷ xs)
  two-behind x xs (i, j, y, z, first, second, apart) = (suc i, suc j, y, z, first, second, λ same. apart (omega (arith, same)))

  -- ---- one item

  pub first-once : (xs : List A) (i j : ℕ) (x y : A) → IsFirst P xs i x → IsFirst P xs j y → (i ≡ j) × (x ≡ y)
  first-once xs i j x y one other =
      let le = one.first j y other.stands in
      let ge = other.first i x one.stands in
      let same : i ≡ j = omega (arith, le, ge) in
      let at = one.stands.0 in
      let also = other.stands.0 in
      let first : Some x ≡ Some y = sym at ∙ ap (slice_get xs) same ∙ also in
      (same, cc first)

  pub only-once : (xs : List A) (i j : ℕ) (x y : A) → IsOnly P xs i x → IsOnly P xs j y → (i ≡ j) × (x ≡ y)
  only-once xs i j x y one other =
      let same : i ≡ j = other.only i x one.stands in
      let first : Some x ≡ Some y = sym one.stands.0 ∙ ap (slice_get xs) same ∙ other.stands.0 in
      (same, cc first)

  pub only-or-two : (xs : List A) (i : ℕ) (x : A) → IsOnly P xs i x → HasTwo P xs → ⊥
  only-or-two xs i x one (j, k, y, z, first, second, apart) = apart (one.only j y first ∙ sym (one.only k z second))

-- ---- columns by name

abbrev CalledColumn : List ℕ → entries.Column → Type 0
CalledColumn name c = c.name ≡ name

-- what a list of the columns of a name says of them
abbrev pub Listed : List ℕ → ℕ → List entries.Column → List (ℕ × Kind) → Type 0
Listed name n cs [] = HasAny (CalledColumn name) cs → ⊥
Listed name n cs (x ∷ []) = (i : ℕ) × (c : entries.Column) × IsOnly (CalledColumn name) cs i c × (x.0 ≡ n + i) × (x.1 ≡ c.kind)
Listed name n cs (x ∷ y ∷ more) = HasTwo (CalledColumn name) cs

listed-here : (name : List ℕ) (n : ℕ) (c : entries.Column) (cs : List entries.Column) (ls : List (ℕ × Kind)) → c.name ≡ name → Listed name (n + 1) cs ls → Listed name n (c ∷ cs) ((n, c.kind) ∷ ls)
listed-here name n c cs [] is none = (0, c, only-here (CalledColumn name) c cs is none, omega arith, refl)
listed-here name n c cs (x ∷ []) is (i, d, one, at, kind) = two-here (CalledColumn name) c cs i d is one.stands
listed-here name n c cs (x ∷ y ∷ more) is two = two-behind (CalledColumn name) c cs two

listed-behind : (name : List ℕ) (n : ℕ) (c : entries.Column) (cs : List entries.Column) (ls : List (ℕ × Kind)) → (c.name ≡ name → ⊥) → Listed name (n + 1) cs ls → Listed name n (c ∷ cs) ls
listed-behind name n c cs [] other none = none-here (CalledColumn name) c cs other none
listed-behind name n c cs (x ∷ []) other (i, d, one, at, kind) = (suc i, d, only-behind (CalledColumn name) c cs i d other one, omega (arith, at), kind)
listed-behind name n c cs (x ∷ y ∷ more) other two = two-behind (CalledColumn name) c cs two

pub listed : (name : List ℕ) (n : ℕ) (cs : List entries.Column) → Listed name n cs (columns_named name n cs)
listed name n [] = λ (i, c, (at, holds)). cc
listed name n (c ∷ cs) = by (bytes_eq name c.name) refl (listed name (n + 1) cs) where
  by : (b : Bool) → bytes_eq name c.name ≡ b → Listed name (n + 1) cs (columns_named name (n + 1) cs) → Listed name n (c ∷ cs) (if b then (n, c.kind) ∷ columns_named name (n + 1) cs else columns_named name (n + 1) cs)
  by true is more = listed-here name n c cs (columns_named name (n + 1) cs) (sym ((bytes_eq-Decides name c.name).0 is)) more
  by false is more = listed-behind name n c cs (columns_named name (n + 1) cs) (λ same. let yes : bytes_eq name c.name ≡ true = (bytes_eq-Decides name c.name).1 (sym same) in cc) more

pub listed-append : (name : List ℕ) (n : ℕ) (cs ds : List entries.Column) → columns_named name n (cs ++ ds) ≡ columns_named name n cs ++ columns_named name (n + length cs) ds
listed-append name n [] ds = ap (λ m. columns_named name m ds) (omega arith)
listed-append name n (c ∷ cs) ds = by (bytes_eq name c.name) (listed-append name (n + 1) cs ds ∙ ap (λ m. columns_named name (n + 1) cs ++ columns_named name m ds) (omega arith)) where
  by : (b : Bool) → columns_named name (n + 1) (cs ++ ds) ≡ columns_named name (n + 1) cs ++ columns_named name (n + length (c ∷ cs)) ds
      → (if b then (n, c.kind) ∷ columns_named name (n + 1) (cs ++ ds) else columns_named name (n + 1) (cs ++ ds))
      ≡ (if b then (n, c.kind) ∷ columns_named name (n + 1) cs else columns_named name (n + 1) cs) ++ columns_named name (n + length (c ∷ cs)) ds
  by true more = ap (λ ls. (n, c.kind) ∷ ls) more
  by false more = more

-- the column that is found is the first of its name
abbrev pub FoundColumn : List ℕ → ℕ → List entries.Column → Option (ℕ × entries.Column) → Type 0
FoundColumn name n cs None = HasAny (CalledColumn name) cs → ⊥
FoundColumn name n cs (Some p) = (i : ℕ) × IsFirst (CalledColumn name) cs i p.1 × (p.0 ≡ n + i)

found-behind : (name : List ℕ) (n : ℕ) (c : entries.Column) (cs : List entries.Column) (o : Option (ℕ × entries.Column)) → (c.name ≡ name → ⊥) → FoundColumn name (n + 1) cs o → FoundColumn name n (c ∷ cs) o
found-behind name n c cs None other none = none-here (CalledColumn name) c cs other none
found-behind name n c cs (Some p) other (i, first, at) = (suc i, first-behind (CalledColumn name) c cs i p.1 other first, omega (arith, at))

pub found-column : (name : List ℕ) (n : ℕ) (cs : List entries.Column) → FoundColumn name n cs (find_column n cs name)
found-column name n [] = λ (i, c, (at, holds)). cc
found-column name n (c ∷ cs) = by (bytes_eq c.name name) refl (found-column name (n + 1) cs) where
  by : (b : Bool) → bytes_eq c.name name ≡ b → FoundColumn name (n + 1) cs (find_column (n + 1) cs name) → FoundColumn name n (c ∷ cs) (if b then Some (n, c) else find_column (n + 1) cs name)
  by true is more = (0, first-here (CalledColumn name) c cs ((bytes_eq-Decides c.name name).0 is), omega arith)
  by false is more = found-behind name n c cs (find_column (n + 1) cs name) (λ same. let yes : bytes_eq c.name name ≡ true = (bytes_eq-Decides c.name name).1 same in cc) more

-- Numbers in lists.
use Rattle.std.proofs.Common.{◌≡◌, refl, ap, sym, ◌∙◌, inl, inr, ◌⊎◌, ℕ, ◌<◌, ◌≤◌, Bool, true, false, not, ◌||◌, ◌==◌, nat_lt, List, [], ◌∷◌, ◌++◌, filter}
use Rattle.std.specs.List.{list_all}
use Rattle.std.proofs.lemmas.Bool.{and_parts, eq-eqb, eqb-true, ltb-true, ltb-false, or_left, or_right}
use Rattle.algebra.specs.Columns.{has}

pub has_cons : (m n : ℕ) (ns : List ℕ) → has (m ∷ ns) n ≡ true → (m ≡ n) ⊎ (has ns n ≡ true)
has_cons m n ns in_ = by (m == n) refl in_
  where
    by : (b : Bool) → (m == n) ≡ b → (m == n || has ns n) ≡ true → (m ≡ n) ⊎ (has ns n ≡ true)
    by true is in_ = inl (eqb-true m n is)
    by false is in_ = inr (sym (ap (λ b. b || has ns n) is) ∙ in_)

pub has_first : (n : ℕ) (ns : List ℕ) → has (n ∷ ns) n ≡ true
has_first n ns = or_left _ _ (eq-eqb n n refl)

pub has_later : (m n : ℕ) (ns : List ℕ) → has ns n ≡ true → has (m ∷ ns) n ≡ true
has_later m n ns in_ = or_right _ _ in_

pub has_append : (ns ms : List ℕ) (n : ℕ) → (has ns n ≡ true) ⊎ (has ms n ≡ true) → has (ns ++ ms) n ≡ true
has_append [] ms n is = elim is [ inl none ↦ cc | inr in_ ↦ in_ ]
has_append (k ∷ ns) ms n is = elim is [
  | inl in_ ↦ elim (has_cons k n ns in_) [
    | inl same ↦ or_left _ _ (eq-eqb k n same)
    | inr rest ↦ has_later k n (ns ++ ms) (has_append ns ms n (inl rest))
  ]
  | inr in_ ↦ has_later k n (ns ++ ms) (has_append ns ms n (inr in_))
]

pub all_has : (p : ℕ → Bool) (ns : List ℕ) (n : ℕ) → list_all p ns ≡ true → has ns n ≡ true → p n ≡ true
all_has p [] n all in_ = cc
all_has p (m ∷ ns) n all in_ = elim (has_cons m n ns in_) [
  | inl same ↦ ap p (sym same) ∙ (and_parts _ _ all).0
  | inr rest ↦ all_has p ns n (and_parts _ _ all).1 rest
]

-- ---- those that pass a test

module _ (p : ℕ → Bool) (n m : ℕ) (ns : List ℕ) where
  stays-by : (q : Bool) → p m ≡ q → (m ≡ n) ⊎ (has (filter p ns) n ≡ true) → p n ≡ true → has (filter p (m ∷ ns)) n ≡ true
  stays-by true keeps is passes = rw keeps (elim is [
    | inl same ↦ or_left _ _ (eq-eqb m n same)
    | inr rest ↦ has_later m n (filter p ns) rest
  ])
  stays-by false drops is passes = rw drops (elim is [
    | inl same ↦ let never : false ≡ true = sym drops ∙ ap p same ∙ passes in cc
    | inr rest ↦ rest
  ])

  left-by : (q : Bool) → p m ≡ q → has (filter p (m ∷ ns)) n ≡ true → ((m ≡ n) × (p n ≡ true)) ⊎ (has (filter p ns) n ≡ true)
  left-by true keeps in_ = elim (has_cons m n (filter p ns) (rw keeps at in_)) [
    | inl same ↦ inl (same, ap p (sym same) ∙ keeps)
    | inr rest ↦ inr rest
  ]
  left-by false drops in_ = inr (rw drops at in_)

pub stays_in : (p : ℕ → Bool) (n : ℕ) (ns : List ℕ) → has ns n ≡ true → p n ≡ true → has (filter p ns) n ≡ true
stays_in p n [] in_ passes = in_
stays_in p n (m ∷ ns) in_ passes = stays-by p n m ns (p m) refl (elim (has_cons m n ns in_) [ inl same ↦ inl same | inr rest ↦ inr (stays_in p n ns rest passes) ]) passes

pub left_in : (p : ℕ → Bool) (n : ℕ) (ns : List ℕ) → has (filter p ns) n ≡ true → (has ns n ≡ true) × (p n ≡ true)
left_in p n [] in_ = cc
left_in p n (m ∷ ns) in_ = elim (left-by p n m ns (p m) refl in_) [
  | inl here ↦ (or_left _ _ (eq-eqb m n here.0), here.1)
  | inr rest ↦ let both = left_in p n ns rest in (has_later m n ns both.0, both.1)
]

-- where all pass that are in a list, none is left of those that fail
pub none_left : (p : ℕ → Bool) (ns : List ℕ) → ((n : ℕ) → has ns n ≡ true → p n ≡ true) → filter (λ n. not (p n)) ns ≡ []
none_left p [] all = refl
none_left p (m ∷ ns) all = rw (all m (has_first m ns)) (none_left p ns (λ n in_. all n (has_later m n ns in_)))

pub less_or : (n m : ℕ) → (n < m) ⊎ (m ≤ n)
less_or n m = by (nat_lt n m) refl
  where
    by : (b : Bool) → nat_lt n m ≡ b → (n < m) ⊎ (m ≤ n)
    by true is = inl (ltb-true n m is)
    by false is = inr (ltb-false n m is)

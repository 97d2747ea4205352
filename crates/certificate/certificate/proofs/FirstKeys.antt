-- The first key of each column: one more of a list, and that the others decide nothing.
use Rattle.std.proofs.Common.{◌≡◌, refl, ap, sym, ◌∙◌, subst, ℕ, ◌+◌, ◌<◌, Bool, true, false, not, ◌||◌, ◌==◌, if◌then◌else◌, List, [], ◌∷◌, ◌++◌, filter, length, get_or, drop, append_assoc, append-nil, add-one, drop-cons}
use Rattle.std.specs.List.{list_any}
use Rattle.std.specs.Ordering.{ordering_then}
use Rattle.std.specs.declared.cmp.Ordering.{Ordering}
use Rattle.std.specs.declared.cmp.Ordering.TheVariants.{Less, Equal, Greater}
use Rattle.std.proofs.lemmas.Bool.{eqb-true}
use Rattle.std.proofs.lemmas.List.Folds.{list_any-append}
use Rattle.values.specs.declared.value.Value.{Value}
use Rattle.values.specs.Order.{directed, order}
use Rattle.values.proofs.Orders.{order_antisymmetric}
use Rattle.algebra.specs.Bags.{Env}
use Rattle.physical.specs.declared.plan.OrderKey.{OrderKey}
use Rattle.physical.specs.Sorts.{key_order, keys_order}
use Rattle.certificate.specs.QueryOrders.{first_keys}

-- ---- one key more

abbrev has_key : List OrderKey → ℕ → Bool
has_key found c = list_any (λ k. k.column == c) found

-- those by columns that were not met yet
abbrev pub unmet : List OrderKey → List OrderKey → List OrderKey
unmet found keys = filter (λ j. not (has_key found j.column)) keys

abbrev others : ℕ → List OrderKey → List OrderKey
others c keys = filter (λ j. not (c == j.column)) keys

pub none-met : (keys : List OrderKey) → unmet [] keys ≡ keys
none-met [] = refl
none-met (k ∷ keys) = ap (λ ks. k ∷ ks) (none-met keys)

others-unmet : (found : List OrderKey) (c : ℕ) → has_key found c ≡ true → (keys : List OrderKey) → unmet found (others c keys) ≡ unmet found keys
others-unmet found c met [] = refl
others-unmet found c met (j ∷ keys) = by (others-unmet found c met keys) (c == j.column) refl
  where
    by : unmet found (others c keys) ≡ unmet found keys → (t : Bool) → (c == j.column) ≡ t → unmet found (if not t then j ∷ others c keys else others c keys) ≡ unmet found (j ∷ keys)
    by rest true is = rest ∙ sym (rw (ap (has_key found) (sym (eqb-true c j.column is)) ∙ met) refl)
    by rest false is = ap (λ ks. if not (has_key found j.column) then j ∷ ks else ks) rest

more-unmet : (found : List OrderKey) (k : OrderKey) (keys : List OrderKey) → unmet (found ++ k ∷ []) keys ≡ unmet found (others k.column keys)
more-unmet found k [] = refl
more-unmet found k (j ∷ keys) = by (more-unmet found k keys) (k.column == j.column) (has_key found j.column) refl refl
  where
    test : has_key (found ++ k ∷ []) j.column ≡ (has_key found j.column || ((k.column == j.column) || false))
    test = list_any-append (λ i. i.column == j.column) found (k ∷ [])

    by : unmet (found ++ k ∷ []) keys ≡ unmet found (others k.column keys) → (t u : Bool) → (k.column == j.column) ≡ t → has_key found j.column ≡ u
        → unmet (found ++ k ∷ []) (j ∷ keys) ≡ unmet found (if not t then j ∷ others k.column keys else others k.column keys)
    by rest true true is met = rw (test, is, met) rest
    by rest true false is met = rw (test, is, met) rest
    by rest false true is met = rw (test, is, met) rest
    by rest false false is met = rw (test, is, met) (ap (λ ks. j ∷ ks) rest)

module _ (keys : List OrderKey) (i : ℕ) (d : OrderKey) (at : i < length keys) (found : List OrderKey) (all : List OrderKey) (so_far : found ++ unmet found (first_keys (drop i keys)) ≡ all) where
  key : OrderKey
  key = get_or keys i d

  rest : List OrderKey
  rest = first_keys (drop (i + 1) keys)

  next : drop i keys ≡ get_or keys i d ∷ drop (i + 1) keys
  next = rw (add-one, drop-cons keys i d) refl

  here : found ++ unmet found (get_or keys i d ∷ others (get_or keys i d).column (first_keys (drop (i + 1) keys))) ≡ all
  here = ap (λ ks. found ++ unmet found (first_keys ks)) (sym next) ∙ so_far

  -- it is the first of its column
  pub first_more : (new : List OrderKey) → has_key found (get_or keys i d).column ≡ false → new ≡ found ++ get_or keys i d ∷ [] → new ++ unmet new (first_keys (drop (i + 1) keys)) ≡ all
  first_more new none is =
      ap (λ l. l ++ unmet l (first_keys (drop (i + 1) keys))) is
      ∙ append_assoc found (get_or keys i d ∷ []) _
      ∙ ap (λ l. found ++ get_or keys i d ∷ l) (more-unmet found (get_or keys i d) (first_keys (drop (i + 1) keys)))
      ∙ sym (rw none refl)
      ∙ here

  -- an earlier one is
  pub first_past : has_key found (get_or keys i d).column ≡ true → found ++ unmet found (first_keys (drop (i + 1) keys)) ≡ all
  first_past met = ap (λ l. found ++ l) (sym (others-unmet found (get_or keys i d).column met (first_keys (drop (i + 1) keys)))) ∙ sym (rw met refl) ∙ here

-- ---- what the others decide

turned : (x y : Value) → order y x ≡ Equal → order x y ≡ Equal
turned x y e =
    let is : y ≡ x = order_antisymmetric y x e in
    ap (order x) is ∙ ap (λ z. order z x) (sym is) ∙ e

directed-equal : (d f : Bool) (x y : Value) → directed d x y ≡ Equal → directed f x y ≡ Equal
directed-equal true true x y e = e
directed-equal true false x y e = turned x y e
directed-equal false true x y e = turned y x e
directed-equal false false x y e = e

same-column : (k j : OrderKey) (a b : Env) → k.column ≡ j.column → key_order k a b ≡ Equal → key_order j a b ≡ Equal
same-column k j a b is e = subst (λ c. directed j.descending (a c) (b c) ≡ Equal) is (directed-equal k.descending j.descending (a k.column) (b k.column) e)

-- where rows are equal by a key, other keys of its column decide nothing
without-others : (k : OrderKey) (a b : Env) → key_order k a b ≡ Equal → (keys : List OrderKey) → keys_order (others k.column keys) a b ≡ keys_order keys a b
without-others k a b e [] = refl
without-others k a b e (j ∷ keys) = by (without-others k a b e keys) (k.column == j.column) refl
  where
    by : keys_order (others k.column keys) a b ≡ keys_order keys a b → (t : Bool) → (k.column == j.column) ≡ t
        → keys_order (if not t then j ∷ others k.column keys else others k.column keys) a b ≡ ordering_then (key_order j a b) (keys_order keys a b)
    by rest true is = rest ∙ sym (ap (λ o. ordering_then o (keys_order keys a b)) (same-column k j a b (eqb-true k.column j.column is) e))
    by rest false is = ap (ordering_then (key_order j a b)) rest

-- the first keys of the columns order rows as all do
pub first-keys-order : (keys : List OrderKey) (a b : Env) → keys_order (first_keys keys) a b ≡ keys_order keys a b
first-keys-order [] a b = refl
first-keys-order (k ∷ keys) a b = by (key_order k a b) refl ∙ ap (ordering_then (key_order k a b)) (first-keys-order keys a b)
  where
    by : (o : Ordering) → key_order k a b ≡ o → ordering_then (key_order k a b) (keys_order (others k.column (first_keys keys)) a b) ≡ ordering_then (key_order k a b) (keys_order (first_keys keys) a b)
    by Less is = rw is refl
    by Equal is = ap (ordering_then (key_order k a b)) (without-others k a b is (first_keys keys))
    by Greater is = rw is refl

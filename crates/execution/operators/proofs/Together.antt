-- Rows that stand in an order stand together where they are the same in the columns that it begins with.
use Rattle.std.proofs.Common.{◌≡◌, refl, ap, sym, ◌∙◌, subst, inl, inr, ℕ, zero, suc, ◌+◌, ◌<◌, ◌≤◌, Bool, true, false, List, [], ◌∷◌, map, take, length, arith}
use Rattle.std.specs.declared.cmp.Ordering.{Ordering}
use Rattle.std.specs.declared.cmp.Ordering.TheVariants.{Less, Equal, Greater}
use Rattle.std.specs.Ordering.{is_eq, is_gt, ordering_reverse, ordering_then}
use Rattle.std.specs.List.{AllByRecursion, list_all, range_with_len}
use Rattle.std.proofs.lemmas.Bool.{and_parts, and_from, cases_eq}
use Rattle.values.specs.declared.value.Value.{Value}
use Rattle.values.specs.Order.{directed, order, same}
use Rattle.values.proofs.Orders.{directed_total, same_equal, same_itself}
use Rattle.schema.specs.Databases.{Row}
use Rattle.store.specs.Keys.{key_equiv}
use Rattle.algebra.specs.Bags.{Env, same_on}
use Rattle.algebra.specs.Columns.{has, rising}
use Rattle.algebra.proofs.Lists.{all-map-same}
use Rattle.algebra.proofs.MentionedColumns.{all_has, each_has}
use Rattle.algebra.proofs.Same.{equal_columns}
use Rattle.algebra.proofs.Sets.{has-rising}
use Rattle.physical.specs.declared.plan.OrderKey.{OrderKey}
use Rattle.physical.specs.RequiredOrders.{begins_with_all}
use Rattle.physical.specs.Sorts.{keys_order}
use Rattle.physical.proofs.RequiredOrders.{front-not_gt}
use Rattle.physical.proofs.Sorting.{Ascends}
use Rattle.relations.specs.declared.relation.Relation.{Relation}
use Rattle.relations.specs.Parts.{row_at}
use Rattle.relations.specs.Relations.{column_places, numbered_env, rows_of}
use Rattle.grouping.specs.Groups.{AreTogether, key_at, same_at}
use Rattle.grouping.proofs.GroupEnvs.{same-key}

-- ---- between two rows that are the same

tie-of : (o p q : Ordering) → is_gt (ordering_then o p) ≡ false → is_gt (ordering_then (ordering_reverse o) q) ≡ false → (o ≡ Equal) × (is_gt p ≡ false) × (is_gt q ≡ false)
tie-of Less p q low high = cc
tie-of Equal p q low high = (refl, low, high)
tie-of Greater p q low high = cc

tied : (d : Bool) (x y : Value) → directed d x y ≡ Equal → same x y ≡ true
tied true x y h = subst (λ z. same z y ≡ true) (same_equal y x (ap is_eq h)) (same_itself y)
tied false x y h = ap is_eq h

-- what stands between rows that are the same in the keys' columns is the same there
between : (keys : List OrderKey) (a b c : Env) → list_all (λ k. same (a k.column) (c k.column)) keys ≡ true → is_gt (keys_order keys a b) ≡ false → is_gt (keys_order keys b c) ≡ false
    → list_all (λ k. same (a k.column) (b k.column)) keys ≡ true
between [] a b c alike low high = refl
between (k ∷ keys) a b c alike low high =
    let ends = and_parts (same (a k.column) (c k.column)) _ alike in
    let first : a k.column ≡ c k.column = same_equal (a k.column) (c k.column) ends.0 in
    let turned : directed k.descending (b k.column) (c k.column) ≡ ordering_reverse (directed k.descending (a k.column) (b k.column)) =
    ap (directed k.descending (b k.column)) (sym first) ∙ (directed_total k.descending).antisymm (b k.column) (a k.column) in
    let tie = tie-of (directed k.descending (a k.column) (b k.column)) (keys_order keys a b) (keys_order keys b c) low (ap (λ o. is_gt (ordering_then o (keys_order keys b c))) (sym turned) ∙ high) in
    and_from _ _ (tied k.descending (a k.column) (b k.column) tie.0) (between keys a b c ends.1 tie.1 tie.2)

-- so it is in columns that an order begins with
between-on : (K : List ℕ) (order : List OrderKey) (a b c : Env) → begins_with_all K order ≡ true → same_on K a c ≡ true → is_gt (keys_order order a b) ≡ false → is_gt (keys_order order b c) ≡ false → same_on K a b ≡ true
between-on K order a b c begins alike low high =
    let keys : List OrderKey = take (length K) order in
    let columns : List ℕ = map (λ k. k.column) keys in
    let set : (n : ℕ) → has K n ≡ has columns n = λ n. ap (λ L. has L n) (sym (equal_columns (rising columns) K begins)) ∙ has-rising n columns in
    let ends : ℕ → Bool = λ n. same (a n) (c n) in
    let front : ℕ → Bool = λ n. same (a n) (b n) in
    let given : list_all ends columns ≡ true = all_has ends columns (λ n h. each_has ends K alike n (set n ∙ h)) in
    let found : list_all front columns ≡ true =
    all-map-same (λ (k : OrderKey). k.column) front (λ k. front k.column) keys (λ k. refl)
    ∙ between keys a b c (sym (all-map-same (λ (k : OrderKey). k.column) ends (λ k. ends k.column) keys (λ k. refl)) ∙ given) (front-not_gt (length K) order a b low) (front-not_gt (length K) order b c high) in
    all_has front K (λ n h. each_has front columns found n (sym (set n) ∙ h))

-- ---- rows by their numbers

number-among : {X : Type 0} (P : X → Type 0) (f : ℕ → X) (a n j : ℕ) → AllByRecursion P (map f (range_with_len a n)) → a ≤ j → j < a + n → P (f j)
number-among P f a zero j all low high = absurd (omega (arith, low, high))
number-among P f a (suc n) j all low high = elim (cases_eq j a) [
  | inl e ↦ subst (λ m. P (f m)) (sym e) all.0
  | inr ne ↦ number-among P f (a + 1) n j all.1 (omega (arith, low, ne)) (omega (arith, high))
]

pub ascends-numbers : {X : Type 0} (cmp : X → X → Ordering) (f : ℕ → X) (a n i j : ℕ) → Ascends cmp (map f (range_with_len a n)) → a ≤ i → i < j → j < a + n → is_gt (cmp (f i) (f j)) ≡ false
ascends-numbers cmp f a zero i j up low later high = absurd (omega (arith, low, later, high))
ascends-numbers cmp f a (suc n) i j up low later high = elim (cases_eq i a) [
  | inl e ↦ subst (λ m. is_gt (cmp (f m) (f j)) ≡ false) (sym e) (number-among (λ y. is_gt (cmp (f a) y) ≡ false) f (a + 1) n j up.0 (omega (arith, e, later)) (omega (arith, high)))
  | inr ne ↦ ascends-numbers cmp f (a + 1) n i j up.1 (omega (arith, low, ne)) later (omega (arith, high))
]

-- rows in an order that begins with some columns stand together by these
pub stand-together : (K : List ℕ) (order : List OrderKey) (r : Relation) (e : Env) → begins_with_all K order ≡ true → Ascends (keys_order order) (rows_of r e) → AreTogether K r
stand-together K order r e begins up = λ i j k first later below alike. elim (cases_eq i j) [
  | inl is ↦ subst (λ m. same_by i m ≡ true) is (key_equiv.refl (key i))
  | inr apart ↦ elim (cases_eq j k) [
    | inl is ↦ subst (λ m. same_by i m ≡ true) (sym is) alike
    | inr more ↦
        let pair : (m n : ℕ) → m < n → n < r.rows.count → is_gt (keys_order order (row m) (row n)) ≡ false = λ m n one two. ascends-numbers (keys_order order) row 0 r.rows.count m n up (omega arith) one (omega (arith, two)) in
        sym (same-key r.heading (rows i) (rows j) e K)
        ∙ between-on K order (row i) (row j) (row k) begins (same-key r.heading (rows i) (rows k) e K ∙ alike) (pair i j (omega (arith, first, apart)) (omega (arith, later, below))) (pair j k (omega (arith, later, more)) below)
  ]
]
  where
    row : ℕ → Env
    row = numbered_env r e

    rows : ℕ → List Row
    rows = row_at r.rows.parts.items

    key : ℕ → Row
    key n = key_at (column_places r.heading K) (rows n)

    same_by : ℕ → ℕ → Bool
    same_by = same_at (column_places r.heading K) r.rows

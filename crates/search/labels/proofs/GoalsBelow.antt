-- Goals below goals: the inputs of a node that is offered at a goal have goals, and at each goal some node is offered, over goals of earlier classes.
use Rattle.std.proofs.Common.{◌≡◌, refl, ap, sym, ◌∙◌, subst, ℕ, Bool, true, false, not, ◌&&◌, ◌||◌, ◌==◌, if◌then◌else◌, List, [], ◌∷◌, ◌++◌, filter, map, take, option_map, Option, Some, None}
use Rattle.std.specs.List.{list_all, list_any}
use Rattle.std.proofs.lemmas.Bool.{and_from, and_parts, eq-eqb, eqb-true, or_left, or_right}
use Rattle.std.proofs.lemmas.List.Folds.{list_all-append, list_any-append}
use Rattle.query.specs.declared.query.TableInstance.{TableInstance}
use Rattle.algebra.specs.declared.expr.Aggregation.{Aggregation}
use Rattle.algebra.specs.declared.expr.Expr.{Expr}
use Rattle.algebra.specs.declared.expr.Expr.TheVariants as expr
use Rattle.algebra.specs.declared.expr.Expr.TheVariants.{Get, Select, Join, LeftJoin, Keep, Distinct, Group}
use Rattle.algebra.specs.Columns.{has, is_subset, rising}
use Rattle.algebra.specs.Conditions.{classes_in}
use Rattle.algebra.specs.Equality.{same_columns}
use Rattle.algebra.specs.Expressions as expressions
use Rattle.algebra.specs.Expressions.{children, classes_pass, columns_of, conditions, input_classes, is_formed, is_plain, names_own}
use Rattle.algebra.proofs.MentionedColumns.{all_has, each_has}
use Rattle.algebra.proofs.Same.{equal_columns}
use Rattle.algebra.proofs.Sets.{different-rising, has-rising}
use Rattle.physical.specs.declared.plan.OrderKey.{OrderKey}
use Rattle.physical.specs.declared.plan.JoinMethod.{JoinMethod}
use Rattle.physical.specs.declared.plan.JoinMethod.TheVariants as join
use Rattle.physical.specs.declared.plan.GroupMethod.TheVariants as group
use Rattle.physical.specs.declared.plan.Matching.{Matching}
use Rattle.physical.specs.declared.plan.Matching.TheVariants as matching
use Rattle.physical.specs.declared.plan.Operator.{Operator}
use Rattle.physical.specs.declared.plan.Operator.TheVariants.{Scan, IndexScan, Filter, FilterSubqueries, Projection, JoinRows, IndexJoin, GroupRows, DistinctRows}
use Rattle.physical.specs.Indexes.{rising_keys}
use Rattle.physical.specs.Orders.{are_columns}
use Rattle.physical.specs.Outputs.{first_columns, second_columns}
use Rattle.physical.specs.RequiredOrders.{begins_with_all, rises_by}
use Rattle.certificate.specs.Replay.{finds, implements, is_join, needed_classes}
use Rattle.labels.specs.Offers.{and_others, are_different, input_orders, is_any, join_orders, merge_orders, side_orders, where_so}

-- ---- orders

abbrev key_of : ℕ → OrderKey
key_of c = record { column = c; descending = false }

-- an order by different columns of these
abbrev pub IsOrder : List ℕ → List OrderKey → Type 0
IsOrder columns order = (are_columns columns order ≡ true) × (are_different order ≡ true)

columns-within : (K X : List ℕ) → ((c : ℕ) → has K c ≡ true → has X c ≡ true) → (order : List OrderKey) → are_columns K order ≡ true → are_columns X order ≡ true
columns-within K X sub [] h = refl
columns-within K X sub (k ∷ order) h =
    let parts = and_parts (has K k.column) (are_columns K order) h in
    and_from (has X k.column) (are_columns X order) (sub k.column parts.0) (columns-within K X sub order parts.1)

subset-has : (K X : List ℕ) → is_subset K X ≡ true → (c : ℕ) → has K c ≡ true → has X c ≡ true
subset-has K X sub c h = each_has (has X) K sub c h

-- the columns by which an order has no key
abbrev is_other : List OrderKey → ℕ → Bool
is_other order c = not (list_any (λ k. k.column == c) order)

others-are : (X : List ℕ) (p : ℕ → Bool) (cs : List ℕ) → list_all (has X) cs ≡ true → are_columns X (rising_keys (filter p cs)) ≡ true
others-are X p [] h = refl
others-are X p (c ∷ cs) h =
    let both = and_parts (has X c) (list_all (has X) cs) h in
    by both.0 (others-are X p cs both.1) (p c)
  where
    by : has X c ≡ true → are_columns X (rising_keys (filter p cs)) ≡ true → (t : Bool) → are_columns X (rising_keys (if t then c ∷ filter p cs else filter p cs)) ≡ true
    by own rest true = and_from (has X c) (are_columns X (rising_keys (filter p cs))) own rest
    by own rest false = rest

others-within : (X : List ℕ) (order : List OrderKey) (columns : List ℕ) → are_columns X order ≡ true → ((c : ℕ) → has columns c ≡ true → has X c ≡ true) → are_columns X (and_others order columns) ≡ true
others-within X order columns h sub =
    let others : List OrderKey = rising_keys (filter (is_other order) (rising columns)) in
    let all : list_all (has X) (rising columns) ≡ true = all_has (has X) (rising columns) (λ c in_. sub c (sym (has-rising c columns) ∙ in_)) in
    list_all-append (λ k. has X k.column) order others ∙ and_from (are_columns X order) (are_columns X others) h (others-are X (is_other order) (rising columns) all)

-- ---- different columns

pick : {X : Type 0} (P : X → Type 0) (t : Bool) (x y : X) → P x → P y → P (if t then x else y)
pick P true x y first second = first
pick P false x y first second = second

or-none : (t u : Bool) → (t || u) ≡ false → (t ≡ false) × (u ≡ false)
or-none true u h = cc
or-none false u h = (refl, h)

abbrev has_key : ℕ → List OrderKey → Bool
has_key c order = list_any (λ k. k.column == c) order

no-key : (c : ℕ) (p : ℕ → Bool) (cs : List ℕ) → has cs c ≡ false → has_key c (rising_keys (filter p cs)) ≡ false
no-key c p [] h = refl
no-key c p (d ∷ cs) h =
    let parts = or-none (d == c) (has cs c) h in
    pick (λ ks. has_key c (rising_keys ks) ≡ false) (p d) (d ∷ filter p cs) (filter p cs) (rw (parts.0) (no-key c p cs parts.1)) (no-key c p cs parts.1)

not-true : (t : Bool) → not t ≡ true → t ≡ false
not-true true h = cc
not-true false h = refl

different-keys : (p : ℕ → Bool) (cs : List ℕ) → expressions.are_different cs ≡ true → are_different (rising_keys (filter p cs)) ≡ true
different-keys p [] h = refl
different-keys p (c ∷ cs) h =
    let parts = and_parts (not (has cs c)) (expressions.are_different cs) h in
    let rest : List OrderKey = rising_keys (filter p cs) in
    let none : has_key c rest ≡ false = no-key c p cs (not-true (has cs c) parts.0) in
    pick (λ ks. are_different (rising_keys ks) ≡ true) (p c) (c ∷ filter p cs) (filter p cs) (and_from (not (has_key c rest)) (are_different rest) (ap not none) (different-keys p cs parts.1)) (different-keys p cs parts.1)

-- what doesn't pass is left out
left-out : (c : ℕ) (p : ℕ → Bool) → p c ≡ false → (cs : List ℕ) → has_key c (rising_keys (filter p cs)) ≡ false
left-out c p fails [] = refl
left-out c p fails (d ∷ cs) = by (left-out c p fails cs) (p d) refl (d == c) refl
  where
    by : has_key c (rising_keys (filter p cs)) ≡ false → (t : Bool) → p d ≡ t → (u : Bool) → (d == c) ≡ u → has_key c (rising_keys (if t then d ∷ filter p cs else filter p cs)) ≡ false
    by rest true passes true is = absurd (let e : true ≡ false = sym passes ∙ ap p (eqb-true d c is) ∙ fails in cc)
    by rest true passes false is = rw is rest
    by rest false passes u is = rest

abbrev apart : List OrderKey → List OrderKey → Bool
apart xs ys = list_all (λ x. not (has_key x.column ys)) xs

different-append : (xs ys : List OrderKey) → are_different xs ≡ true → are_different ys ≡ true → apart xs ys ≡ true → are_different (xs ++ ys) ≡ true
different-append [] ys first second h = second
different-append (x ∷ xs) ys first second h =
    let one = and_parts (not (has_key x.column xs)) (are_different xs) first in
    let two = and_parts (not (has_key x.column ys)) (apart xs ys) h in
    let none : has_key x.column (xs ++ ys) ≡ false
    = list_any-append (λ k. k.column == x.column) xs ys ∙ rw (not-true (has_key x.column xs) one.0) (not-true (has_key x.column ys) two.0) in
    and_from (not (has_key x.column (xs ++ ys))) (are_different (xs ++ ys)) (ap not none) (different-append xs ys one.1 second two.1)

others-apart : (whole : List OrderKey) (cs : List ℕ) (xs : List OrderKey) → ((c : ℕ) → has_key c xs ≡ true → has_key c whole ≡ true) → apart xs (rising_keys (filter (is_other whole) cs)) ≡ true
others-apart whole cs [] among = refl
others-apart whole cs (x ∷ xs) among =
    let c : ℕ = x.column in
    let others : List OrderKey = rising_keys (filter (is_other whole) cs) in
    let own : has_key c whole ≡ true = among c (or_left (c == c) (has_key c xs) (eq-eqb c c refl)) in
    and_from (not (has_key c others)) (apart xs others) (ap not (left-out c (is_other whole) (ap not own) cs)) (others-apart whole cs xs (λ d in_. among d (or_right (c == d) (has_key d xs) in_)))

others-different : (order : List OrderKey) (columns : List ℕ) → are_different order ≡ true → are_different (and_others order columns) ≡ true
others-different order columns h =
    different-append order (rising_keys (filter (is_other order) (rising columns))) h (different-keys (is_other order) (rising columns) (different-rising columns)) (others-apart order (rising columns) order (λ c in_. in_))

-- ---- the orders of a node's inputs

pub so-some : {X : Type 0} (b : Bool) (x y : X) → where_so b x ≡ Some y → (b ≡ true) × (x ≡ y)
so-some true x y h = (refl, let e : x ≡ y = cc in e)
so-some false x y h = cc

pub if-some : {X : Type 0} (b : Bool) (x : Option X) (y : X) → (if b then x else None) ≡ Some y → (b ≡ true) × (x ≡ Some y)
if-some true x y h = (refl, h)
if-some false x y h = cc

pub map-some : {X Y : Type 0} (f : X → Y) (o : Option X) (y : Y) → option_map f o ≡ Some y → (x : X) × (o ≡ Some x) × (f x ≡ y)
map-some f None y h = cc
map-some f (Some x) y h = (x, refl, let e : f x ≡ y = cc in e)

pub record Sides (x : Expr) : Type 0 where
  pub left : ℕ
  pub right : ℕ
  pub are : children x ≡ left ∷ right ∷ []

pub sides : (j : Matching) (x : Expr) → is_join j x ≡ true → Sides x
sides (matching.Inner C) (Join D a b) h = record { left = a; right = b; are = refl }
sides (matching.Left C) (LeftJoin D a b) h = record { left = a; right = b; are = refl }
sides (matching.Semi C) (expr.Semi D a b) h = record { left = a; right = b; are = refl }
sides (matching.Anti S M) (expr.Anti T N a b) h = record { left = a; right = b; are = refl }
sides j x h = cc

module _ (cols : ℕ → List ℕ) where
  -- each order is by different columns of its class
  abbrev pub AreOrders : List (List OrderKey) → List ℕ → Type 0
  AreOrders [] classes = Unit {0}
  AreOrders (order ∷ orders) [] = Unit {0}
  AreOrders (order ∷ orders) (g ∷ classes) = IsOrder (cols g) order × AreOrders orders classes

  one-order : (g : ℕ) (classes : List ℕ) (order : List OrderKey) (orders : List (List OrderKey)) → IsOrder (cols g) order → Some (order ∷ []) ≡ Some orders → AreOrders orders (g ∷ classes)
  one-order g classes order orders is e = subst (λ os. AreOrders os (g ∷ classes)) (let same : (order ∷ []) ≡ orders = cc in same) (is, tt)

  no-orders : (b : Bool) (classes : List ℕ) (orders : List (List OrderKey)) → where_so b [] ≡ Some orders → AreOrders orders classes
  no-orders b classes orders e = subst (λ os. AreOrders os classes) (so-some b [] orders e).1 tt

  by-one : (g c : ℕ) → has (cols g) c ≡ true → IsOrder (cols g) (rising_keys (c ∷ []))
  by-one g c h = (and_from (has (cols g) c) true h refl, refl)

  merge-fits : (a b : ℕ) (rest : List ℕ) (p q : ℕ) → has (cols a) p ≡ true → has (cols b) q ≡ true → (order : List OrderKey) → IsOrder (cols a) order → (orders : List (List OrderKey)) → merge_orders p q order ≡ Some orders → AreOrders orders (a ∷ b ∷ rest)
  merge-fits a b rest p q left right [] is orders e = subst (λ os. AreOrders os (a ∷ b ∷ rest)) (let same : (rising_keys (p ∷ []) ∷ rising_keys (q ∷ []) ∷ []) ≡ orders = cc in same) (by-one a p left, (by-one b q right, tt))
  merge-fits a b rest p q left right (k ∷ order) is orders e = subst (λ os. AreOrders os (a ∷ b ∷ rest)) (so-some (rises_by p (k ∷ order)) ((k ∷ order) ∷ rising_keys (q ∷ []) ∷ []) orders e).1 (is, (by-one b q right, tt))

  join-fits : (method : JoinMethod) (j : Matching) (a b : ℕ) (rest : List ℕ) (order : List OrderKey) → are_different order ≡ true → finds method j (cols a) (cols b) ≡ true → (orders : List (List OrderKey)) → join_orders method (cols a) order ≡ Some orders
      → AreOrders orders (a ∷ b ∷ rest)
  join-fits method j a b rest order different found orders e =
      let both = if-some (are_columns (cols a) order) (side_orders method order) orders e in
      by method j found (both.0, different) both.1
    where
      by : (method : JoinMethod) (j : Matching) → finds method j (cols a) (cols b) ≡ true → IsOrder (cols a) order → side_orders method order ≡ Some orders → AreOrders orders (a ∷ b ∷ rest)
      by join.NestedLoop j found is e = one-order a (b ∷ rest) order orders is e
      by join.Hash j found is e = one-order a (b ∷ rest) order orders is e
      by (join.Merge p q) (matching.Inner C) found is e =
          let own = and_parts (has (cols a) p) (has (cols b) q) (and_parts (has (cols a) p && has (cols b) q) _ found).0 in
          merge-fits a b rest p q own.0 own.1 order is orders e
      by (join.Merge p q) (matching.Left C) found is e = cc
      by (join.Merge p q) (matching.Semi C) found is e = cc
      by (join.Merge p q) (matching.Anti S M) found is e = cc

  module _ (instances : List TableInstance) (own : List Aggregation) where
    abbrev Formed : Expr → Type 0
    Formed x = is_formed instances own cols x ≡ true

    abbrev OfClass : Expr → List OrderKey → Type 0
    OfClass x order = IsOrder (columns_of instances cols x) order

    abbrev Wanted : Operator → Expr → List OrderKey → List (List OrderKey) → Type 0
    Wanted operator x order orders = input_orders instances operator (first_columns (map cols (children x))) order ≡ Some orders

    formed-of : (x : Expr) → Formed x → expressions.operator_formed instances own cols x ≡ true
    formed-of x h = (and_parts (names_own instances own (conditions x)) (expressions.operator_formed instances own cols x) h).1

    pub orders-fit : (operator : Operator) (x : Expr) → implements cols operator x ≡ true → Formed x → (order : List OrderKey) → OfClass x order → (orders : List (List OrderKey)) → Wanted operator x order orders
        → AreOrders orders (needed_classes operator x)
    orders-fit (Scan o) x h formed order is orders e = no-orders (is_any order) (input_classes x) orders e
    orders-fit (IndexScan a C) x h formed order is orders e = no-orders _ [] orders e
    orders-fit (Filter C) (Select D y) h formed order is orders e = one-order y _ order orders is e
    orders-fit (Filter C) x h formed order is orders e = cc
    orders-fit (FilterSubqueries C) (Select D y) h formed order is orders e = one-order y _ order orders is e
    orders-fit (FilterSubqueries C) x h formed order is orders e = cc
    orders-fit (Projection K) (Keep L y) h formed order is orders e = one-order y _ order orders (columns-within L (cols y) (subset-has L (cols y) (formed-of (Keep L y) formed)) order is.0, is.1) e
    orders-fit (Projection K) x h formed order is orders e = cc
    orders-fit (JoinRows method j) x h formed order is orders e =
        let both = and_parts (is_join j x) (finds method j (first_columns (map cols (children x))) (second_columns (map cols (children x)))) h in
        let s = sides j x both.0 in
        let rest : List ℕ = classes_in (conditions x) in
        let found : finds method j (cols s.left) (cols s.right) ≡ true = subst (λ cs. finds method j (first_columns (map cols cs)) (second_columns (map cols cs)) ≡ true) s.are both.1 in
        let wanted : join_orders method (cols s.left) order ≡ Some orders = subst (λ cs. join_orders method (first_columns (map cols cs)) order ≡ Some orders) s.are e in
        subst (λ cs. AreOrders orders (cs ++ rest)) (sym s.are) (join-fits method j s.left s.right rest order is.1 found orders wanted)
    orders-fit (IndexJoin a j) x h formed order is orders e =
        let s = sides j x h in
        let wanted : join_orders join.NestedLoop (cols s.left) order ≡ Some orders = subst (λ cs. join_orders join.NestedLoop (first_columns (map cols cs)) order ≡ Some orders) s.are e in
        let both = if-some (are_columns (cols s.left) order) (side_orders join.NestedLoop order) orders wanted in
        subst (λ cs. AreOrders orders (take 1 cs)) (sym s.are) (one-order s.left [] order orders (both.0, is.1) both.1)
    orders-fit (GroupRows group.Hash K G) x h formed order is orders e = no-orders (is_any order) (input_classes x) orders e
    orders-fit (GroupRows group.Sorted K G) (Group L H y) h formed order is orders e =
        let same : K ≡ L = equal_columns K L (and_parts (same_columns K L) _ h).0 in
        let sub : (c : ℕ) → has K c ≡ true → has (cols y) c ≡ true
        = λ c in_. subset-has L (cols y) (and_parts (is_subset L (cols y)) _ (and_parts _ _ (formed-of (Group L H y) formed)).0).0 c (subst (λ M. has M c ≡ true) same in_) in
        let both = so-some (are_columns K order && begins_with_all K (and_others order K)) (and_others order K ∷ []) orders e in
        let within = (and_parts (are_columns K order) (begins_with_all K (and_others order K)) both.0).0 in
        one-order y _ (and_others order K) orders (others-within (cols y) order K (columns-within K (cols y) sub order within) sub, others-different order K is.1) (ap (λ os. Some os) both.1)
    orders-fit (GroupRows group.Sorted K G) x h formed order is orders e = cc
    orders-fit (DistinctRows group.Hash) (Distinct y) h formed order is orders e = one-order y _ order orders is e
    orders-fit (DistinctRows group.Sorted) (Distinct y) h formed order is orders e =
        let both = so-some (begins_with_all (cols y) (and_others order (cols y))) (and_others order (cols y) ∷ []) orders e in
        one-order y _ (and_others order (cols y)) orders (others-within (cols y) order (cols y) is.0 (λ c in_. in_), others-different order (cols y) is.1) (ap (λ os. Some os) both.1)
    orders-fit (DistinctRows method) x h formed order is orders e = cc

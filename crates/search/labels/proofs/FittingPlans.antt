-- A plan of a goal fits the log, and delivers the order of the goal: a certificate of the log's lines and this plan replays.
use Rattle.std.proofs.Common.{◌≡◌, refl, ap, sym, ◌∙◌, subst, ℕ, zero, suc, ◌+◌, ◌≤◌, Bool, true, false, not, ◌&&◌, ◌==◌, nat_lt, if◌then◌else◌, List, [], ◌∷◌, ◌++◌, length, map, take, option_map, Option, Some, None, Result, Ok, arith}
use Rattle.std.specs.Coded.{coded_list}
use Rattle.std.specs.List.{list_all}
use Rattle.std.proofs.lemmas.Bool.{and_from, and_parts, eq-eqb, eqb-true, lt-ltb}
use Rattle.std.proofs.lemmas.List.{length-map}
use Rattle.std.proofs.lemmas.List.Folds.{list_all-append}
use Rattle.values.specs.Faults.{◌>>=◌, wanted}
use Rattle.query.specs.declared.query.TableInstance.{TableInstance}
use Rattle.algebra.specs.declared.condition.Condition.{Condition}
use Rattle.algebra.specs.declared.expr.Aggregation.{Aggregation}
use Rattle.algebra.specs.declared.expr.Expr.{Expr}
use Rattle.algebra.specs.declared.expr.Expr.TheVariants as expr
use Rattle.algebra.specs.declared.expr.Expr.TheVariants.{Get, Select, Join, LeftJoin, Keep, Distinct, Group}
use Rattle.algebra.specs.Columns.{ColumnSet, has, insert, rising}
use Rattle.algebra.specs.ConditionEquality.{same_conditions}
use Rattle.algebra.specs.Conditions.{classes_in}
use Rattle.algebra.specs.Equality.{same_columns}
use Rattle.algebra.specs.Expressions.{children, classes_pass, columns_of, conditions, is_plain, subqueries_pass}
use Rattle.algebra.proofs.NamedClasses.{classes-pass}
use Rattle.algebra.proofs.Same.{equal_columns, equal_conditions, same_by-equal, tested}
use Rattle.rules.specs.Matches as matches
use Rattle.derivation.specs.Logs.{Log, founds, least, member}
use Rattle.derivation.specs.Replay.{is_earlier}
use Rattle.derivation.proofs.Lookups.{member-within}
use Rattle.physical.specs.declared.plan.IndexAccess.{IndexAccess}
use Rattle.physical.specs.declared.plan.OrderKey.{OrderKey}
use Rattle.physical.specs.contracts.plan.OrderKey as order_key
use Rattle.physical.specs.declared.plan.JoinMethod.{JoinMethod}
use Rattle.physical.specs.declared.plan.JoinMethod.TheVariants as join
use Rattle.physical.specs.declared.plan.GroupMethod.TheVariants as group
use Rattle.physical.specs.declared.plan.Matching.{Matching}
use Rattle.physical.specs.declared.plan.Matching.TheVariants as matching
use Rattle.physical.specs.declared.plan.Node.{Node}
use Rattle.physical.specs.declared.plan.Node.TheVariants.{Implements, Sort}
use Rattle.physical.specs.declared.plan.Operator.{Operator}
use Rattle.physical.specs.declared.plan.Operator.TheVariants.{Scan, IndexScan, Filter, FilterSubqueries, Projection, JoinRows, IndexJoin, GroupRows, DistinctRows}
use Rattle.physical.specs.declared.plan.Plan.{Plan, roll-Plan, out-roll-Plan, fold-roll-Plan, ind-Plan, map-Plan}
use Rattle.physical.specs.declared.plan.Plan.TheOpen.{Plan-F}
use Rattle.physical.specs.Orders.{are_columns, first_order, front, node_order, operator_order, order_layer, plan_order}
use Rattle.physical.specs.Outputs.{first_columns, second_columns}
use Rattle.physical.specs.RequiredOrders.{are_sorted, begins_with, begins_with_all, inputs_sorted, rises_by, same_order, second_order}
use Rattle.certificate.specs.declared.certificate.CheckRefusal.{CheckRefusal}
use Rattle.certificate.specs.Replay.{Fits, accesses, accesses_second, are_founded, finds, gets, implements, index_fits, inputs_fit, is_join, is_member, matching_is_founded, names_lines, needed_classes, node_fits, operator_fits, operator_is_of, plan_fits}
use Rattle.certificate.proofs.Fits.{after_node, plan_fits_out}
use Rattle.labels.specs.declared.goal.Goal.{Goal}
use Rattle.labels.specs.Offers.{and_others, goal_of, goals_of, input_goals, input_orders, is_any, join_orders, member_goals, merge_orders, operator_goals, side_orders, where_so}
use Rattle.labels.specs.Plans.{are_for, are_for_some, columns_in, is_offered, offered_layer}
use Rattle.labels.proofs.GoalsBelow.{AreOrders, IsOrder, if-some, map-some, orders-fit, sides, so-some}
use Rattle.labels.proofs.ClosedGoals.{needed-founded}
use Rattle.labels.proofs.Shaped.{AreShaped, least-again}

-- ---- the beginning of an order

abbrev Begins : List OrderKey → List OrderKey → Type 0
Begins order wanted = take (length wanted) order ≡ wanted

begins-is : (order wanted : List OrderKey) → begins_with order wanted ≡ true → Begins order wanted
unfolding same_order
begins-is order wanted h = same_by-equal (coded_list order_key.the_row.coded) (take (length wanted) order) wanted h

pub is-begun : (order wanted : List OrderKey) → Begins order wanted → begins_with order wanted ≡ true
unfolding same_order
is-begun order wanted e = sym (tested (coded_list order_key.the_row.coded) true (take (length wanted) order) wanted (λ _. e, λ _. refl))

same-keys : (a b : List OrderKey) → same_order a b ≡ true → a ≡ b
unfolding same_order
same-keys = same_by-equal (coded_list order_key.the_row.coded)

whole : (keys : List OrderKey) → Begins keys keys
whole [] = refl
whole (k ∷ keys) = ap (λ ks. k ∷ ks) (whole keys)

begins-any : (order wanted : List OrderKey) → is_any wanted ≡ true → Begins order wanted
begins-any order [] h = refl
begins-any order (k ∷ wanted) h = cc

begins-tail : (j k : OrderKey) (order wanted : List OrderKey) → Begins (j ∷ order) (k ∷ wanted) → (j ≡ k) × Begins order wanted
begins-tail j k order wanted h = (let e : j ≡ k = cc in e, let e : take (length wanted) order ≡ wanted = cc in e)

begins-front : (K : ColumnSet) (order wanted : List OrderKey) → Begins order wanted → list_all (λ k. K k.column) wanted ≡ true → Begins (front K order) wanted
begins-front K order [] h all = refl
begins-front K [] (k ∷ wanted) h all = cc
begins-front K (j ∷ order) (k ∷ wanted) h all =
    let both = begins-tail j k order wanted h in
    let own = and_parts (K k.column) (list_all (λ k. K k.column) wanted) all in
    let kept : K j.column ≡ true = ap (λ (i : OrderKey). K i.column) both.0 ∙ own.0 in
    let rest : take (length wanted) (front K order) ≡ wanted = begins-front K order wanted both.1 own.1 in
    rw kept (ap (λ i. i ∷ take (length wanted) (front K order)) both.0 ∙ ap (λ ks. k ∷ ks) rest)

begins-before : (order wanted more : List OrderKey) → Begins order (wanted ++ more) → Begins order wanted
begins-before order [] more h = refl
begins-before [] (k ∷ wanted) more h = cc
begins-before (j ∷ order) (k ∷ wanted) more h =
    let both = begins-tail j k order (wanted ++ more) h in
    ap (λ i. i ∷ take (length wanted) order) both.0 ∙ ap (λ ks. k ∷ ks) (begins-before order wanted more both.1)

begins-along : (order wanted front_ : List OrderKey) → Begins order wanted → Begins wanted front_ → Begins order front_
begins-along order wanted [] h g = refl
begins-along order [] (k ∷ front_) h g = cc
begins-along [] (j ∷ wanted) (k ∷ front_) h g = cc
begins-along (i ∷ order) (j ∷ wanted) (k ∷ front_) h g =
    let one = begins-tail i j order wanted h in
    let two = begins-tail j k wanted front_ g in
    ap (λ x. x ∷ take (length front_) order) (one.0 ∙ two.0) ∙ ap (λ ks. k ∷ ks) (begins-along order wanted front_ one.1 two.1)

-- as many keys as there are, or fewer, are those of what the order begins with
fewer : (n : ℕ) (order wanted : List OrderKey) → n ≤ length wanted → Begins order wanted → take n order ≡ take n wanted
fewer zero order wanted le h = refl
fewer (suc n) order [] le h = absurd (omega (arith, le))
fewer (suc n) [] (k ∷ wanted) le h = cc
fewer (suc n) (j ∷ order) (k ∷ wanted) le h =
    let both = begins-tail j k order wanted h in
    ap (λ i. i ∷ take n order) both.0 ∙ ap (λ ks. k ∷ ks) (fewer n order wanted (omega (arith, le)) both.1)

insert-length : (c : ℕ) (xs : List ℕ) → length (insert c xs) ≤ suc (length xs)
insert-length c [] = omega arith
insert-length c (x ∷ xs) = by (insert-length c xs) (nat_lt c x) (c == x)
  where
    by : length (insert c xs) ≤ suc (length xs) → (t u : Bool) → length (if t then c ∷ x ∷ xs else if u then x ∷ xs else x ∷ insert c xs) ≤ suc (length (x ∷ xs))
    by le true u = omega arith
    by le false true = omega arith
    by le false false = omega (arith, le)

rising-length : (xs : List ℕ) → length (rising xs) ≤ length xs
rising-length [] = omega arith
rising-length (x ∷ xs) = let le : length (insert x (rising xs)) ≤ suc (length (rising xs)) = insert-length x (rising xs) in let less : length (rising xs) ≤ length xs = rising-length xs in omega (arith, le, less)

taken-length : {X : Type 0} (n : ℕ) (xs : List X) → length (take n xs) ≤ length xs
taken-length zero xs = omega arith
taken-length (suc n) [] = omega arith
taken-length (suc n) (x ∷ xs) = let le : length (take n xs) ≤ length xs = taken-length n xs in omega (arith, le)

begins-all : (K : List ℕ) (order wanted : List OrderKey) → begins_with_all K wanted ≡ true → Begins order wanted → begins_with_all K order ≡ true
begins-all K order wanted all h =
    let columns : List OrderKey → List ℕ = λ keys. map (λ (k : OrderKey). k.column) (take (length K) keys) in
    let are : rising (columns wanted) ≡ K = equal_columns (rising (columns wanted)) K all in
    let less : length K ≤ length wanted
    = let one : length (rising (columns wanted)) ≤ length (columns wanted) = rising-length (columns wanted) in
    let two : length (columns wanted) ≡ length (take (length K) wanted) = length-map (take (length K) wanted) (λ (k : OrderKey). k.column) in
    let three : length (take (length K) wanted) ≤ length wanted = taken-length (length K) wanted in
    omega (arith, one, two, three, ap length are) in
    ap (λ keys. same_columns (rising (map (λ (k : OrderKey). k.column) keys)) K) (fewer (length K) order wanted less h) ∙ all

-- ---- what an operator's inputs deliver

abbrev behind : List (List OrderKey) → List (List OrderKey)
behind [] = []
behind (order ∷ given) = given

-- inputs of these classes deliver orders that begin with those that are wanted, as far as some are
abbrev Deliver : List (List OrderKey) → List (List OrderKey) → List ℕ → Type 0
Deliver given [] classes = Unit {0}
Deliver given (order ∷ orders) [] = Unit {0}
Deliver given (order ∷ orders) (g ∷ classes) = Begins (first_order given) order × Deliver (behind given) orders classes

-- the inputs of an operator are sorted as it requires, and its rows as is wanted
abbrev Sorts : List TableInstance → Operator → List (List ℕ) → List (List OrderKey) → List OrderKey → Type 0
Sorts instances operator columns given order = (are_sorted operator columns given ≡ true) × Begins (operator_order instances operator given) order

first-delivered : (given : List (List OrderKey)) (order : List OrderKey) (orders : List (List OrderKey)) (g : ℕ) (classes : List ℕ) → Some (order ∷ []) ≡ Some orders → Deliver given orders (g ∷ classes) → Begins (first_order given) order
first-delivered given order orders g classes e delivers = (subst (λ os. Deliver given os (g ∷ classes)) (let same : orders ≡ (order ∷ []) = cc in same) delivers).0

second-is : (given : List (List OrderKey)) → first_order (behind given) ≡ second_order given
second-is [] = refl
second-is (order ∷ given) = refl

module _ (cols : ℕ → List ℕ) (instances : List TableInstance) where
  abbrev Wanted : Operator → Expr → List OrderKey → List (List OrderKey) → Type 0
  Wanted operator x order orders = input_orders instances operator (first_columns (map cols (children x))) order ≡ Some orders

  abbrev Input : Operator → Expr → List (List ℕ)
  Input operator x = map cols (needed_classes operator x)

  merge-sorts : (p q : ℕ) (j : Matching) (given : List (List OrderKey)) (order : List OrderKey) (orders : List (List OrderKey)) (a b : ℕ) (rest : List ℕ) (columns : List (List ℕ)) → merge_orders p q order ≡ Some orders
      → Deliver given orders (a ∷ b ∷ rest) → Sorts instances (JoinRows (join.Merge p q) j) columns given order
  merge-sorts p q j given [] orders a b rest columns e delivers =
      let by_left : List OrderKey = record { column = p; descending = false } ∷ [] in
      let by_right : List OrderKey = record { column = q; descending = false } ∷ [] in
      let own = subst (λ os. Deliver given os (a ∷ b ∷ rest)) (let same : orders ≡ (by_left ∷ by_right ∷ []) = cc in same) delivers in
      (and_from (rises_by p (first_order given)) (rises_by q (second_order given)) (is-begun (first_order given) by_left own.0) (is-begun (second_order given) by_right (subst (λ o. Begins o by_right) (second-is given) own.1.0)), refl)
  merge-sorts p q j given (k ∷ order) orders a b rest columns e delivers =
      let by_left : List OrderKey = record { column = p; descending = false } ∷ [] in
      let by_right : List OrderKey = record { column = q; descending = false } ∷ [] in
      let so = so-some (rises_by p (k ∷ order)) ((k ∷ order) ∷ by_right ∷ []) orders e in
      let own = subst (λ os. Deliver given os (a ∷ b ∷ rest)) (sym so.1) delivers in
      let left = begins-along (first_order given) (k ∷ order) by_left own.0 (begins-is (k ∷ order) by_left so.0) in
      (and_from (rises_by p (first_order given)) (rises_by q (second_order given)) (is-begun (first_order given) by_left left) (is-begun (second_order given) by_right (subst (λ o. Begins o by_right) (second-is given) own.1.0)), own.0)

  join-sorts : (method : JoinMethod) (j : Matching) (given : List (List OrderKey)) (order : List OrderKey) (orders : List (List OrderKey)) (a b : ℕ) (rest : List ℕ) (columns : List (List ℕ)) → join_orders method (cols a) order ≡ Some orders
      → Deliver given orders (a ∷ b ∷ rest) → Sorts instances (JoinRows method j) columns given order
  join-sorts method j given order orders a b rest columns e delivers = by method (if-some (are_columns (cols a) order) (side_orders method order) orders e).1
    where
      by : (method : JoinMethod) → side_orders method order ≡ Some orders → Sorts instances (JoinRows method j) columns given order
      by join.NestedLoop e = (refl, first-delivered given order orders a (b ∷ rest) e delivers)
      by join.Hash e = (refl, first-delivered given order orders a (b ∷ rest) e delivers)
      by (join.Merge p q) e = merge-sorts p q j given order orders a b rest columns e delivers

  operator-sorts : (operator : Operator) (x : Expr) → implements cols operator x ≡ true → (order : List OrderKey) → are_columns (columns_of instances cols x) order ≡ true → (orders : List (List OrderKey)) → Wanted operator x order orders
      → (given : List (List OrderKey)) → Deliver given orders (needed_classes operator x) → Sorts instances operator (Input operator x) given order
  operator-sorts (Scan o) x h order is orders e given delivers = (refl, begins-any [] order (so-some (is_any order) [] orders e).0)
  operator-sorts (IndexScan a C) x h order is orders e given delivers = (refl, begins-is _ order (so-some _ [] orders e).0)
  operator-sorts (Filter C) (Select D y) h order is orders e given delivers = (refl, first-delivered given order orders y _ e delivers)
  operator-sorts (Filter C) x h order is orders e given delivers = cc
  operator-sorts (FilterSubqueries C) (Select D y) h order is orders e given delivers = (refl, first-delivered given order orders y _ e delivers)
  operator-sorts (FilterSubqueries C) x h order is orders e given delivers = cc
  operator-sorts (Projection K) (Keep L y) h order is orders e given delivers =
      (refl, begins-front (has K) (first_order given) order (first-delivered given order orders y _ e delivers) (subst (λ M. are_columns M order ≡ true) (sym (equal_columns K L h)) is))
  operator-sorts (Projection K) x h order is orders e given delivers = cc
  operator-sorts (JoinRows method j) x h order is orders e given delivers =
      let s = sides j x (and_parts (is_join j x) (finds method j (first_columns (map cols (children x))) (second_columns (map cols (children x)))) h).0 in
      let rest : List ℕ = classes_in (conditions x) in
      join-sorts method j given order orders s.left s.right rest (Input (JoinRows method j) x) (subst (λ cs. join_orders method (first_columns (map cols cs)) order ≡ Some orders) s.are e) (subst (λ cs. Deliver given orders (cs ++ rest)) s.are delivers)
  operator-sorts (IndexJoin a j) x h order is orders e given delivers =
      let s = sides j x h in
      let wanted : join_orders join.NestedLoop (cols s.left) order ≡ Some orders = subst (λ cs. join_orders join.NestedLoop (first_columns (map cols cs)) order ≡ Some orders) s.are e in
      let both = if-some (are_columns (cols s.left) order) (side_orders join.NestedLoop order) orders wanted in
      (refl, first-delivered given order orders s.left [] both.1 (subst (λ cs. Deliver given orders (take 1 cs)) s.are delivers))
  operator-sorts (GroupRows group.Hash K G) x h order is orders e given delivers = (refl, begins-any [] order (so-some (is_any order) [] orders e).0)
  operator-sorts (GroupRows group.Sorted K G) (Group L H y) h order is orders e given delivers =
      let by_keys : List OrderKey = and_others order K in
      let so = so-some (are_columns K order && begins_with_all K by_keys) (by_keys ∷ []) orders e in
      let own = and_parts (are_columns K order) (begins_with_all K by_keys) so.0 in
      let input = first-delivered given by_keys orders y _ (ap (λ os. Some os) so.1) delivers in
      (begins-all K (first_order given) by_keys own.1 input, begins-front (has K) (first_order given) order (begins-before (first_order given) order _ input) own.0)
  operator-sorts (GroupRows group.Sorted K G) x h order is orders e given delivers = cc
  operator-sorts (DistinctRows group.Hash) (Distinct y) h order is orders e given delivers = (refl, first-delivered given order orders y _ e delivers)
  operator-sorts (DistinctRows group.Sorted) (Distinct y) h order is orders e given delivers =
      let by_all : List OrderKey = and_others order (cols y) in
      let so = so-some (begins_with_all (cols y) by_all) (by_all ∷ []) orders e in
      let input = first-delivered given by_all orders y _ (ap (λ os. Some os) so.1) delivers in
      (begins-all (cols y) (first_order given) by_all so.0 input, begins-before (first_order given) order _ input)
  operator-sorts (DistinctRows method) x h order is orders e given delivers = cc

-- ---- what an operator names

module _ (E : Log) where
  conditions-founded : (x : Expr) → classes_pass (founds E) x ≡ true → subqueries_pass (founds E) (conditions x) ≡ true
  conditions-founded x known = (and_parts (list_all (founds E) (children x)) (subqueries_pass (founds E) (conditions x)) known).1

  are-founded : (C D : List Condition) → C ≡ D → subqueries_pass (founds E) D ≡ true → are_founded E C ≡ true
  are-founded C D same known = ap (are_founded E) same ∙ classes-pass (founds E) D known

  matching-founded : (j : Matching) (x : Expr) → is_join j x ≡ true → classes_pass (founds E) x ≡ true → matching_is_founded E j ≡ true
  matching-founded (matching.Inner C) (Join D a b) h known = are-founded C D (equal_conditions C D h) (conditions-founded (Join D a b) known)
  matching-founded (matching.Left C) (LeftJoin D a b) h known = are-founded C D (equal_conditions C D h) (conditions-founded (LeftJoin D a b) known)
  matching-founded (matching.Semi C) (expr.Semi D a b) h known = are-founded C D (equal_conditions C D h) (conditions-founded (expr.Semi D a b) known)
  matching-founded (matching.Anti S M) (expr.Anti T N a b) h known =
      let same = and_parts (same_conditions S T) (same_conditions M N) h in
      let both : (subqueries_pass (founds E) T && subqueries_pass (founds E) N) ≡ true = sym (list_all-append _ T N) ∙ conditions-founded (expr.Anti T N a b) known in
      let parts = and_parts (subqueries_pass (founds E) T) (subqueries_pass (founds E) N) both in
      and_from (are_founded E S) (are_founded E M) (are-founded S T (equal_conditions S T same.0) parts.0) (are-founded M N (equal_conditions M N same.1) parts.1)
  matching-founded j x h known = cc

  earlier-line : (i : ℕ) (l : matches.Line) → member E i ≡ Some l → is_earlier E i ≡ true
  earlier-line i l at = lt-ltb i (length E) (member-within E i l at)

  accessed-earlier : (a : IndexAccess) (g : ℕ) → accesses E a g ≡ true → is_earlier E a.line ≡ true
  accessed-earlier a g h = by (member E a.line) refl h
    where
      by : (o : Option matches.Line) → member E a.line ≡ o → gets E o g a.instance ≡ true → is_earlier E a.line ≡ true
      by None at h = cc
      by (Some l) at h = earlier-line a.line l at

  module _ (instances : List TableInstance) (cols : ℕ → List ℕ) where
    names : (line : ℕ) (l : matches.Line) → member E line ≡ Some l → (operator : Operator) (x : Expr) → classes_pass (founds E) x ≡ true → implements cols operator x ≡ true → index_fits instances E line operator x ≡ true → names_lines E operator ≡ true
    names line l at (Scan o) x known h f = refl
    names line l at (IndexScan a C) (Get p) known h f =
        let own = and_parts (a.line == line) (a.instance == p) (and_parts (a.line == line && a.instance == p) _ f).0 in
        and_from (is_earlier E a.line) (are_founded E C) (ap (is_earlier E) (eqb-true a.line line own.0) ∙ earlier-line line l at) (are-founded C [] (equal_conditions C [] h) refl)
    names line l at (IndexScan a C) (Select D y) known h f =
        let plain = and_parts (is_plain D) (same_conditions C D) h in
        and_from (is_earlier E a.line) (are_founded E C) (accessed-earlier a y (and_parts (accesses E a y) _ f).0) (are-founded C D (equal_conditions C D plain.1) (conditions-founded (Select D y) known))
    names line l at (IndexScan a C) x known h f = cc
    names line l at (Filter C) (Select D y) known h f = are-founded C D (equal_conditions C D (and_parts (is_plain D) (same_conditions C D) h).1) (conditions-founded (Select D y) known)
    names line l at (Filter C) x known h f = cc
    names line l at (FilterSubqueries C) (Select D y) known h f = are-founded C D (equal_conditions C D (and_parts (not (is_plain D)) (same_conditions C D) h).1) (conditions-founded (Select D y) known)
    names line l at (FilterSubqueries C) x known h f = cc
    names line l at (Projection K) x known h f = refl
    names line l at (JoinRows method j) x known h f = matching-founded j x (and_parts (is_join j x) _ h).0 known
    names line l at (IndexJoin a j) x known h f =
        let s = sides j x h in
        let second : accesses E a s.right ≡ true = subst (λ cs. accesses_second E a cs ≡ true) s.are (and_parts (accesses_second E a (children x)) _ f).0 in
        and_from (is_earlier E a.line) (matching_is_founded E j) (accessed-earlier a s.right second) (matching-founded j x h known)
    names line l at (GroupRows method K G) x known h f = refl
    names line l at (DistinctRows method) x known h f = refl

    fits-at : (line : ℕ) (l : matches.Line) → member E line ≡ Some l → (operator : Operator) → names_lines E operator ≡ true → (inputs g n : ℕ) → is_member E l g ≡ true → operator_is_of instances E cols line operator l.expr inputs ≡ true
        → operator_fits instances E cols line operator inputs g n ≡ Ok (needed_classes operator l.expr)
    fits-at line l at operator named inputs g n same is = rw (earlier-line line l at, named, at, same, is) refl

-- ---- plans

module _ (instances : List TableInstance) (own : List Aggregation) (E : Log) (shaped : AreShaped instances own E) where
  abbrev cols : ℕ → List ℕ
  cols = columns_in instances E

  abbrev offered : Plan → Goal → Bool
  offered = is_offered instances E cols

  -- of a class, whatever the number at which its nodes begin
  abbrev FitsClass : Plan → ℕ → Type 0
  FitsClass p g = (n : ℕ) → (m : ℕ) × (plan_fits instances E cols p true g n ≡ Ok m)

  abbrev Serves : Plan → Type 0
  Serves p = (g : ℕ) (order : List OrderKey) → founds E g ≡ true → IsOrder (cols g) order → offered p (goal_of E g order) ≡ true → FitsClass p g × Begins (plan_order instances p) order

  abbrev Part : Type 0
  Part = (p : Plan) × Serves p

  abbrev plans_of : List Part → List Plan
  plans_of parts = map (λ p. p.0) parts

  abbrev fits_of : List Part → List Fits
  fits_of parts = map (plan_fits instances E cols) (plans_of parts)

  record InputsServe (parts : List Part) (classes : List ℕ) (orders : List (List OrderKey)) : Type 0 where
    fit : (n : ℕ) → (m : ℕ) × (inputs_fit (fits_of parts) classes n ≡ Ok m)
    count : length parts ≡ length classes
    deliver : Deliver (map (plan_order instances) (plans_of parts)) orders classes

  one-more : (p : Part) (parts : List Part) (g : ℕ) (classes : List ℕ) → FitsClass p.0 g → ((n : ℕ) → (m : ℕ) × (inputs_fit (fits_of parts) classes n ≡ Ok m)) → (n : ℕ) → (m : ℕ) × (inputs_fit (fits_of (p ∷ parts)) (g ∷ classes) n ≡ Ok m)
  one-more p parts g classes first rest n =
      let own_ = first n in
      let others = rest own_.0 in
      (others.0, ap (λ (r : Result ℕ CheckRefusal). r >>= λ m. inputs_fit (fits_of parts) classes m) own_.1 ∙ others.1)

  inputs-serve : (parts : List Part) (classes : List ℕ) (orders : List (List OrderKey)) → list_all (founds E) classes ≡ true → AreOrders cols orders classes → are_for (map offered (plans_of parts)) (goals_of E classes orders) ≡ true → InputsServe parts classes orders
  inputs-serve [] [] [] founded is are = record { fit = λ n. (n, refl); count = refl; deliver = tt }
  inputs-serve [] [] (order ∷ orders) founded is are = record { fit = λ n. (n, refl); count = refl; deliver = tt }
  inputs-serve [] (g ∷ classes) [] founded is are = cc
  inputs-serve [] (g ∷ classes) (order ∷ orders) founded is are = cc
  inputs-serve (p ∷ parts) [] orders founded is are = cc
  inputs-serve (p ∷ parts) (g ∷ classes) [] founded is are =
      let known = and_parts (founds E g) (list_all (founds E) classes) founded in
      let both = and_parts (offered p.0 (goal_of E g [])) (are_for (map offered (plans_of parts)) (goals_of E classes [])) are in
      let first = p.1 g [] known.0 (refl, refl) both.0 in
      let rest = inputs-serve parts classes [] known.1 tt both.1 in
      record { fit = one-more p parts g classes first.0 rest.fit; count = ap suc rest.count; deliver = tt }
  inputs-serve (p ∷ parts) (g ∷ classes) (order ∷ orders) founded is are =
      let known = and_parts (founds E g) (list_all (founds E) classes) founded in
      let both = and_parts (offered p.0 (goal_of E g order)) (are_for (map offered (plans_of parts)) (goals_of E classes orders)) are in
      let first = p.1 g order known.0 is.0 both.0 in
      let rest = inputs-serve parts classes orders known.1 is.1 both.1 in
      record { fit = one-more p parts g classes first.0 rest.fit; count = ap suc rest.count; deliver = (first.1, rest.deliver) }

  -- a node over inputs that serve
  abbrev NodeServes : Node → List Part → ℕ → List OrderKey → Type 0
  NodeServes node parts g order =
      let given = map (plan_order instances) (plans_of parts) in
      ((n : ℕ) → (m : ℕ) × ((node_fits instances E cols node (length (fits_of parts)) g n >>= after_node cols node given (fits_of parts) true n) ≡ Ok m)) × Begins (node_order instances node given) order

  after : (node : Node) (parts : List Part) (g n : ℕ) (needed : List ℕ) → node_fits instances E cols node (length (fits_of parts)) g n ≡ Ok needed → inputs_sorted node (map cols needed) (map (plan_order instances) (plans_of parts)) ≡ true
      → (m : ℕ) × (inputs_fit (fits_of parts) needed (n + 1) ≡ Ok m) → (m : ℕ) × ((node_fits instances E cols node (length (fits_of parts)) g n >>= after_node cols node (map (plan_order instances) (plans_of parts)) (fits_of parts) true n) ≡ Ok m)
  after node parts g n needed fits sorted rest = (rest.0, rw (fits, sorted) rest.1)

  operator-serves : (line : ℕ) (operator : Operator) (l : matches.Line) → member E line ≡ Some l → (parts : List Part) (g : ℕ) (order : List OrderKey) → is_member E l g ≡ true → IsOrder (cols g) order
      → are_for_some (map offered (plans_of parts)) (operator_goals instances E cols order line operator l.expr) ≡ true → NodeServes (Implements line operator) parts g order
  operator-serves line operator l at parts g order same ordered are = by (operator_goals instances E cols order line operator l.expr) refl are
    where
      x : Expr
      x = l.expr

      by : (o : Option (List Goal)) → operator_goals instances E cols order line operator l.expr ≡ o → are_for_some (map offered (plans_of parts)) o ≡ true → NodeServes (Implements line operator) parts g order
      by None is are = cc
      by (Some goals) is are =
          let shape = shaped.lines line l at in
          let found = if-some (implements cols operator x && index_fits instances E line operator x) (option_map (goals_of E (needed_classes operator x)) (input_orders instances operator (first_columns (map cols (children x))) order)) goals is in
          let fits = and_parts (implements cols operator x) (index_fits instances E line operator x) found.0 in
          let orders = map-some (goals_of E (needed_classes operator x)) (input_orders instances operator (first_columns (map cols (children x))) order) goals found.1 in
          let class_columns : cols l.class ≡ cols g = shaped.same l.class g (eqb-true (least E l.class) (least E g) same) in
          let own_order : IsOrder (columns_of instances cols x) order = subst (λ K. IsOrder K order) (sym (shape.columns ∙ class_columns)) ordered in
          let wanted = orders-fit cols instances own operator x fits.0 shape.formed order own_order orders.0 orders.1 in
          let serve = inputs-serve parts (needed_classes operator x) orders.0 (needed-founded instances own E shaped operator x shape.known) wanted (ap (are_for (map offered (plans_of parts))) orders.2 ∙ are) in
          let sorts = operator-sorts cols instances operator x fits.0 order own_order.0 orders.0 orders.1 (map (plan_order instances) (plans_of parts)) serve.deliver in
          let counted : (length (fits_of parts) == length (needed_classes operator x)) ≡ true
          = eq-eqb _ _ (length-map (plans_of parts) (plan_fits instances E cols) ∙ length-map parts (λ (p : Part). p.0) ∙ serve.count) in
          let of_ : operator_is_of instances E cols line operator x (length (fits_of parts)) ≡ true = and_from _ _ (and_from _ _ fits.0 fits.1) counted in (
            λ n. after (Implements line operator) parts g n (needed_classes operator x) (fits-at E instances cols line l at operator (names E instances cols line l at operator x shape.known fits.0 fits.1) (length (fits_of parts)) g n same of_) sorts.0 (serve.fit (n + 1)),
            sorts.1,
          )

  sort-serves : (keys : List OrderKey) (parts : List Part) (g : ℕ) (order : List OrderKey) → founds E g ≡ true → IsOrder (cols g) order
      → are_for_some (map offered (plans_of parts)) (where_so (not (is_any order) && same_order keys order) (goal_of E (least E g) [] ∷ [])) ≡ true → NodeServes (Sort keys) parts g order
  sort-serves keys parts g order founded ordered are = by (not (is_any order) && same_order keys order) refl are
    where
      by : (b : Bool) → (not (is_any order) && same_order keys order) ≡ b → are_for_some (map offered (plans_of parts)) (where_so b (goal_of E (least E g) [] ∷ [])) ≡ true → NodeServes (Sort keys) parts g order
      by false is are = cc
      by true is are =
          let keys_are : keys ≡ order = same-keys keys order (and_parts (not (is_any order)) (same_order keys order) is).1 in
          let input : goal_of E (least E g) [] ≡ goal_of E g [] = ap (λ c. record { class = c; order = [] }) (least-again E g) in
          let serve = inputs-serve parts (g ∷ []) [] (and_from (founds E g) true founded refl) tt (ap (λ goal. are_for (map offered (plans_of parts)) (goal ∷ [])) (sym input) ∙ are) in
          let counted : (length (fits_of parts) == 1) ≡ true = eq-eqb _ _ (length-map (plans_of parts) (plan_fits instances E cols) ∙ length-map parts (λ (p : Part). p.0) ∙ serve.count) in
          let columns : are_columns (cols g) keys ≡ true = ap (are_columns (cols g)) keys_are ∙ ordered.0 in (
            λ n. after (Sort keys) parts g n (g ∷ []) (rw (columns, counted) refl) refl (serve.fit (n + 1)),
            subst (λ ks. Begins ks order) (sym keys_are) (whole order),
          )

  node-serves : (node : Node) (parts : List Part) (g : ℕ) (order : List OrderKey) → founds E g ≡ true → IsOrder (cols g) order
      → are_for_some (map offered (plans_of parts)) (input_goals instances E cols (goal_of E g order) node) ≡ true → NodeServes node parts g order
  node-serves (Sort keys) parts g order founded ordered are = sort-serves keys parts g order founded ordered are
  node-serves (Implements line operator) parts g order founded ordered are = by (member E line) refl are
    where
      by : (o : Option matches.Line) → member E line ≡ o → are_for_some (map offered (plans_of parts)) (member_goals instances E cols (goal_of E g order) line operator o) ≡ true → NodeServes (Implements line operator) parts g order
      by None at are = cc
      by (Some l) at are = same (is_member E l (least E g)) refl are
        where
          same : (b : Bool) → is_member E l (least E g) ≡ b → are_for_some (map offered (plans_of parts)) (if b then operator_goals instances E cols order line operator l.expr else None) ≡ true → NodeServes (Implements line operator) parts g order
          same false is are = cc
          same true is are = operator-serves line operator l at parts g order (ap (λ c. least E l.class == c) (sym (least-again E g)) ∙ is) ordered are

  step : (y : Plan-F Part) → Serves (roll-Plan (map-Plan Part Plan (λ p. p.0) y))
  unfolding is_offered plan_order
  step y g order founded ordered is =
      let z : Plan-F Plan = map-Plan Part Plan (λ p. p.0) y in
      let are : are_for_some (map offered (plans_of y.inputs)) (input_goals instances E cols (goal_of E g order) y.node) ≡ true
      = ap (λ f. f (goal_of E g order)) (sym (fold-roll-Plan (Goal → Bool) (offered_layer instances E cols) z)) ∙ is in
      let node = node-serves y.node y.inputs g order founded ordered are in (
        λ n.
            let here = node.0 n in (
              here.0,
              plan_fits_out instances E cols (roll-Plan z) true g n
                  ∙ ap (λ (w : Plan-F Plan). node_fits instances E cols w.node (length w.inputs) g n >>= after_node cols w.node (map (plan_order instances) w.inputs) (map (plan_fits instances E cols) w.inputs) true n) (out-roll-Plan z)
                  ∙ ap (λ k. node_fits instances E cols y.node k g n >>= after_node cols y.node (map (plan_order instances) (plans_of y.inputs)) (fits_of y.inputs) true n) (sym (length-map (plans_of y.inputs) (plan_fits instances E cols)))
                  ∙ here.1,
            ),
        subst (λ o. Begins o order) (sym (fold-roll-Plan (List OrderKey) (order_layer instances) z)) node.1,
      )

  pub plans-serve : (p : Plan) → Serves p
  plans-serve = ind-Plan Serves (λ x y is. subst (λ z. Serves (roll-Plan z)) is (step y))

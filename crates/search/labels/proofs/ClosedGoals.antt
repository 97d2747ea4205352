-- Over a log that replays, the goals of an offered node's inputs are goals; and at each goal without an order a node is offered over such goals of earlier
-- classes, at each with one a sort.
use Rattle.std.proofs.Common.{◌≡◌, refl, ap, sym, ◌∙◌, subst, ℕ, ◌<◌, ◌≤◌, Bool, true, false, not, ◌&&◌, ◌==◌, nat_lt, if◌then◌else◌, List, [], ◌∷◌, map, take, option_map, Option, Some, None, arith}
use Rattle.std.specs.List.{list_all}
use Rattle.std.proofs.lemmas.Bool.{and_from, and_parts, eq-eqb, eqb-true, lt-ltb, ltb-true}
use Rattle.query.specs.declared.query.TableInstance.{TableInstance}
use Rattle.algebra.specs.declared.condition.Condition.{Condition}
use Rattle.algebra.specs.declared.expr.Aggregation.{Aggregation}
use Rattle.algebra.specs.declared.expr.Expr.{Expr}
use Rattle.algebra.specs.declared.expr.Expr.TheVariants as expr
use Rattle.algebra.specs.declared.expr.Expr.TheVariants.{Get, Select, Join, LeftJoin, Keep, Distinct, Group}
use Rattle.algebra.specs.ConditionEquality.{same_conditions}
use Rattle.algebra.specs.Equality.{same_aggregations}
use Rattle.algebra.specs.Expressions.{children, classes_pass, columns_of, input_classes, is_plain}
use Rattle.algebra.proofs.NamedClasses.{inputs-pass}
use Rattle.algebra.proofs.Same.{same_columns-refl, tested_aggregations, tested_conditions}
use Rattle.rules.specs.Matches as matches
use Rattle.derivation.specs.declared.line.Line.{Line}
use Rattle.derivation.specs.declared.line.Line.TheVariants.{Founds, Adds, Unites, Alike, Gives}
use Rattle.derivation.specs.Logs.{Log, are_same, as_member, founds, is_founding, least, line_at, member}
use Rattle.derivation.proofs.Sameness.{least-low}
use Rattle.physical.specs.declared.plan.OrderKey.{OrderKey}
use Rattle.physical.specs.declared.plan.JoinMethod.TheVariants as join
use Rattle.physical.specs.declared.plan.GroupMethod.TheVariants as group
use Rattle.physical.specs.declared.plan.Matching.TheVariants as matching
use Rattle.physical.specs.declared.plan.Node.{Node}
use Rattle.physical.specs.declared.plan.Node.TheVariants.{Implements, Sort}
use Rattle.physical.specs.declared.plan.Operator.{Operator}
use Rattle.physical.specs.declared.plan.Operator.TheVariants.{Scan, IndexScan, Filter, FilterSubqueries, Projection, JoinRows, IndexJoin, GroupRows, DistinctRows}
use Rattle.physical.specs.Orders.{are_columns}
use Rattle.physical.specs.Outputs.{first_columns}
use Rattle.physical.specs.RequiredOrders.{same_order}
use Rattle.certificate.specs.Replay.{implements, index_fits, is_member, needed_classes}
use Rattle.labels.specs.declared.goal.Goal.{Goal}
use Rattle.labels.specs.Offers.{are_different, goal_of, goals_of, input_goals, input_orders, is_any, is_goal, member_goals, operator_goals}
use Rattle.labels.specs.Plans.{columns_in}
use Rattle.labels.proofs.GoalsBelow.{AreOrders, IsOrder, if-some, map-some, orders-fit, so-some}
use Rattle.labels.proofs.Shaped.{AreShaped, IsShaped, least-again}

module _ (instances : List TableInstance) (own : List Aggregation) (E : Log) (shaped : AreShaped instances own E) where
  abbrev cols : ℕ → List ℕ
  cols = columns_in instances E

  abbrev AreGoals : List Goal → Type 0
  AreGoals goals = list_all (is_goal E cols) goals ≡ true

  pub goal-is : (g : ℕ) (order : List OrderKey) → founds E g ≡ true → IsOrder (cols g) order → is_goal E cols (goal_of E g order) ≡ true
  goal-is g order founded is =
      let c : ℕ = least E g in
      let same : cols c ≡ cols g = shaped.same c g (least-again E g) in
      and_from (founds E c && (least E c == c)) (are_columns (cols c) order && are_different order)
      (and_from (founds E c) (least E c == c) (shaped.roots g founded) (eq-eqb (least E c) c (least-again E g)))
      (and_from (are_columns (cols c) order) (are_different order) (subst (λ K. are_columns K order ≡ true) (sym same) is.0) is.1)

  goals-are : (classes : List ℕ) (orders : List (List OrderKey)) → list_all (founds E) classes ≡ true → AreOrders cols orders classes → AreGoals (goals_of E classes orders)
  goals-are [] orders founded is = refl
  goals-are (g ∷ classes) [] founded is =
      let parts = and_parts (founds E g) (list_all (founds E) classes) founded in
      and_from (is_goal E cols (goal_of E g [])) (list_all (is_goal E cols) (goals_of E classes [])) (goal-is g [] parts.0 (refl, refl)) (goals-are classes [] parts.1 tt)
  goals-are (g ∷ classes) (order ∷ orders) founded is =
      let parts = and_parts (founds E g) (list_all (founds E) classes) founded in
      and_from (is_goal E cols (goal_of E g order)) (list_all (is_goal E cols) (goals_of E classes orders)) (goal-is g order parts.0 is.0) (goals-are classes orders parts.1 is.1)

  first-founded : (classes : List ℕ) → list_all (founds E) classes ≡ true → list_all (founds E) (take 1 classes) ≡ true
  first-founded [] h = refl
  first-founded (g ∷ classes) h = and_from (founds E g) true (and_parts (founds E g) (list_all (founds E) classes) h).0 refl

  pub needed-founded : (operator : Operator) (x : Expr) → classes_pass (founds E) x ≡ true → list_all (founds E) (needed_classes operator x) ≡ true
  needed-founded (Scan o) x known = inputs-pass (founds E) x known
  needed-founded (IndexScan a C) x known = refl
  needed-founded (Filter C) x known = inputs-pass (founds E) x known
  needed-founded (FilterSubqueries C) x known = inputs-pass (founds E) x known
  needed-founded (Projection K) x known = inputs-pass (founds E) x known
  needed-founded (JoinRows method j) x known = inputs-pass (founds E) x known
  needed-founded (IndexJoin a j) x known = first-founded (children x) (and_parts (list_all (founds E) (children x)) _ known).0
  needed-founded (GroupRows method K G) x known = inputs-pass (founds E) x known
  needed-founded (DistinctRows method) x known = inputs-pass (founds E) x known

  operator-goals-are : (order : List OrderKey) (line : ℕ) (operator : Operator) (l : matches.Line) → IsShaped instances own E l → IsOrder (cols l.class) order → (goals : List Goal)
      → operator_goals instances E cols order line operator l.expr ≡ Some goals → AreGoals goals
  operator-goals-are order line operator l is ordered goals e =
      let x : Expr = l.expr in
      let offered = if-some (implements cols operator x && index_fits instances E line operator x) (option_map (goals_of E (needed_classes operator x)) (input_orders instances operator (first_columns (map cols (children x))) order)) goals e in
      let fits = and_parts (implements cols operator x) (index_fits instances E line operator x) offered.0 in
      let orders = map-some (goals_of E (needed_classes operator x)) (input_orders instances operator (first_columns (map cols (children x))) order) goals offered.1 in
      let own_order : IsOrder (columns_of instances cols x) order = subst (λ K. IsOrder K order) (sym is.columns) ordered in
      subst AreGoals orders.2 (goals-are (needed_classes operator x) orders.0 (needed-founded operator x is.known) (orders-fit cols instances own operator x fits.0 is.formed order own_order orders.0 orders.1))

  pub node-goals-are : (goal : Goal) → is_goal E cols goal ≡ true → (node : Node) (goals : List Goal) → input_goals instances E cols goal node ≡ Some goals → AreGoals goals
  node-goals-are goal is (Implements line operator) goals e = by (member E line) refl e
    where
      by : (o : Option matches.Line) → member E line ≡ o → member_goals instances E cols goal line operator o ≡ Some goals → AreGoals goals
      by None at e = cc
      by (Some l) at e =
          let both = if-some (is_member E l goal.class) (operator_goals instances E cols goal.order line operator l.expr) goals e in
          let same : cols l.class ≡ cols goal.class = shaped.same l.class goal.class (eqb-true (least E l.class) (least E goal.class) both.0) in
          let ordered = (and_parts (founds E goal.class && (least E goal.class == goal.class)) (are_columns (cols goal.class) goal.order && are_different goal.order) is).1 in
          let parts = and_parts (are_columns (cols goal.class) goal.order) (are_different goal.order) ordered in
          operator-goals-are goal.order line operator l (shaped.lines line l at) (subst (λ K. are_columns K goal.order ≡ true) (sym same) parts.0, parts.1) goals both.1
  node-goals-are goal is (Sort keys) goals e =
      let class = (and_parts (founds E goal.class) (least E goal.class == goal.class) (and_parts (founds E goal.class && (least E goal.class == goal.class)) _ is).0).0 in
      subst AreGoals (so-some (not (is_any goal.order) && same_order keys goal.order) (goal_of E goal.class [] ∷ []) goals e).1
      (and_from (is_goal E cols (goal_of E goal.class [])) true (goal-is goal.class [] class (refl, refl)) refl)

  -- ---- a node for each goal

  same-conditions : (C : List Condition) → same_conditions C C ≡ true
  same-conditions C = sym (tested_conditions true C C (λ _. refl, λ _. refl))

  same-aggregations : (G : List Aggregation) → same_aggregations G G ≡ true
  same-aggregations G = sym (tested_aggregations true G G (λ _. refl, λ _. refl))

  -- rows in no order: by plain scans, filters, nested loops and hashes
  abbrev basic : Expr → Operator
  basic (Get o) = Scan o
  basic (Select C x) = if is_plain C then Filter C else FilterSubqueries C
  basic (Join C a b) = JoinRows join.NestedLoop (matching.Inner C)
  basic (LeftJoin C a b) = JoinRows join.NestedLoop (matching.Left C)
  basic (expr.Semi C a b) = JoinRows join.NestedLoop (matching.Semi C)
  basic (expr.Anti S M a b) = JoinRows join.NestedLoop (matching.Anti S M)
  basic (Keep K x) = Projection K
  basic (Distinct x) = DistinctRows group.Hash
  basic (Group K G x) = GroupRows group.Hash K G

  abbrev Offered : ℕ → Expr → Operator → List (List OrderKey) → Type 0
  Offered line x operator orders = operator_goals instances E cols [] line operator x ≡ Some (goals_of E (input_classes x) orders)

  select-offered : (line : ℕ) (C : List Condition) (x : ℕ) → Offered line (Select C x) (if is_plain C then Filter C else FilterSubqueries C) ([] ∷ [])
  select-offered line C x = by (is_plain C) refl
    where
      by : (t : Bool) → is_plain C ≡ t → Offered line (Select C x) (if t then Filter C else FilterSubqueries C) ([] ∷ [])
      by true plain = rw (plain, same-conditions C) refl
      by false plain = rw (plain, same-conditions C) refl

  -- no order is wanted of any input
  abbrev IsBasic : ℕ → Expr → Type 0
  IsBasic line x = (orders : List (List OrderKey)) × (list_all is_any orders ≡ true) × Offered line x (basic x) orders

  basic-offered : (line : ℕ) (x : Expr) → IsBasic line x
  basic-offered line (Get o) = ([], refl, rw (eq-eqb o o refl) refl)
  basic-offered line (Select C x) = ([] ∷ [], refl, select-offered line C x)
  basic-offered line (Join C a b) = ([] ∷ [], refl, rw (same-conditions C) refl)
  basic-offered line (LeftJoin C a b) = ([] ∷ [], refl, rw (same-conditions C) refl)
  basic-offered line (expr.Semi C a b) = ([] ∷ [], refl, rw (same-conditions C) refl)
  basic-offered line (expr.Anti S M a b) = ([] ∷ [], refl, rw (same-conditions S, same-conditions M) refl)
  basic-offered line (Keep K x) = ([] ∷ [], refl, rw (same_columns-refl K) refl)
  basic-offered line (Distinct x) = ([] ∷ [], refl, refl)
  basic-offered line (Group K G x) = ([], refl, rw (same_columns-refl K, same-aggregations G) refl)

  -- the goals are of classes before this one, in no order
  abbrev pub is_lower : ℕ → Goal → Bool
  is_lower g goal = nat_lt goal.class g && is_any goal.order

  lower-goals : (g : ℕ) (classes : List ℕ) (orders : List (List OrderKey)) → list_all (λ c. nat_lt c g) classes ≡ true → list_all is_any orders ≡ true → list_all (is_lower g) (goals_of E classes orders) ≡ true
  lower-goals g [] orders low any = refl
  lower-goals g (c ∷ classes) [] low any =
      let parts = and_parts (nat_lt c g) (list_all (λ c. nat_lt c g) classes) low in
      and_from (is_lower g (goal_of E c [])) (list_all (is_lower g) (goals_of E classes [])) (and_from (nat_lt (least E c) g) true (lower c parts.0) refl) (lower-goals g classes [] parts.1 any)
    where
      lower : (c : ℕ) → nat_lt c g ≡ true → nat_lt (least E c) g ≡ true
      lower c h = lt-ltb (least E c) g (let le : least E c ≤ c = least-low E c in let lt : c < g = ltb-true c g h in omega (arith, le, lt))
  lower-goals g (c ∷ classes) (order ∷ orders) low any =
      let parts = and_parts (nat_lt c g) (list_all (λ c. nat_lt c g) classes) low in
      let own_order = and_parts (is_any order) (list_all is_any orders) any in
      and_from (is_lower g (goal_of E c order)) (list_all (is_lower g) (goals_of E classes orders)) (and_from (nat_lt (least E c) g) (is_any order) (lower c parts.0) own_order.0) (lower-goals g classes orders parts.1 own_order.1)
    where
      lower : (c : ℕ) → nat_lt c g ≡ true → nat_lt (least E c) g ≡ true
      lower c h = lt-ltb (least E c) g (let le : least E c ≤ c = least-low E c in let lt : c < g = ltb-true c g h in omega (arith, le, lt))

  -- a node that is offered at a goal, over these goals
  pub record HasNode (goal : Goal) (P : Goal → Bool) : Type 0 where
    pub node : Node
    pub goals : List Goal
    pub offered : input_goals instances E cols goal node ≡ Some goals
    pub passes : list_all P goals ≡ true

  founding-line : (g : ℕ) → founds E g ≡ true → (x : Expr) × (line_at E g ≡ Some (Founds x))
  founding-line g h = by (line_at E g) refl h
    where
      by : (o : Option Line) → line_at E g ≡ o → is_founding o ≡ true → (x : Expr) × (line_at E g ≡ Some (Founds x))
      by None at h = cc
      by (Some (Founds x)) at h = (x, at)
      by (Some (Adds c s x)) at h = cc
      by (Some (Unites c d s)) at h = cc
      by (Some (Alike i j)) at h = cc
      by (Some (Gives c m f)) at h = cc

  pub basic-node : (g : ℕ) → founds E g ≡ true → least E g ≡ g → HasNode (record { class = g; order = [] }) (is_lower g)
  basic-node g founded stands =
      let line = founding-line g founded in
      let x : Expr = line.0 in
      let own_basic = basic-offered g x in
      let own_member : member E g ≡ Some (record { class = g; expr = x }) = ap (as_member g) line.1 in
      let same : are_same E g g ≡ true = eq-eqb (least E g) (least E g) refl in
      record {
        node = Implements g (basic x);
        goals = goals_of E (input_classes x) own_basic.0;
        offered = ap (member_goals instances E cols (record { class = g; order = [] }) g (basic x)) own_member ∙ rw same own_basic.2;
        passes = lower-goals g (input_classes x) own_basic.0 (inputs-pass (λ c. nat_lt c g) x (shaped.lower g (Founds x) line.1 x refl)) own_basic.1;
      }

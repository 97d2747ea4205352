-- The canonical plan is one of those that a log offers which begins with the frame.
use Rattle.std.proofs.Common.{◌≡◌, refl, ap, sym, ◌∙◌, subst, ℕ, suc, ◌+◌, Bool, true, false, not, ◌&&◌, ◌==◌, if◌then◌else◌, List, [], ◌∷◌, map, length, option_map, Option, Some, None, Result, Ok, arith}
use Rattle.std.specs.List.{list_all}
use Rattle.std.proofs.lemmas.Bool.{and_from, and_parts, eq-eqb, eqb-true}
use Rattle.std.proofs.lemmas.List.{length-map}
use Rattle.values.specs.Faults.{◌>>=◌}
use Rattle.values.proofs.Results.{both_ok}
use Rattle.query.specs.declared.query.TableInstance.{TableInstance}
use Rattle.algebra.specs.declared.expr.Expr.{Expr}
use Rattle.algebra.specs.Expressions.{children}
use Rattle.rules.specs.Matches as matches
use Rattle.derivation.specs.Logs.{Log, least, member}
use Rattle.physical.specs.declared.plan.OrderKey.{OrderKey}
use Rattle.physical.specs.declared.plan.JoinMethod.TheVariants as join
use Rattle.physical.specs.declared.plan.GroupMethod.TheVariants as group
use Rattle.physical.specs.declared.plan.Matching.{Matching}
use Rattle.physical.specs.declared.plan.Node.{Node}
use Rattle.physical.specs.declared.plan.Node.TheVariants.{Implements, Sort}
use Rattle.physical.specs.declared.plan.Operator.{Operator}
use Rattle.physical.specs.declared.plan.Operator.TheVariants.{Scan, IndexScan, Filter, FilterSubqueries, Projection, JoinRows, IndexJoin, GroupRows, DistinctRows}
use Rattle.physical.specs.declared.plan.Plan.{Plan, roll-Plan, out-roll-Plan, fold-roll-Plan, ind-Plan, map-Plan}
use Rattle.physical.specs.declared.plan.Plan.TheOpen.{Plan-F}
use Rattle.physical.specs.Orders.{plan_order}
use Rattle.physical.specs.Outputs.{first_columns}
use Rattle.certificate.specs.declared.certificate.CheckRefusal.{CheckRefusal}
use Rattle.certificate.specs.Replay.{Fits, implements, index_fits, inputs_fit, is_member, needed_classes, node_fits, operator_fits, plan_fits}
use Rattle.certificate.proofs.Fits.{FitsLine, after_node, after-is, operator-is, plan_fits_out}
use Rattle.labels.specs.declared.goal.Goal.{Goal}
use Rattle.labels.specs.Offers.{goal_of, goals_of, input_goals, input_orders, is_any, member_goals, operator_goals}
use Rattle.labels.specs.Plans.{are_for, are_for_some, is_offered, offered_layer}
use Rattle.labels.proofs.Shaped.{least-again}
use Rattle.planner.specs.Canonical.{basic_layer, is_basic, is_basic_node, is_basic_plan}

-- a basic operator implements whatever the columns of classes are, and reads no index
same-implements : (cols others : ℕ → List ℕ) (operator : Operator) (x : Expr) → is_basic operator ≡ true → implements cols operator x ≡ implements others operator x
same-implements cols others (Scan o) x h = refl
same-implements cols others (IndexScan a C) x h = cc
same-implements cols others (Filter C) x h = refl
same-implements cols others (FilterSubqueries C) x h = refl
same-implements cols others (Projection K) x h = refl
same-implements cols others (JoinRows join.NestedLoop j) x h = refl
same-implements cols others (JoinRows join.Hash j) x h = cc
same-implements cols others (JoinRows (join.Merge a b) j) x h = cc
same-implements cols others (IndexJoin a j) x h = cc
same-implements cols others (GroupRows method K G) x h = refl
same-implements cols others (DistinctRows method) x h = refl

no-index : (instances : List TableInstance) (E : Log) (line : ℕ) (operator : Operator) (x : Expr) → is_basic operator ≡ true → index_fits instances E line operator x ≡ true
no-index instances E line (Scan o) x h = refl
no-index instances E line (IndexScan a C) x h = cc
no-index instances E line (Filter C) x h = refl
no-index instances E line (FilterSubqueries C) x h = refl
no-index instances E line (Projection K) x h = refl
no-index instances E line (JoinRows method j) x h = refl
no-index instances E line (IndexJoin a j) x h = cc
no-index instances E line (GroupRows method K G) x h = refl
no-index instances E line (DistinctRows method) x h = refl

-- it is offered in no order, and none is wanted of its inputs
abbrev InNoOrder : List TableInstance → Operator → List ℕ → Type 0
InNoOrder instances operator columns = (orders : List (List OrderKey)) × (list_all is_any orders ≡ true) × (input_orders instances operator columns [] ≡ Some orders)

in-no-order : (instances : List TableInstance) (operator : Operator) (columns : List ℕ) → is_basic operator ≡ true → InNoOrder instances operator columns
in-no-order instances (Scan o) columns h = ([], refl, refl)
in-no-order instances (IndexScan a C) columns h = cc
in-no-order instances (Filter C) columns h = ([] ∷ [], refl, refl)
in-no-order instances (FilterSubqueries C) columns h = ([] ∷ [], refl, refl)
in-no-order instances (Projection K) columns h = ([] ∷ [], refl, refl)
in-no-order instances (JoinRows join.NestedLoop j) columns h = ([] ∷ [], refl, refl)
in-no-order instances (JoinRows join.Hash j) columns h = cc
in-no-order instances (JoinRows (join.Merge a b) j) columns h = cc
in-no-order instances (IndexJoin a j) columns h = cc
in-no-order instances (GroupRows group.Hash K G) columns h = ([], refl, refl)
in-no-order instances (GroupRows group.Sorted K G) columns h = cc
in-no-order instances (DistinctRows group.Hash) columns h = ([] ∷ [], refl, refl)
in-no-order instances (DistinctRows group.Sorted) columns h = cc

-- over a log in which a first one's lines stand, which unites no classes
module _ (instances : List TableInstance) (F E : Log) (first_cols cols : ℕ → List ℕ) (lines : (i : ℕ) (l : matches.Line) → member F i ≡ Some l → member E i ≡ Some l) (apart : (g h : ℕ) → least F g ≡ least F h → g ≡ h) where
  abbrev offered : Plan → Goal → Bool
  offered = is_offered instances E cols

  abbrev P : Plan → Type 0
  P p = is_basic_plan p ≡ true → (ordered : Bool) (g n m : ℕ) → plan_fits instances F first_cols p ordered g n ≡ Ok m → offered p (goal_of E g []) ≡ true

  abbrev Part : Type 0
  Part = (p : Plan) × P p

  abbrev plans_of : List Part → List Plan
  plans_of parts = map (λ p. p.0) parts

  abbrev fits_of : List Part → List Fits
  fits_of parts = map (plan_fits instances F first_cols) (plans_of parts)

  all-offered : (parts : List Part) (classes : List ℕ) (orders : List (List OrderKey)) (n m : ℕ) → list_all (λ b. b) (map is_basic_plan (plans_of parts)) ≡ true → length parts ≡ length classes → list_all is_any orders ≡ true
      → inputs_fit (fits_of parts) classes n ≡ Ok m → are_for (map offered (plans_of parts)) (goals_of E classes orders) ≡ true
  all-offered [] [] orders n m basic count any fits = refl
  all-offered [] (g ∷ classes) orders n m basic count any fits = absurd (omega (arith, count))
  all-offered (p ∷ parts) [] orders n m basic count any fits = absurd (omega (arith, count))
  all-offered (p ∷ parts) (g ∷ classes) [] n m basic count any fits =
      let own = and_parts (is_basic_plan p.0) (list_all (λ b. b) (map is_basic_plan (plans_of parts))) basic in
      let steps = both_ok (plan_fits instances F first_cols p.0 true g n) (λ m. inputs_fit (fits_of parts) classes m) m fits in
      and_from (offered p.0 (goal_of E g [])) (are_for (map offered (plans_of parts)) (goals_of E classes [])) (p.1 own.0 true g n steps.0 steps.1) (all-offered parts classes [] steps.0 m own.1 (omega (arith, count)) refl steps.2)
  all-offered (p ∷ parts) (g ∷ classes) ([] ∷ orders) n m basic count any fits =
      let own = and_parts (is_basic_plan p.0) (list_all (λ b. b) (map is_basic_plan (plans_of parts))) basic in
      let steps = both_ok (plan_fits instances F first_cols p.0 true g n) (λ m. inputs_fit (fits_of parts) classes m) m fits in
      and_from (offered p.0 (goal_of E g [])) (are_for (map offered (plans_of parts)) (goals_of E classes orders)) (p.1 own.0 true g n steps.0 steps.1) (all-offered parts classes orders steps.0 m own.1 (omega (arith, count)) any steps.2)
  all-offered (p ∷ parts) (g ∷ classes) ((k ∷ order) ∷ orders) n m basic count any fits = cc

  operator-offered : (line : ℕ) (operator : Operator) (parts : List Part) (ordered : Bool) (g n m : ℕ) → is_basic operator ≡ true → list_all (λ b. b) (map is_basic_plan (plans_of parts)) ≡ true
      → (operator_fits instances F first_cols line operator (length (fits_of parts)) g n >>= after_node first_cols (Implements line operator) (map (plan_order instances) (plans_of parts)) (fits_of parts) ordered n) ≡ Ok m
      → are_for_some (map offered (plans_of parts)) (input_goals instances E cols (goal_of E g []) (Implements line operator)) ≡ true
  operator-offered line operator parts ordered g n m basic basics fits =
      let given = map (plan_order instances) (plans_of parts) in
      let steps = both_ok (operator_fits instances F first_cols line operator (length (fits_of parts)) g n) (after_node first_cols (Implements line operator) given (fits_of parts) ordered n) m fits in
      let found = operator-is instances F first_cols line operator (length (fits_of parts)) g n steps.0 steps.1 in
      let l : matches.Line = found.member_of in
      let x : Expr = l.expr in
      let class : l.class ≡ g = apart l.class g (eqb-true (least F l.class) (least F g) found.same) in
      let at : member E line ≡ Some l = lines line l found.at in
      let same : is_member E l (least E g) ≡ true = eq-eqb (least E l.class) (least E (least E g)) (ap (least E) class ∙ sym (least-again E g)) in
      let own : implements cols operator x ≡ true = same-implements cols first_cols operator x basic ∙ found.implemented in
      let index : index_fits instances E line operator x ≡ true = no-index instances E line operator x basic in
      let orders = in-no-order instances operator (first_columns (map cols (children x))) basic in
      let after = after-is first_cols (Implements line operator) given (fits_of parts) ordered n m steps.0 steps.2 in
      let count : length parts ≡ length (needed_classes operator x)
      = sym (length-map (plans_of parts) (plan_fits instances F first_cols) ∙ length-map parts (λ (p : Part). p.0)) ∙ found.count ∙ ap length (sym found.needs) in
      let are = all-offered parts (needed_classes operator x) orders.0 (n + 1) m basics count orders.1 (subst (λ needed. inputs_fit (fits_of parts) needed (n + 1) ≡ Ok m) (sym found.needs) after.inputs) in
      let goals : operator_goals instances E cols [] line operator x ≡ Some (goals_of E (needed_classes operator x) orders.0) = rw (own, index) (ap (option_map (goals_of E (needed_classes operator x))) orders.2) in
      let all : input_goals instances E cols (goal_of E g []) (Implements line operator) ≡ Some (goals_of E (needed_classes operator x) orders.0)
      = ap (member_goals instances E cols (goal_of E g []) line operator) at ∙ rw same goals in
      ap (are_for_some (map offered (plans_of parts))) all ∙ are

  node-offered : (node : Node) (parts : List Part) (ordered : Bool) (g n m : ℕ) → is_basic_node node ≡ true → list_all (λ b. b) (map is_basic_plan (plans_of parts)) ≡ true
      → (node_fits instances F first_cols node (length (fits_of parts)) g n >>= after_node first_cols node (map (plan_order instances) (plans_of parts)) (fits_of parts) ordered n) ≡ Ok m
      → are_for_some (map offered (plans_of parts)) (input_goals instances E cols (goal_of E g []) node) ≡ true
  node-offered (Implements line operator) parts ordered g n m basic basics fits = operator-offered line operator parts ordered g n m basic basics fits
  node-offered (Sort keys) parts ordered g n m basic basics fits = cc

  step : (y : Plan-F Part) → P (roll-Plan (map-Plan Part Plan (λ p. p.0) y))
  unfolding is_offered is_basic_plan
  step y basic ordered g n m fits =
      let z : Plan-F Plan = map-Plan Part Plan (λ p. p.0) y in
      let parts = and_parts (is_basic_node y.node) (list_all (λ b. b) (map is_basic_plan (plans_of y.inputs))) (sym (fold-roll-Plan Bool basic_layer z) ∙ basic) in
      let here : (node_fits instances F first_cols y.node (length (fits_of y.inputs)) g n >>= after_node first_cols y.node (map (plan_order instances) (plans_of y.inputs)) (fits_of y.inputs) ordered n) ≡ Ok m
      = ap (λ k. node_fits instances F first_cols y.node k g n >>= after_node first_cols y.node (map (plan_order instances) (plans_of y.inputs)) (fits_of y.inputs) ordered n) (length-map (plans_of y.inputs) (plan_fits instances F first_cols))
      ∙ sym (ap (λ (w : Plan-F Plan). node_fits instances F first_cols w.node (length w.inputs) g n >>= after_node first_cols w.node (map (plan_order instances) w.inputs) (map (plan_fits instances F first_cols) w.inputs) ordered n) (out-roll-Plan z))
      ∙ sym (plan_fits_out instances F first_cols (roll-Plan z) ordered g n) ∙ fits in
      ap (λ f. f (goal_of E g [])) (fold-roll-Plan (Goal → Bool) (offered_layer instances E cols) z) ∙ node-offered y.node y.inputs ordered g n m parts.0 parts.1 here

  pub basic-offered : (p : Plan) → P p
  basic-offered = ind-Plan P (λ x y is. subst (λ z. P (roll-Plan z)) is (step y))

-- Each node of a plan that fits has the inputs that its operator takes.
use Rattle.std.proofs.Common.{◌≡◌, ap, sym, ◌∙◌, subst, arith, ℕ, ◌+◌, Bool, true, false, ◌==◌, List, [], ◌∷◌, ◌++◌, map, flat_map, length, take, append-nil, Result, Ok}
use Rattle.std.specs.List.{AllByRecursion}
use Rattle.std.proofs.lemmas.Bool.{and_parts, eqb-true, false≢true}
use Rattle.std.proofs.lemmas.List.{length-map}
use Rattle.std.proofs.lemmas.List.Folds.{flat_map-map}
use Rattle.values.specs.Faults.{◌>>=◌, wanted_if}
use Rattle.values.proofs.Lists.{all_append}
use Rattle.values.proofs.Results.{both_ok, wanted_if_ok}
use Rattle.schema.specs.Databases.{Database, Satisfies}
use Rattle.schema.proofs.EmptyTables.{no-rows}
use Rattle.query.specs.declared.query.TableInstance.{TableInstance}
use Rattle.query.specs.Rows.{Tables, tables_of}
use Rattle.algebra.specs.declared.condition.Condition.{Condition}
use Rattle.algebra.specs.declared.expr.Aggregation.{Aggregation}
use Rattle.algebra.specs.declared.expr.Expr.{Expr}
use Rattle.algebra.specs.declared.expr.Expr.TheVariants as expr
use Rattle.algebra.specs.declared.expr.Expr.TheVariants.{Get, Select, Join, LeftJoin, Keep, Distinct, Group}
use Rattle.algebra.specs.Conditions.{classes_in}
use Rattle.algebra.specs.Expressions.{children, conditions, is_formed, is_plain}
use Rattle.algebra.proofs.Lists.{none-pass}
use Rattle.algebra.proofs.NamedClasses.{classes-pass}
use Rattle.frame.specs.FormedFrames.{own_aggregates}
use Rattle.rules.specs.Soundness.{IsLine}
use Rattle.derivation.specs.Laws.{IsTrue, world}
use Rattle.derivation.specs.Logs.{Log, knowledge}
use Rattle.physical.specs.declared.plan.JoinMethod.{JoinMethod}
use Rattle.physical.specs.declared.plan.JoinMethod.TheVariants.{NestedLoop, Hash, Merge}
use Rattle.physical.specs.declared.plan.Matching.{Matching}
use Rattle.physical.specs.declared.plan.Matching.TheVariants.{Inner, Left, Semi, Anti}
use Rattle.physical.specs.declared.plan.OrderKey.{OrderKey}
use Rattle.physical.specs.declared.plan.Operator.{Operator}
use Rattle.physical.specs.declared.plan.Operator.TheVariants.{Scan, IndexScan, Filter, FilterSubqueries, Projection, JoinRows, IndexJoin, GroupRows, DistinctRows}
use Rattle.physical.specs.declared.plan.Node.{Node}
use Rattle.physical.specs.declared.plan.Node.TheVariants.{Implements, Sort}
use Rattle.physical.specs.declared.plan.Plan.{Plan, roll-Plan, out-Plan, out-roll-Plan, fold-roll-Plan, fold_out-Plan, ind-Plan, map-Plan}
use Rattle.physical.specs.declared.plan.Plan.TheOpen.{Plan-F}
use Rattle.physical.specs.Orders.{are_columns, plan_order}
use Rattle.certificate.specs.declared.certificate.CheckRefusal.{CheckRefusal}
use Rattle.certificate.specs.declared.certificate.CheckReason.TheVariants.{IllFormed, OtherOperator}
use Rattle.certificate.specs.NodeInputs.{JoinsBy, TakesInputs, NodeTakes, nodes_layer, nodes_of, HaveInputs, NodesHaveInputs}
use Rattle.certificate.specs.Replay.{Fits, refusal, finds, is_join, implements, needed_classes, sort_fits, operator_fits, node_fits, inputs_fit, is_delivered, plan_fits, root}
use Rattle.certificate.proofs.Answers.{log-true, replayed-is}
use Rattle.certificate.proofs.Fits.{after_node, after-is, plan_fits_out, operator-is}

-- ---- operators

-- conditions without subqueries name no class
count_plain : (classes : List ℕ) (C : List Condition) → is_plain C ≡ true → length (classes ++ classes_in C) ≡ length classes
count_plain classes C plain = ap (λ more. length (classes ++ more)) (none-pass (classes_in C) (classes-pass (λ g. false) C plain)) ∙ ap length (append-nil classes)

joins_by : (m : JoinMethod) (j : Matching) (left right : List ℕ) → finds m j left right ≡ true → JoinsBy m j
joins_by NestedLoop j left right h = tt
joins_by Hash j left right h = tt
joins_by (Merge a b) (Inner C) left right h = tt
joins_by (Merge a b) (Left C) left right h = false≢true h
joins_by (Merge a b) (Semi C) left right h = false≢true h
joins_by (Merge a b) (Anti S M) left right h = false≢true h

-- of a join by an index the left input alone
left_alone : (j : Matching) (x : Expr) (n : ℕ) → is_join j x ≡ true → n ≡ length (take 1 (children x)) → n ≡ 1
left_alone (Inner C) (Join D a b) n h e = e
left_alone (Left C) (LeftJoin D a b) n h e = e
left_alone (Semi C) (expr.Semi D a b) n h e = e
left_alone (Anti S M) (expr.Anti T N a b) n h e = e
left_alone j x n h e = cc

module _ (instances : List TableInstance) (own : List Aggregation) (cols : ℕ → List ℕ) where
  both_sides : (j : Matching) (x : Expr) (n : ℕ) → is_join j x ≡ true → is_formed instances own cols x ≡ true → n ≡ length (children x ++ classes_in (conditions x)) → n ≡ 2
  both_sides (Inner C) (Join D a b) n h formed e = e ∙ count_plain (a ∷ b ∷ []) D (and_parts _ _ (and_parts _ _ formed).1).0
  both_sides (Left C) (LeftJoin D a b) n h formed e = e ∙ count_plain (a ∷ b ∷ []) D (and_parts _ _ (and_parts _ _ formed).1).0
  both_sides (Semi C) (expr.Semi D a b) n h formed e = e ∙ count_plain (a ∷ b ∷ []) D (and_parts _ _ (and_parts _ _ formed).1).0
  both_sides (Anti S M) (expr.Anti T N a b) n h formed e = e ∙ count_plain (a ∷ b ∷ []) (T ++ N) (and_parts _ _ (and_parts _ _ formed).1).0
  both_sides j x n h formed e = cc

  takes : (operator : Operator) (x : Expr) (sides : ℕ → List ℕ) (n : ℕ) → implements sides operator x ≡ true → is_formed instances own cols x ≡ true → n ≡ length (needed_classes operator x) → TakesInputs operator n
  takes (Scan o) (Get p) sides n h formed e = e
  takes (Scan o) x sides n h formed e = cc
  takes (IndexScan a C) x sides n h formed e = e
  takes (Filter C) (Select D y) sides n h formed e = e ∙ count_plain (y ∷ []) D (and_parts _ _ h).0
  takes (Filter C) x sides n h formed e = cc
  takes (FilterSubqueries C) (Select D y) sides n h formed e = omega (arith, e)
  takes (FilterSubqueries C) x sides n h formed e = cc
  takes (Projection K) (Keep L y) sides n h formed e = e
  takes (Projection K) x sides n h formed e = cc
  takes (JoinRows m j) x sides n h formed e = (both_sides j x n (and_parts _ _ h).0 formed e, joins_by m j _ _ (and_parts _ _ h).1)
  takes (IndexJoin a j) x sides n h formed e = left_alone j x n h e
  takes (GroupRows m K G) (Group L H y) sides n h formed e = e
  takes (GroupRows m K G) x sides n h formed e = cc
  takes (DistinctRows m) (Distinct y) sides n h formed e = e
  takes (DistinctRows m) x sides n h formed e = cc

-- ---- plans

-- the nodes of a plan, by its root
pub list_at : (p : Plan) → nodes_of p ≡ ((out-Plan p).node, length (out-Plan p).inputs) ∷ flat_map nodes_of (out-Plan p).inputs
unfolding nodes_of
list_at p =
    let own = out-Plan p in
    fold_out-Plan (List (Node × ℕ)) nodes_layer p ∙ (λ i. (own.node, length-map own.inputs nodes_of i) ∷ flat_map-map (λ nodes. nodes) nodes_of own.inputs i)

abbrev AllTake : List (Node × ℕ) → Type 0
AllTake nodes = AllByRecursion (λ n. NodeTakes n.0 n.1) nodes

module _ (instances : List TableInstance) (own : List Aggregation) (D : Tables) (E : Log) (is_true : IsTrue instances own D E) where
  abbrev cols : ℕ → List ℕ
  cols = (knowledge instances E).columns

  abbrev P : Plan → Type 0
  P p = (ordered : Bool) (g n m : ℕ) → plan_fits instances E cols p ordered g n ≡ Ok m → HaveInputs p

  abbrev Part : Type 0
  Part = (p : Plan) × P p

  abbrev plans_of : List Part → List Plan
  plans_of parts = map (λ p. p.0) parts

  abbrev fits_of : List Part → List Fits
  fits_of parts = map (plan_fits instances E cols) (plans_of parts)

  all_have : (parts : List Part) (needed : List ℕ) (n m : ℕ) → length (fits_of parts) ≡ length needed → inputs_fit (fits_of parts) needed n ≡ Ok m → AllTake (flat_map nodes_of (plans_of parts))
  all_have [] needed n m count fits = tt
  all_have (p ∷ parts) [] n m count fits = absurd (omega (arith, count))
  all_have (p ∷ parts) (g ∷ needed) n m count fits =
      let steps = both_ok (plan_fits instances E cols p.0 true g n) (λ m. inputs_fit (fits_of parts) needed m) m fits in
      all_append (λ n. NodeTakes n.0 n.1) (nodes_of p.0) (flat_map nodes_of (plans_of parts)) (p.1 true g n steps.0 steps.1) (all_have parts needed steps.0 m (omega (arith, count)) steps.2)

  abbrev inputs_after : Node → List Part → Bool → ℕ → List ℕ → Result ℕ CheckRefusal
  inputs_after node parts = after_node cols node (map (plan_order instances) (plans_of parts)) (fits_of parts)

  inputs_have : (node : Node) (parts : List Part) (ordered : Bool) (n m : ℕ) (needed : List ℕ) → length (fits_of parts) ≡ length needed → inputs_after node parts ordered n needed ≡ Ok m → AllTake (flat_map nodes_of (plans_of parts))
  inputs_have node parts ordered n m needed count fits =
      all_have parts needed (n + 1) m count (after-is cols node (map (plan_order instances) (plans_of parts)) (fits_of parts) ordered n m needed fits).inputs

  -- a node has the inputs that it takes, and so have those below it
  abbrev Have : Node → List Part → Type 0
  Have node parts = NodeTakes node (length (fits_of parts)) × AllTake (flat_map nodes_of (plans_of parts))

  operator_has : (line : ℕ) (operator : Operator) (parts : List Part) (ordered : Bool) (g n m : ℕ) → (operator_fits instances E cols line operator (length (fits_of parts)) g n >>= inputs_after (Implements line operator) parts ordered n) ≡ Ok m → Have (Implements line operator) parts
  operator_has line operator parts ordered g n m fits =
      let steps = both_ok (operator_fits instances E cols line operator (length (fits_of parts)) g n) (inputs_after (Implements line operator) parts ordered n) m fits in
      let found = operator-is instances E cols line operator (length (fits_of parts)) g n steps.0 steps.1 in
      let is : IsLine (knowledge instances E) (world instances own D E) found.member_of = is_true.members line found.member_of found.at in
      (takes instances own cols operator found.member_of.expr cols (length (fits_of parts)) found.implemented is.formed (found.count ∙ ap length (sym found.needs)), inputs_have (Implements line operator) parts ordered n m steps.0 found.count steps.2)

  sort_has : (keys : List OrderKey) (parts : List Part) (ordered : Bool) (g n m : ℕ) → (sort_fits cols keys (length (fits_of parts)) g n >>= inputs_after (Sort keys) parts ordered n) ≡ Ok m → Have (Sort keys) parts
  sort_has keys parts ordered g n m fits =
      let k : ℕ = length (fits_of parts) in
      let steps = both_ok (sort_fits cols keys k g n) (inputs_after (Sort keys) parts ordered n) m fits in
      let last : List ℕ → Result (List ℕ) CheckRefusal = λ needed. wanted_if (refusal n OtherOperator) (k == 1) needed in
      let first = both_ok (wanted_if (refusal n IllFormed) (are_columns (cols g) keys) (g ∷ [])) last steps.0 steps.1 in
      let one = wanted_if_ok (refusal n IllFormed) _ (g ∷ []) first.0 first.1 in
      let two = wanted_if_ok (refusal n OtherOperator) (k == 1) first.0 steps.0 first.2 in
      let count : k ≡ length (g ∷ []) = eqb-true _ _ two.0 in
      (count, inputs_have (Sort keys) parts ordered n m (g ∷ []) count (ap (inputs_after (Sort keys) parts ordered n) (one.1 ∙ two.1) ∙ steps.2))

  layer : (node : Node) (parts : List Part) (ordered : Bool) (g n m : ℕ) → (node_fits instances E cols node (length (fits_of parts)) g n >>= inputs_after node parts ordered n) ≡ Ok m → Have node parts
  layer (Implements line operator) = operator_has line operator
  layer (Sort keys) = sort_has keys

  step : (y : Plan-F Part) → P (roll-Plan (map-Plan Part Plan (λ p. p.0) y))
  unfolding nodes_of
  step y ordered g n m fits =
      let z : Plan-F Plan = map-Plan Part Plan (λ p. p.0) y in
      let here : (node_fits instances E cols z.node (length z.inputs) g n >>= inputs_after z.node y.inputs ordered n) ≡ Ok m =
      subst (λ (w : Plan-F Plan). (node_fits instances E cols w.node (length w.inputs) g n >>= after_node cols w.node (map (plan_order instances) w.inputs) (map (plan_fits instances E cols) w.inputs) ordered n) ≡ Ok m)
      (out-roll-Plan z) (sym (plan_fits_out instances E cols (roll-Plan z) ordered g n) ∙ fits) in
      let node = layer y.node y.inputs ordered g n m (subst (λ k. (node_fits instances E cols z.node k g n >>= inputs_after z.node y.inputs ordered n) ≡ Ok m) (sym (length-map z.inputs (plan_fits instances E cols))) here) in
      let counted : length (fits_of y.inputs) ≡ length (map nodes_of z.inputs) = length-map z.inputs (plan_fits instances E cols) ∙ sym (length-map z.inputs nodes_of) in
      let own_ : NodeTakes y.node (length (map nodes_of z.inputs)) = subst (NodeTakes y.node) counted node.0 in
      subst AllTake (sym (fold-roll-Plan (List (Node × ℕ)) nodes_layer z)) (own_, subst AllTake (sym (flat_map-map (λ nodes. nodes) nodes_of z.inputs)) node.1)

  have_inputs : (p : Plan) → P p
  have_inputs = ind-Plan P (λ x y is. subst (λ z. P (roll-Plan z)) is (step y))

-- what is needed of a log is that it is true somewhere: it is over tables without rows
pub nodes_have_inputs : NodesHaveInputs
nodes_have_inputs S q bound c ok =
    let is = replayed-is q c c ok in
    let D : Database = map (λ t. []) S.tables in
    let satisfies : Satisfies S D = no-rows S.tables in
    have_inputs q.tables (own_aggregates q) (tables_of S D) is.log (log-true S D q satisfies bound.over c is) c.plan (is_delivered q c.plan) (root q) (length is.log) is.last is.fits

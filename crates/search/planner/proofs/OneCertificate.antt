-- One canonical certificate of a query replays.
use Rattle.std.proofs.Common.{◌≡◌, refl, ap, sym, ◌∙◌, subst, ℕ, ◌+◌, Bool, true, not, ◌==◌, if◌then◌else◌, List, [], ◌∷◌, map, length, reverse, Some, Result, Ok, arith}
use Rattle.std.specs.List.{slice_get, list_all}
use Rattle.std.proofs.lemmas.Bool.{and_parts, eqb-true, not-true}
use Rattle.values.specs.Faults.{◌>>=◌, wanted_if}
use Rattle.values.proofs.Results.{both_ok, wanted_if_ok}
use Rattle.query.specs.declared.query.Query.{Query}
use Rattle.query.specs.declared.query.TableInstance.{TableInstance}
use Rattle.algebra.specs.declared.expr.Expr.{Expr}
use Rattle.algebra.specs.declared.expr.Expr.TheVariants as expr
use Rattle.algebra.specs.declared.expr.Expr.TheVariants.{Get, Select, Join, LeftJoin, Keep, Distinct, Group}
use Rattle.algebra.specs.Columns.{has}
use Rattle.algebra.specs.ConditionEquality.{same_conditions}
use Rattle.algebra.specs.Equality.{same_columns, same_aggregations}
use Rattle.algebra.specs.Expressions.{input_classes, is_plain}
use Rattle.algebra.specs.Classes.{class_columns}
use Rattle.frame.specs.Frames.{query_frame}
use Rattle.algebra.proofs.Same.{equal_conditions, equal_columns, equal_aggregations}
use Rattle.physical.specs.declared.plan.Matching.{Matching}
use Rattle.physical.specs.declared.plan.Matching.TheVariants.{Inner, Left, Semi, Anti}
use Rattle.physical.specs.declared.plan.JoinMethod.TheVariants.{NestedLoop}
use Rattle.physical.specs.declared.plan.GroupMethod.TheVariants.{Hash}
use Rattle.physical.specs.Orders.{plan_order}
use Rattle.physical.specs.declared.plan.OrderKey.{OrderKey}
use Rattle.physical.specs.declared.plan.Operator.{Operator}
use Rattle.physical.specs.declared.plan.Operator.TheVariants.{Scan, Filter, FilterSubqueries, Projection, JoinRows, GroupRows, DistinctRows}
use Rattle.physical.specs.declared.plan.Node.{Node}
use Rattle.physical.specs.declared.plan.Node.TheVariants.{Implements, Sort}
use Rattle.physical.specs.declared.plan.Plan.{Plan, roll-Plan, out-Plan, out-roll-Plan, roll-out-Plan, fold_out-Plan, ind-Plan, map-Plan}
use Rattle.physical.specs.declared.plan.Plan.TheOpen.{Plan-F}
use Rattle.certificate.specs.QueryOrders.{query_order}
use Rattle.rules.specs.Matches as matches
use Rattle.derivation.specs.declared.line.Line.{Line}
use Rattle.derivation.specs.declared.line.Line.TheVariants.{Founds}
use Rattle.derivation.specs.Logs.{Log, entries}
use Rattle.certificate.specs.declared.certificate.Certificate.{Certificate}
use Rattle.certificate.specs.declared.certificate.CheckRefusal.{CheckRefusal}
use Rattle.certificate.specs.declared.certificate.CheckReason.TheVariants.{IllFormed, OtherOperator}
use Rattle.certificate.specs.Replay.{refusal, implements, sort_fits, operator_fits, node_fits, inputs_fit, plan_fits, fitted_plan, lines_replay, is_delivered, root, replayed}
use Rattle.certificate.proofs.Founded.{map-reverse, turned}
use Rattle.certificate.proofs.Fits.{after_node, after-is, plan_fits_out, operator-is}
use Rattle.planner.specs.Canonical.{is_basic, is_basic_node, basic_layer, is_basic_plan, log_of, top, IsCanonical, IsOnlyCanonical}
use Rattle.planner.proofs.FrameLogs.{same-one, member-from}
use Rattle.planner.proofs.ClassPlans.{basic-at}

-- ---- one operator implements an expression

-- the basic operator of an expression
abbrev operator_for : Expr → Operator
operator_for (Get o) = Scan o
operator_for (Select C x) = if is_plain C then Filter C else FilterSubqueries C
operator_for (Join C a b) = JoinRows NestedLoop (Inner C)
operator_for (LeftJoin C a b) = JoinRows NestedLoop (Left C)
operator_for (expr.Semi C a b) = JoinRows NestedLoop (Semi C)
operator_for (expr.Anti S M a b) = JoinRows NestedLoop (Anti S M)
operator_for (Keep K x) = Projection K
operator_for (Group K G x) = GroupRows Hash K G
operator_for (Distinct x) = DistinctRows Hash

one-join : (cols : ℕ → List ℕ) (j : Matching) (x : Expr) → implements cols (JoinRows NestedLoop j) x ≡ true → JoinRows NestedLoop j ≡ operator_for x
one-join cols (Inner C) (Join D a b) h = rw (equal_conditions C D (and_parts _ _ h).0) refl
one-join cols (Left C) (LeftJoin D a b) h = rw (equal_conditions C D (and_parts _ _ h).0) refl
one-join cols (Semi C) (expr.Semi D a b) h = rw (equal_conditions C D (and_parts _ _ h).0) refl
one-join cols (Anti S M) (expr.Anti T N a b) h =
    let parts = and_parts (same_conditions S T) (same_conditions M N) (and_parts _ _ h).0 in
    rw (equal_conditions S T parts.0, equal_conditions M N parts.1) refl
one-join cols j x h = cc

one-operator : (cols : ℕ → List ℕ) (operator : Operator) (x : Expr) → is_basic operator ≡ true → implements cols operator x ≡ true → operator ≡ operator_for x
one-operator cols (Scan o) (Get p) basic h = rw (eqb-true o p h) refl
one-operator cols (Filter C) (Select D x) basic h = let parts = and_parts (is_plain D) (same_conditions C D) h in rw (equal_conditions C D parts.1, parts.0) refl
one-operator cols (FilterSubqueries C) (Select D x) basic h =
    let parts = and_parts (not (is_plain D)) (same_conditions C D) h in
    rw (equal_conditions C D parts.1, not-true (is_plain D) parts.0) refl
one-operator cols (Projection K) (Keep L x) basic h = rw (equal_columns K L h) refl
one-operator cols (JoinRows NestedLoop j) x basic h = one-join cols j x h
one-operator cols (GroupRows Hash K G) (Group L H x) basic h =
    let parts = and_parts (same_columns K L) (same_aggregations G H) h in
    rw (equal_columns K L parts.0, equal_aggregations G H parts.1) refl
one-operator cols (DistinctRows Hash) (Distinct x) basic h = refl
one-operator cols operator x basic h = cc

-- each node but a sort has a line and an operator
record IsOperator (node : Node) : Type 0 where
  line : ℕ
  operator : Operator
  is : node ≡ Implements line operator
  basic : is_basic operator ≡ true

operator-there : (node : Node) → is_basic_node node ≡ true → IsOperator node
operator-there (Implements line operator) basic = record { line = line; operator = operator; is = refl; basic = basic }
operator-there (Sort keys) basic = cc

-- ---- one plan without a sort is of a class

module _ (instances : List TableInstance) (lines : List Expr) where
  -- the plan is of the class, in whatever columns, order and numbers
  pub record Fits (g : ℕ) (p : Plan) : Type 0 where
    pub cols : ℕ → List ℕ
    pub ordered : Bool
    pub number : ℕ
    pub after : ℕ
    pub fits : plan_fits instances (log_of lines) cols p ordered g number ≡ Ok after

  abbrev AllFit : List ℕ → List Plan → Type 0
  AllFit [] [] = Unit {0}
  AllFit [] (p ∷ plans) = ⊥
  AllFit (g ∷ classes) [] = ⊥
  AllFit (g ∷ classes) (p ∷ plans) = Fits g p × AllFit classes plans

  all-fit : (cols : ℕ → List ℕ) (classes : List ℕ) (plans : List Plan) (n m : ℕ) → length plans ≡ length classes → inputs_fit (map (plan_fits instances (log_of lines) cols) plans) classes n ≡ Ok m → AllFit classes plans
  all-fit cols [] [] n m count fits = tt
  all-fit cols [] (p ∷ plans) n m count fits = absurd (omega (arith, count))
  all-fit cols (g ∷ classes) [] n m count fits = absurd (omega (arith, count))
  all-fit cols (g ∷ classes) (p ∷ plans) n m count fits =
      let steps = both_ok (plan_fits instances (log_of lines) cols p true g n) (λ m. inputs_fit (map (plan_fits instances (log_of lines) cols) plans) classes m) m fits in
      (record { cols = cols; ordered = true; number = n; after = steps.0; fits = steps.1 }, all-fit cols classes plans steps.0 m (omega (arith, count)) steps.2)

  -- the operator that implements the expression of its class, over plans of the classes that it names
  record FitsNode (g : ℕ) (node : Node) (inputs : List Plan) : Type 0 where
    expr : Expr
    at : slice_get lines g ≡ Some expr
    is : node ≡ Implements g (operator_for expr)
    all : AllFit (input_classes expr) inputs

  -- what is left of a plan that fits behind its node
  abbrev rest : (ℕ → List ℕ) → Plan → Bool → ℕ → List ℕ → Result ℕ CheckRefusal
  rest cols p = after_node cols (out-Plan p).node (map (plan_order instances) (out-Plan p).inputs) (map (plan_fits instances (log_of lines) cols) (out-Plan p).inputs)

  inputs-are : (cols : ℕ → List ℕ) (p : Plan) (ordered : Bool) (n m : ℕ) (needed : List ℕ) → length (out-Plan p).inputs ≡ length needed → rest cols p ordered n needed ≡ Ok m → AllFit needed (out-Plan p).inputs
  inputs-are cols p ordered n m needed count e =
      all-fit cols needed (out-Plan p).inputs (n + 1) m count (after-is cols (out-Plan p).node (map (plan_order instances) (out-Plan p).inputs) (map (plan_fits instances (log_of lines) cols) (out-Plan p).inputs) ordered n m needed e).inputs

  node-is : (p : Plan) (g : ℕ) → is_basic_node (out-Plan p).node ≡ true → Fits g p → FitsNode g (out-Plan p).node (out-Plan p).inputs
  node-is p g basic f =
      let node : Node = (out-Plan p).node in
      let k : ℕ = length (out-Plan p).inputs in
      let n : ℕ = f.number in
      let steps = both_ok (node_fits instances (log_of lines) f.cols node k g n) (rest f.cols p f.ordered n) f.after (sym (plan_fits_out instances (log_of lines) f.cols p f.ordered g n) ∙ f.fits) in
      let there = operator-there node basic in
      let fits : operator_fits instances (log_of lines) f.cols there.line there.operator k g n ≡ Ok steps.0 = sym (ap (λ node. node_fits instances (log_of lines) f.cols node k g n) there.is) ∙ steps.1 in
      let found = operator-is instances (log_of lines) f.cols there.line there.operator k g n steps.0 fits in
      let l : matches.Line = found.member_of in
      let own = member-from lines there.line l found.at in
      let here : there.line ≡ g = sym own.0 ∙ same-one lines l.class g found.same in
      record {
        expr = l.expr;
        at = ap (slice_get lines) (sym here) ∙ own.1;
        is = there.is ∙ two here (one-operator f.cols there.operator l.expr there.basic found.implemented);
        all = subst (λ L. AllFit L (out-Plan p).inputs) (sym found.needs ∙ (basic-at lines instances g there.operator l.expr there.basic).needs) (inputs-are f.cols p f.ordered n f.after steps.0 found.count steps.2);
      }
    where
      two : {l m : ℕ} {a b : Operator} → l ≡ m → a ≡ b → Implements l a ≡ Implements m b
      two e f = rw (e, f) refl

  basic-out : (p : Plan) → is_basic_plan p ≡ true → (is_basic_node (out-Plan p).node ≡ true) × (list_all (λ b. b) (map is_basic_plan (out-Plan p).inputs) ≡ true)
  unfolding is_basic_plan
  basic-out p basic = and_parts _ _ (sym (fold_out-Plan Bool basic_layer p) ∙ basic)

  abbrev P : Plan → Type 0
  P p = (other : Plan) (g : ℕ) → is_basic_plan p ≡ true → is_basic_plan other ≡ true → Fits g p → Fits g other → p ≡ other

  abbrev Part : Type 0
  Part = (p : Plan) × P p

  abbrev plans_of : List Part → List Plan
  plans_of parts = map (λ p. p.0) parts

  all-one : (parts : List Part) (others : List Plan) (classes : List ℕ) → list_all (λ b. b) (map is_basic_plan (plans_of parts)) ≡ true → list_all (λ b. b) (map is_basic_plan others) ≡ true
      → AllFit classes (plans_of parts) → AllFit classes others → plans_of parts ≡ others
  all-one [] [] classes none none' all all' = refl
  all-one [] (x ∷ others) [] none none' all all' = absurd all'
  all-one [] (x ∷ others) (g ∷ classes) none none' all all' = absurd all
  all-one (p ∷ parts) [] [] none none' all all' = absurd all
  all-one (p ∷ parts) [] (g ∷ classes) none none' all all' = absurd all'
  all-one (p ∷ parts) (x ∷ others) [] none none' all all' = absurd all
  all-one (p ∷ parts) (x ∷ others) (g ∷ classes) none none' all all' =
      let here = and_parts _ _ none in
      let there = and_parts _ _ none' in
      rw (p.1 x g here.0 there.0 all.0 all'.0, all-one parts others classes here.1 there.1 all.1 all'.1) refl

  both : (y z : Plan-F Plan) → y.node ≡ z.node → y.inputs ≡ z.inputs → roll-Plan y ≡ roll-Plan z
  both y z e f = two e f
    where
      two : {a b : Node} {xs ys : List Plan} → a ≡ b → xs ≡ ys → roll-Plan (record { node = a; inputs = xs }) ≡ roll-Plan (record { node = b; inputs = ys })
      two e f = rw (e, f) refl

  step : (y : Plan-F Part) → P (roll-Plan (map-Plan Part Plan (λ p. p.0) y))
  step y other g none none' f f' =
      let z : Plan-F Plan = map-Plan Part Plan (λ p. p.0) y in
      let out : out-Plan (roll-Plan z) ≡ z = out-roll-Plan z in
      let here = basic-out (roll-Plan z) none in
      let there = basic-out other none' in
      let one : FitsNode g z.node z.inputs = subst (λ w. FitsNode g w.node w.inputs) out (node-is (roll-Plan z) g here.0 f) in
      let second = node-is other g there.0 f' in
      let same : one.expr ≡ second.expr = let e : Some one.expr ≡ Some second.expr = sym one.at ∙ second.at in cc in
      let inputs : z.inputs ≡ (out-Plan other).inputs = all-one y.inputs (out-Plan other).inputs (input_classes one.expr) (subst (λ w. list_all (λ b. b) (map is_basic_plan w.inputs) ≡ true) out here.1) there.1 one.all
      (subst (λ x. AllFit (input_classes x) (out-Plan other).inputs) (sym same) second.all) in
      both z (out-Plan other) (one.is ∙ ap (λ x. Implements g (operator_for x)) same ∙ sym second.is) inputs ∙ roll-out-Plan other

  one-plan : (p : Plan) → P p
  one-plan = ind-Plan P (λ x y is. subst (λ z. P (roll-Plan z)) is (step y))

  -- a sort on top is of the class of the plan below
  below-fits : (keys : List OrderKey) (p : Plan) (g : ℕ) → Fits g (top keys p) → Fits g p
  below-fits [] p g f = f
  below-fits (k ∷ keys) p g f =
      let n : ℕ = f.number in
      let z : Plan-F Plan = record { node = Sort (k ∷ keys); inputs = p ∷ [] } in
      let next : Plan-F Plan → List ℕ → Result ℕ CheckRefusal = λ w. after_node f.cols w.node (map (plan_order instances) w.inputs) (map (plan_fits instances (log_of lines) f.cols) w.inputs) f.ordered n in
      let e : (sort_fits f.cols (k ∷ keys) 1 g n >>= next z) ≡ Ok f.after
      = sym (ap (λ w. node_fits instances (log_of lines) f.cols w.node (length w.inputs) g n >>= next w) (out-roll-Plan z)) ∙ sym (plan_fits_out instances (log_of lines) f.cols (top (k ∷ keys) p) f.ordered g n) ∙ f.fits in
      let steps = both_ok (sort_fits f.cols (k ∷ keys) 1 g n) (next z) f.after e in
      let sorted = both_ok (wanted_if (refusal n IllFormed) (list_all (λ k. has (f.cols g) k.column) (k ∷ keys)) (g ∷ [])) (λ classes. wanted_if (refusal n OtherOperator) (1 == 1) classes) steps.0 steps.1 in
      let needs : g ∷ [] ≡ steps.0 = (wanted_if_ok (refusal n IllFormed) _ (g ∷ []) sorted.0 sorted.1).1 ∙ (wanted_if_ok (refusal n OtherOperator) (1 == 1) sorted.0 steps.0 sorted.2).1 in
      let inputs = (after-is f.cols z.node (map (plan_order instances) z.inputs) (map (plan_fits instances (log_of lines) f.cols) z.inputs) f.ordered n f.after steps.0 steps.2).inputs in
      let last = both_ok (plan_fits instances (log_of lines) f.cols p true g (n + 1)) (λ m. inputs_fit [] [] m) f.after (ap (λ classes. inputs_fit (plan_fits instances (log_of lines) f.cols p ∷ []) classes (n + 1)) needs ∙ inputs) in
      record { cols = f.cols; ordered = true; number = n + 1; after = last.0; fits = last.1 }

-- ---- one certificate

module _ (q : Query) where
  pub fits-of : (V : Certificate) (is : IsCanonical q V) → replayed q V ≡ Ok V → Fits q.tables (query_frame q) (root q) is.below
  unfolding replayed
  fits-of V is replays =
      let frame : List Expr = query_frame q in
      let steps = both_ok (lines_replay q [] V.lines) (λ E. fitted_plan q E V.plan >>= λ p. Ok V) V replays in
      let E : Log = steps.0 in
      let cols : ℕ → List ℕ = class_columns q.tables (entries E) in
      let fitted = both_ok (fitted_plan q E V.plan) (λ p. Ok V) V steps.2 in
      let fits = both_ok (plan_fits q.tables E cols V.plan (is_delivered q V.plan) (root q) (length E)) (λ n. Ok V.plan) fitted.0 fitted.1 in
      let founded : E ≡ log_of frame = turned q V.lines [] E steps.1 ∙ ap reverse is.lines ∙ sym (map-reverse Founds frame) in
      below-fits q.tables frame (query_order q) is.below (root q) (record {
        cols = cols;
        ordered = is_delivered q V.plan;
        number = length E;
        after = fits.0;
        fits = ap (λ p. plan_fits q.tables (log_of frame) cols p (is_delivered q V.plan) (root q) (length E)) (sym is.plan)
            ∙ ap (λ L. plan_fits q.tables L cols V.plan (is_delivered q V.plan) (root q) (length E)) (sym founded) ∙ fits.1;
      })

  pub one_certificate : (V : Certificate) → IsCanonical q V → replayed q V ≡ Ok V → IsOnlyCanonical q V
  one_certificate V is replays W is' replays' =
      let below : is'.below ≡ is.below = one-plan q.tables (query_frame q) is'.below is.below (root q) is'.basic is.basic (fits-of W is' replays') (fits-of V is replays) in
      two (is'.lines ∙ sym is.lines) (is'.plan ∙ ap (top (query_order q)) below ∙ sym is.plan)
    where
      certificate : List Line → Plan → Certificate
      certificate lines plan = record { lines = lines; plan = plan }

      two : {ls ms : List Line} {p r : Plan} → ls ≡ ms → p ≡ r → certificate ls p ≡ certificate ms r
      two e f = rw (e, f) refl

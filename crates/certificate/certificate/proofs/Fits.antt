-- One node of a plan that fits, and its inputs.
use Rattle.std.proofs.Common.{◌≡◌, refl, ℕ, ◌+◌, Bool, true, ◌&&◌, List, [], ◌∷◌, map, length, Some, Result, Ok, ◌∙◌, ap, sym, subst}
use Rattle.std.proofs.lemmas.Bool.{and_parts, eqb-true}
use Rattle.std.proofs.lemmas.List.{length-map}
use Rattle.values.specs.Faults.{◌>>=◌, wanted, wanted_if}
use Rattle.values.proofs.Results.{both_ok, wanted_ok, wanted_if_ok}
use Rattle.query.specs.declared.query.TableInstance.{TableInstance}
use mathlib.Core.List.{map-map}
use Rattle.rules.specs.Matches as matches
use Rattle.derivation.specs.Logs.{Log, member, are_same}
use Rattle.derivation.specs.Replay.{is_earlier}
use Rattle.physical.specs.declared.plan.Operator.{Operator}
use Rattle.algebra.proofs.Lists.{two}
use Rattle.physical.specs.declared.plan.OrderKey.{OrderKey}
use Rattle.physical.specs.declared.plan.Node.{Node}
use Rattle.physical.specs.declared.plan.Plan.{Plan, out-Plan, roll-Plan, fold-Plan, fold-roll-Plan, fold_out-Plan, ind-Plan, map-Plan}
use Rattle.physical.specs.declared.plan.Plan.TheOpen.{Plan-F}
use Rattle.physical.specs.Orders.{node_order, order_layer, plan_order}
use Rattle.physical.specs.RequiredOrders.{inputs_sorted}
use Rattle.certificate.specs.declared.certificate.CheckReason.TheVariants.{UnknownLine, OtherOperator, UnsortedInput, UnsortedAnswer}
use Rattle.certificate.specs.declared.certificate.CheckRefusal.{CheckRefusal}
use Rattle.certificate.specs.Replay.{Fits, refusal, implements, is_member, index_fits, names_lines, needed_classes, operator_is_of, operator_fits, Fitted, fitted_layer, fitted, node_fits, inputs_fit, plan_fits}

-- ---- orders

module _ (instances : List TableInstance) (E : Log) (cols : ℕ → List ℕ) where
  abbrev Ordered : Plan → Type 0
  Ordered p = (fitted instances E cols p).order ≡ plan_order instances p

  abbrev Part : Type 0
  Part = (p : Plan) × Ordered p

  orders-same : (parts : List Part) → map (λ (x : Fitted). x.order) (map (fitted instances E cols) (map (λ p. p.0) parts)) ≡ map (plan_order instances) (map (λ p. p.0) parts)
  orders-same [] = refl
  orders-same (p ∷ parts) = two (λ k ks. k ∷ ks) p.1 (orders-same parts)

  order-step : (y : Plan-F Part) → Ordered (roll-Plan (map-Plan Part Plan (λ p. p.0) y))
  unfolding fitted plan_order
  order-step y =
      let z : Plan-F Plan = map-Plan Part Plan (λ p. p.0) y in
      ap (λ (x : Fitted). x.order) (fold-roll-Plan Fitted (fitted_layer instances E cols) z) ∙ ap (node_order instances y.node) (orders-same y.inputs) ∙ sym (fold-roll-Plan (List OrderKey) (order_layer instances) z)

  -- the order of a plan that is judged is that which it delivers
  fitted-order : (p : Plan) → Ordered p
  fitted-order = ind-Plan Ordered (λ x y is. subst (λ z. Ordered (roll-Plan z)) is (order-step y))

  all-ordered : (plans : List Plan) → map (λ (x : Fitted). x.order) (map (fitted instances E cols) plans) ≡ map (plan_order instances) plans
  all-ordered [] = refl
  all-ordered (p ∷ plans) = two (λ k ks. k ∷ ks) (fitted-order p) (all-ordered plans)

-- ---- a node

-- what is judged behind what a node is, given the orders that its inputs deliver
abbrev pub after_node : (ℕ → List ℕ) → Node → List (List OrderKey) → List Fits → Bool → ℕ → List ℕ → Result ℕ CheckRefusal
after_node cols node orders fits ordered n needed =
    wanted_if (refusal n UnsortedInput) (inputs_sorted node (map cols needed) orders) needed
    >>= λ needed. wanted_if (refusal n UnsortedAnswer) ordered needed
    >>= λ needed. inputs_fit fits needed (n + 1)

pub record FitsAfter (cols : ℕ → List ℕ) (node : Node) (orders : List (List OrderKey)) (fits : List Fits) (ordered : Bool) (n m : ℕ) (needed : List ℕ) : Type 0 where
  pub sorted : inputs_sorted node (map cols needed) orders ≡ true
  pub delivered : ordered ≡ true
  pub inputs : inputs_fit fits needed (n + 1) ≡ Ok m

pub after-is : (cols : ℕ → List ℕ) (node : Node) (orders : List (List OrderKey)) (fits : List Fits) (ordered : Bool) (n m : ℕ) (needed : List ℕ) → after_node cols node orders fits ordered n needed ≡ Ok m
    → FitsAfter cols node orders fits ordered n m needed
after-is cols node orders fits ordered n m needed ok =
    let last : List ℕ → Result ℕ CheckRefusal = λ needed. inputs_fit fits needed (n + 1) in
    let next : List ℕ → Result ℕ CheckRefusal = λ needed. wanted_if (refusal n UnsortedAnswer) ordered needed >>= last in
    let first = both_ok (wanted_if (refusal n UnsortedInput) (inputs_sorted node (map cols needed) orders) needed) next m ok in
    let one = wanted_if_ok (refusal n UnsortedInput) (inputs_sorted node (map cols needed) orders) needed first.0 first.1 in
    let second = both_ok (wanted_if (refusal n UnsortedAnswer) ordered first.0) last m first.2 in
    let two = wanted_if_ok (refusal n UnsortedAnswer) ordered first.0 second.0 second.1 in
    record { sorted = one.0; delivered = two.0; inputs = ap last (one.1 ∙ two.1) ∙ second.2 }

pub plan_fits_out : (instances : List TableInstance) (E : Log) (cols : ℕ → List ℕ) (p : Plan) (ordered : Bool) (g n : ℕ) → plan_fits instances E cols p ordered g n
    ≡ (node_fits instances E cols (out-Plan p).node (length (out-Plan p).inputs) g n >>= after_node cols (out-Plan p).node (map (plan_order instances) (out-Plan p).inputs) (map (plan_fits instances E cols) (out-Plan p).inputs) ordered n)
unfolding fitted
plan_fits_out instances E cols p ordered g n =
    ap (λ (x : Fitted). x.fits ordered g n) (fold_out-Plan Fitted (fitted_layer instances E cols) p)
    ∙ rw (length-map, all-ordered instances E cols (out-Plan p).inputs, map-map (λ (x : Fitted). x.fits) (fold-Plan Fitted (fitted_layer instances E cols)) (out-Plan p).inputs) refl

-- an operator that fits at its line
pub record FitsLine (instances : List TableInstance) (E : Log) (cols : ℕ → List ℕ) (line : ℕ) (operator : Operator) (inputs g : ℕ) (needed : List ℕ) : Type 0 where
  pub member_of : matches.Line
  pub at : member E line ≡ Some member_of
  pub same : are_same E member_of.class g ≡ true
  pub implemented : implements cols operator member_of.expr ≡ true
  pub indexed : index_fits instances E line operator member_of.expr ≡ true
  pub needs : needed_classes operator member_of.expr ≡ needed
  pub count : inputs ≡ length needed

pub operator-is : (instances : List TableInstance) (E : Log) (cols : ℕ → List ℕ) (line : ℕ) (operator : Operator) (inputs g n : ℕ) (needed : List ℕ) → operator_fits instances E cols line operator inputs g n ≡ Ok needed → FitsLine instances E cols line operator inputs g needed
operator-is instances E cols line operator inputs g n needed e =
    let last : ℕ → matches.Line → Result (List ℕ) CheckRefusal = λ line l. wanted_if (refusal n OtherOperator) (is_member E l g && operator_is_of instances E cols line operator l.expr inputs) (needed_classes operator l.expr) in
    let next : ℕ → Result (List ℕ) CheckRefusal = λ line. wanted (refusal n OtherOperator) (member E line) >>= last line in
    let named : Bool = is_earlier E line && names_lines E operator in
    let first = both_ok (wanted_if (refusal n UnknownLine) named line) next needed e in
    let same : line ≡ first.0 = (wanted_if_ok (refusal n UnknownLine) named line first.0 first.1).1 in
    let second = both_ok (wanted (refusal n OtherOperator) (member E line)) (last line) needed (ap next same ∙ first.2) in
    let l : matches.Line = second.0 in
    let all = wanted_if_ok (refusal n OtherOperator) (is_member E l g && operator_is_of instances E cols line operator l.expr inputs) (needed_classes operator l.expr) needed second.2 in
    let tests = and_parts (is_member E l g) _ all.0 in
    let fits = and_parts _ _ tests.1 in
    let parts = and_parts _ _ fits.0 in
    record {
      member_of = l;
      at = wanted_ok (refusal n OtherOperator) (member E line) l second.1;
      same = tests.0;
      implemented = parts.0;
      indexed = parts.1;
      needs = all.1;
      count = eqb-true _ _ fits.1 ∙ ap length all.1;
    }

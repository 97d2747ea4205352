-- The orders of a plan's nodes, by its root's node.
use Rattle.std.proofs.Common.{◌≡◌, refl, ap, sym, ◌∙◌, subst, List, [], ◌∷◌, map}
use Rattle.algebra.proofs.Lists.{two}
use Rattle.query.specs.declared.query.TableInstance.{TableInstance}
use Rattle.physical.specs.declared.node_orders.Delivered.{Delivered, roll-Delivered, out-Delivered, out-roll-Delivered}
use Rattle.physical.specs.declared.plan.OrderKey.{OrderKey}
use Rattle.physical.specs.declared.plan.Plan.{Plan, out-Plan, roll-Plan, fold_out-Plan, fold-roll-Plan, ind-Plan, map-Plan}
use Rattle.physical.specs.declared.plan.Plan.TheOpen.{Plan-F}
use Rattle.physical.specs.EachOrder.{order_of, each_layer, each_order}
use Rattle.physical.specs.Orders.{node_order, order_layer, plan_order}

pub each_at : (instances : List TableInstance) (p : Plan) (inputs : List Plan) (order : List OrderKey) (all : List Delivered) → inputs ≡ (out-Plan p).inputs → all ≡ map (each_order instances) inputs
    → order ≡ node_order instances (out-Plan p).node (map order_of all) → roll-Delivered (record { order = order; inputs = all }) ≡ each_order instances p
unfolding each_order
each_at instances p inputs order all given is ordered =
    let same : all ≡ map (each_order instances) (out-Plan p).inputs = is ∙ ap (map (each_order instances)) given in
    two (λ o ds. roll-Delivered (record { order = o; inputs = ds })) (ordered ∙ ap (λ ds. node_order instances (out-Plan p).node (map order_of ds)) same) same ∙ sym (fold_out-Plan Delivered (each_layer instances) p)

-- they are the orders that plans deliver
module _ (instances : List TableInstance) where
  abbrev Same : Plan → Type 0
  Same p = order_of (each_order instances p) ≡ plan_order instances p

  abbrev Part : Type 0
  Part = (p : Plan) × Same p

  parts-same : (parts : List Part) → map order_of (map (each_order instances) (map (λ p. p.0) parts)) ≡ map (plan_order instances) (map (λ p. p.0) parts)
  parts-same [] = refl
  parts-same (p ∷ parts) = two (λ k ks. k ∷ ks) p.1 (parts-same parts)

  step : (y : Plan-F Part) → Same (roll-Plan (map-Plan Part Plan (λ p. p.0) y))
  unfolding each_order plan_order
  step y =
      let z : Plan-F Plan = map-Plan Part Plan (λ p. p.0) y in
      ap order_of (fold-roll-Plan Delivered (each_layer instances) z)
      ∙ ap (λ x. x.order) (out-roll-Delivered (record { order = node_order instances z.node (map order_of (map (each_order instances) z.inputs)); inputs = map (each_order instances) z.inputs }))
      ∙ ap (node_order instances y.node) (parts-same y.inputs) ∙ sym (fold-roll-Plan (List OrderKey) (order_layer instances) z)

  pub each-is : (p : Plan) → Same p
  each-is = ind-Plan Same (λ x y is. subst (λ z. Same (roll-Plan z)) is (step y))

  pub each-are : (plans : List Plan) → map order_of (map (each_order instances) plans) ≡ map (plan_order instances) plans
  each-are [] = refl
  each-are (p ∷ plans) = two (λ k ks. k ∷ ks) (each-is p) (each-are plans)

-- what stands in a plan's orders for its inputs
pub inputs_at : (instances : List TableInstance) (p : Plan) (d : Delivered) → d ≡ each_order instances p → (out-Delivered d).inputs ≡ map (each_order instances) (out-Plan p).inputs
unfolding each_order
inputs_at instances p d is =
    let inputs : List Delivered = map (each_order instances) (out-Plan p).inputs in
    ap (λ d. (out-Delivered d).inputs) (is ∙ fold_out-Plan Delivered (each_layer instances) p)
    ∙ ap (λ x. x.inputs) (out-roll-Delivered (record { order = node_order instances (out-Plan p).node (map order_of inputs); inputs = inputs }))

pub orders_at : (instances : List TableInstance) (p : Plan) (d : Delivered) → d ≡ each_order instances p → map order_of (out-Delivered d).inputs ≡ map (plan_order instances) (out-Plan p).inputs
orders_at instances p d is = ap (map order_of) (inputs_at instances p d is) ∙ each-are instances (out-Plan p).inputs

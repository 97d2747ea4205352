-- Plans whose nodes get the orders that they require.
use Rattle.std.proofs.Common.{◌≡◌, refl, ap, sym, ◌∙◌, subst, ℕ, zero, suc, true, false, List, [], ◌∷◌, map, take, length}
use Rattle.std.specs.Coded.{coded_list}
use Rattle.std.specs.Ordering.{is_gt}
use Rattle.std.specs.List.{list_all}
use Rattle.std.proofs.lemmas.Bool.{and_parts, and_from}
use Rattle.values.proofs.Orders.{not_gt-then}
use Rattle.query.specs.declared.query.TableInstance.{TableInstance}
use Rattle.query.specs.Rows.{Tables}
use Rattle.algebra.specs.Bags.{Env}
use Rattle.algebra.proofs.Lists.{two}
use Rattle.algebra.proofs.Same.{same_by-equal}
use Rattle.physical.specs.declared.plan.OrderKey.{OrderKey}
use Rattle.physical.specs.contracts.plan.OrderKey as order_key
use Rattle.physical.specs.declared.plan.Node.{Node}
use Rattle.physical.specs.declared.plan.Plan.{Plan, roll-Plan, out-Plan, fold-roll-Plan, fold_out-Plan, ind-Plan, map-Plan}
use Rattle.physical.specs.declared.plan.Plan.TheOpen.{Plan-F}
use Rattle.physical.specs.Sorts.{key_order, keys_order}
use Rattle.physical.specs.Outputs.{Output, first, node_columns, output_rows, plan_output, rest}
use Rattle.physical.specs.Orders.{first_order, order_layer, node_order, node_stands, plan_order, Shape, shape_layer, plan_shape}
use Rattle.physical.specs.RequiredOrders.{Supply, all_sorted, begins_with, inputs_sorted, plan_supply, same_order, second_order, supply_layer}
use Rattle.physical.proofs.Deliveries.{delivers}
use Rattle.physical.proofs.OrderedLists.{ascends-weaker}
use Rattle.physical.proofs.Sorting.{Ascends}

-- ---- the beginning of an order

-- what does not go after by keys does not by the first of them
pub front-not_gt : (n : ℕ) (keys : List OrderKey) (a b : Env) → is_gt (keys_order keys a b) ≡ false → is_gt (keys_order (take n keys) a b) ≡ false
front-not_gt zero keys a b h = refl
front-not_gt (suc n) [] a b h = refl
front-not_gt (suc n) (k ∷ keys) a b h = not_gt-then (key_order k a b) (keys_order keys a b) (keys_order (take n keys) a b) (front-not_gt n keys a b) h

pub ascends-front : (n : ℕ) (keys : List OrderKey) (rows : List Env) → Ascends (keys_order keys) rows → Ascends (keys_order (take n keys)) rows
ascends-front n keys rows = ascends-weaker (keys_order keys) (keys_order (take n keys)) (front-not_gt n keys) rows

-- rows in an order are in one that it begins with
pub ascends-beginning : (order wanted : List OrderKey) (rows : List Env) → begins_with order wanted ≡ true → Ascends (keys_order order) rows → Ascends (keys_order wanted) rows
unfolding same_order
ascends-beginning order wanted rows is up =
    subst (λ keys. Ascends (keys_order keys) rows) (same_by-equal (coded_list order_key.the_row.coded) (take (length wanted) order) wanted is) (ascends-front (length wanted) order rows up)

-- ---- what is supplied

module _ (instances : List TableInstance) where
  -- the supply of a plan says its columns and its order, and that its rows stand in it
  pub record IsSupply (p : Plan) : Type 0 where
    pub columns : (plan_supply instances p).columns ≡ (plan_shape instances p).columns
    pub order : (plan_supply instances p).order ≡ plan_order instances p
    pub stands : (plan_supply instances p).sorted ≡ true → (plan_shape instances p).stands ≡ true

  abbrev Part : Type 0
  Part = (p : Plan) × IsSupply p

  abbrev plans : List Part → List Plan
  plans parts = map (λ p. p.0) parts

  columns-same : (parts : List Part) → map (λ (x : Supply). x.columns) (map (plan_supply instances) (plans parts)) ≡ map (λ (x : Shape). x.columns) (map (plan_shape instances) (plans parts))
  columns-same [] = refl
  columns-same (p ∷ parts) = two (λ K Ks. K ∷ Ks) p.1.columns (columns-same parts)

  orders-same : (parts : List Part) → map (λ (x : Supply). x.order) (map (plan_supply instances) (plans parts)) ≡ map (plan_order instances) (plans parts)
  orders-same [] = refl
  orders-same (p ∷ parts) = two (λ k ks. k ∷ ks) p.1.order (orders-same parts)

  all-stand : (parts : List Part) → all_sorted (map (plan_supply instances) (plans parts)) ≡ true → list_all (λ (x : Shape). x.stands) (map (plan_shape instances) (plans parts)) ≡ true
  all-stand [] all = refl
  all-stand (p ∷ parts) all = let both = and_parts _ _ all in and_from _ _ (p.1.stands both.0) (all-stand parts both.1)

  step : (y : Plan-F Part) → IsSupply (roll-Plan (map-Plan Part Plan (λ p. p.0) y))
  unfolding plan_supply plan_shape plan_order
  step y =
      let z : Plan-F Plan = map-Plan Part Plan (λ p. p.0) y in
      let supply = fold-roll-Plan Supply (supply_layer instances) z in
      let shape = fold-roll-Plan Shape (shape_layer instances) z in
      record {
        columns = ap (λ (x : Supply). x.columns) supply ∙ ap (node_columns instances y.node) (columns-same y.inputs) ∙ sym (ap (λ (x : Shape). x.columns) shape);
        order = ap (λ (x : Supply). x.order) supply ∙ ap (node_order instances y.node) (orders-same y.inputs) ∙ sym (fold-roll-Plan (List OrderKey) (order_layer instances) z);
        stands = λ sorted.
            let both = and_parts _ _ (sym (ap (λ (x : Supply). x.sorted) supply) ∙ sorted) in
            ap (λ (x : Shape). x.stands) shape
            ∙ and_from _ _ (subst (λ Ks. node_stands instances y.node Ks ≡ true) (columns-same y.inputs) both.0) (all-stand y.inputs (and_parts _ _ both.1).1);
      }

  pub supplied : (p : Plan) → IsSupply p
  supplied = ind-Plan IsSupply (λ x y is. subst (λ z. IsSupply (roll-Plan z)) is (step y))

  -- the rows of a plan whose nodes get what they require stand in the order that it delivers
  pub supplied-ascends : (D : Tables) (p : Plan) (e : Env) → (plan_supply instances p).sorted ≡ true → Ascends (keys_order (plan_order instances p)) (output_rows instances D p e)
  supplied-ascends D p e sorted = ((delivers instances D p).ordered ((supplied p).stands sorted)).ascends e

  abbrev pub supplies : List Plan → List Supply
  supplies inputs = map (plan_supply instances) inputs

  abbrev pub orders_in : List Supply → List (List OrderKey)
  orders_in inputs = map (λ x. x.order) inputs

  abbrev pub columns_in : List Supply → List (List ℕ)
  columns_in inputs = map (λ x. x.columns) inputs

  -- a plan's root gets what it requires, and so do its inputs
  pub supply-parts : (p : Plan) (node : Node) (inputs : List Plan) → (out-Plan p).node ≡ node → inputs ≡ (out-Plan p).inputs → (plan_supply instances p).sorted ≡ true
      → (inputs_sorted node (columns_in (supplies inputs)) (orders_in (supplies inputs)) ≡ true) × (all_sorted (supplies inputs) ≡ true)
  unfolding plan_supply
  supply-parts p node inputs is given sorted =
      let here = sym (ap (λ (x : Supply). x.sorted) (fold_out-Plan Supply (supply_layer instances) p)) ∙ sorted in
      let parts = and_parts _ _ (and_parts (node_stands instances (out-Plan p).node (columns_in (supplies (out-Plan p).inputs))) _ here).1 in (
        subst (λ ps. inputs_sorted node (columns_in (supplies ps)) (orders_in (supplies ps)) ≡ true) (sym given)
            (subst (λ (n : Node). inputs_sorted n (columns_in (supplies (out-Plan p).inputs)) (orders_in (supplies (out-Plan p).inputs)) ≡ true) is parts.0),
        subst (λ ps. all_sorted (supplies ps) ≡ true) (sym given) parts.1,
      )

  -- the supplies of plans say their orders and columns
  pub supply-orders : (inputs : List Plan) → orders_in (supplies inputs) ≡ map (plan_order instances) inputs
  supply-orders [] = refl
  supply-orders (p ∷ inputs) = two (λ k ks. k ∷ ks) (supplied p).order (supply-orders inputs)

  pub supply-columns : (D : Tables) (inputs : List Plan) → columns_in (supplies inputs) ≡ map (λ (x : Output). x.columns) (map (plan_output instances D) inputs)
  supply-columns D [] = refl
  supply-columns D (p ∷ inputs) = two (λ K Ks. K ∷ Ks) ((supplied p).columns ∙ (delivers instances D p).columns) (supply-columns D inputs)

  -- the rows of the first of some inputs stand in its order
  pub first-ascends : (D : Tables) (inputs : List Plan) (e : Env) → all_sorted (supplies inputs) ≡ true → Ascends (keys_order (first_order (orders_in (supplies inputs)))) (first (map (plan_output instances D) inputs) e)
  first-ascends D [] e sorted = tt
  first-ascends D (p ∷ inputs) e sorted =
      subst (λ keys. Ascends (keys_order keys) (output_rows instances D p e)) (sym (supplied p).order) (supplied-ascends D p e (and_parts _ _ sorted).0)

  -- and those of the second in that one's
  pub second-ascends : (D : Tables) (inputs : List Plan) (e : Env) → all_sorted (supplies inputs) ≡ true → Ascends (keys_order (second_order (orders_in (supplies inputs)))) (first (rest (map (plan_output instances D) inputs)) e)
  second-ascends D [] e sorted = tt
  second-ascends D (p ∷ inputs) e sorted = first-ascends D inputs e (and_parts _ _ sorted).1

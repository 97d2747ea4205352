-- What the orders of an operator's inputs are worth to it.
use Rattle.std.proofs.Common.{◌≡◌, ap, sym, ◌∙◌, subst, ℕ, zero, suc, true, false, List, [], ◌∷◌, map, arith}
use Rattle.std.specs.declared.cmp.Ordering.TheVariants.{Equal}
use Rattle.std.proofs.lemmas.Bool.{and_parts}
use Rattle.values.specs.Order.{order}
use Rattle.query.specs.declared.query.TableInstance.{TableInstance}
use Rattle.query.specs.Rows.{Tables}
use Rattle.algebra.specs.declared.expr.Aggregation.{Aggregation}
use Rattle.algebra.specs.Bags.{Env}
use Rattle.physical.specs.declared.plan.GroupMethod.{GroupMethod}
use Rattle.physical.specs.declared.plan.GroupMethod.TheVariants.{Sorted}
use Rattle.physical.specs.declared.plan.JoinMethod.{JoinMethod}
use Rattle.physical.specs.declared.plan.JoinMethod.TheVariants.{NestedLoop, Hash, Merge}
use Rattle.physical.specs.declared.plan.Matching.{Matching}
use Rattle.physical.specs.declared.plan.Operator.{Operator}
use Rattle.physical.specs.declared.plan.Operator.TheVariants.{JoinRows, GroupRows, DistinctRows}
use Rattle.physical.specs.declared.plan.OrderKey.{OrderKey}
use Rattle.physical.specs.declared.plan.Plan.{Plan}
use Rattle.physical.specs.Orders.{first_order}
use Rattle.physical.specs.Outputs.{first_columns, plan_output}
use Rattle.physical.specs.RequiredOrders.{are_sorted, begins_with_all, rises_by, second_order}
use Rattle.physical.specs.Sorts.{keys_order}
use Rattle.physical.proofs.RequiredOrders.{ascends-beginning, columns_in, first-ascends, orders_in, second-ascends, supplies, supply-columns}
use Rattle.physical.proofs.Sorting.{Ascends}
use Rattle.relations.specs.declared.relation.Relation.{Relation}
use Rattle.relations.specs.Relations.{IsInputOutput, numbered_env, rows_of}
use Rattle.index_access.proofs.CutOrders.{not_gt-first}
use Rattle.joins.specs.Merges.{AreMergeable, RiseBy}
use Rattle.grouping.specs.Groups.{AreTogether}
use Rattle.operators.specs.Runnable.{AreRunnable, IsOperable}
use Rattle.operators.specs.RightSides.{IsRightSide}
use Rattle.operators.proofs.PlanOutputs.{output-first}
use Rattle.operators.proofs.Together.{ascends-numbers, stand-together}

-- ---- merge joins

-- rows in an order that begins with a column rise by it
rises : (c : ℕ) (keys : List OrderKey) (r : Relation) (e : Env) → rises_by c keys ≡ true → Ascends (keys_order keys) (rows_of r e) → RiseBy c r e
rises c keys r e begins up = λ i j earlier below.
    let wanted : List OrderKey = record { column = c; descending = false } ∷ [] in
    let row : ℕ → Env = numbered_env r e in
    not_gt-first (order (row i c) (row j c)) Equal
    (ascends-numbers (keys_order wanted) row 0 r.rows.count i j (ascends-beginning keys wanted (rows_of r e) begins up) (omega arith) earlier (omega (arith, below)))

module _ (instances : List TableInstance) (D : Tables) (inputs : List Plan) (e : Env) (may : AreRunnable instances inputs) where
  -- the first input's rows, and the second's, stand in their orders
  first-stands : (r : Relation) → IsInputOutput (map (plan_output instances D) inputs) 0 e r → Ascends (keys_order (first_order (orders_in instances (supplies instances inputs)))) (rows_of r e)
  first-stands r given =
      subst (Ascends (keys_order (first_order (orders_in instances (supplies instances inputs))))) (sym (output-first (map (plan_output instances D) inputs) e r given).rows_are) (first-ascends instances D inputs e may.sorted)

  second-stands : (count : ℕ) (r : Relation) → IsRightSide (map (plan_output instances D) inputs) count e r → Ascends (keys_order (second_order (orders_in instances (supplies instances inputs)))) (rows_of r e)
  second-stands zero r given = subst (Ascends (keys_order (second_order (orders_in instances (supplies instances inputs))))) (sym given.rows_are) tt
  second-stands (suc count) r given = subst (Ascends (keys_order (second_order (orders_in instances (supplies instances inputs))))) (sym given.rows_are) (second-ascends instances D inputs e may.sorted)

  pub mergeable : (method : JoinMethod) (j : Matching) (left right : Relation) → IsOperable instances (JoinRows method j) inputs → IsInputOutput (map (plan_output instances D) inputs) 0 e left → IsRightSide (map (plan_output instances D) inputs) left.rows.count e right
      → AreMergeable method left right e
  mergeable NestedLoop j left right here first second = tt
  mergeable Hash j left right here first second = tt
  mergeable (Merge a b) j left right here first second =
      let both = and_parts (rises_by a (first_order (orders_in instances (supplies instances inputs)))) _ here.sorted in
      (rises a _ left e both.0 (first-stands left first), rises b _ right e both.1 (second-stands left.rows.count right second))

  -- ---- sorted groups

  pub group-together : (operator : Operator) (method : GroupMethod) (K : List ℕ) (G : List Aggregation) (r : Relation) → operator ≡ GroupRows method K G → method ≡ Sorted → IsOperable instances operator inputs → IsInputOutput (map (plan_output instances D) inputs) 0 e r
      → AreTogether K r
  group-together operator method K G r is sorted here given =
      let all = supplies instances inputs in
      let begins : begins_with_all K (first_order (orders_in instances all)) ≡ true =
      subst (λ (o : Operator). are_sorted o (columns_in instances all) (orders_in instances all) ≡ true) (is ∙ ap (λ m. GroupRows m K G) sorted) here.sorted in
      stand-together K (first_order (orders_in instances all)) r e begins (first-stands r given)

  pub distinct-together : (operator : Operator) (method : GroupMethod) (r : Relation) → operator ≡ DistinctRows method → method ≡ Sorted → IsOperable instances operator inputs → IsInputOutput (map (plan_output instances D) inputs) 0 e r → AreTogether r.heading.columns r
  distinct-together operator method r is sorted here given =
      let all = supplies instances inputs in
      let begins : begins_with_all (first_columns (columns_in instances all)) (first_order (orders_in instances all)) ≡ true =
      subst (λ (o : Operator). are_sorted o (columns_in instances all) (orders_in instances all) ≡ true) (is ∙ ap DistinctRows sorted) here.sorted in
      let columns : first_columns (columns_in instances all) ≡ r.heading.columns = ap first_columns (supply-columns instances D inputs) ∙ sym (output-first (map (plan_output instances D) inputs) e r given).columns_are in
      stand-together r.heading.columns (first_order (orders_in instances all)) r e (subst (λ K. begins_with_all K (first_order (orders_in instances all)) ≡ true) columns begins) (first-stands r given)

-- A plan that may be run, and its inputs.
use Rattle.std.proofs.Common.{◌≡◌, ap, sym, ◌∙◌, subst, ℕ, zero, suc, true, List, [], ◌∷◌, map, drop, Some}
use Rattle.std.specs.List.{slice_get}
use Rattle.std.proofs.lemmas.Bool.{and_parts}
use Rattle.query.specs.declared.query.TableInstance.{TableInstance}
use Rattle.query.specs.Rows.{Tables}
use Rattle.query.specs.Aggregates.{AreShortTables}
use Rattle.algebra.specs.declared.expr.Aggregation.{Aggregation}
use Rattle.algebra.specs.Bags.{Env}
use Rattle.physical.specs.declared.plan.GroupMethod.{GroupMethod}
use Rattle.physical.specs.declared.plan.Operator.{Operator}
use Rattle.physical.specs.declared.plan.Operator.TheVariants.{GroupRows}
use Rattle.physical.specs.declared.plan.Node.{Node}
use Rattle.physical.specs.declared.plan.Node.TheVariants.{Implements}
use Rattle.physical.specs.declared.plan.Plan.{Plan, out-Plan, fold_out-Plan}
use Rattle.physical.specs.Origins.{Origin, AreReadable, all_read, node_reads, operator_reads, origin_layer, plan_origin}
use Rattle.physical.specs.Outputs.{plan_output}
use Rattle.physical.proofs.RequiredOrders.{supply-parts}
use Rattle.physical.proofs.StoredValues.{group-readable}
use Rattle.relations.specs.declared.relation.Relation.{Relation}
use Rattle.relations.specs.Relations.{IsInputOutput, rows_of}
use Rattle.operators.specs.Runnable.{AreRunnable, IsOperable, IsRunnable}
use Rattle.operators.proofs.PlanOutputs.{output-first}

module _ (instances : List TableInstance) where
  abbrev origins : List Plan → List Origin
  origins inputs = map (plan_origin instances) inputs

  -- where a plan's groups aggregate values of tables alone, its root's and its inputs' do
  plan-parts : (p : Plan) (node : Node) (inputs : List Plan) → (out-Plan p).node ≡ node → inputs ≡ (out-Plan p).inputs → (plan_origin instances p).reads ≡ true → (node_reads instances node (origins inputs) ≡ true) × (all_read (origins inputs) ≡ true)
  unfolding plan_origin
  plan-parts p node inputs is given reads =
      let here = sym (ap (λ (x : Origin). x.reads) (fold_out-Plan Origin (origin_layer instances) p)) ∙ reads in
      let parts = and_parts (node_reads instances (out-Plan p).node (origins (out-Plan p).inputs)) _ here in (
        subst (λ ps. node_reads instances node (origins ps) ≡ true) (sym given) (subst (λ (n : Node). node_reads instances n (origins (out-Plan p).inputs) ≡ true) is parts.0),
        subst (λ ps. all_read (origins ps) ≡ true) (sym given) parts.1,
      )

  -- the inputs of a plan that may be run
  pub inputs-runnable : (p : Plan) (node : Node) (inputs : List Plan) → (out-Plan p).node ≡ node → inputs ≡ (out-Plan p).inputs → IsRunnable instances p → AreRunnable instances inputs
  inputs-runnable p node inputs is given may = record { reads = (plan-parts p node inputs is given may.reads).1; sorted = (supply-parts instances p node inputs is given may.sorted).1 }

  -- and its operator
  pub operable : (p : Plan) (line : ℕ) (operator : Operator) (inputs : List Plan) → (out-Plan p).node ≡ Implements line operator → inputs ≡ (out-Plan p).inputs → IsRunnable instances p → IsOperable instances operator inputs
  operable p line operator inputs is given may = record { reads = (plan-parts p (Implements line operator) inputs is given may.reads).0; sorted = (supply-parts instances p (Implements line operator) inputs is given may.sorted).0 }

  -- one of the inputs
  pub input-runnable : (inputs : List Plan) (number : ℕ) (p : Plan) → slice_get inputs number ≡ Some p → AreRunnable instances inputs → IsRunnable instances p
  input-runnable [] number p at may = cc
  input-runnable (r ∷ inputs) zero p at may =
      let is : r ≡ p = cc in
      subst (IsRunnable instances) is (record { reads = (and_parts _ _ may.reads).0; sorted = (and_parts _ _ may.sorted).0 })
  input-runnable (r ∷ inputs) (suc number) p at may = input-runnable inputs number p at (record { reads = (and_parts _ _ may.reads).1; sorted = (and_parts _ _ may.sorted).1 })

  -- those behind the first
  pub rest-runnable : (inputs : List Plan) → AreRunnable instances inputs → AreRunnable instances (drop 1 inputs)
  rest-runnable [] may = may
  rest-runnable (p ∷ inputs) may = record { reads = (and_parts _ _ may.reads).1; sorted = (and_parts _ _ may.sorted).1 }

  -- a group may read the relation of its input
  pub input-readable : (D : Tables) → AreShortTables D → (operator : Operator) (method : GroupMethod) (K : List ℕ) (G added : List Aggregation) (inputs : List Plan) (e : Env) (r : Relation) → operator ≡ GroupRows method K G → added ≡ G → IsOperable instances operator inputs → AreRunnable instances inputs
      → IsInputOutput (map (plan_output instances D) inputs) 0 e r → AreReadable added (rows_of r e)
  input-readable D short operator method K G added inputs e r is same may all given =
      let rows = (output-first (map (plan_output instances D) inputs) e r given).rows_are in
      subst (λ A. AreReadable A (rows_of r e)) (sym same)
      (subst (AreReadable G) (sym rows) (group-readable instances D short method K G inputs (subst (λ (o : Operator). operator_reads instances o (origins inputs) ≡ true) is may.reads) all.reads e))

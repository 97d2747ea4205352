-- Plans that select from the rows of their input.
use Rattle.std.proofs.Common.{◌≡◌, refl, ap, ◌∙◌, ℕ, List, [], ◌∷◌, map, slice_get, Some}
use Rattle.query.specs.declared.query.TableInstance.{TableInstance}
use Rattle.query.specs.Rows.{Tables}
use Rattle.algebra.specs.Bags.{Env}
use Rattle.physical.specs.declared.plan.Node.{Node}
use Rattle.physical.specs.declared.plan.Node.TheVariants.{Implements}
use Rattle.physical.specs.declared.plan.Operator.TheVariants as by
use Rattle.physical.specs.declared.plan.Plan.{Plan, out-Plan}
use Rattle.physical.specs.Outputs.{Output, node_columns, node_rows, plan_output, output_rows}
use Rattle.operators.specs.Distinct.{IsProjection}
use Rattle.operators.proofs.PlanOutputs.{output-columns, output-rows}
use Rattle.selections.specs.declared.selecting.Selecting.{Selecting}
use Rattle.selections.specs.declared.selecting.Selecting.TheVariants.{Filter, Projection}
use Rattle.selections.specs.Selecting.{IsSelecting, selecting_columns, selecting_rows}

node-columns : (instances : List TableInstance) (node : Node) (how : Selecting) (x : Output) (inputs : List Output) → IsSelecting node how → node_columns instances node (map (λ x. x.columns) (x ∷ inputs)) ≡ selecting_columns how x.columns
node-columns instances node (Filter C) x inputs (line, is) = ap (λ n. node_columns instances n (map (λ x. x.columns) (x ∷ inputs))) is
node-columns instances node (Projection K) x inputs (line, is) = ap (λ n. node_columns instances n (map (λ x. x.columns) (x ∷ inputs))) is

node-rows : (instances : List TableInstance) (D : Tables) (node : Node) (how : Selecting) (x : Output) (inputs : List Output) (e : Env) → IsSelecting node how → node_rows instances D node (x ∷ inputs) e ≡ selecting_rows how (x.rows e) e
node-rows instances D node (Filter C) x inputs e (line, is) = ap (λ n. node_rows instances D n (x ∷ inputs) e) is
node-rows instances D node (Projection K) x inputs e (line, is) = ap (λ n. node_rows instances D n (x ∷ inputs) e) is

-- the columns of a plan that projects to them
pub projected-columns : (instances : List TableInstance) (D : Tables) (p : Plan) (K : List ℕ) → IsProjection (out-Plan p).node K → (plan_output instances D p).columns ≡ K
projected-columns instances D p K to = output-columns instances D p (Implements to.projects.0 (by.Projection K)) (out-Plan p).inputs to.projects.1 refl

module _ (instances : List TableInstance) (D : Tables) (p : Plan) (how : Selecting) (input : Plan) (selects : IsSelecting (out-Plan p).node how) where
  pub columns-above : (inputs : List Plan) → inputs ≡ (out-Plan p).inputs → slice_get inputs 0 ≡ Some input → (plan_output instances D p).columns ≡ selecting_columns how (plan_output instances D input).columns
  columns-above [] given at = cc
  columns-above (q ∷ inputs) given at =
      let same : q ≡ input = cc in
      output-columns instances D p (out-Plan p).node (q ∷ inputs) refl given
      ∙ node-columns instances (out-Plan p).node how (plan_output instances D q) (map (plan_output instances D) inputs) selects
      ∙ ap (λ r. selecting_columns how (plan_output instances D r).columns) same

  pub rows-above : (inputs : List Plan) (e : Env) → inputs ≡ (out-Plan p).inputs → slice_get inputs 0 ≡ Some input → output_rows instances D p e ≡ selecting_rows how (output_rows instances D input e) e
  rows-above [] e given at = cc
  rows-above (q ∷ inputs) e given at =
      let same : q ≡ input = cc in
      output-rows instances D p (out-Plan p).node (q ∷ inputs) e refl given
      ∙ node-rows instances D (out-Plan p).node how (plan_output instances D q) (map (plan_output instances D) inputs) e selects
      ∙ ap (λ r. selecting_rows how (output_rows instances D r e) e) same

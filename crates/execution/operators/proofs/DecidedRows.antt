-- Whether a plan has a row, by what decides it of its root.
use Rattle.std.proofs.Common.{◌≡◌, refl, ap, sym, ◌∙◌, true, false, List, [], ◌∷◌, filter, map, Some, None}
use Rattle.std.specs.List.{slice_get}
use Rattle.std.specs.Borrow.{Bor}
use Rattle.query.specs.declared.query.TableInstance.{TableInstance}
use Rattle.query.specs.Rows.{Tables}
use Rattle.algebra.specs.declared.condition.Condition.{Condition}
use Rattle.algebra.specs.Bags.{Env}
use Rattle.algebra.specs.Conditions.{holds}
use Rattle.physical.specs.declared.plan.IndexAccess.{IndexAccess}
use Rattle.physical.specs.declared.plan.Plan.{Plan, out-Plan}
use Rattle.physical.specs.Indexes.{accessed_rows}
use Rattle.physical.specs.Outputs.{Output, first, no_classes, node_rows, output_rows, plan_output}
use Rattle.operators.specs.declared.existence.Existence.TheVariants.{Always, OfInput, OfFiltered, ByIndex}
use Rattle.operators.specs.Existence.{Decides, Rows, has_some}
use Rattle.operators.proofs.PlanOutputs.{output-rows}

module _ (instances : List TableInstance) (D : Tables) (p : Plan) (inputs : List Plan) (e : Env) (given : inputs ≡ (out-Plan p).inputs) where
  abbrev rows : Rows
  rows instances D = node_rows instances D (out-Plan p).node

  abbrev all : List Output
  all = map (plan_output instances D) inputs

  rows-are : output_rows instances D p e ≡ node_rows instances D (out-Plan p).node all e
  rows-are = output-rows instances D p (out-Plan p).node inputs e refl given

  pub decided-always : Decides Always rows → true ≡ has_some (output_rows instances D p e)
  decided-always decides = sym (ap has_some rows-are ∙ decides instances D all e)

  pub decided-input : Decides OfInput rows → has_some (first all e) ≡ has_some (output_rows instances D p e)
  decided-input decides = sym (ap has_some rows-are ∙ decides instances D all e)

  pub decided-filtered : (C : Bor (List Condition)) → Decides (OfFiltered C) rows → has_some (filter (holds no_classes C.now) (first all e)) ≡ has_some (output_rows instances D p e)
  decided-filtered C decides = sym (ap has_some rows-are ∙ decides instances D all e)

  pub decided-index : (a : IndexAccess) (C : Bor (List Condition)) → Decides (ByIndex a C) rows → has_some (filter (holds no_classes C.now) (accessed_rows instances D a e)) ≡ has_some (output_rows instances D p e)
  decided-index a C decides = sym (ap has_some rows-are ∙ decides instances D all e)

-- the rows of the first input
pub first-some : (f : Plan → Output) (inputs : List Plan) (p : Plan) (e : Env) → slice_get inputs 0 ≡ Some p → (f p).rows e ≡ first (map f inputs) e
first-some f [] p e at = cc
first-some f (q ∷ inputs) p e at = let same : q ≡ p = cc in ap (λ z. (f z).rows e) (sym same)

pub first-none : (f : Plan → Output) (inputs : List Plan) (e : Env) → slice_get inputs 0 ≡ None → false ≡ has_some (first (map f inputs) e)
first-none f [] e at = refl
first-none f (q ∷ inputs) e at = cc

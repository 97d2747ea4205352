-- The texts that are spelled out, by computation.
use Rattle.std.proofs.Common.{◌≡◌, refl, ap, ◌∙◌, ℕ, ◌+◌, List, ◌∷◌, codes}
use Rattle.std.specs.Fmt.{digits}
use Rattle.algebra.specs.declared.condition.Condition.TheVariants.{Exists}
use Rattle.physical.specs.declared.plan.Node.TheVariants.{Implements}
use Rattle.physical.specs.declared.plan.Operator.{Operator}
use Rattle.physical.specs.declared.plan.Plan.{Plan, fold-roll-Plan}
use Rattle.explain.specs.ConditionTexts.{condition_text}
use Rattle.explain.specs.PlanTexts.{PlacedNode, nodes_layer, nodes_from, indentation, estimate_at}
use Rattle.explain.specs.WorkedTexts.{names, a_plan, same_department, department_same, is_paid, has_no_boss, is_named, ColumnsAreSpelled, ConditionsAreSpelled, PlanIsSpelled, NodesAreSpelled, MeasuresAreSpelled, PictureIsSpelled}
use Rattle.explain.proofs.ConditionTexts.{form-Compare, form-IsNull, form-Not, form-And, form-Or, form-Exists, form-In}
use Rattle.explain.proofs.PlanTexts.{nodes_below}
use Rattle.explain.proofs.DotTexts.{inputs_left}
use Rattle.costs.specs.declared.nodes.Estimate.{Estimate}
use Rattle.explain.specs.DotTexts.{Drawn, behind, box_text, drawn_layer, drawn}
use Rattle.values.specs.declared.value.Value.TheVariants as value
use Rattle.std.proofs.lemmas.List.Folds.{flat_map-map}

-- ---- conditions

same-text : condition_text names same_department ≡ codes "e.dept = d.id"
same-text = form-Compare names _ _ _

turned-text : condition_text names department_same ≡ codes "d.id = e.dept"
turned-text = form-Compare names _ _ _

paid-text : condition_text names is_paid ≡ codes "e.pay > 0"
unfolding digits
paid-text = form-Compare names _ _ _

boss-text : condition_text names has_no_boss ≡ codes "d.boss IS NULL"
boss-text = form-IsNull names _

exists-text : condition_text names (Exists 3) ≡ codes "EXISTS #3"
unfolding digits
exists-text = form-Exists names 3

pub columns_are_spelled : ColumnsAreSpelled
unfolding digits
columns_are_spelled = (refl, refl, refl, refl, refl)

pub conditions_are_spelled : ConditionsAreSpelled
unfolding digits
conditions_are_spelled =
    (same-text, paid-text, form-Compare names _ _ _, form-Compare names _ _ _, form-Compare names _ _ _, boss-text, rw (form-Not, boss-text) refl, rw (form-Not, form-And, paid-text, boss-text) refl, rw (form-Or, paid-text, boss-text, same-text) refl, exists-text, form-In names _ 12 0)

-- ---- nodes

pub nodes_are_spelled : NodesAreSpelled
unfolding digits
nodes_are_spelled =
    (refl, refl, refl, rw (paid-text, boss-text) refl, rw exists-text refl, refl, refl, rw same-text refl, rw turned-text refl, rw same-text refl, rw same-text refl, refl, refl, refl, refl, refl)

-- ---- a plan

nodes-plan : (o : Operator) (inputs : List Plan) (depth : ℕ) → nodes_from (a_plan o inputs) depth ≡ record { depth = depth; node = Implements 0 o } ∷ nodes_below inputs (depth + 1)
unfolding nodes_from
nodes-plan o inputs depth =
    ap (λ (f : ℕ → List PlacedNode). f depth) (fold-roll-Plan (ℕ → List PlacedNode) nodes_layer (record { node = Implements 0 o; inputs = inputs }))
    ∙ ap (λ nodes. record { depth = depth; node = Implements 0 o } ∷ nodes) (flat_map-map (λ (f : ℕ → List PlacedNode). f (depth + 1)) nodes_from inputs)

pub plan_is_spelled : PlanIsSpelled
unfolding digits indentation
plan_is_spelled = rw (nodes-plan, nodes-plan, nodes-plan, nodes-plan, nodes-plan, paid-text, same-text) refl

-- ---- a picture

slash-text : condition_text names (is_named (value.Text (codes "\\ or \""))) ≡ codes "d.name <> '\\ or \"'"
slash-text = form-Compare names _ _ _

drawn-plan : (estimates : List Estimate) (o : Operator) (inputs : List Plan) (k : ℕ) → drawn names estimates (a_plan o inputs) k ≡ behind (box_text names k (Implements 0 o) (estimate_at estimates k)) (inputs_left names estimates k inputs (k + 1))
unfolding drawn
drawn-plan estimates o inputs k = ap (λ (f : ℕ → Drawn). f k) (fold-roll-Plan (ℕ → Drawn) (drawn_layer names estimates) (record { node = Implements 0 o; inputs = inputs }))

pub picture_is_spelled : PictureIsSpelled
unfolding digits
picture_is_spelled = rw (drawn-plan, drawn-plan, slash-text) refl

-- ---- what was measured

pub measures_are_spelled : MeasuresAreSpelled
unfolding digits indentation
measures_are_spelled = (rw (nodes-plan, nodes-plan, slash-text) refl, rw (nodes-plan, nodes-plan, slash-text) refl)

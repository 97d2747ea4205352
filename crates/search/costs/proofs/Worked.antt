-- The worked examples, computed.
use Rattle.std.proofs.Common.{◌≡◌, refl, ap, sym, ◌∙◌, ℕ, List, [], ◌∷◌, map, Some, None, if◌then◌else◌}
use Rattle.values.specs.declared.truth.Comparison.{Comparison}
use Rattle.query.specs.declared.query.TableInstance.{TableInstance}
use Rattle.algebra.specs.declared.condition.Term.{Term}
use Rattle.algebra.specs.declared.condition.Condition.{Condition, out-Condition, out-roll-Condition}
use Rattle.algebra.specs.declared.condition.Condition.TheVariants.{Compare, rolls-Compare}
use Rattle.algebra.specs.declared.condition.Condition.TheOpen.{Condition-F}
use Rattle.algebra.specs.Columns.{ColumnSet}
use Rattle.derivation.specs.Logs.{Log}
use Rattle.physical.specs.declared.plan.Operator.{Operator}
use Rattle.physical.specs.declared.plan.Node.TheVariants.{Implements}
use Rattle.physical.specs.declared.plan.Plan.{Plan, fold-roll-Plan}
use Rattle.statistics.specs.declared.counts.Statistics.{Statistics}
use Rattle.costs.specs.declared.nodes.Estimate.{Estimate}
use Rattle.costs.specs.Numbers.{cut, per_million}
use Rattle.costs.specs.Costs.{comparison_of, comparison_layer, faces, inputs_of, node_estimate, estimate_layer, plan_estimate, node_cost, plan_cost}
use Rattle.algebra.specs.Equated.{equated_layer}
use Rattle.costs.specs.Equalities.{equation, of_two}
use Rattle.costs.specs.Equalities as equal
use Rattle.costs.specs.Cardinalities.{filtered_further, class_rows}
use Rattle.costs.specs.Examples.{node, plain, indexed, counted, lines, of_dept, paid, in_first, is_ten, joined, filtered, projected, selected, scanned, matched, probing, WorkedPlan, WorkedIndexes}
use Rattle.algebra.proofs.Lists.{two}
use Rattle.physical.specs.declared.plan.Matching.TheVariants as matching
use Rattle.physical.specs.declared.plan.JoinMethod.TheVariants as join
use Rattle.physical.specs.declared.plan.Operator.TheVariants.{Scan, IndexScan, Filter, Projection, JoinRows}
use Rattle.costs.proofs.SelectivityForms.{selectivity-Compare}

comparison-Compare : (own : ColumnSet) (c : ℕ) (op : Comparison) (a b : Term) → comparison_of own c (Compare op a b) ≡ (if faces own c a b then Some op else None)
comparison-Compare own c op a b = ap (comparison_layer own c) (ap out-Condition (sym (rolls-Compare op a b)) ∙ out-roll-Condition (Condition-F.Compare op a b))

equation-Compare : (op : Comparison) (a b : Term) → equation (Compare op a b) ≡ of_two (equated_layer (Condition-F.Compare op a b))
equation-Compare op a b = ap (λ x. of_two (equated_layer x)) (ap out-Condition (sym (rolls-Compare op a b)) ∙ out-roll-Condition (Condition-F.Compare op a b))

estimate-node : (S : Statistics) (instances : List TableInstance) (n : ℕ → ℕ) (E : Log) (line : ℕ) (o : Operator) (inputs : List Plan)
    → plan_estimate S instances n E (node line o inputs) ≡ node_estimate S instances n E (Implements line o) (inputs_of (map (plan_estimate S instances n E) inputs))
unfolding plan_estimate
estimate-node S instances n E line o inputs = fold-roll-Plan Estimate (estimate_layer S instances n E) (record { node = Implements line o; inputs = inputs })

-- ---- the plan without indexes

joined-rows : class_rows counted plain lines 2 ≡ 3
unfolding cut per_million equal.counted equal.leader_by filtered_further
joined-rows = simp (selectivity-Compare, equation-Compare) refl

filtered-rows : class_rows counted plain lines 3 ≡ 2
unfolding cut per_million equal.counted equal.leader_by filtered_further
filtered-rows = simp (selectivity-Compare, equation-Compare) refl

projected-rows : class_rows counted plain lines 4 ≡ 2
unfolding cut per_million equal.counted equal.leader_by filtered_further
projected-rows = simp (selectivity-Compare, equation-Compare) refl

first-is : plan_estimate counted plain (class_rows counted plain lines) lines (node 0 (Scan 0) []) ≡ record { rows = 3; cost = 130 }
unfolding cut per_million equal.counted equal.leader_by filtered_further
first-is = estimate-node counted plain (class_rows counted plain lines) lines 0 (Scan 0) []

second-is : plan_estimate counted plain (class_rows counted plain lines) lines (node 1 (Scan 1) []) ≡ record { rows = 4; cost = 140 }
unfolding cut per_million equal.counted equal.leader_by filtered_further
second-is = estimate-node counted plain (class_rows counted plain lines) lines 1 (Scan 1) []

joined-is : plan_estimate counted plain (class_rows counted plain lines) lines joined ≡ record { rows = 3; cost = 281 }
unfolding cut per_million equal.counted equal.leader_by filtered_further
joined-is =
    let o : Operator = JoinRows join.Hash (matching.Left (of_dept ∷ [])) in
    estimate-node counted plain (class_rows counted plain lines) lines 2 o (node 0 (Scan 0) [] ∷ node 1 (Scan 1) [] ∷ [])
    ∙ two (λ (a b : Estimate). node_estimate counted plain (class_rows counted plain lines) lines (Implements 2 o) (inputs_of (a ∷ b ∷ []))) first-is second-is
    ∙ ap (λ r. record { rows = r; cost = 281 }) joined-rows

filtered-is : plan_estimate counted plain (class_rows counted plain lines) lines filtered ≡ record { rows = 2; cost = 284 }
unfolding cut per_million equal.counted equal.leader_by filtered_further
filtered-is =
    estimate-node counted plain (class_rows counted plain lines) lines 3 (Filter (paid ∷ [])) (joined ∷ [])
    ∙ ap (λ (a : Estimate). node_estimate counted plain (class_rows counted plain lines) lines (Implements 3 (Filter (paid ∷ []))) (inputs_of (a ∷ []))) joined-is
    ∙ ap (λ r. record { rows = r; cost = 284 }) filtered-rows

projected-is : plan_estimate counted plain (class_rows counted plain lines) lines projected ≡ record { rows = 2; cost = 285 }
unfolding cut per_million equal.counted equal.leader_by filtered_further
projected-is =
    estimate-node counted plain (class_rows counted plain lines) lines 4 (Projection (0 ∷ 3 ∷ [])) (filtered ∷ [])
    ∙ ap (λ (a : Estimate). node_estimate counted plain (class_rows counted plain lines) lines (Implements 4 (Projection (0 ∷ 3 ∷ []))) (inputs_of (a ∷ []))) filtered-is
    ∙ ap (λ r. record { rows = r; cost = 285 }) projected-rows

pub worked_plan : WorkedPlan
unfolding per_million equal.counted
worked_plan = record {
  scanned_rows = refl;
  joined_rows = joined-rows;
  filtered_rows = filtered-rows;
  projected_rows = projected-rows;
  joined_cost = ap (λ (e : Estimate). e.cost) joined-is;
  filtered_cost = ap (λ (e : Estimate). e.cost) filtered-is;
  projected_cost = ap (λ (e : Estimate). e.cost) projected-is;
}

-- ---- by an index

scanned-is : (c : Condition) (index : ℕ) → plan_cost counted indexed (selected c) (scanned index c) ≡ node_cost counted indexed (Implements 2 (IndexScan (record { line = 1; instance = 1; index = index }) (c ∷ []))) (class_rows counted indexed (selected c) 2) (inputs_of [])
scanned-is c index = ap (λ (e : Estimate). e.cost) (estimate-node counted indexed (class_rows counted indexed (selected c)) (selected c) 2 (IndexScan (record { line = 1; instance = 1; index = index }) (c ∷ [])) [])

outer-is : plan_estimate counted indexed (class_rows counted indexed matched) matched (node 0 (Scan 0) []) ≡ record { rows = 3; cost = 130 }
unfolding cut per_million equal.counted equal.leader_by filtered_further
outer-is = estimate-node counted indexed (class_rows counted indexed matched) matched 0 (Scan 0) []

probed-is : plan_cost counted indexed matched (node 2 probing (node 0 (Scan 0) [] ∷ [])) ≡ 1090
unfolding cut per_million equal.counted equal.leader_by filtered_further
probed-is =
    ap (λ (e : Estimate). e.cost) (estimate-node counted indexed (class_rows counted indexed matched) matched 2 probing (node 0 (Scan 0) [] ∷ []))
    ∙ ap (λ (a : Estimate). node_cost counted indexed (Implements 2 probing) 0 (inputs_of (a ∷ []))) outer-is

pub worked_indexes : WorkedIndexes
unfolding cut per_million equal.counted equal.leader_by filtered_further
worked_indexes = record {
  of_key = simp selectivity-Compare refl;
  of_unique_key = simp selectivity-Compare refl;
  of_columns = simp selectivity-Compare refl;
  scan = scanned-is in_first 1 ∙ simp (selectivity-Compare, comparison-Compare, equation-Compare) refl;
  unique_scan = scanned-is is_ten 0 ∙ simp (selectivity-Compare, comparison-Compare, equation-Compare) refl;
  joined = probed-is;
}

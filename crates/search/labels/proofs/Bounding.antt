-- Estimates by labels, one by one.
use Rattle.std.proofs.Common.{◌≡◌, refl, ap, sym, ◌∙◌, ℕ, ◌+◌, ◌<◌, ◌≤◌, List, [], ◌∷◌, ◌++◌, length, drop, take, get_or, nat_le, option_map, Option, Some, None, arith}
use Rattle.std.specs.List.{sum_by}
use Rattle.std.proofs.lemmas.List.{append_assoc, append-nil, drop_more}
use Rattle.std.proofs.lemmas.List.Sums.{sum_by_more}
use Rattle.std.proofs.Math.ListN.{drop_of_length-le}
use Rattle.query.specs.declared.query.TableInstance.{TableInstance}
use Rattle.physical.specs.declared.plan.Node.{Node}
use Rattle.statistics.specs.declared.counts.Statistics.{Statistics}
use Rattle.costs.specs.declared.nodes.Estimate.{Estimate}
use Rattle.costs.specs.declared.nodes.Inputs.{Inputs}
use Rattle.costs.specs.Numbers.{cut}
use Rattle.costs.specs.Costs.{inputs_of, node_cost, with_cut_costs}
use Rattle.costs.proofs.PlanEstimates.{node-cut}
use Rattle.derivation.specs.Logs.{Log}
use Rattle.labels.specs.declared.goal.Goal.{Goal}
use Rattle.labels.specs.declared.goal.Label.{Label}
use Rattle.labels.specs.ByClass.{AreByClass}
use Rattle.labels.specs.Labels.{Labels, bounds, cost_of, estimates_of, is_at_least, is_bounded, with_estimate}
use Rattle.labels.specs.Offers.{input_goals}
use Rattle.labels.proofs.Bucketed.{cost-of-class}

-- ---- the label of a goal

pub cost_in_class : (labels : Labels) (lists : List Labels) (goal : Goal) → AreByClass labels lists → cost_of (get_or lists goal.class []) goal ≡ cost_of labels goal
cost_in_class labels lists goal kept = ap (λ ls. cost_of ls goal) (kept goal.class) ∙ sym (cost-of-class goal labels)

-- ---- a sum that is cut

cost_cut : (S : Statistics) (instances : List TableInstance) (node : Node) (rows : ℕ) (x : Inputs) → node_cost S instances node rows (with_cut_costs x) ≡ node_cost S instances node rows x
cost_cut = node-cut

-- over these goals, and these estimates of plans for them
pub bound-by : (S : Statistics) (instances : List TableInstance) (E : Log) (cols : ℕ → List ℕ) (n : ℕ → ℕ) (labels : Labels) (l : Label) (node : Node) (goals : List Goal) (xs : List Estimate) (cost : ℕ)
    → input_goals instances E cols l.goal node ≡ Some goals → estimates_of n labels goals ≡ Some xs → cost ≡ node_cost S instances node (n l.goal.class) (with_cut_costs (inputs_of xs))
    → nat_le l.cost cost ≡ bounds S instances E cols n labels l node
bound-by S instances E cols n labels l node goals xs cost offered estimated costs =
    ap (nat_le l.cost) (costs ∙ cost_cut S instances node (n l.goal.class) (inputs_of xs))
    ∙ sym (ap (is_bounded S instances n labels l node) offered
    ∙ ap (λ found. is_at_least l.cost (option_map (λ inputs. node_cost S instances node (n l.goal.class) (inputs_of inputs)) found)) estimated)

module _ (n : ℕ → ℕ) (labels : Labels) where
  -- the estimates so far, before those of the goals that are left
  abbrev pub before : List Estimate → List Goal → Option (List Estimate)
  before old goals = option_map (λ rest. old ++ rest) (estimates_of n labels goals)

  by-next : (old : List Estimate) (goal : Goal) (goals : List Goal) (cost : ℕ) → cost_of labels goal ≡ Some cost → before (old ++ record { rows = n goal.class; cost = cost } ∷ []) goals ≡ before old (goal ∷ goals)
  by-next old goal goals cost is = by (estimates_of n labels goals) ∙ ap (λ own. option_map (λ rest. old ++ rest) (with_estimate goal n own (estimates_of n labels goals))) (sym is)
    where
      by : (others : Option (List Estimate)) → option_map (λ rest. (old ++ record { rows = n goal.class; cost = cost } ∷ []) ++ rest) others ≡ option_map (λ rest. old ++ rest) (with_estimate goal n (Some cost) others)
      by None = refl
      by (Some rest) = ap (λ xs. Some xs) (append_assoc old (record { rows = n goal.class; cost = cost } ∷ []) rest)

  goals-at : (goals : List Goal) (i : ℕ) (goal : Goal) → i < length goals → goal ≡ get_or goals i goal → drop i goals ≡ goal ∷ drop (i + 1) goals
  goals-at goals i goal lt at = drop_more goals i goal lt ∙ ap (λ g. g ∷ drop (i + 1) goals) (sym at)

  pub estimates_more : (goals : List Goal) (i : ℕ) (goal : Goal) (cost : ℕ) (old new : List Estimate) (all : Option (List Estimate)) → i < length goals → goal ≡ get_or goals i goal → cost_of labels goal ≡ Some cost
      → new ≡ old ++ record { rows = n goal.class; cost = cost } ∷ [] → before old (drop i goals) ≡ all → before new (drop (i + 1) goals) ≡ all
  estimates_more goals i goal cost old new all lt at is news so_far =
      ap (λ xs. before xs (drop (i + 1) goals)) news ∙ by-next old goal (drop (i + 1) goals) cost is ∙ ap (before old) (sym (goals-at goals i goal lt at)) ∙ so_far

  pub estimates_none : (goals : List Goal) (i : ℕ) (goal : Goal) (old : List Estimate) (all : Option (List Estimate)) → i < length goals → goal ≡ get_or goals i goal → cost_of labels goal ≡ None
      → before old (drop i goals) ≡ all → None ≡ all
  estimates_none goals i goal old all lt at is so_far =
      ap (λ own. option_map (λ rest. old ++ rest) (with_estimate goal n own (estimates_of n labels (drop (i + 1) goals)))) (sym is) ∙ ap (before old) (sym (goals-at goals i goal lt at)) ∙ so_far

  pub estimates_all : (goals : List Goal) (i : ℕ) (found : List Estimate) (all : Option (List Estimate)) → length goals ≤ i → before found (drop i goals) ≡ all → Some found ≡ all
  estimates_all goals i found all le so_far =
      ap (λ xs. Some xs) (sym (append-nil found)) ∙ ap (before found) (sym (drop_of_length-le goals le)) ∙ so_far

twice : (a b : ℕ) → cut (cut a + b) ≡ cut (a + b)
unfolding cut
twice a b = omega arith

pub total_none : (xs : List Estimate) → 0 ≡ cut (sum_by (λ (e : Estimate). e.cost) (take 0 xs))
unfolding cut
total_none xs = refl

pub later_none : (xs : List Estimate) → length xs ≡ 0 → 0 ≡ cut (sum_by (λ (e : Estimate). e.cost) (drop 1 xs))
unfolding cut
later_none [] e = refl
later_none (x ∷ xs) e = absurd (omega (arith, e))

pub total_more : (xs : List Estimate) (i : ℕ) (d : Estimate) (old new : ℕ) → i < length xs → old ≡ cut (sum_by (λ (e : Estimate). e.cost) (take i xs)) → new ≡ cut (old + (get_or xs i d).cost)
    → new ≡ cut (sum_by (λ (e : Estimate). e.cost) (take (i + 1) xs))
total_more xs i d old new lt olds news =
    let before_ = sum_by (λ (e : Estimate). e.cost) (take i xs) in
    news ∙ ap (λ m. cut (m + (get_or xs i d).cost)) olds ∙ twice before_ (get_or xs i d).cost ∙ ap cut (sym (sum_by_more (λ (e : Estimate). e.cost) xs i d lt))

-- What is estimated of a plan, by its root's node.
use Rattle.std.proofs.Common.{◌≡◌, refl, ap, sym, ◌∙◌, ℕ, ◌+◌, ◌*◌, ◌==◌, if◌then◌else◌, List, [], ◌∷◌, ◌++◌, length, get_or, map, take, ◌<◌, arith}
use Rattle.std.specs.List.{sum_by}
use Rattle.std.proofs.lemmas.Bool.{ne_eqb}
use Rattle.std.proofs.lemmas.List.Sums.{sum_by-append}
use Rattle.std.proofs.lemmas.List.{length-take-le, length-map}
use Rattle.values.proofs.Lists.{map_next}
use Rattle.query.specs.declared.query.TableInstance.{TableInstance}
use Rattle.derivation.specs.Logs.{Log}
use Rattle.physical.specs.declared.plan.Operator.{Operator}
use Rattle.physical.specs.declared.plan.JoinMethod.{JoinMethod}
use Rattle.physical.specs.declared.plan.JoinMethod.TheVariants as join
use Rattle.physical.specs.declared.plan.GroupMethod.{GroupMethod}
use Rattle.physical.specs.declared.plan.GroupMethod.TheVariants as group
use Rattle.physical.specs.declared.plan.Operator.TheVariants.{Scan, IndexScan, Filter, FilterSubqueries, Projection, JoinRows, IndexJoin, GroupRows, DistinctRows}
use Rattle.physical.specs.declared.plan.Node.{Node}
use Rattle.physical.specs.declared.plan.Node.TheVariants.{Implements, Sort}
use Rattle.physical.specs.declared.plan.Plan.{Plan, out-Plan, fold_out-Plan}
use Rattle.statistics.specs.declared.counts.Statistics.{Statistics}
use Rattle.costs.specs.declared.nodes.Estimate.{Estimate}
use Rattle.costs.specs.declared.nodes.Inputs.{Inputs}
use Rattle.costs.specs.Numbers.{cut}
use Rattle.costs.specs.Costs.{join_cost, group_cost, operator_cost, node_cost, node_rows, node_estimate, nothing, inputs_of, with_input, with_cut_costs, estimate_layer, plan_estimate}
use Rattle.costs.proofs.Cuts.{cut-each, cut-less, cut-more}

-- ---- a sum that is cut is worth the same to a node

join-cut : (method : JoinMethod) (x : Inputs) → join_cost method (with_cut_costs x) ≡ join_cost method x
join-cut join.NestedLoop x = refl
join-cut join.Hash x = refl
join-cut (join.Merge a b) x = refl

group-cut : (method : GroupMethod) (x : Inputs) → group_cost method (with_cut_costs x) ≡ group_cost method x
group-cut group.Hash x = refl
group-cut group.Sorted x = refl

pub subqueries-cut : (cost rows later : ℕ) → cut (cost + rows * (1 + cut later)) ≡ cut (cost + rows * (1 + later))
subqueries-cut cost rows later = sym (cut-each cost rows (1 + cut later)) ∙ ap (λ n. cut (cost + rows * n)) (cut-more 1 later) ∙ cut-each cost rows (1 + later)

module _ (S : Statistics) (instances : List TableInstance) where
  operator-cut : (o : Operator) (rows : ℕ) (x : Inputs) → cut (operator_cost S instances o rows (with_cut_costs x)) ≡ cut (operator_cost S instances o rows x)
  operator-cut (Scan o) rows x = refl
  operator-cut (IndexScan a C) rows x = refl
  operator-cut (Filter C) rows x = refl
  operator-cut (FilterSubqueries C) rows x = subqueries-cut x.first.cost x.first.rows x.later
  operator-cut (Projection K) rows x = refl
  operator-cut (JoinRows method j) rows x = ap cut (join-cut method x)
  operator-cut (IndexJoin a j) rows x = refl
  operator-cut (GroupRows method K G) rows x = ap cut (group-cut method x)
  operator-cut (DistinctRows method) rows x = ap cut (group-cut method x)

  pub node-cut : (node : Node) (rows : ℕ) (x : Inputs) → node_cost S instances node rows (with_cut_costs x) ≡ node_cost S instances node rows x
  node-cut (Implements line o) rows x = operator-cut o rows x
  node-cut (Sort keys) rows x = refl

  rows-cut : (n : ℕ → ℕ) (E : Log) (node : Node) (x : Inputs) → node_rows n E node (with_cut_costs x) ≡ node_rows n E node x
  rows-cut n E (Implements line o) x = refl
  rows-cut n E (Sort keys) x = refl

  estimate-cut : (n : ℕ → ℕ) (E : Log) (node : Node) (x : Inputs) → node_estimate S instances n E node (with_cut_costs x) ≡ node_estimate S instances n E node x
  estimate-cut n E node x =
      ap (λ rows. record { rows = rows; cost = node_cost S instances node rows (with_cut_costs x) }) (rows-cut n E node x)
      ∙ ap (λ cost. record { rows = node_rows n E node x; cost = cost }) (node-cut node (node_rows n E node x) x)

  pub estimate_at : (n : ℕ → ℕ) (E : Log) (p : Plan) (plans : List Plan) (own : Estimate) (inputs : Inputs) → plans ≡ (out-Plan p).inputs
      → inputs ≡ with_cut_costs (inputs_of (map (plan_estimate S instances n E) plans)) → own ≡ node_estimate S instances n E (out-Plan p).node inputs → own ≡ plan_estimate S instances n E p
  unfolding plan_estimate
  estimate_at n E p plans own inputs given is owns =
      owns
      ∙ ap (node_estimate S instances n E (out-Plan p).node) is
      ∙ estimate-cut n E (out-Plan p).node (inputs_of (map (plan_estimate S instances n E) plans))
      ∙ ap (λ ps. node_estimate S instances n E (out-Plan p).node (inputs_of (map (plan_estimate S instances n E) ps))) given
      ∙ sym (fold_out-Plan Estimate (estimate_layer S instances n E) p)

-- ---- inputs, one by one

pub no-inputs : (of : Plan → Estimate) (plans : List Plan) → record { first = nothing; second = nothing; later = 0 } ≡ with_cut_costs (inputs_of (map of (take 0 plans)))
unfolding cut
no-inputs of plans = refl

past : (place : ℕ) (x y z : Inputs) → (place ≡ 0 → ⊥) → (place ≡ 1 → ⊥) → (if place == 0 then x else if place == 1 then y else z) ≡ z
past place x y z first second = rw (ne_eqb place 0 first, ne_eqb place 1 second) refl

pub next-input : (inputs : List Estimate) (e : Estimate) → with_input (with_cut_costs (inputs_of inputs)) (length inputs) e ≡ with_cut_costs (inputs_of (inputs ++ e ∷ []))
next-input [] e = refl
next-input (a ∷ []) e = ap (λ n. record { first = a; second = e; later = n }) (cut-less 0 e.cost ∙ ap cut (omega arith))
next-input (a ∷ b ∷ more) e =
    past (length (a ∷ b ∷ more)) _ _ _ (λ is. absurd (omega (arith, is))) (λ is. absurd (omega (arith, is)))
    ∙ ap (λ n. record { first = a; second = b; later = n }) (cut-less (sum_by (λ x. x.cost) (b ∷ more)) e.cost ∙ ap cut (sym (sum_by-append (λ x. x.cost) (b ∷ more) (e ∷ []) ∙ omega arith)))

-- one input more
pub input-more : (of : Plan → Estimate) (plans : List Plan) (i : ℕ) (plan : Plan) (e : Estimate) (before after : Inputs) → i < length plans → plan ≡ get_or plans i plan
    → before ≡ with_cut_costs (inputs_of (map of (take i plans))) → e ≡ of plan → after ≡ with_input before i e → after ≡ with_cut_costs (inputs_of (map of (take (i + 1) plans)))
input-more of plans i plan e before after inside at befores is afters =
    let front = map of (take i plans) in
    let size = length-map (take i plans) of ∙ length-take-le i plans (omega arith) in
    afters
    ∙ ap (λ (x : Inputs). with_input x i e) befores
    ∙ ap (λ (e : Estimate). with_input (with_cut_costs (inputs_of front)) i e) is
    ∙ ap (λ n. with_input (with_cut_costs (inputs_of front)) n (of plan)) (sym size)
    ∙ next-input front (of plan)
    ∙ ap (λ es. with_cut_costs (inputs_of es)) (sym (map_next of plans i plan inside at))

-- The plans of a plan's nodes, and what is estimated of each.
use Rattle.std.proofs.Common.{◌≡◌, refl, ap, sym, ◌∙◌, subst, ℕ, ◌+◌, ◌<◌, List, [], ◌∷◌, ◌++◌, length, get_or, set, map, take, flat_map}
use Rattle.std.proofs.lemmas.List.{set_at, append_assoc, map-append}
use Rattle.std.proofs.lemmas.List.Folds.{flat_map-map}
use Rattle.values.proofs.Lists.{flat_map_next}
use Rattle.algebra.proofs.Lists.{two}
use Rattle.query.specs.declared.query.TableInstance.{TableInstance}
use Rattle.derivation.specs.Logs.{Log}
use Rattle.physical.specs.declared.plan.Plan.{Plan, roll-Plan, out-Plan, fold_out-Plan, fold-roll-Plan, ind-Plan, map-Plan}
use Rattle.physical.specs.declared.plan.Plan.TheOpen.{Plan-F}
use Rattle.statistics.specs.declared.counts.Statistics.{Statistics}
use Rattle.costs.specs.declared.nodes.Estimate.{Estimate}
use Rattle.costs.specs.Costs.{Subplans, all_of, subplans_layer, subplans_of, subplans, plan_estimate, estimates_by}

-- ---- the plan of the root is the plan itself

abbrev IsOwn : Plan → Type 0
IsOwn p = (subplans_of p).own ≡ p

abbrev Part : Type 0
Part = (p : Plan) × IsOwn p

parts-own : (parts : List Part) → map (λ s. s.own) (map subplans_of (map (λ p. p.0) parts)) ≡ map (λ p. p.0) parts
parts-own [] = refl
parts-own (p ∷ parts) = two (λ q qs. q ∷ qs) p.1 (parts-own parts)

step : (y : Plan-F Part) → IsOwn (roll-Plan (map-Plan Part Plan (λ p. p.0) y))
unfolding subplans_of
step y =
    let z : Plan-F Plan = map-Plan Part Plan (λ p. p.0) y in
    ap (λ s. s.own) (fold-roll-Plan Subplans subplans_layer z)
    ∙ ap (λ qs. roll-Plan (record { node = y.node; inputs = qs })) (parts-own y.inputs)

own-is : (p : Plan) → IsOwn p
own-is = ind-Plan IsOwn (λ x y is. subst (λ z. IsOwn (roll-Plan z)) is (step y))

-- ---- the plans of all nodes, by the root and its inputs

pub subplans-root : (p : Plan) → subplans p ≡ p ∷ flat_map subplans (out-Plan p).inputs
unfolding subplans_of
subplans-root p =
    two (λ q qs. q ∷ qs) (own-is p)
    (ap (λ s. s.below) (fold_out-Plan Subplans subplans_layer p) ∙ flat_map-map all_of subplans_of (out-Plan p).inputs)

map-flat : (of : Plan → Estimate) (plans : List Plan) → map of (flat_map subplans plans) ≡ flat_map (λ p. map of (subplans p)) plans
map-flat of [] = refl
map-flat of (p ∷ plans) = map-append of (subplans p) (flat_map subplans plans) ∙ ap (λ es. map of (subplans p) ++ es) (map-flat of plans)

pub estimates-root : (S : Statistics) (instances : List TableInstance) (n : ℕ → ℕ) (E : Log) (p : Plan)
    → estimates_by S instances n E p ≡ plan_estimate S instances n E p ∷ flat_map (estimates_by S instances n E) (out-Plan p).inputs
estimates-root S instances n E p = ap (map (plan_estimate S instances n E)) (subplans-root p) ∙ ap (λ es. plan_estimate S instances n E p ∷ es) (map-flat (plan_estimate S instances n E) (out-Plan p).inputs)

-- ---- a place is kept for the root's estimate until the inputs are known

pub place-filled : (S : Statistics) (instances : List TableInstance) (n : ℕ → ℕ) (E : Log) (p : Plan) (plans : List Plan) (own kept : Estimate) (old pushed filled : List Estimate) (place : ℕ) → place ≡ length old → pushed ≡ old ++ kept ∷ []
    → plans ≡ (out-Plan p).inputs → filled ≡ pushed ++ flat_map (estimates_by S instances n E) plans → own ≡ plan_estimate S instances n E p → set filled place own ≡ old ++ estimates_by S instances n E p
place-filled S instances n E p plans own kept old pushed filled place at pushes given fills is =
    let below = flat_map (estimates_by S instances n E) plans in
    ap (λ es. set es place own) (fills ∙ ap (λ es. es ++ below) pushes ∙ append_assoc old (kept ∷ []) below)
    ∙ set_at old kept below own place (sym at)
    ∙ ap (λ e. old ++ e ∷ below) is
    ∙ ap (λ qs. old ++ plan_estimate S instances n E p ∷ flat_map (estimates_by S instances n E) qs) given
    ∙ ap (λ es. old ++ es) (sym (estimates-root S instances n E p))

-- the nodes of one input more
pub estimates-more : (of : Plan → List Estimate) (plans : List Plan) (i : ℕ) (plan : Plan) (old before after : List Estimate) → i < length plans → plan ≡ get_or plans i plan
    → before ≡ old ++ flat_map of (take i plans) → after ≡ before ++ of plan → after ≡ old ++ flat_map of (take (i + 1) plans)
estimates-more of plans i plan old before after inside at befores afters =
    afters ∙ ap (λ es. es ++ of plan) befores ∙ append_assoc old (flat_map of (take i plans)) (of plan) ∙ ap (λ es. old ++ es) (sym (flat_map_next of plans i plan inside at))

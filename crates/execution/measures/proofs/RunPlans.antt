-- The plans of a plan's nodes, by the root and its inputs, and what is measured of them.
use Rattle.std.proofs.Common.{◌≡◌, refl, ap, sym, ◌∙◌, subst, ℕ, zero, suc, ◌+◌, ◌<◌, ◌≤◌, Bool, ◌||◌, List, [], ◌∷◌, ◌++◌, length, get_or, map, take, flat_map, Option, arith}
use Rattle.std.proofs.lemmas.List.{append_assoc, append-nil, take_all}
use Rattle.std.proofs.lemmas.List.Folds.{flat_map-map}
use Rattle.values.proofs.Lists.{flat_map_next}
use Rattle.algebra.proofs.Lists.{two}
use Rattle.query.specs.declared.query.TableInstance.{TableInstance}
use Rattle.query.specs.Rows.{Tables}
use Rattle.physical.specs.declared.plan.Plan.{Plan, roll-Plan, out-Plan, fold_out-Plan, fold-roll-Plan, ind-Plan, map-Plan}
use Rattle.physical.specs.declared.plan.Plan.TheOpen.{Plan-F}
use Rattle.measures.specs.declared.measured.Measure.{Measure}
use Rattle.measures.specs.Measures.{AreMeasured, Run, all_run, has_subqueries, inputs_run, plan_if, plans_run, run_layer, run_of}

-- ---- the plan of the root is the plan itself

abbrev IsOwn : Plan → Type 0
IsOwn p = (run_of p).own ≡ p

abbrev Part : Type 0
Part = (p : Plan) × IsOwn p

parts-own : (parts : List Part) → map (λ r. r.own) (map run_of (map (λ p. p.0) parts)) ≡ map (λ p. p.0) parts
parts-own [] = refl
parts-own (p ∷ parts) = two (λ q qs. q ∷ qs) p.1 (parts-own parts)

step : (y : Plan-F Part) → IsOwn (roll-Plan (map-Plan Part Plan (λ p. p.0) y))
unfolding run_of
step y =
    let z : Plan-F Plan = map-Plan Part Plan (λ p. p.0) y in
    ap (λ r. r.own) (fold-roll-Plan Run run_layer z)
    ∙ ap (λ qs. roll-Plan (record { node = y.node; inputs = qs })) (parts-own y.inputs)

own-is : (p : Plan) → IsOwn p
own-is = ind-Plan IsOwn (λ x y is. subst (λ z. IsOwn (roll-Plan z)) is (step y))

-- ---- the plans of all nodes, by the root and its inputs

-- those of some inputs
abbrev pub plans_below : Bool → Bool → List Plan → List (Option Plan)
plans_below first later inputs = inputs_run first later (map run_of inputs)

pub plans-root : (repeated : Bool) (p : Plan) → plans_run repeated p ≡ plan_if repeated p ∷ plans_below repeated (repeated || has_subqueries (out-Plan p).node) (out-Plan p).inputs
unfolding run_of
plans-root repeated p =
    two (λ q qs. plan_if repeated q ∷ qs) (own-is p)
    (ap (λ r. r.below repeated) (fold_out-Plan Run run_layer p))

-- ---- one input more

below-later : (later : Bool) (inputs : List Plan) → flat_map (all_run later) (map run_of inputs) ≡ flat_map (plans_run later) inputs
below-later later inputs = flat_map-map (all_run later) run_of inputs

-- the first
pub first-below : (first later : Bool) (inputs : List Plan) (p : Plan) → 0 < length inputs → p ≡ get_or inputs 0 p → plans_below first later (take (0 + 1) inputs) ≡ plans_run first p
first-below first later [] p some is = absurd (omega (arith, some))
first-below first later (q ∷ inputs) p some is = append-nil (plans_run first q) ∙ ap (plans_run first) (sym is)

-- another
pub next-below : (first later : Bool) (inputs : List Plan) (i : ℕ) (p : Plan) → 0 < i → i < length inputs → p ≡ get_or inputs i p → plans_below first later (take (i + 1) inputs) ≡ plans_below first later (take i inputs) ++ plans_run later p
next-below first later inputs zero p some below is = absurd (omega (arith, some))
next-below first later [] (suc i) p some below is = absurd (omega (arith, below))
next-below first later (q ∷ inputs) (suc i) p some below is =
    let front = plans_run first q in
    let so_far = flat_map (plans_run later) (take i inputs) in
    let one_more : suc i + 1 ≡ suc (i + 1) = omega arith in
    ap (λ n. plans_below first later (take n (q ∷ inputs))) one_more
    ∙ ap (λ l. front ++ l) (below-later later (take (i + 1) inputs) ∙ flat_map_next (plans_run later) inputs i p (omega (arith, below)) is)
    ∙ sym (append_assoc front so_far (plans_run later p))
    ∙ ap (λ l. (front ++ l) ++ plans_run later p) (sym (below-later later (take i inputs)))

-- either
pub one-below : (first later own : Bool) (inputs : List Plan) (i : ℕ) (p : Plan) → i < length inputs → p ≡ get_or inputs i p → (i ≡ 0 → own ≡ first) → (0 < i → own ≡ later)
    → plans_below first later (take (i + 1) inputs) ≡ plans_below first later (take i inputs) ++ plans_run own p
one-below first later own inputs zero p below is at_first at_later = first-below first later inputs p below is ∙ ap (λ b. plans_run b p) (sym (at_first refl))
one-below first later own inputs (suc i) p below is at_first at_later =
    let behind : 0 < suc i = omega arith in
    next-below first later inputs (suc i) p behind below is ∙ ap (λ b. plans_below first later (take (suc i) inputs) ++ plans_run b p) (sym (at_later behind))

-- ---- what is measured of some, and of others behind them

pub measured-append : (instances : List TableInstance) (D : Tables) (ps qs : List (Option Plan)) (ms ns : List (Option Measure)) → AreMeasured instances D ps ms → AreMeasured instances D qs ns → AreMeasured instances D (ps ++ qs) (ms ++ ns)
measured-append instances D [] qs [] ns front behind = behind
measured-append instances D [] qs (m ∷ ms) ns front behind = absurd front
measured-append instances D (p ∷ ps) qs [] ns front behind = absurd front
measured-append instances D (p ∷ ps) qs (m ∷ ms) ns front behind = (front.0, measured-append instances D ps qs ms ns front.1 behind)

-- and so of one input more
pub measured-below : (instances : List TableInstance) (D : Tables) (root : Option Plan) (first later own : Bool) (inputs : List Plan) (i : ℕ) (p : Plan) (ms ns all : List (Option Measure)) → i < length inputs → p ≡ get_or inputs i p → (i ≡ 0 → own ≡ first) → (0 < i → own ≡ later)
    → all ≡ ms ++ ns → AreMeasured instances D (root ∷ plans_below first later (take i inputs)) ms → AreMeasured instances D (plans_run own p) ns → AreMeasured instances D (root ∷ plans_below first later (take (i + 1) inputs)) all
measured-below instances D root first later own inputs i p ms ns all below is at_first at_later joined front behind =
    subst (λ l. AreMeasured instances D (root ∷ plans_below first later (take (i + 1) inputs)) l) (sym joined)
    (subst (λ ps. AreMeasured instances D (root ∷ ps) (ms ++ ns)) (sym (one-below first later own inputs i p below is at_first at_later))
    (measured-append instances D (root ∷ plans_below first later (take i inputs)) (plans_run own p) ms ns front behind))

-- and of all nodes
pub measured-all : (instances : List TableInstance) (D : Tables) (repeated later : Bool) (p : Plan) (inputs : List Plan) (i : ℕ) (all : List (Option Measure)) → inputs ≡ (out-Plan p).inputs → length inputs ≤ i → later ≡ (repeated || has_subqueries (out-Plan p).node)
    → AreMeasured instances D (plan_if repeated p ∷ plans_below repeated later (take i (out-Plan p).inputs)) all → AreMeasured instances D (plans_run repeated p) all
measured-all instances D repeated later p inputs i all given end is measured =
    subst (λ ps. AreMeasured instances D ps all)
    (ap (λ xs. plan_if repeated p ∷ plans_below repeated later xs) (take_all i (out-Plan p).inputs (subst (λ xs. length xs ≤ i) given end)) ∙ ap (λ b. plan_if repeated p ∷ plans_below repeated b (out-Plan p).inputs) is ∙ sym (plans-root repeated p)) measured

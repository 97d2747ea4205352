-- What is asked of plans, from row to row.
use Rattle.std.proofs.Common.{◌≡◌, ap, sym, ◌∙◌, ℕ, suc, ◌+◌, ◌<◌, ◌≤◌, Bool, false, true, List, [], ◌∷◌, ◌++◌, length, get_or, set, slice_get, Some, take, map, arith}
use Rattle.std.proofs.lemmas.List.{length-map, take_all}
use Rattle.algebra.specs.Bags.{Env, same_on}
use Rattle.physical.specs.declared.plan.Plan.{Plan}
use Rattle.physical.specs.Outputs.{Output}
use Rattle.relations.specs.declared.relation.Relation.{Relation}
use Rattle.relations.specs.Relations.{AreOutputs, IsOutput}
use Rattle.operators.specs.Existence.{asked_output, asked_outputs}
use Rattle.operators.specs.RowReadings.{AreReadings}
use Rattle.operators.proofs.AskedOutputs.{asked-at, asked-length, asked-readings, take-next}
use Rattle.operators.proofs.MovedRows.{AreMoved, moved-again, moved-all, moved-stay, plan-at}
use Rattle.operators.proofs.PlanOutputs.{outputs-more}

module _ (f : Plan → Output) (only : List Bool) (plans : List Plan) where
  abbrev pub asked : List Output
  asked = asked_outputs only (map f plans)

  pub asked-count : length asked ≡ length plans
  asked-count = asked-length only (map f plans) ∙ length-map plans f

  asked-plan : (i : ℕ) (plan : Plan) → i < length plans → plan ≡ get_or plans i plan → slice_get asked i ≡ Some (asked_output (get_or only i false) (f plan))
  asked-plan i plan lt at = asked-at only (map f plans) i (f plan) (plan-at f plans i plan lt at)

  -- the outputs up to one
  pub asked-next : (relations more : List Relation) (i : ℕ) (b : Bool) (plan : Plan) (r : Relation) (e : Env) → i < length plans → plan ≡ get_or plans i plan → b ≡ get_or only i false → AreOutputs (take i asked) e relations
      → IsOutput (asked_output b (f plan)).columns ((asked_output b (f plan)).rows e) e r → more ≡ relations ++ r ∷ [] → AreOutputs (take (i + 1) asked) e more
  asked-next relations more i b plan r e lt at flag all is same =
      let next : take (i + 1) asked ≡ take i asked ++ asked_output b (f plan) ∷ [] =
      (let on : i + 1 ≡ suc i = omega arith in ap (λ n. take n asked) on) ∙ take-next asked i _ (asked-plan i plan lt at) ∙ ap (λ c. take i asked ++ asked_output c (f plan) ∷ []) (sym flag) in
      rw (next, same) (outputs-more (take i asked) (asked_output b (f plan)) e relations r all is)

  pub asked-every : (relations : List Relation) (i : ℕ) (e : Env) → length plans ≤ i → AreOutputs (take i asked) e relations → AreOutputs asked e relations
  asked-every relations i e le all = rw (← take_all i asked (let count = asked-count in omega (arith, count, le))) all

  -- they go to another row
  pub asked-stay : (reads : List (List ℕ)) (L : List ℕ) (relations : List Relation) (i : ℕ) (e d : Env) → i < length plans → AreReadings (map f plans) reads → L ≡ get_or reads i L → same_on L e d ≡ true
      → AreMoved i asked e d relations → AreMoved (i + 1) asked e d relations
  asked-stay reads L relations i e d lt readings at same all =
      let count = asked-count in
      let next : i + 1 ≡ suc i = omega arith in
      rw (next) (moved-stay i asked reads L e d relations (omega (arith, count, lt)) (asked-readings only (map f plans) reads readings) at same all)

  pub asked-again : (relations : List Relation) (i : ℕ) (b : Bool) (plan : Plan) (r : Relation) (e d : Env) → i < length plans → plan ≡ get_or plans i plan → b ≡ get_or only i false
      → IsOutput (asked_output b (f plan)).columns ((asked_output b (f plan)).rows d) d r → AreMoved i asked e d relations → AreMoved (i + 1) asked e d (set relations i r)
  asked-again relations i b plan r e d lt at flag is all =
      let next : i + 1 ≡ suc i = omega arith in
      rw (next) (moved-again i asked (asked_output b (f plan)) e d relations r (asked-plan i plan lt at ∙ ap (λ c. Some (asked_output c (f plan))) (sym flag)) is all)

  pub asked-all : (relations : List Relation) (i : ℕ) (e d : Env) → length plans ≤ i → AreMoved i asked e d relations → AreOutputs asked d relations
  asked-all relations i e d le all =
      let count = asked-count in
      moved-all i asked e d relations (omega (arith, count, le)) all

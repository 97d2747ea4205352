-- The plans that are offered for a goal.
use Rattle.std.specs.Prelude.{◌≡◌, ℕ, Bool, true, false, ◌&&◌, List, [], ◌∷◌, Option, Some, None}
use Rattle.query.specs.declared.query.TableInstance.{TableInstance}
use Rattle.algebra.specs.Classes.{class_columns}
use Rattle.derivation.specs.Logs.{Log, entries}
use Rattle.physical.specs.declared.plan.Plan.{Plan, fold-Plan}
use Rattle.physical.specs.declared.plan.Plan.TheOpen.{Plan-F}
use Rattle.labels.specs.declared.goal.Goal.{Goal}
use Rattle.labels.specs.Offers.{input_goals}

-- inputs, each for its goal
abbrev pub are_for : List (Goal → Bool) → List Goal → Bool
are_for [] [] = true
are_for [] (goal ∷ goals) = false
are_for (is_for ∷ inputs) [] = false
are_for (is_for ∷ inputs) (goal ∷ goals) = is_for goal && are_for inputs goals

abbrev pub are_for_some : List (Goal → Bool) → Option (List Goal) → Bool
are_for_some inputs None = false
are_for_some inputs (Some goals) = are_for inputs goals

abbrev pub offered_layer : List TableInstance → Log → (ℕ → List ℕ) → Plan-F (Goal → Bool) → Goal → Bool
offered_layer instances E cols p goal = are_for_some p.inputs (input_goals instances E cols goal p.node)

-- the root is offered at the goal, and each input of it at its own
unfoldable pub is_offered : List TableInstance → Log → (ℕ → List ℕ) → Plan → Goal → Bool
is_offered instances E cols = fold-Plan (Goal → Bool) (offered_layer instances E cols)

-- the columns of a log's classes
abbrev pub columns_in : List TableInstance → Log → ℕ → List ℕ
columns_in instances E = class_columns instances (entries E)

-- the plans that the lines of a log offer for a goal: finite trees, however deep
abbrev pub Plans : List TableInstance → Log → Goal → Plan → Type 0
Plans instances E goal p = is_offered instances E (columns_in instances E) p goal ≡ true

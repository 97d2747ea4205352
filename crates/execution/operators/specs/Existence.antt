-- Whether a plan has a row, and what conditions ask of subqueries.
use Rattle.std.specs.Prelude.{◌≡◌, ℕ, ◌==◌, Bool, true, false, not, if◌then◌else◌, List, [], ◌∷◌}
use Rattle.std.specs.List.{list_all}
use Rattle.query.specs.declared.query.TableInstance.{TableInstance}
use Rattle.query.specs.Rows.{Tables}
use Rattle.algebra.specs.declared.condition.Condition.{Condition, fold-Condition}
use Rattle.algebra.specs.declared.condition.Condition.TheOpen.{Condition-F}
use Rattle.algebra.specs.Bags.{Bag, Env, select}
use Rattle.algebra.specs.Conditions.{Passes, holds}
use Rattle.physical.specs.Indexes.{accessed_rows}
use Rattle.physical.specs.Outputs.{Output, first, no_classes}
use Rattle.operators.specs.declared.existence.Existence.{Existence}
use Rattle.operators.specs.declared.existence.Existence.TheVariants.{Always, OfInput, OfFiltered, ByIndex, OfRows}

abbrev pub has_some : {X : Type 0} → List X → Bool
has_some [] = false
has_some (x ∷ xs) = true

-- ---- what decides it

-- what a node produces of its inputs' output
abbrev pub Rows : Type 0
Rows = List TableInstance → Tables → List Output → Bag

-- whether rows are there goes by the first input, or by a table instance
abbrev pub Decides : Existence → Rows → Type 0
Decides Always R = (instances : List TableInstance) (D : Tables) (inputs : List Output) (e : Env) → has_some (R instances D inputs e) ≡ true
Decides OfInput R = (instances : List TableInstance) (D : Tables) (inputs : List Output) (e : Env) → has_some (R instances D inputs e) ≡ has_some (first inputs e)
Decides (OfFiltered C) R = (instances : List TableInstance) (D : Tables) (inputs : List Output) (e : Env) → has_some (R instances D inputs e) ≡ has_some (select (holds no_classes C.now) (first inputs) e)
Decides (ByIndex a C) R = (instances : List TableInstance) (D : Tables) (inputs : List Output) (e : Env) → has_some (R instances D inputs e) ≡ has_some (select (holds no_classes C.now) (accessed_rows instances D a) e)
Decides OfRows R = Unit {0}

-- ---- what is asked

-- whether each class of whose rows a condition asks more than whether there are any passes
abbrev pub looked_up_layer : Condition-F Passes → Passes
looked_up_layer (Condition-F.Compare c a b) p = true
looked_up_layer (Condition-F.IsNull a) p = true
looked_up_layer (Condition-F.Not c) p = c p
looked_up_layer (Condition-F.And a b cs) p = list_all (λ c. c p) (a ∷ b ∷ cs)
looked_up_layer (Condition-F.Or a b cs) p = list_all (λ c. c p) (a ∷ b ∷ cs)
looked_up_layer (Condition-F.Exists g) p = true
looked_up_layer (Condition-F.In a g k) p = p g

unfoldable pub all_looked_up : Condition → Passes
all_looked_up = fold-Condition Passes looked_up_layer

-- whether a condition asks no more of a class
abbrev pub asks_existence : ℕ → Condition → Bool
asks_existence g c = all_looked_up c (λ h. not (h == g))

abbrev pub ask_existence : List Condition → ℕ → Bool
ask_existence C g = list_all (asks_existence g) C

-- an output of which no more is asked: a row of no columns, where it has one
abbrev pub existence_output : Output → Output
existence_output x = record { columns = []; rows = λ e. if has_some (x.rows e) then e ∷ [] else [] }

abbrev pub asked_output : Bool → Output → Output
asked_output true x = existence_output x
asked_output false x = x

-- those of inputs, of some of which no more is asked
abbrev pub asked_outputs : List Bool → List Output → List Output
asked_outputs [] inputs = inputs
asked_outputs (b ∷ only) [] = []
asked_outputs (b ∷ only) (x ∷ inputs) = asked_output b x ∷ asked_outputs only inputs

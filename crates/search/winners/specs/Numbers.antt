-- Goals by number.
use Rattle.std.specs.Prelude.{◌≡◌, ℕ, Bool, true, false, List, [], length, slice_get, slice_index_or, Contains, Option, Some, None}
use Rattle.std.specs.List.{AllZip, list_all}
use Rattle.query.specs.declared.query.TableInstance.{TableInstance}
use Rattle.physical.specs.declared.plan.Node.{Node}
use Rattle.derivation.specs.Logs.{Log}
use Rattle.labels.specs.declared.goal.Goal.{Goal}
use Rattle.labels.specs.Offers.{input_goals, is_goal, same_goal}
use Rattle.winners.specs.declared.goals.Goals.{Goals}

-- each number that a goal has it keeps
abbrev pub Keeps : List Goal → List Goal → Type 0
Keeps old new = (i : ℕ) (goal : Goal) → slice_get old i ≡ Some goal → slice_get new i ≡ Some goal

-- the goals of these numbers, one after another
abbrev pub AreNumbers : List Goal → List ℕ → List Goal → Type 0
AreNumbers goals = AllZip (λ i goal. slice_get goals i ≡ Some goal)

-- no goal has two numbers
abbrev pub AreDistinct : List Goal → Type 0
AreDistinct goals = (i j : ℕ) (g h : Goal) → slice_get goals i ≡ Some g → slice_get goals j ≡ Some h → same_goal g h ≡ true → i ≡ j

abbrev pub AreGoals : Log → (ℕ → List ℕ) → List Goal → Type 0
AreGoals E cols goals = (i : ℕ) (goal : Goal) → slice_get goals i ≡ Some goal → is_goal E cols goal ≡ true

-- the goals of an offered node's inputs are goals
abbrev pub AreClosed : List TableInstance → Log → (ℕ → List ℕ) → Type 0
AreClosed instances E cols = (goal : Goal) → is_goal E cols goal ≡ true → (node : Node) (inputs : List Goal) → input_goals instances E cols goal node ≡ Some inputs → list_all (is_goal E cols) inputs ≡ true

-- what stands at a number is the goal
abbrev pub is_at : Option Goal → Goal → Bool
is_at None goal = false
is_at (Some other) goal = same_goal other goal

abbrev pub IsNotAmong : List Goal → List ℕ → Goal → Type 0
IsNotAmong goals numbers goal = (i : ℕ) → Contains numbers i → is_at (slice_get goals i) goal ≡ false

-- the numbers of each class's goals are all there
pub record IsIndexed (E : Log) (cols : ℕ → List ℕ) (g : Goals) : Type 0 where
  pub classes : length g.by_class.items ≡ length E
  pub goals : AreGoals E cols g.list.items
  pub distinct : AreDistinct g.list.items
  pub named : (i : ℕ) (goal : Goal) → slice_get g.list.items i ≡ Some goal → Contains (slice_index_or g.by_class.items goal.class []) i

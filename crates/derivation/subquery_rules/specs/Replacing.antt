-- A class in place of another one in conditions, and which columns of that one they ask for.
use Rattle.std.specs.Prelude.{ℕ, true, not, ◌||◌, ◌==◌, if◌then◌else◌, List, ◌∷◌}
use Rattle.std.specs.List.{list_all}
use Rattle.algebra.specs.declared.condition.Condition.{Condition, fold-Condition}
use Rattle.algebra.specs.declared.condition.Condition.TheOpen.{Condition-F}
use Rattle.algebra.specs.Alike.{rooted_conjuncts}
use Rattle.algebra.specs.Conditions.{Passes}

-- the input for the class, and each other class for itself
abbrev pub in_place : ℕ → ℕ → ℕ → ℕ
in_place class input g = if g == class then input else g

-- the conjuncts with the input in place of the class, in order again, each once
abbrev pub replaced : ℕ → ℕ → List Condition → List Condition
replaced class input C = rooted_conjuncts (in_place class input) C

-- ---- the columns that are asked for

abbrev pub asks_layer : ℕ → Condition-F Passes → Passes
asks_layer class (Condition-F.Compare op a b) p = true
asks_layer class (Condition-F.IsNull a) p = true
asks_layer class (Condition-F.Not c) p = c p
asks_layer class (Condition-F.And a b cs) p = list_all (λ c. c p) (a ∷ b ∷ cs)
asks_layer class (Condition-F.Or a b cs) p = list_all (λ c. c p) (a ∷ b ∷ cs)
asks_layer class (Condition-F.Exists g) p = true
asks_layer class (Condition-F.In a g k) p = not (g == class) || p k

-- whether each column of the class passes that an IN compares with its term
unfoldable pub asks : ℕ → Condition → Passes
asks class = fold-Condition Passes (asks_layer class)

abbrev pub all_ask : ℕ → List Condition → Passes
all_ask class C p = list_all (λ c. asks class c p) C

-- What conditions say of the columns of an index.
use Rattle.std.specs.Prelude.{◌≡◌, ◌<◌, ℕ, Bool, true, false, List, [], ◌∷◌, length, Option, IfSome}
use Rattle.values.specs.declared.truth.Comparison.{Comparison}
use Rattle.values.specs.declared.truth.Comparison.TheVariants.{Equal, NotEqual, Less, LessOrEqual, Greater, GreaterOrEqual}
use Rattle.values.specs.declared.value.Value.{Value}
use Rattle.values.specs.declared.value.Value.TheVariants as value
use Rattle.values.specs.Truth.{compare, is_true}
use Rattle.algebra.specs.declared.condition.Condition.{Condition}
use Rattle.algebra.specs.Bags.{Env}
use Rattle.algebra.specs.Columns.{has}
use Rattle.algebra.specs.Conditions.{holds}
use Rattle.physical.specs.Outputs.{no_classes}
use Rattle.index_access.specs.Cuts.{key_value}
use Rattle.index_access.specs.declared.bounds.Bound.{Bound}
use Rattle.index_access.specs.declared.bounds.Side.{Side}
use Rattle.index_access.specs.declared.bounds.Side.TheVariants as side

-- ---- comparisons

-- whether a comparison bounds its left side so
abbrev pub bounds : Side → Comparison → Bool
bounds side.Exact Equal = true
bounds side.Exact NotEqual = false
bounds side.Exact Less = false
bounds side.Exact LessOrEqual = false
bounds side.Exact Greater = false
bounds side.Exact GreaterOrEqual = false
bounds side.Below Equal = false
bounds side.Below NotEqual = false
bounds side.Below Less = false
bounds side.Below LessOrEqual = false
bounds side.Below Greater = true
bounds side.Below GreaterOrEqual = true
bounds side.Above Equal = false
bounds side.Above NotEqual = false
bounds side.Above Less = true
bounds side.Above LessOrEqual = true
bounds side.Above Greater = false
bounds side.Above GreaterOrEqual = false

-- whether it excludes equal sides
abbrev pub is_strict : Comparison → Bool
is_strict Equal = false
is_strict NotEqual = true
is_strict Less = true
is_strict LessOrEqual = false
is_strict Greater = true
is_strict GreaterOrEqual = false

abbrev pub is_bounded : Bound → Value → Bool
is_bounded b v = is_true (compare b.comparison v (key_value b.cell))

-- ---- rows

-- the row has its own values in these columns alone
abbrev pub IsWithin : List ℕ → Env → Env → Type 0
IsWithin own e f = (c : ℕ) → has own c ≡ false → f c ≡ e c

-- what holds of each row that passes the conditions
abbrev pub IsSure : List ℕ → List Condition → Env → (Env → Type 0) → Type 0
IsSure own conditions e P = (f : Env) → IsWithin own e f → holds no_classes conditions f ≡ true → P f

-- ---- keys

-- the row's first columns equal the key
abbrev pub Begins : Env → List ℕ → List Value → Type 0
Begins f columns [] = Unit {0}
Begins f [] (v ∷ key) = ⊥
Begins f (c ∷ columns) (v ∷ key) = (is_true (compare Equal (f c) v) ≡ true) × Begins f columns key

-- the row's value in the first column behind the key's
abbrev pub next_value : Env → List ℕ → List Value → Value
next_value f [] key = value.Null
next_value f (c ∷ columns) [] = f c
next_value f (c ∷ columns) (v ∷ key) = next_value f columns key

-- there is such a column, and its value is bounded
abbrev pub IsBounded : Env → List ℕ → List Value → Option Bound → Type 0
IsBounded f columns key bound = IfSome bound (λ b. (length key < length columns) × (is_bounded b (next_value f columns key) ≡ true))

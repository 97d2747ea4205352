-- Rows by their numbers in the order of an index, and the places between them that a key marks.
use Rattle.std.specs.Prelude.{ℕ, Bool, true, false, List, [], ◌∷◌, map}
use Rattle.std.specs.List.Sorted.{IsPermutation, IsSorted}
use Rattle.std.specs.Ordering.{nat_cmp, ordering_then, then_cmp}
use Rattle.std.specs.declared.cmp.Ordering.{Ordering}
use Rattle.std.specs.declared.cmp.Ordering.TheVariants.{Less, Equal, Greater}
use Rattle.values.specs.declared.value.Value.{Value}
use Rattle.values.specs.Cells.{value_of}
use Rattle.values.specs.Order.{order, by_keys}
use Rattle.algebra.specs.Bags.{Env}
use Rattle.index_access.specs.declared.cuts.Cut.{Cut}
use Rattle.index_access.specs.declared.cuts.KeyCell.{KeyCell}
use Rattle.index_access.specs.declared.cuts.KeyCell.TheVariants.{Literal, Around}

-- ---- the order

-- two rows by their values in a column, in the total order: Null first
abbrev pub column_order : (ℕ → Env) → ℕ → ℕ → ℕ → Ordering
column_order row c m n = order (row m c) (row n c)

-- by the columns in turn
abbrev pub columns_order : (ℕ → Env) → List ℕ → ℕ → ℕ → Ordering
columns_order row columns = by_keys (column_order row) columns

-- and where all tie by their numbers
abbrev pub number_order : (ℕ → Env) → List ℕ → ℕ → ℕ → Ordering
number_order row columns = then_cmp (columns_order row columns) nat_cmp

-- each of some numbers once, sorted
pub record AreByIndex (row : ℕ → Env) (columns all numbers : List ℕ) : Type 0 where
  pub each : IsPermutation all numbers
  pub sorted : IsSorted (number_order row columns) numbers

-- ---- cuts

-- a row against a key of the first columns, as far as the key goes
abbrev pub key_order : Env → List ℕ → List Value → Ordering
key_order f [] key = Equal
key_order f (c ∷ columns) [] = Equal
key_order f (c ∷ columns) (v ∷ key) = ordering_then (order (f c) v) (key_order f columns key)

-- what is below a cut goes before it, what equals it if the cut lies behind that
abbrev pub goes_before : Bool → Ordering → Bool
goes_before behind Less = true
goes_before behind Equal = behind
goes_before behind Greater = false

abbrev pub key_value : KeyCell → Value
key_value (Literal cell) = value_of cell
key_value (Around cell) = value_of cell

abbrev pub is_before : Cut → List ℕ → Env → Bool
is_before cut columns f = goes_before cut.behind (key_order f columns (map key_value cut.key.items))

-- Keys compared value by value.
use Rattle.std.proofs.Common.{◌≡◌, ℕ, ◌+◌, ◌<◌, ◌≤◌, length, take, get_or, Bool, true, false, not, refl, sym, ap, ◌∙◌}
use Rattle.std.proofs.lemmas.List.{take_all, take_more_same}
use Rattle.std.proofs.lemmas.Bool.{not-false}
use Rattle.std.specs.declared.cmp.Ordering.TheVariants.{Equal}
use Rattle.values.specs.declared.value.Value.{Value}
use Rattle.values.specs.declared.value.Value.TheVariants as value
use Rattle.values.specs.declared.cell.Cell.{Cell}
use Rattle.values.specs.declared.cell.Cell.TheVariants as cell
use Rattle.values.specs.Cells.{value_of}
use Rattle.values.specs.Order.{order}
use Rattle.values.proofs.Orders.{order_antisymmetric}
use Rattle.values.specs.contracts.value.ValuePartialEq.TheImpl as value_eq
use Rattle.values.specs.contracts.cell.CellPartialEq.TheImpl as cell_eq
use Rattle.schema.specs.Databases.{Row}
use Rattle.store.specs.Keys.{key_eq, key_decides, value_decides}

cell_same : (a b : Cell) → cell_eq.ghosts.eq a b ≡ value_eq.ghosts.eq (value_of a) (value_of b)
cell_same cell.Null cell.Null = refl
cell_same cell.Null (cell.Int n) = refl
cell_same cell.Null (cell.Text t) = refl
cell_same (cell.Int m) cell.Null = refl
cell_same (cell.Int m) (cell.Int n) = refl
cell_same (cell.Int m) (cell.Text t) = refl
cell_same (cell.Text s) cell.Null = refl
cell_same (cell.Text s) (cell.Int n) = refl
cell_same (cell.Text s) (cell.Text t) = refl

false_by : (b : Bool) → (b ≡ true → ⊥) → false ≡ b
false_by true h = absurd (h refl)
false_by false h = refl

no_both : (b : Bool) → b ≡ true → not b ≡ true → ⊥
no_both true t n = cc n
no_both false t n = cc t

-- cells that are found equal, or not, are the same values, or not
cells_differ : (x y : Cell) (a b : Value) → value_of x ≡ a → value_of y ≡ b → not (cell_eq.ghosts.eq x y) ≡ true → a ≡ b → ⊥
cells_differ x y a b p q n e = no_both (cell_eq.ghosts.eq x y) (cell_same x y ∙ (value_decides (value_of x) (value_of y)).1 (p ∙ e ∙ sym q)) n

cells_same : (x y : Cell) (a b : Value) → value_of x ≡ a → value_of y ≡ b → not (cell_eq.ghosts.eq x y) ≡ false → a ≡ b
cells_same x y a b p q n = sym p ∙ (value_decides (value_of x) (value_of y)).0 (sym (cell_same x y) ∙ not-false (cell_eq.ghosts.eq x y) n) ∙ q

pub keys_differ : (k l : Row) (i : ℕ) (x y : Cell) → value_of x ≡ get_or k i value.Null → value_of y ≡ get_or l i value.Null → not (cell_eq.ghosts.eq x y) ≡ true → false ≡ key_eq k l
keys_differ k l i x y p q n = false_by (key_eq k l) (λ t. cells_differ x y (get_or k i value.Null) (get_or l i value.Null) p q n (ap (λ (r : Row). get_or r i value.Null) ((key_decides k l).0 t)))

pub keys_go_on : (k l : Row) (i : ℕ) (x y : Cell) → i < length k → i < length l → value_of x ≡ get_or k i value.Null → value_of y ≡ get_or l i value.Null → not (cell_eq.ghosts.eq x y) ≡ false
    → take i k ≡ take i l → take (i + 1) k ≡ take (i + 1) l
keys_go_on k l i x y low high p q n h =
    let same : get_or k i value.Null ≡ get_or l i value.Null = cells_same x y (get_or k i value.Null) (get_or l i value.Null) p q n in
    take_more_same k l i value.Null low high h same

pub keys_same : (k l : Row) (i : ℕ) → length k ≤ i → length l ≤ i → take i k ≡ take i l → true ≡ key_eq k l
keys_same k l i low high h = sym ((key_decides k l).1 (sym (take_all i k low) ∙ h ∙ take_all i l high))

-- two cells that tie are the same value
pub keys_tie : (k l : Row) (i : ℕ) (x y : Cell) → i < length k → i < length l → value_of x ≡ get_or k i value.Null → value_of y ≡ get_or l i value.Null → order (value_of x) (value_of y) ≡ Equal
    → take i k ≡ take i l → take (i + 1) k ≡ take (i + 1) l
keys_tie k l i x y low high p q tied h =
    let same : get_or k i value.Null ≡ get_or l i value.Null = sym p ∙ order_antisymmetric (value_of x) (value_of y) tied ∙ q in
    take_more_same k l i value.Null low high h same

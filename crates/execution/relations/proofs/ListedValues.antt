-- Different values in place of all, and what is found among them.
use Rattle.std.proofs.Common.{◌≡◌, refl, ap, sym, ◌∙◌, Bool, true, false, ◌||◌, if◌then◌else◌, List, [], ◌∷◌, ◌++◌, map, fold, length}
use Rattle.std.specs.Bool.{Decides}
use Rattle.std.specs.List.{list_any}
use Rattle.std.proofs.lemmas.List.{map-append}
use Rattle.std.proofs.lemmas.List.Sums.{fold-append}
use Rattle.std.specs.declared.cmp.Ordering.{Ordering}
use Rattle.std.specs.declared.cmp.Ordering.TheVariants as ordering
use Rattle.std.specs.Ordering.{is_eq}
use Rattle.indexmap.specs.IndexSet.{insert_key}
use Rattle.values.specs.declared.cell.Cell.{Cell}
use Rattle.values.specs.declared.cell.Cell.TheVariants as cell
use Rattle.values.specs.declared.truth.Comparison.TheVariants as comparison
use Rattle.values.specs.declared.truth.Truth.{Truth}
use Rattle.values.specs.declared.truth.Truth.TheVariants.{True, False, Unknown}
use Rattle.values.specs.declared.value.Value.{Value}
use Rattle.values.specs.declared.value.Value.TheVariants as value
use Rattle.values.specs.contracts.cell.CellPartialEq.TheImpl as cell_eq
use Rattle.values.specs.Cells.{value_of}
use Rattle.values.specs.Order.{order}
use Rattle.values.specs.Truth.{admits, compare, disjunction, is_null, truth_of}
use Rattle.values.proofs.Orders.{order_antisymmetric, same_itself}
use Rattle.store.specs.Keys.{value_decides}
use Rattle.query.proofs.Truths.{true-or}
use Rattle.relations.specs.ValueLists.{among}

-- ---- cells that are equal

cells-decide : (a b : Cell) → Decides (cell_eq.ghosts.eq a b) (value_of a ≡ value_of b)
cells-decide cell.Null cell.Null = value_decides value.Null value.Null
cells-decide cell.Null (cell.Int n) = value_decides value.Null (value.Int n)
cells-decide cell.Null (cell.Text t) = value_decides value.Null (value.Text t.now)
cells-decide (cell.Int m) cell.Null = value_decides (value.Int m) value.Null
cells-decide (cell.Int m) (cell.Int n) = value_decides (value.Int m) (value.Int n)
cells-decide (cell.Int m) (cell.Text t) = value_decides (value.Int m) (value.Text t.now)
cells-decide (cell.Text s) cell.Null = value_decides (value.Text s.now) value.Null
cells-decide (cell.Text s) (cell.Int n) = value_decides (value.Text s.now) (value.Int n)
cells-decide (cell.Text s) (cell.Text t) = value_decides (value.Text s.now) (value.Text t.now)

-- ---- a truth that comes twice

twice : (a x : Truth) → disjunction (disjunction a x) x ≡ disjunction a x
twice True x = refl
twice Unknown True = refl
twice Unknown Unknown = refl
twice Unknown False = refl
twice False True = refl
twice False Unknown = refl
twice False False = refl

exchanged : (a x y : Truth) → disjunction (disjunction a x) y ≡ disjunction (disjunction a y) x
exchanged True x y = refl
exchanged Unknown True y = sym (true-or (disjunction Unknown y))
exchanged Unknown Unknown True = refl
exchanged Unknown Unknown Unknown = refl
exchanged Unknown Unknown False = refl
exchanged Unknown False True = refl
exchanged Unknown False Unknown = refl
exchanged Unknown False False = refl
exchanged False True y = sym (true-or y)
exchanged False Unknown True = refl
exchanged False Unknown Unknown = refl
exchanged False Unknown False = refl
exchanged False False True = refl
exchanged False False Unknown = refl
exchanged False False False = refl

-- a truth at the end of an OR is one at its front
put-first : (a x : Truth) (ts : List Truth) → disjunction (fold disjunction a ts) x ≡ fold disjunction (disjunction a x) ts
put-first a x [] = refl
put-first a x (t ∷ ts) = put-first (disjunction a t) x ts ∙ ap (λ b. fold disjunction b ts) (exchanged a t x)

module _ (v : Value) where
  abbrev from : Truth → List Cell → Truth
  from a cells = fold disjunction a (map (compare comparison.Equal v) (map value_of cells))

  abbrev here : Cell → Truth
  here c = compare comparison.Equal v (value_of c)

  -- a value that is there makes no difference once more
  there-again : (a : Truth) (cells : List Cell) (c : Cell) → list_any (cell_eq.ghosts.eq c) cells ≡ true → from a cells ≡ disjunction (from a cells) (here c)
  there-again a [] c is = cc is
  there-again a (k ∷ cells) c is = by (cell_eq.ghosts.eq c k) refl is (there-again (disjunction a (here k)) cells c)
    where
      Again : Type 0
      Again = from (disjunction a (here k)) cells ≡ disjunction (from (disjunction a (here k)) cells) (here c)

      by : (b : Bool) → cell_eq.ghosts.eq c k ≡ b → (b || list_any (cell_eq.ghosts.eq c) cells) ≡ true → (list_any (cell_eq.ghosts.eq c) cells ≡ true → Again) → Again
      by true is any later =
          sym (put-first (disjunction a (here k)) (here c) (map (compare comparison.Equal v) (map value_of cells))
          ∙ ap (λ t. from (disjunction (disjunction a (here k)) t) cells) (ap (compare comparison.Equal v) ((cells-decide c k).0 is))
          ∙ ap (λ t. from t cells) (twice a (here k)))
      by false is any later = later any

  -- one more value, listed unless it is there
  pub among-more : (cells : List Cell) (c : Cell) → among v (map value_of (insert_key cell_eq.ghosts.eq cells c)) ≡ disjunction (among v (map value_of cells)) (here c)
  among-more cells c = by (list_any (cell_eq.ghosts.eq c) cells) refl
    where
      by : (b : Bool) → list_any (cell_eq.ghosts.eq c) cells ≡ b → among v (map value_of (if b then cells else cells ++ c ∷ [])) ≡ disjunction (among v (map value_of cells)) (here c)
      by true is = there-again False cells c is
      by false is =
          ap (λ (vs : List Value). among v vs) (map-append value_of cells (c ∷ []))
          ∙ ap (fold disjunction False) (map-append (compare comparison.Equal v) (map value_of cells) (value_of c ∷ []))
          ∙ fold-append disjunction False (map (compare comparison.Equal v) (map value_of cells)) (here c ∷ [])

-- ---- what is found

unknown-from : (cells : List Cell) → from value.Null Unknown cells ≡ Unknown
unknown-from [] = refl
unknown-from (c ∷ cells) = unknown-from cells

-- Null equals no value, and differs from none
pub null-among : (v : Value) (cells : List Cell) → (length cells ≡ 0 → ⊥) → is_null v ≡ true → among v (map value_of cells) ≡ Unknown
null-among value.Null [] some is = absurd (some refl)
null-among value.Null (c ∷ cells) some is = unknown-from cells
null-among (value.Int n) cells some is = cc is
null-among (value.Text t) cells some is = cc is

equal-itself : (v : Value) → is_null v ≡ false → compare comparison.Equal v v ≡ True
equal-itself value.Null is = cc is
equal-itself (value.Int n) is = by (order (value.Int n) (value.Int n)) (same_itself (value.Int n))
  where
    by : (o : Ordering) → is_eq o ≡ true → truth_of (admits comparison.Equal o) ≡ True
    by ordering.Less is = cc is
    by ordering.Equal is = refl
    by ordering.Greater is = cc is
equal-itself (value.Text t) is = by (order (value.Text t) (value.Text t)) (same_itself (value.Text t))
  where
    by : (o : Ordering) → is_eq o ≡ true → truth_of (admits comparison.Equal o) ≡ True
    by ordering.Less is = cc is
    by ordering.Equal is = refl
    by ordering.Greater is = cc is

pub found-among : (c : Cell) (cells : List Cell) → is_null (value_of c) ≡ false → list_any (cell_eq.ghosts.eq c) cells ≡ true → among (value_of c) (map value_of cells) ≡ True
found-among c cells known is =
    there-again (value_of c) False cells c is ∙ ap (disjunction (among (value_of c) (map value_of cells))) (equal-itself (value_of c) known) ∙ true-or (among (value_of c) (map value_of cells))

-- ---- what is not found

unequal : (v w : Value) → is_null v ≡ false → (v ≡ w → ⊥) → compare comparison.Equal v w ≡ (if is_null w then Unknown else False)
unequal v w known other = each v w known (λ tie. other (order_antisymmetric v w tie))
  where
    by : (o : Ordering) → (o ≡ ordering.Equal → ⊥) → truth_of (admits comparison.Equal o) ≡ False
    by ordering.Less other = refl
    by ordering.Equal other = absurd (other refl)
    by ordering.Greater other = refl

    each : (v w : Value) → is_null v ≡ false → (order v w ≡ ordering.Equal → ⊥) → compare comparison.Equal v w ≡ (if is_null w then Unknown else False)
    each value.Null w is untied = cc is
    each (value.Int m) value.Null is untied = refl
    each (value.Int m) (value.Int n) is untied = by (order (value.Int m) (value.Int n)) untied
    each (value.Int m) (value.Text t) is untied = by (order (value.Int m) (value.Text t)) untied
    each (value.Text s) value.Null is untied = refl
    each (value.Text s) (value.Int n) is untied = by (order (value.Text s) (value.Int n)) untied
    each (value.Text s) (value.Text t) is untied = by (order (value.Text s) (value.Text t)) untied

null-cell : (c : Cell) → cell_eq.ghosts.eq cell.Null c ≡ is_null (value_of c)
null-cell cell.Null = refl
null-cell (cell.Int n) = refl
null-cell (cell.Text t) = refl

-- unknown if there is a Null, else false
abbrev pub by-null : Bool → Truth
by-null b = if b then Unknown else False

one-or-more : (a : Truth) (b d : Bool) → disjunction (disjunction a (by-null b)) (by-null d) ≡ disjunction a (by-null (b || d))
one-or-more True b d = refl
one-or-more Unknown true true = refl
one-or-more Unknown true false = refl
one-or-more Unknown false d = refl
one-or-more False true true = refl
one-or-more False true false = refl
one-or-more False false d = refl

not-from : (c : Cell) (a : Truth) (cells : List Cell) → is_null (value_of c) ≡ false → list_any (cell_eq.ghosts.eq c) cells ≡ false
    → from (value_of c) a cells ≡ disjunction a (by-null (list_any (cell_eq.ghosts.eq cell.Null) cells))
not-from c True [] known is = refl
not-from c Unknown [] known is = refl
not-from c False [] known is = refl
not-from c a (k ∷ cells) known is = by (cell_eq.ghosts.eq c k) refl is (not-from c (disjunction a (here (value_of c) k)) cells known)
  where
    nulls : Truth
    nulls = by-null (list_any (cell_eq.ghosts.eq cell.Null) cells)

    by : (b : Bool) → cell_eq.ghosts.eq c k ≡ b → (b || list_any (cell_eq.ghosts.eq c) cells) ≡ false
        → (list_any (cell_eq.ghosts.eq c) cells ≡ false → from (value_of c) (disjunction a (here (value_of c) k)) cells ≡ disjunction (disjunction a (here (value_of c) k)) nulls)
        → from (value_of c) (disjunction a (here (value_of c) k)) cells ≡ disjunction a (by-null (cell_eq.ghosts.eq cell.Null k || list_any (cell_eq.ghosts.eq cell.Null) cells))
    by true is any later = cc any
    by false is any later =
        let other : value_of c ≡ value_of k → ⊥ = λ e. (let t : true ≡ false = sym ((cells-decide c k).1 e) ∙ is in cc t) in
        let first : here (value_of c) k ≡ by-null (cell_eq.ghosts.eq cell.Null k) = unequal (value_of c) (value_of k) known other ∙ ap by-null (sym (null-cell k)) in
        later any ∙ ap (λ t. disjunction (disjunction a t) nulls) first ∙ one-or-more a (cell_eq.ghosts.eq cell.Null k) (list_any (cell_eq.ghosts.eq cell.Null) cells)

pub not-among : (c : Cell) (cells : List Cell) → is_null (value_of c) ≡ false → list_any (cell_eq.ghosts.eq c) cells ≡ false
    → among (value_of c) (map value_of cells) ≡ by-null (list_any (cell_eq.ghosts.eq cell.Null) cells)
not-among c cells known is = not-from c False cells known is

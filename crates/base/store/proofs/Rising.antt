-- Keys that strictly rise, those with a Null apart: none repeats another.
use Rattle.std.proofs.Common.{◌≡◌, ℕ, zero, suc, ◌+◌, ◌<◌, List, [], ◌∷◌, length, take, get_or, false, Option, Some, None, slice_index_or, refl, sym, ap, ◌∙◌, subst, arith, inl, inr, ◌⊎◌}
use Rattle.std.specs.List.{list_any}
use Rattle.std.specs.Cmp.Lexicographic.{slice_cmp, lists_total}
use Rattle.std.specs.declared.cmp.Ordering.TheVariants.{Less, Equal}
use Rattle.std.proofs.lemmas.Cmp.{tied_itself}
use Rattle.std.specs.Option.{option_map}
use Rattle.values.specs.declared.value.Value.{Value}
use Rattle.values.specs.declared.value.Value.TheVariants as value
use Rattle.values.specs.declared.cell.Cell.{Cell}
use Rattle.values.specs.Cells.{value_of}
use Rattle.values.specs.Order.{order}
use Rattle.values.specs.Truth.{is_null}
use Rattle.values.proofs.Counts.{below_or_last}
use Rattle.values.proofs.Orders.{order_total}
use Rattle.schema.specs.Databases.{Row, values_at}
use Rattle.store.specs.Tables.{UniqueTo}

-- ---- one key below another

abbrev pub Below : Row → Row → Type 0
Below k l = slice_cmp order k l ≡ Less

below_itself : (k : Row) → Below k k → ⊥
below_itself k h = let tied = tied_itself (lists_total order_total) k in cc (tied, h)

pub below_there : (k l : Row) (i : ℕ) → i < length k → i < length l → take i k ≡ take i l → order (get_or k i value.Null) (get_or l i value.Null) ≡ Less → Below k l
below_there [] l i lt low same h = absurd (omega arith)
below_there (v ∷ k) [] i lt low same h = absurd (omega arith)
below_there (v ∷ k) (w ∷ l) zero lt low same h = rw h refl
below_there (v ∷ k) (w ∷ l) (suc i) lt low same h =
    let first : v ≡ w = cc same in
    let rest : take i k ≡ take i l = cc same in
    let tied : order v w ≡ Equal = ap (order v) (sym first) ∙ tied_itself order_total v in
    rw tied (below_there k l i (omega arith) (omega arith) rest h)

-- ---- the rows up to one of them

abbrev pub key_at : List Row → List ℕ → ℕ → Row
key_at rows places j = values_at places (slice_index_or rows j [])

-- the key of each row so far is the last one, or below it
abbrev IsWithin : Option Row → Row → Type 0
IsWithin None k = ⊥
IsWithin (Some last) k = (k ≡ last) ⊎ Below k last

pub record Rises (rows : List Row) (places : List ℕ) (n : ℕ) (last : Option Row) : Type 0 where
  pub unique : UniqueTo n rows places
  pub within : (j : ℕ) → j < n → list_any is_null (key_at rows places j) ≡ false → IsWithin last (key_at rows places j)

-- a row above all that came before
rises_above : (rows : List Row) (places : List ℕ) (n : ℕ) (last : Option Row) (k : Row) → Rises rows places n last → k ≡ key_at rows places n
    → ((j : ℕ) → j < n → list_any is_null (key_at rows places j) ≡ false → Below (key_at rows places j) k) → Rises rows places (n + 1) (Some k)
rises_above rows places n last k h is above = record {
  unique = λ i j lt low whole same.
      elim (below_or_last j n low) [
        | inl below ↦ h.unique i j lt below whole same
        | inr at ↦ below_itself k (subst (λ (q : Row). Below q k) (same ∙ ap (key_at rows places) at ∙ sym is) (above i (omega arith) whole))
      ];
  within = λ j low whole.
      elim (below_or_last j n low) [
        | inl below ↦ inr (above j below whole)
        | inr at ↦ inl (ap (key_at rows places) at ∙ sym is)
      ];
}

above_last : (q last k : Row) → IsWithin (Some last) q → Below last k → Below q k
above_last q last k (inl e) h = rw e h
above_last q last k (inr e) h = (lists_total order_total).trans q last k e h

pub rises_first : (rows : List Row) (places : List ℕ) (n : ℕ) (k : Row) → Rises rows places n None → k ≡ key_at rows places n → Rises rows places (n + 1) (Some k)
rises_first rows places n k h is = rises_above rows places n None k h is (λ j low whole. absurd (h.within j low whole))

pub rises_next : (rows : List Row) (places : List ℕ) (n : ℕ) (last k : Row) → Rises rows places n (Some last) → k ≡ key_at rows places n → Below last k → Rises rows places (n + 1) (Some k)
rises_next rows places n last k h is below = rises_above rows places n (Some last) k h is (λ j low whole. above_last (key_at rows places j) last k (h.within j low whole) below)

-- ---- the same of one place

pub value_first : (rows : List Row) (place n : ℕ) (v : Value) (last : Option Cell) → Rises rows (place ∷ []) n (option_map (λ x. value_of x ∷ []) last) → last ≡ None
    → v ≡ slice_index_or (slice_index_or rows n []) place value.Null → Rises rows (place ∷ []) (n + 1) (Some (v ∷ []))
value_first rows place n v last h none is = rises_first rows (place ∷ []) n (v ∷ []) (rw none at h) (ap (λ (x : Value). x ∷ []) is)

pub value_next : (rows : List Row) (place n : ℕ) (v : Value) (before : Cell) (last : Option Cell) → Rises rows (place ∷ []) n (option_map (λ x. value_of x ∷ []) last) → last ≡ Some before
    → v ≡ slice_index_or (slice_index_or rows n []) place value.Null → order (value_of before) v ≡ Less → Rises rows (place ∷ []) (n + 1) (Some (v ∷ []))
value_next rows place n v before last h some is below =
    rises_next rows (place ∷ []) n (value_of before ∷ []) (v ∷ []) (rw some at h) (ap (λ (x : Value). x ∷ []) is) (below_there (value_of before ∷ []) (v ∷ []) 0 (omega arith) (omega arith) refl below)

-- A key of ORDER BY more.
use Rattle.std.proofs.Common.{◌≡◌, refl, ap, sym, ◌∙◌, ℕ, ◌+◌, ◌<◌, List, [], ◌∷◌, ◌++◌, length, get_or, drop, append_assoc, Some, None, add-one, drop-cons}
use Rattle.std.specs.List.{slice_get}
use Rattle.query.specs.declared.query.SortKey as order_by
use Rattle.physical.specs.declared.plan.OrderKey.{OrderKey}
use Rattle.certificate.specs.QueryOrders.{ordered_column, ordered_columns}

module _ (numbers : List ℕ) (keys : List order_by.SortKey) (i : ℕ) (d : order_by.SortKey) (at : i < length keys) (before : List OrderKey) (all : List OrderKey) (so_far : before ++ ordered_columns numbers (drop i keys) ≡ all) where
  next : drop i keys ≡ get_or keys i d ∷ drop (i + 1) keys
  next = rw (add-one, drop-cons keys i d) refl

  -- the key's item has a column
  pub ordered_more : (c : ℕ) (after : List OrderKey) → slice_get numbers (get_or keys i d).item ≡ Some c → after ≡ before ++ record { column = c; descending = (get_or keys i d).descending } ∷ []
      → after ++ ordered_columns numbers (drop (i + 1) keys) ≡ all
  ordered_more c after found is =
      ap (λ l. l ++ ordered_columns numbers (drop (i + 1) keys)) is
      ∙ append_assoc before _ _
      ∙ ap (λ l. before ++ l) (sym (ap (ordered_columns numbers) next ∙ ap (λ o. ordered_column o (get_or keys i d) (ordered_columns numbers (drop (i + 1) keys))) found))
      ∙ so_far

  -- it has none
  pub ordered_past : slice_get numbers (get_or keys i d).item ≡ None → before ++ ordered_columns numbers (drop (i + 1) keys) ≡ all
  ordered_past none =
      ap (λ l. before ++ l) (sym (ap (ordered_columns numbers) next ∙ ap (λ o. ordered_column o (get_or keys i d) (ordered_columns numbers (drop (i + 1) keys))) none)) ∙ so_far

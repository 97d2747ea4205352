-- An index of a table sorts the rows of a table instance by the instance's columns.
use Rattle.std.proofs.Common.{◌≡◌, refl, ap, sym, subst, ◌∙◌, ℕ, ◌+◌, ◌-◌, Bool, true, if◌then◌else◌, List, [], ◌∷◌, length, slice_index_or, arith}
use Rattle.std.specs.List.{range_with_len}
use Rattle.std.specs.List.Sorted.{IsSorted}
use Rattle.std.specs.declared.cmp.Ordering.{Ordering}
use Rattle.std.specs.Ordering.{nat_cmp, ordering_then}
use Rattle.std.proofs.lemmas.Bool.{and_parts}
use Rattle.values.specs.Order.{order, by_keys}
use Rattle.schema.specs.Databases.{Row}
use Rattle.store.specs.Indexes.{IsIndex, index_order, place_order}
use Rattle.query.specs.declared.query.TableInstance.{TableInstance}
use Rattle.query.specs.Rows.{value_at}
use Rattle.algebra.specs.Columns.{has, is_subset}
use Rattle.algebra.specs.Bags.{Env}
use Rattle.algebra.specs.Expressions.{instance_columns, instance_row}
use Rattle.physical.specs.Indexes.{numbered_from}
use Rattle.index_access.specs.Cuts.{AreByIndex, columns_order, number_order}

module _ (t : TableInstance) (rows : List Row) (e : Env) (row : ℕ → Env) (is : (n : ℕ) → row n ≡ instance_row t (slice_index_or rows n []) e) where
  -- the instance's column of a place has the row's value there
  place-value : (place n : ℕ) → has (instance_columns t) (t.first_column + place) ≡ true → row n (t.first_column + place) ≡ value_at place (slice_index_or rows n [])
  place-value place n own =
      let back : t.first_column + place - t.first_column ≡ place = omega arith in
      ap (λ (f : Env). f (t.first_column + place)) (is n)
      ∙ ap (λ (b : Bool). if b then value_at (t.first_column + place - t.first_column) (slice_index_or rows n []) else e (t.first_column + place)) own
      ∙ ap (λ p. value_at p (slice_index_or rows n [])) back

  places-order : (places : List ℕ) (m n : ℕ) → is_subset (numbered_from t.first_column places) (instance_columns t) ≡ true
      → by_keys (place_order rows) places m n ≡ columns_order row (numbered_from t.first_column places) m n
  places-order [] m n own = refl
  places-order (place ∷ places) m n own =
      let here = (and_parts _ _ own).0 in
      ap (λ v. ordering_then (order v (value_at place (slice_index_or rows n []))) (by_keys (place_order rows) places m n)) (sym (place-value place m here))
      ∙ ap (λ v. ordering_then (order (row m (t.first_column + place)) v) (by_keys (place_order rows) places m n)) (sym (place-value place n here))
      ∙ ap (ordering_then (order (row m (t.first_column + place)) (row n (t.first_column + place)))) (places-order places m n (and_parts _ _ own).1)

  pub index_sorts : (places numbers : List ℕ) → is_subset (numbered_from t.first_column places) (instance_columns t) ≡ true → IsIndex rows places numbers
      → AreByIndex row (numbered_from t.first_column places) (range_with_len 0 (length rows)) numbers
  index_sorts places numbers own index =
      let same : index_order rows places ≡ number_order row (numbered_from t.first_column places) =
      λ i m n. ordering_then (places-order places m n own i) (nat_cmp m n) in
      record { each = index.each; sorted = subst (λ (cmp : ℕ → ℕ → Ordering). IsSorted cmp numbers) same index.sorted }

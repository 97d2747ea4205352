-- Facts of table instances, from the schema.
use Rattle.std.proofs.Common.{◌≡◌, refl, ap, sym, ◌∙◌, subst, zero, suc, ℕ, ◌+◌, ◌-◌, ◌<◌, ◌≤◌, Bool, true, false, ◌||◌, if◌then◌else◌, nat_le, nat_lt, List, [], ◌∷◌, map, length, Some, inl, inr, slice_get, slice_index_or, arith}
use Rattle.std.specs.List.{AllByRecursion, list_any}
use Rattle.std.proofs.lemmas.Bool.{and_parts, and_from, or_cases, ltb-true, lt-ltb}
use Rattle.values.specs.declared.value.Value.{Value}
use Rattle.values.specs.declared.value.Value.TheVariants as value
use Rattle.values.specs.Order.{same}
use Rattle.values.specs.Truth.{is_null}
use Rattle.values.proofs.Orders.{same_equal}
use Rattle.schema.specs.declared.schema.Column.{Column}
use Rattle.schema.specs.declared.schema.Table.{Table}
use Rattle.schema.specs.Databases.{Row, Database, SatisfyTables, SatisfiesTable, IsUnique, FitsColumn, FitsColumns, values_at}
use Rattle.query.specs.declared.query.TableInstance.{TableInstance}
use Rattle.query.specs.Rows.{value_at}
use Rattle.algebra.specs.Columns.{has, is_subset, is_same_set}
use Rattle.algebra.specs.Bags.{Env, same_on}
use Rattle.algebra.specs.Expressions.{instance_columns, instance_row}
use Rattle.algebra.proofs.Sets.{range_has}
use Rattle.laws.specs.Keys.{count, has_null, IsWeakKey}
use Rattle.algebra.proofs.MentionedColumns.{all_has}
use Rattle.laws.proofs.KeyCounts.{count_same}
use Rattle.laws.proofs.Overlays.{in_subset}
use Rattle.props.specs.Given.{is_not_null_at, at_places}
use Rattle.props.proofs.SoundFacts.{same_on-set, null-set}

-- the rows of a table of a database that satisfies its schema
pub table-rows : (ts : List Table) (D : Database) (n : ℕ) (t : Table) → SatisfyTables ts D → slice_get ts n ≡ Some t → SatisfiesTable t (slice_index_or D n [])
table-rows [] D n t satisfies at = cc
table-rows (u ∷ ts) [] n t satisfies at = absurd satisfies
table-rows (u ∷ ts) (rows ∷ D) zero t satisfies at = let is : u ≡ t = cc in rw (← is) satisfies.0
table-rows (u ∷ ts) (rows ∷ D) (suc n) t satisfies at = table-rows ts D n t satisfies.1 at

-- ---- NOT NULL

not-null-value : (cs : List Column) (row : Row) (p : ℕ) → FitsColumns cs row → is_not_null_at cs p ≡ true → is_null (value_at p row) ≡ false
not-null-value [] row p fits is = cc
not-null-value (c ∷ cs) [] p fits is = absurd fits
not-null-value (c ∷ cs) (v ∷ row) zero fits is = at v fits.0
  where
    at : (v : Value) → FitsColumn c v → is_null v ≡ false
    at value.Null fits = absurd (cc (fits, is))
    at (value.Int n) fits = refl
    at (value.Text t) fits = refl
not-null-value (c ∷ cs) (v ∷ row) (suc p) fits is = not-null-value cs row p fits.1 is

not-null-place : (cs : List Column) (p : ℕ) → is_not_null_at cs p ≡ true → nat_lt p (length cs) ≡ true
not-null-place [] p is = cc
not-null-place (c ∷ cs) zero is = lt-ltb 0 (length (c ∷ cs)) (omega arith)
not-null-place (c ∷ cs) (suc p) is = let later : p < length cs = ltb-true _ _ (not-null-place cs p is) in lt-ltb (suc p) (length (c ∷ cs)) (omega (arith, later))

module _ (t : TableInstance) (e : Env) where
  pub not-null-rows : (rows : List Row) → AllByRecursion (FitsColumns t.entry.columns) rows → (c : ℕ) → nat_le t.first_column c ≡ true → is_not_null_at t.entry.columns (c - t.first_column) ≡ true
      → count (λ r. is_null (r c)) (map (λ row. instance_row t row e) rows) ≡ 0
  not-null-rows [] fits c le is = refl
  not-null-rows (row ∷ rows) fits c le is =
      let there : has (instance_columns t) c ≡ true = range_has t.first_column (length t.entry.columns) c ∙ and_from _ _ le (not-null-place t.entry.columns (c - t.first_column) is) in
      let later : count (λ r. is_null (r c)) (map (λ row. instance_row t row e) rows) ≡ 0 = not-null-rows rows fits.1 c le is in
      ap (λ b. (if b then 1 else 0) + count (λ r. is_null (r c)) (map (λ row. instance_row t row e) rows)) ((rw there refl) ∙ not-null-value t.entry.columns row (c - t.first_column) fits.0 is)
      ∙ omega (arith, later)

-- ---- unique lists

-- how many rows of a table pass
abbrev passing : (Row → Bool) → List Row → ℕ
passing p [] = 0
passing p (row ∷ rows) = (if p row then 1 else 0) + passing p rows

none-passes : (p : Row → Bool) (rows : List Row) → ((j : ℕ) → j < length rows → p (slice_index_or rows j []) ≡ true → ⊥) → passing p rows ≡ 0
none-passes p [] never = refl
none-passes p (row ∷ rows) never = by (p row) refl (none-passes p rows (λ j below passes. never (suc j) (omega (arith, below)) passes))
  where
    by : (b : Bool) → p row ≡ b → passing p rows ≡ 0 → (if b then 1 else 0) + passing p rows ≡ 0
    by true is later = absurd (never 0 (omega arith) is)
    by false is later = omega (arith, later)

-- rows of which no two pass
one-passes : (p : Row → Bool) (rows : List Row) → ((i j : ℕ) → i < j → j < length rows → p (slice_index_or rows i []) ≡ true → p (slice_index_or rows j []) ≡ true → ⊥) → passing p rows ≤ 1
one-passes p [] never = omega arith
one-passes p (row ∷ rows) never =
    by (p row) refl (λ first. none-passes p rows (λ j below passes. never 0 (suc j) (omega arith) (omega (arith, below)) first passes))
    (one-passes p rows (λ i j before below. never (suc i) (suc j) (omega (arith, before)) (omega (arith, below))))
  where
    by : (b : Bool) → p row ≡ b → (p row ≡ true → passing p rows ≡ 0) → passing p rows ≤ 1 → (if b then 1 else 0) + passing p rows ≤ 1
    by true is none later = let others : passing p rows ≡ 0 = none is in omega (arith, others)
    by false is none later = omega (arith, later)

module _ (t : TableInstance) (r e : Env) where
  -- the values of a row that is the same as r in the columns
  key-values : (places : List ℕ) → is_subset (at_places t places) (instance_columns t) ≡ true → (row : Row) → same_on (at_places t places) r (instance_row t row e) ≡ true
      → values_at places row ≡ map (λ p. r (t.first_column + p)) places
  key-values [] in_ row agree = refl
  key-values (p ∷ places) in_ row agree =
      let here = and_parts (has (instance_columns t) (t.first_column + p)) (is_subset (at_places t places) (instance_columns t)) in_ in
      let parts = and_parts (same (r (t.first_column + p)) (instance_row t row e (t.first_column + p))) (same_on (at_places t places) r (instance_row t row e)) agree in
      let place : (t.first_column + p) - t.first_column ≡ p = omega arith in
      let read : instance_row t row e (t.first_column + p) ≡ value_at p row = rw here.0 (ap (λ k. value_at k row) place) in
      cons (sym (same_equal _ _ parts.0 ∙ read)) (key-values places here.1 row parts.1)
    where
      cons : {v w : Value} {vs ws : List Value} → v ≡ w → vs ≡ ws → v ∷ vs ≡ w ∷ ws
      cons g h = rw (g, h) refl

  null-values : (places : List ℕ) → list_any is_null (map (λ p. r (t.first_column + p)) places) ≡ has_null (at_places t places) r
  null-values [] = refl
  null-values (p ∷ places) = ap (λ b. is_null (r (t.first_column + p)) || b) (null-values places)

  counted : (L : List ℕ) (rows : List Row) → count (same_on L r) (map (λ row. instance_row t row e) rows) ≡ passing (λ row. same_on L r (instance_row t row e)) rows
  counted L [] = refl
  counted L (row ∷ rows) = ap (λ n. (if same_on L r (instance_row t row e) then 1 else 0) + n) (counted L rows)

  unique-once : (rows : List Row) (places : List ℕ) → IsUnique rows places → is_subset (at_places t places) (instance_columns t) ≡ true → has_null (at_places t places) r ≡ false
      → count (same_on (at_places t places) r) (map (λ row. instance_row t row e) rows) ≤ 1
  unique-once rows places unique within full =
      let values : (row : Row) → same_on (at_places t places) r (instance_row t row e) ≡ true → values_at places row ≡ map (λ p. r (t.first_column + p)) places = key-values places within in
      let one : passing (λ row. same_on (at_places t places) r (instance_row t row e)) rows ≤ 1 = one-passes (λ row. same_on (at_places t places) r (instance_row t row e)) rows (λ i j before below first second.
      unique i j before below (ap (list_any is_null) (values (slice_index_or rows i []) first) ∙ null-values places ∙ full)
      (values (slice_index_or rows i []) first ∙ sym (values (slice_index_or rows j []) second))) in
      rw (counted (at_places t places) rows) one

-- a key of the columns of a unique list
pub unique-key : (t : TableInstance) (rows : List Row) (L : List ℕ) (lists : List (List ℕ)) → AllByRecursion (IsUnique rows) lists → list_any (λ places. is_same_set L (at_places t places)) lists ≡ true
    → is_subset L (instance_columns t) ≡ true → IsWeakKey L (λ e. map (λ row. instance_row t row e) rows)
unique-key t rows L [] unique none within = cc
unique-key t rows L (places ∷ lists) unique some within = elim (or_cases (is_same_set L (at_places t places)) (list_any (λ places. is_same_set L (at_places t places)) lists) some) [
  | inl here ↦ λ e r full.
      let sides = and_parts (is_subset L (at_places t places)) (is_subset (at_places t places) L) here in
      let there : is_subset (at_places t places) (instance_columns t) ≡ true = all_has (λ k. has (instance_columns t) k) (at_places t places) (λ k in_. in_subset L (instance_columns t) within k (in_subset (at_places t places) L sides.1 k in_)) in
      subst (λ n. n ≤ 1) (sym (count_same _ _ (λ s. same_on-set L (at_places t places) here r s) (map (λ row. instance_row t row e) rows)))
      (unique-once t r e rows places unique.0 there (sym (null-set L (at_places t places) here r) ∙ full))
  | inr later ↦ unique-key t rows L lists unique.1 later within
]

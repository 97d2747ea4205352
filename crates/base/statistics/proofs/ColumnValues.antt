-- A column's values, as a loop over the rows comes to them, and the marks at their slots.
use Rattle.std.proofs.Common.{◌≡◌, refl, sym, ap, ◌∙◌, ℕ, zero, suc, ◌+◌, ◌-◌, ◌<◌, Bool, true, false, cond, not, max, List, [], ◌∷◌, ◌++◌, length, map, filter, take, slice_index_or, append-nil, arith}
use Rattle.std.proofs.Math.ListN.{set}
use Rattle.std.specs.List.{AllByRecursion, count_by}
use Rattle.std.specs.Set.{is_member}
use Rattle.std.specs.Prelude.{nat_eq}
use Rattle.std.proofs.lemmas.List.{length-append, length-map, map-append, take_more}
use Rattle.std.proofs.lemmas.List.Elements.{filter-append}
use Rattle.std.proofs.lemmas.List.Filters.{length-filter_both}
use Rattle.std.proofs.lemmas.List.Sums.{sum_by-cons, length-filter}
use Rattle.values.specs.declared.value.Value.{Value}
use Rattle.values.specs.declared.value.Value.TheVariants as value
use Rattle.values.specs.Short.{IsShort}
use Rattle.values.specs.Truth.{is_null}
use Rattle.values.proofs.Lists.{all_at}
use Rattle.schema.specs.declared.schema.Column.{Column}
use Rattle.schema.specs.declared.schema.Table.{Table}
use Rattle.schema.specs.Databases.{Row, FitsColumn, FitsColumns, SatisfiesTable}
use Rattle.statistics.specs.ColumnKeys.{values_in, AreShort, number_of, slot_at, slots_of, AreMarked, estimate, estimated_keys}
use Rattle.statistics.specs.UniqueLists.{is_null_at, is_not_null_at}
use Rattle.statistics.proofs.Marks.{mark_next, marks_counted}
use Rattle.statistics.proofs.UniqueRows.{not_null_value}

abbrev value_at : ℕ → List Row → ℕ → Value
value_at place rows i = slice_index_or (slice_index_or rows i []) place value.Null

-- ---- a row more

-- the row's value, unless it is Null
abbrev one : Value → List Value
one v = filter (λ w. not (is_null w)) (v ∷ [])

values_more : (place : ℕ) (rows : List Row) (i : ℕ) → i < length rows → values_in place (take (i + 1) rows) ≡ values_in place (take i rows) ++ one (value_at place rows i)
values_more place rows i low =
    let r : Row = slice_index_or rows i [] in
    let whole : Value → Bool = λ v. not (is_null v) in
    let value_in : Row → Value = λ row. slice_index_or row place value.Null in
    ap (values_in place) (take_more rows i [] low) ∙ ap (filter whole) (map-append value_in (take i rows) (r ∷ [])) ∙ filter-append whole (map value_in (take i rows)) (value_in r ∷ [])

module _ (place : ℕ) (rows : List Row) (i : ℕ) (low : i < length rows) where
  one_null : (v : Value) → is_null v ≡ true → one v ≡ []
  one_null value.Null e = refl
  one_null (value.Int n) e = cc e
  one_null (value.Text t) e = cc e

  one_whole : (v : Value) → is_null v ≡ false → one v ≡ v ∷ []
  one_whole value.Null e = cc e
  one_whole (value.Int n) e = refl
  one_whole (value.Text t) e = refl

  pub null_more : (v : Value) → value_at place rows i ≡ v → is_null v ≡ true → values_in place (take (i + 1) rows) ≡ values_in place (take i rows)
  null_more v is null = values_more place rows i low ∙ ap (λ vs. values_in place (take i rows) ++ vs) (ap one is ∙ one_null v null) ∙ append-nil (values_in place (take i rows))

  pub whole_more : (v : Value) → value_at place rows i ≡ v → is_null v ≡ false → values_in place (take (i + 1) rows) ≡ values_in place (take i rows) ++ v ∷ []
  whole_more v is whole = values_more place rows i low ∙ ap (λ vs. values_in place (take i rows) ++ vs) (ap one is ∙ one_whole v whole)

  -- the slot of one value more is marked
  pub marked_more : (slots k : ℕ) (v : Value) (marks : List Bool) → value_at place rows i ≡ v → is_null v ≡ false → k ≡ slot_at slots (number_of v) → k < length marks
      → AreMarked slots (values_in place (take i rows)) marks → AreMarked slots (values_in place (take (i + 1) rows)) (set marks k true)
  marked_more slots k v marks is whole at lt before s =
      let slot : Value → ℕ = λ w. slot_at slots (number_of w) in
      let so_far : List Value = values_in place (take i rows) in
      mark_next (slots_of slots so_far) marks k lt before s
      ∙ ap (λ ks. is_member nat_eq ks s) (ap (λ (x : ℕ). slots_of slots so_far ++ x ∷ []) at ∙ sym (ap (map slot) (whole_more v is whole) ∙ map-append slot so_far (v ∷ [])))

  pub length_more : (v : Value) (n : ℕ) → value_at place rows i ≡ v → is_null v ≡ false → n ≡ length (values_in place (take i rows)) → n + 1 ≡ length (values_in place (take (i + 1) rows))
  length_more v n is whole e =
      let size = ap length (whole_more v is whole) ∙ length-append (values_in place (take i rows)) (v ∷ []) in
      omega (arith, size, e)

-- ---- how many there are

-- with the Nulls they are as many as the rows
values_and_nulls : (place : ℕ) (rows : List Row) → length (values_in place rows) + count_by (is_null_at place) rows ≡ length rows
values_and_nulls place rows =
    let value_in : Row → Value = λ row. slice_index_or row place value.Null in
    let whole : Value → Bool = λ v. not (is_null v) in
    let both = length-filter_both whole is_null twice (map value_in rows) in
    let nulls = length-filter is_null (map value_in rows) in
    let seen : count_by is_null (map value_in rows) ≡ count_by (is_null_at place) rows = fold-map_of rows in
    omega (arith, both, nulls, seen, length-map rows value_in)
  where
    twice : (v : Value) → is_null v ≡ not (not (is_null v))
    twice v = elim (is_null v) as (λ b. b ≡ not (not b)) [ true ↦ refl | false ↦ refl ]

    fold-map_of : (rows : List Row) → count_by is_null (map (λ row. slice_index_or row place value.Null) rows) ≡ count_by (is_null_at place) rows
    fold-map_of [] = refl
    fold-map_of (r ∷ rows) =
        let here = sum_by-cons (λ x. cond (is_null x) 1 0) (slice_index_or r place value.Null) (map (λ row. slice_index_or row place value.Null) rows) in
        let there = sum_by-cons (λ x. cond (is_null_at place x) 1 0) r rows in
        let rest = fold-map_of rows in
        omega (arith, here, there, rest)

pub values_counted : (place : ℕ) (rows : List Row) (n : ℕ) → n ≡ count_by (is_null_at place) rows → length rows - n ≡ length (values_in place rows)
values_counted place rows n is = let all = values_and_nulls place rows in omega (arith, all, is)

-- where no row has a Null
pub all_whole : (cs : List Column) (place : ℕ) (rows : List Row) → is_not_null_at cs place ≡ true → AllByRecursion (FitsColumns cs) rows → length rows ≡ length (values_in place rows)
all_whole cs place [] is fit = refl
all_whole cs place (r ∷ rows) is fit =
    let whole = not_null_value cs r place fit.0 is in
    let rest = all_whole cs place rows is fit.1 in
    rw whole (ap suc rest)

-- ---- their numbers

short_value : (cs : List Column) (row : Row) (p : ℕ) → FitsColumns cs row → IsShort (slice_index_or row p value.Null)
short_value [] [] p fits = tt
short_value [] (v ∷ row) p fits = absurd fits
short_value (c ∷ cs) [] p fits = absurd fits
short_value (c ∷ cs) (v ∷ row) zero fits = at v fits.0
  where
    at : (v : Value) → FitsColumn c v → IsShort v
    at value.Null fits = tt
    at (value.Int n) fits = fits.1
    at (value.Text t) fits = tt
short_value (c ∷ cs) (v ∷ row) (suc p) fits = short_value cs row p fits.1

pub are_short : (t : Table) (rows : List Row) (place : ℕ) → SatisfiesTable t rows → AreShort place rows
are_short t rows place h row low = short_value t.columns (slice_index_or rows row []) place (all_at (FitsColumns t.columns) rows row [] low h.fit)

-- ---- the estimate

pub estimated : (place : ℕ) (rows : List Row) (slots marked n : ℕ) (marks : List Bool) → slots ≡ max (length rows) 1 → AreMarked slots (values_in place rows) marks → marked ≡ count_by (λ m. m) marks
    → n ≡ length (values_in place rows) → estimate slots marked n ≡ estimated_keys place rows
estimated place rows slots marked n marks size are counted is = rw (is, counted, marks_counted marks (slots_of slots (values_in place rows)) are, size) refl

-- Readings of rows: what stays so where more is free, and what is known of inputs and classes.
use Rattle.std.proofs.Common.{◌≡◌, refl, ap, sym, ◌∙◌, subst, inl, inr, ℕ, ◌==◌, Bool, true, false, not, if◌then◌else◌, filter, List, [], ◌∷◌, ◌++◌, map, drop, slice_get, Some, Result, Ok, Err, IfOk}
use Rattle.std.proofs.lemmas.Bool.{or_left, or_right, or_cases, eqb-true, false≢true}
use Rattle.query.specs.declared.query.TableInstance.{TableInstance}
use Rattle.query.specs.Rows.{Tables}
use Rattle.algebra.specs.Columns.{ColumnSet, has}
use Rattle.algebra.specs.Bags.{Bag}
use Rattle.algebra.specs.Expressions.{Classes, get_columns, get_rows}
use Rattle.algebra.proofs.Lists.{two}
use Rattle.algebra.proofs.Puts.{among-append}
use Rattle.algebra.proofs.Sets.{has-rising}
use Rattle.physical.specs.declared.plan.Node.{Node}
use Rattle.physical.specs.declared.plan.Plan.{Plan, out-Plan, fold_out-Plan}
use Rattle.physical.specs.Outputs.{Output, first_columns, second_columns, first, rest, subquery_rows, node_columns, node_rows, output_layer, plan_output, output_rows}
use Rattle.laws.specs.Fitting.{Fits, AreFitting}
use Rattle.laws.proofs.Expressions.{get-fits}
use Rattle.laws.proofs.Overlays.{more_free}
use Rattle.plan_reads.specs.declared.readings.Reading.{Reading}
use Rattle.plan_reads.specs.Readings.{IsReading, AreReadings, no_reading, reading_or_none, input_at, also_reading, beside, given, class_columns, class_free}

pub if_ok : {T E : Type 0} {P Q : T → Type 0} (r : Result T E) → ((x : T) → P x → Q x) → IfOk r P → IfOk r Q
if_ok (Ok x) to p = to x p
if_ok (Err e) to p = tt

-- readings with equal columns
pub restated : (K : List ℕ) (x : Bag) (r : Reading) (columns free : List ℕ) → columns ≡ r.columns → free ≡ r.free → IsReading K x r → IsReading K x (record { columns = columns; free = free })
restated K x r columns free columns_are free_are is = subst (IsReading K x) (two (λ L M. let s : Reading = record { columns = L; free = M } in s) (sym columns_are) (sym free_are)) is

-- ---- more free columns

-- of a list the columns that a set lacks
has-lacking : (X : ColumnSet) (read : List ℕ) (k : ℕ) → X k ≡ false → has read k ≡ true → has (filter (λ c. not (X c)) read) k ≡ true
has-lacking X [] k out in_ = in_
has-lacking X (c ∷ read) k out in_ = by (X c) refl (has-lacking X read k out)
  where
    by : (b : Bool) → X c ≡ b → (has read k ≡ true → has (filter (λ c. not (X c)) read) k ≡ true) → has (if not b then c ∷ filter (λ c. not (X c)) read else filter (λ c. not (X c)) read) k ≡ true
    by true is later = elim (or_cases (c == k) (has read k) in_) [
      | inl same ↦ absurd (false≢true (sym out ∙ ap X (sym (eqb-true c k same)) ∙ is))
      | inr there ↦ later there
    ]
    by false is later = elim (or_cases (c == k) (has read k) in_) [
      | inl same ↦ or_left _ _ same
      | inr there ↦ or_right (c == k) _ (later there)
    ]

-- what was free is
pub also-free : (r : Reading) (read : List ℕ) (k : ℕ) → has r.free k ≡ true → has (also_reading r read).free k ≡ true
also-free r read k in_ = has-rising k _ ∙ among-append k r.free _ ∙ or_left _ _ in_

pub also-still : (K : List ℕ) (x : Bag) (r : Reading) (read : List ℕ) → IsReading K x r → IsReading K x (also_reading r read)
also-still K x r read is = record {
  columns_are = is.columns_are;
  rows_fit = more_free (has K) (has r.free) (has (also_reading r read).free) x (also-free r read) is.rows_fit;
}

-- a column that is read is one of the rows' or free
pub also-lacking : (r : Reading) (read : List ℕ) (k : ℕ) → has read k ≡ true → has r.columns k ≡ false → has (also_reading r read).free k ≡ true
also-lacking r read k in_ out = has-rising k _ ∙ among-append k r.free _ ∙ or_right (has r.free k) _ (has-lacking (has r.columns) read k out in_)

pub also-known : (K : List ℕ) (x : Bag) (r : Reading) (read : List ℕ) → IsReading K x r → (k : ℕ) → has read k ≡ true → has K k ≡ false → has (also_reading r read).free k ≡ true
also-known K x r read is k in_ out = also-lacking r read k in_ (ap (λ L. has L k) is.columns_are ∙ out)

pub beside-left : (r s : Reading) (k : ℕ) → has r.free k ≡ true → has (beside r s).free k ≡ true
beside-left r s k in_ = has-rising k _ ∙ among-append k r.free s.free ∙ or_left _ _ in_

pub beside-right : (r s : Reading) (k : ℕ) → has s.free k ≡ true → has (beside r s).free k ≡ true
beside-right r s k in_ = has-rising k _ ∙ among-append k r.free s.free ∙ or_right (has r.free k) _ in_

-- ---- inputs

none-reads : IsReading [] (λ e. []) no_reading
none-reads = record { columns_are = refl; rows_fit = λ e d on. refl }

pub first-reads : (all : List Output) (readings : List Reading) → AreReadings all readings → IsReading (first_columns (map (λ x. x.columns) all)) (first all) (input_at readings 0)
first-reads [] [] are = none-reads
first-reads [] (r ∷ readings) are = absurd are
first-reads (x ∷ all) [] are = absurd are
first-reads (x ∷ all) (r ∷ readings) are = are.0

pub second-reads : (all : List Output) (readings : List Reading) → AreReadings all readings → IsReading (second_columns (map (λ x. x.columns) all)) (first (rest all)) (input_at readings 1)
second-reads [] [] are = none-reads
second-reads [] (r ∷ readings) are = absurd are
second-reads (x ∷ all) [] are = absurd are
second-reads (x ∷ all) (r ∷ readings) are = first-reads all readings are.1

pub rest-reads : (all : List Output) (readings : List Reading) → AreReadings all readings → AreReadings (rest all) (drop 1 readings)
rest-reads [] [] are = tt
rest-reads [] (r ∷ readings) are = absurd are
rest-reads (x ∷ all) [] are = absurd are
rest-reads (x ∷ all) (r ∷ readings) are = are.1

pub readings-more : (all : List Output) (x : Output) (readings : List Reading) (r : Reading) → AreReadings all readings → IsReading x.columns x.rows r → AreReadings (all ++ x ∷ []) (readings ++ r ∷ [])
readings-more [] x [] r are is = (is, tt)
readings-more [] x (s ∷ readings) r are is = absurd are
readings-more (y ∷ all) x [] r are is = absurd are
readings-more (y ∷ all) x (s ∷ readings) r are is = (are.0, readings-more all x readings r are.1 is)

-- ---- classes

abbrev pub given_classes : List ℕ → List Output → List Reading → Classes
given_classes classes all readings = record { rows = subquery_rows classes all; columns = class_columns classes readings; free = class_free classes readings }

pub classes-fit : (classes : List ℕ) (all : List Output) (readings : List Reading) → AreReadings all readings → AreFitting (given_classes classes all readings)
classes-fit [] all readings are h = λ e d on. refl
classes-fit (g ∷ classes) [] [] are h = λ e d on. refl
classes-fit (g ∷ classes) [] (r ∷ readings) are h = absurd are
classes-fit (g ∷ classes) (x ∷ all) [] are h = absurd are
classes-fit (g ∷ classes) (x ∷ all) (r ∷ readings) are h =
    by (g == h) (subst (λ L. Fits (has L) (has r.free) x.rows) (sym are.0.columns_are) are.0.rows_fit) (classes-fit classes all readings are.1 h)
  where
    by : (b : Bool) → Fits (has r.columns) (has r.free) x.rows → Fits (has (class_columns classes readings h)) (class_free classes readings h) (subquery_rows classes all h)
        → Fits (has (reading_or_none (if b then Some r else given classes readings h)).columns) (has (reading_or_none (if b then Some r else given classes readings h)).free) (if b then x.rows else subquery_rows classes all h)
    by true here later = here
    by false here later = later

-- ---- tables

pub table-reads : (instances : List TableInstance) (o : ℕ) (D : Tables) (columns free : List ℕ) → columns ≡ get_columns (slice_get instances o) → IsReading (get_columns (slice_get instances o)) (get_rows (slice_get instances o) D) (record { columns = columns; free = free })
table-reads instances o D columns free are = record { columns_are = are; rows_fit = get-fits (slice_get instances o) D (has free) }

-- ---- plans, by their root's node

abbrev pub node_output : List TableInstance → Tables → Node → List Output → Output
node_output instances D node all = record { columns = node_columns instances node (map (λ x. x.columns) all); rows = node_rows instances D node all }

pub plan-reads : (instances : List TableInstance) (D : Tables) (p : Plan) (node : Node) (inputs : List Plan) (r : Reading) → (out-Plan p).node ≡ node → inputs ≡ (out-Plan p).inputs
    → IsReading (node_columns instances node (map (λ x. x.columns) (map (plan_output instances D) inputs))) (node_rows instances D node (map (plan_output instances D) inputs)) r → IsReading (plan_output instances D p).columns (output_rows instances D p) r
unfolding plan_output
plan-reads instances D p node inputs r is given =
    subst (λ (x : Output). IsReading x.columns x.rows r) (two (node_output instances D) (sym is) (ap (map (plan_output instances D)) given) ∙ sym (fold_out-Plan Output (output_layer instances D) p))

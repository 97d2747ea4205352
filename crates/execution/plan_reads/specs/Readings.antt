-- What is known of rows: their columns, and the columns of the environment on which they depend.
use Rattle.std.specs.Prelude.{◌≡◌, ℕ, ◌==◌, not, if◌then◌else◌, List, [], ◌∷◌, ◌++◌, filter, slice_get, Option, Some, None}
use Rattle.algebra.specs.declared.condition.Condition.{Condition}
use Rattle.algebra.specs.Columns.{ColumnSet, has, rising}
use Rattle.algebra.specs.Bags.{Bag}
use Rattle.physical.specs.declared.plan.Matching.{Matching}
use Rattle.physical.specs.declared.plan.Matching.TheVariants.{Inner, Left, Semi, Anti}
use Rattle.physical.specs.Outputs.{Output}
use Rattle.laws.specs.Fitting.{Fits}
use Rattle.plan_reads.specs.declared.readings.Reading.{Reading}

-- rows have these columns, and in environments that read the same in the free columns they are the same but for the environment
pub record IsReading (columns : List ℕ) (rows : Bag) (r : Reading) : Type 0 where
  pub columns_are : r.columns ≡ columns
  pub rows_fit : Fits (has columns) (has r.free) rows

-- so it is of each input
abbrev pub AreReadings : List Output → List Reading → Type 0
AreReadings [] [] = Unit {0}
AreReadings [] (r ∷ readings) = ⊥
AreReadings (x ∷ inputs) [] = ⊥
AreReadings (x ∷ inputs) (r ∷ readings) = IsReading x.columns x.rows r × AreReadings inputs readings

abbrev pub no_reading : Reading
no_reading = record { columns = []; free = [] }

abbrev pub reading_or_none : Option Reading → Reading
reading_or_none None = no_reading
reading_or_none (Some r) = r

-- an input's; there is none of an input that isn't there
abbrev pub input_at : List Reading → ℕ → Reading
input_at inputs n = reading_or_none (slice_get inputs n)

-- the same rows, of which these columns are read: those that they lack are free too
abbrev pub also_reading : Reading → List ℕ → Reading
also_reading r read = record { columns = r.columns; free = rising (r.free ++ filter (λ c. not (has r.columns c)) read) }

-- the columns of both, and what either reads
abbrev pub beside : Reading → Reading → Reading
beside r s = record { columns = rising (r.columns ++ s.columns); free = rising (r.free ++ s.free) }

-- ---- classes of which readings are known, one for each

abbrev pub given : List ℕ → List Reading → ℕ → Option Reading
given [] readings h = None
given (g ∷ classes) [] h = None
given (g ∷ classes) (r ∷ readings) h = if g == h then Some r else given classes readings h

-- the columns of a class, and its free columns
abbrev pub class_columns : List ℕ → List Reading → ℕ → List ℕ
class_columns classes readings g = (reading_or_none (given classes readings g)).columns

abbrev pub class_free : List ℕ → List Reading → ℕ → ColumnSet
class_free classes readings g = has (reading_or_none (given classes readings g)).free

-- the conditions of a join
abbrev pub matching_conditions : Matching → List Condition
matching_conditions (Inner C) = C
matching_conditions (Left C) = C
matching_conditions (Semi C) = C
matching_conditions (Anti S M) = S ++ M

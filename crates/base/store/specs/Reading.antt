-- What a CSV reader has still to give.
use Rattle.std.specs.Prelude.{◌≡◌, ◌<◌, ℕ, List, [], ◌∷◌, length, Option, Some, Bool, true, false}
use Rattle.csv.specs.Machine.{ends_at_end}
use Rattle.csv.specs.Reading.{Ready, default_config, reader_config, reader_trim, reader_state, records_from, source_of, is_flexible}
use Rattle.csv.specs.declared.reader.Reader.{Reader}
use Rattle.csv.specs.declared.reader.Trim.TheVariants as trim
use Rattle.store.specs.Tables.{Record}

-- a reader with the defaults gives these records, and no more
pub record Remains {R : Type 0} (rem : R → Option (List ℕ)) (reader : Reader R) (rest : List Record) : Type 0 where
  pub bytes : List ℕ
  pub turns : ℕ
  pub trim : reader_trim reader ≡ trim.None
  pub ready : Ready reader
  pub config : reader_config reader ≡ default_config
  pub flexible : is_flexible reader ≡ true
  pub source : source_of rem reader ≡ Some bytes
  pub between : ends_at_end (reader_state reader) ≡ false
  pub enough : length bytes < turns
  pub rest_is : records_from default_config turns (reader_state reader) bytes ≡ rest

-- the first of these was given, or there was none; what holds of the others
abbrev pub NextOf : List Record → Bool → Record → (List Record → Type 0) → Type 0
NextOf [] found fields holds = found ≡ false
NextOf (r ∷ rs) found fields holds = (found ≡ true) × (fields ≡ r) × holds rs

-- The text of an answer, over csv's own words (this project's profile of Null and of texts that look like it).
use Rattle.std.specs.Prelude.{◌≡◌, ℕ, List, [], ◌∷◌, ◌++◌, map, Option}
use Rattle.std.specs.Io.KnownBytes.{Appends}
use Rattle.csv.specs.Writing.{default_writer, row_text}
use Rattle.schema.specs.Databases.{Row}
use Rattle.store.specs.Fields.{field_of}

-- a row's record
abbrev pub record_text : Row → List ℕ
record_text r = row_text default_writer (map field_of r)

-- a record a row
abbrev pub rows_text : List Row → List ℕ
rows_text [] = []
rows_text (r ∷ rs) = record_text r ++ rows_text rs

-- the names as a header, and the rows
abbrev pub answer_text : List (List ℕ) → List Row → List ℕ
answer_text names rows = row_text default_writer names ++ rows_text rows

-- some beginning of the text was added
abbrev pub HasFront : Option (List ℕ) → Option (List ℕ) → List ℕ → Type 0
HasFront old new text = (front rest : List ℕ) × (text ≡ front ++ rest) × Appends old new front

-- a beginning of the text was added, and what is left of it is gathered
abbrev pub IsGathered : Option (List ℕ) → Option (List ℕ) → List ℕ → List ℕ → Type 0
IsGathered old new text gathered = (sent : List ℕ) × (text ≡ sent ++ gathered) × Appends old new sent

-- so it is, and the records of the rows to come are all that the whole text still lacks
abbrev pub IsUnderWay : Option (List ℕ) → Option (List ℕ) → List ℕ → List Row → List ℕ → Type 0
IsUnderWay old new gathered to_come text = (sent : List ℕ) × (text ≡ sent ++ (gathered ++ rows_text to_come)) × Appends old new sent

-- What the program says where it stops early.
use Rattle.std.specs.Prelude.{◌≡◌, ◌<◌, ◌+◌, ◌++◌, ◌==◌, if◌then◌else◌, ℕ, List, length, slice_index_or, map, [], codes, string_bytes}
use Rattle.words.specs.Spelling.{spelled}
use Rattle.schema.specs.declared.schema.Schema.{Schema}
use Rattle.sqlplan.specs.declared.stop.Stop.{Stop}
use Rattle.sqlplan.specs.declared.stop.Stop.TheVariants.{Usage, Memory, BrokenPipe, Line}

-- the line with this status, whatever is said behind it for people; or out of memory for it
abbrev pub Says : List ℕ → ℕ → Stop → Type 0
Says line status Usage = ⊥
Says line status Memory = Unit {0}
Says line status BrokenPipe = ⊥
Says line status (Line text own words) = (string_bytes text ≡ line) × (own ≡ status)

-- a file fails: the machine did. A path that would break the line or steer a terminal stands between quotes
abbrev pub SaysFile : List ℕ → Stop → Type 0
SaysFile path = Says (codes "device " ++ spelled path) 3

-- the file of a table in the folder; no folder is the current one
unfoldable pub table_path : List ℕ → List ℕ → List ℕ
table_path folder name = if length folder == 0 then name ++ codes ".csv" else folder ++ (codes "/" ++ (name ++ codes ".csv"))

-- the file of some table of the schema fails
abbrev pub SaysTable : Schema → List ℕ → Stop → Type 0
SaysTable S folder stop = (n : ℕ) × (n < length S.tables) × SaysFile (table_path folder (slice_index_or (map (λ t. t.name) S.tables) n [])) stop

-- a wrong command line is refused; without memory the machine failed; where nobody reads the answer any more it is what a shell shows of a filter that the
-- signal SIGPIPE, 13, ended
abbrev pub status_of : Stop → ℕ
status_of Usage = 2
status_of Memory = 3
status_of BrokenPipe = 128 + 13
status_of (Line text status words) = status

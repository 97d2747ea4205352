-- What the lines of a log say is true.
use Rattle.std.specs.Prelude.{◌≡◌, ◌↔◌, ℕ, true, List, Option, Some}
use Rattle.std.specs.List.{AllByRecursion}
use Rattle.schema.specs.declared.schema.Schema.{Schema}
use Rattle.schema.specs.Databases.{Database, Satisfies}
use Rattle.query.specs.declared.query.TableInstance.{TableInstance}
use Rattle.query.specs.Bound.{IsOver}
use Rattle.query.specs.Rows.{Tables, tables_of}
use Rattle.algebra.specs.declared.expr.Aggregation.{Aggregation}
use Rattle.algebra.specs.Classes.{class_rows}
use Rattle.props.specs.Knowledge.{IsTrueOf}
use Rattle.rules.specs.Matches as matches
use Rattle.rules.specs.Soundness.{World, IsLine}
use Rattle.derivation.specs.Logs.{Log, entries, member, are_same, knowledge, SameBy}
use Rattle.derivation.specs.Replay.{Replays}

-- the rows of each class are those of the line that founds it
abbrev pub world : List TableInstance → List Aggregation → Tables → Log → World
world instances own D E = record { instances = instances; own = own; tables = D; rows = class_rows instances D (entries E) }

-- Each expression of the log has the columns and the bag of its class, classes that are the same have the same, and each fact holds
-- of its class; all of this in every environment.
pub record IsTrue (instances : List TableInstance) (own : List Aggregation) (D : Tables) (E : Log) : Type 0 where
  pub members : (i : ℕ) (l : matches.Line) → member E i ≡ Some l → IsLine (knowledge instances E) (world instances own D E) l
  pub classes : IsTrueOf (knowledge instances E) (class_rows instances D (entries E))

-- so it is in every database that satisfies the schema
abbrev pub LogsAreTrue : Type 0
LogsAreTrue = (S : Schema) (D : Database) → Satisfies S D → (instances : List TableInstance) → AllByRecursion (IsOver S) instances → (own : List Aggregation)
    → (E : Log) → Replays instances own E → IsTrue instances own (tables_of S D) E

-- the classes that are the same are those of the least equivalence
abbrev pub SamenessIsLeast : Type 0
SamenessIsLeast = (instances : List TableInstance) (own : List Aggregation) (E : Log) → Replays instances own E → (g h : ℕ) → are_same E g h ≡ true ↔ SameBy E g h

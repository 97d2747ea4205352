-- The names that a text for people has in the place of numbers: those of table instances, of columns and of aggregates.
use Rattle.std.specs.Prelude.{ℕ, ◌-◌, ◌==◌, nat_le, if◌then◌else◌, List, [], ◌∷◌, ◌++◌, Option, Some, None, slice_get, codes, decimal}
use Rattle.std.specs.List.{join_by}
use Rattle.schema.specs.declared.schema.Column.{Column}
use Rattle.query.specs.declared.query.Aggregate.{Aggregate}
use Rattle.query.specs.declared.query.Aggregate.TheVariants as by
use Rattle.query.specs.declared.query.TableInstance.{TableInstance}
use Rattle.algebra.specs.declared.expr.Aggregation.{Aggregation}

abbrev pub Text : Type 0
Text = List ℕ

-- two parts with a space between them
infixr 6 ◌␣◌
abbrev pub ◌␣◌ : Text → Text → Text
a ␣ b = a ++ (codes " " ++ b)

-- parts with commas between them; a list without parts is a dash
abbrev pub list_text : {X : Type 0} → (X → Text) → List X → Text
list_text part [] = codes "-"
list_text part (x ∷ xs) = join_by part (codes ",") (x ∷ xs)

-- what of a query has names: its table instances, and its aggregates with their columns
pub record Naming : Type 0 where
  pub tables : List TableInstance
  pub aggregates : List Aggregation

-- ---- table instances

-- the table's name and the name by which the query knows the instance; `t` and the number, if the query has no such instance
abbrev pub names_of_table : Option TableInstance → ℕ → Text
names_of_table None o = (codes "t" ++ decimal o) ␣ (codes "t" ++ decimal o)
names_of_table (Some t) o = t.entry.name ␣ t.name

abbrev pub table_text : Naming → ℕ → Text
table_text names o = names_of_table (slice_get names.tables o) o

-- ---- columns of tables

-- the column that has the number in a table instance
abbrev pub own_column : TableInstance → ℕ → Option Column
own_column t c = if nat_le t.first_column c then slice_get t.entry.columns (c - t.first_column) else None

-- its name behind that of the instance
abbrev pub name_or : TableInstance → Option Column → Text → Text
name_or t None otherwise = otherwise
name_or t (Some column) otherwise = t.name ++ (codes "." ++ column.name)

-- by the first table instance that has the column; `c` and the number, if none has it
abbrev pub stored_text : List TableInstance → ℕ → Text
stored_text [] c = codes "c" ++ decimal c
stored_text (t ∷ tables) c = name_or t (own_column t c) (stored_text tables c)

-- ---- aggregates

-- what an aggregate computes, of a column of a table
abbrev pub aggregate_text : List TableInstance → Aggregate → Text
aggregate_text tables by.CountRows = codes "COUNT(*)"
aggregate_text tables (by.Count c) = codes "COUNT(" ++ (stored_text tables c ++ codes ")")
aggregate_text tables (by.Sum c) = codes "SUM(" ++ (stored_text tables c ++ codes ")")
aggregate_text tables (by.Min c) = codes "MIN(" ++ (stored_text tables c ++ codes ")")
aggregate_text tables (by.Max c) = codes "MAX(" ++ (stored_text tables c ++ codes ")")

-- ---- columns

-- a column of one of the aggregates is what that computes, and else one of a table
abbrev pub column_among : List TableInstance → List Aggregation → ℕ → Text
column_among tables [] c = stored_text tables c
column_among tables (a ∷ aggregates) c = if a.column == c then aggregate_text tables a.aggregate else column_among tables aggregates c

abbrev pub column_text : Naming → ℕ → Text
column_text names c = column_among names.tables names.aggregates c

abbrev pub columns_text : Naming → List ℕ → Text
columns_text names columns = list_text (column_text names) columns

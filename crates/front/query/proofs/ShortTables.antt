-- The numbers of tables that satisfy their schema have 64 bits.
use Rattle.std.proofs.Common.{ℕ, zero, suc, List, [], ◌∷◌, slice_index_or}
use Rattle.std.specs.List.{AllByRecursion}
use Rattle.values.specs.declared.value.Value.{Value}
use Rattle.values.specs.declared.value.Value.TheVariants.{Null, Int, Text}
use Rattle.schema.specs.declared.schema.Schema.{Schema}
use Rattle.schema.specs.declared.schema.Table.{Table}
use Rattle.schema.specs.declared.schema.Column.{Column}
use Rattle.schema.specs.Databases.{Row, Database, FitsColumn, FitsColumns, Satisfies, SatisfyTables}
use Rattle.query.specs.declared.query.Aggregate.{Aggregate}
use Rattle.query.specs.declared.query.Aggregate.TheVariants as by
use Rattle.query.specs.Rows.{tables_of, value_at}
use Rattle.values.specs.Short.{IsShort}
use Rattle.query.specs.Aggregates.{AreShort, AreShortTables, MayRead}

short-cell : (c : Column) (v : Value) → FitsColumn c v → IsShort v
short-cell c Null h = tt
short-cell c (Int n) h = h.1
short-cell c (Text t) h = tt

short-row : (cs : List Column) (r : Row) → FitsColumns cs r → AllByRecursion IsShort r
short-row [] [] h = tt
short-row [] (v ∷ vs) h = absurd h
short-row (c ∷ cs) [] h = absurd h
short-row (c ∷ cs) (v ∷ vs) h = (short-cell c v h.0, short-row cs vs h.1)

short-rows : (cs : List Column) (rows : List Row) → AllByRecursion (FitsColumns cs) rows → AreShort rows
short-rows cs [] h = tt
short-rows cs (r ∷ rows) h = (short-row cs r h.0, short-rows cs rows h.1)

short-tables : (ts : List Table) (D : Database) → SatisfyTables ts D → (t : ℕ) → AreShort (slice_index_or D t [])
short-tables [] [] h t = tt
short-tables [] (rows ∷ D) h t = absurd h
short-tables (entry ∷ ts) [] h t = absurd h
short-tables (entry ∷ ts) (rows ∷ D) h zero = short-rows entry.columns rows h.0.fit
short-tables (entry ∷ ts) (rows ∷ D) h (suc t) = short-tables ts D h.1 t

pub satisfying_short : (S : Schema) (D : Database) → Satisfies S D → AreShortTables (tables_of S D)
satisfying_short S D h = short-tables S.tables D h

-- a value of a short row
pub short-value : (place : ℕ) (r : Row) → AllByRecursion IsShort r → IsShort (value_at place r)
short-value place [] h = tt
short-value zero (v ∷ r) h = h.0
short-value (suc place) (v ∷ r) h = short-value place r h.1

-- each aggregate may read it
pub short-read : (a : Aggregate) (r : Row) → AllByRecursion IsShort r → MayRead a (λ place. value_at place r)
short-read by.CountRows r short = tt
short-read (by.Count c) r short = tt
short-read (by.Sum c) r short = short-value c r short
short-read (by.Min c) r short = tt
short-read (by.Max c) r short = tt

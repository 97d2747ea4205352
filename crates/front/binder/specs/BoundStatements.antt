-- What is known of the query that a statement is (this project's profile of SQL): it is bound, and its table instances
-- are tables of the schema. A tree can have a subquery in an ON, and no text has one there: so the first is said of trees
-- whose ONs have none.
use Rattle.std.specs.Prelude.{◌≡◌, true, length, Ok}
use Rattle.schema.specs.declared.schema.Schema.{Schema}
use Rattle.schema.specs.Databases.{Database}
use Rattle.std.specs.List.{AllByRecursion}
use Rattle.sql_parse.specs.declared.statement.Statement.{Statement}
use Rattle.sql_parse.specs.PlainOns.{ons_are_plain}
use Rattle.query.specs.declared.query.Query.{Query}
use Rattle.query.specs.Bound.{is_bound, TablesAreOver}
use Rattle.query.specs.Rows.{tables_of}
use Rattle.binder.specs.Queries.{bound_statement}

-- all that the query names is there, and the columns that a condition can name have numbers of their own
abbrev pub StatementsAreBound : Type 0
StatementsAreBound = (S : Schema) (s : Statement) (q : Query) → ons_are_plain s ≡ true → bound_statement S s ≡ Ok q → is_bound q ≡ true

-- each table instance is one of a table of the schema
abbrev pub StatementsAreOver : Type 0
StatementsAreOver = (S : Schema) (s : Statement) (q : Query) → bound_statement S s ≡ Ok q → TablesAreOver S q

-- so in a database of the schema it has as many columns as its table
abbrev pub StatementsAreWide : Type 0
StatementsAreWide = (S : Schema) (D : Database) (s : Statement) (q : Query) → bound_statement S s ≡ Ok q
    → AllByRecursion (λ t. length t.entry.columns ≡ (tables_of S D).width t.table) q.tables

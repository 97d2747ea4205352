-- Which tables a query names, and that its answers depend on no others (this project's profile of SQL).
use Rattle.std.specs.Prelude.{◌≡◌, ℕ, ◌==◌, Bool, true, List}
use Rattle.std.specs.List.{list_any}
use Rattle.schema.specs.Databases.{Row}
use Rattle.query.specs.declared.query.TableInstance.{TableInstance}
use Rattle.query.specs.declared.query.Query.{Query}
use Rattle.query.specs.Rows.{Tables}
use Rattle.query.specs.Bound.{is_bound}
use Rattle.query.specs.Answer.{IsAnswer}

-- a table instance is of the table with this number
abbrev pub has_instance : List TableInstance → ℕ → Bool
has_instance instances n = list_any (λ t. t.table == n) instances

-- the query names the table with this number: some instance of it stands in a FROM, of the query or of a subquery
abbrev pub names : Query → ℕ → Bool
names q n = has_instance q.tables n

-- in each table that the query names there stand the same rows, as wide
pub record AgreeOnNamed (q : Query) (D E : Tables) : Type 0 where
  pub rows : (n : ℕ) → names q n ≡ true → D.rows n ≡ E.rows n
  pub width : (n : ℕ) → names q n ≡ true → D.width n ≡ E.width n

-- an answer over some tables is one over all that agree with them on the named ones
abbrev pub OthersDoNotCount : Type 0
OthersDoNotCount = (q : Query) (D E : Tables) (A : List Row) → is_bound q ≡ true → AgreeOnNamed q D E → IsAnswer q D A → IsAnswer q E A

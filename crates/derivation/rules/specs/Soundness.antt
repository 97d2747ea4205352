-- The law of rules.
use Rattle.std.specs.Prelude.{◌≡◌, ℕ, true, List, ◌∷◌, Result, Ok}
use Rattle.std.specs.List.{AllByRecursion}
use Rattle.query.specs.declared.query.TableInstance.{TableInstance}
use Rattle.query.specs.Rows.{Tables}
use Rattle.algebra.specs.declared.expr.Aggregation.{Aggregation}
use Rattle.algebra.specs.Bags.{Bag, SameBag}
use Rattle.algebra.specs.Expressions.{means, columns_of, is_formed}
use Rattle.props.specs.Knowledge.{Knowledge, IsTrueOf, with_rows}
use Rattle.rules.specs.declared.shape.Shape.{Shape}
use Rattle.rules.specs.declared.unfit.Unfit.{Unfit}
use Rattle.rules.specs.Matches.{Line, Matched}
use Rattle.rules.specs.Shapes.{meant}

-- a database, in a query with these table instances and aggregates, and the rows that classes have there
pub record World : Type 0 where
  pub instances : List TableInstance
  pub own : List Aggregation
  pub tables : Tables
  pub rows : ℕ → Bag

-- a line's expression is well formed, and has the columns and the bag of its class
pub record IsLine (K : Knowledge) (W : World) (l : Line) : Type 0 where
  pub formed : is_formed W.instances W.own K.columns l.expr ≡ true
  pub columns : columns_of W.instances K.columns l.expr ≡ K.columns l.class
  pub rows : SameBag (W.rows l.class) (means W.instances W.tables (with_rows K W.rows) l.expr)

-- what is matched is true there
pub record IsMatched (W : World) (m : Matched) : Type 0 where
  pub classes : IsTrueOf m.classes W.rows
  pub lines : AllByRecursion (IsLine m.classes W) m.lines

-- Wherever what is matched is true, what the rule gives has the bag of the top line's expression. A database that satisfies the
-- schema is such a world if facts are known that hold in each of these.
abbrev pub IsSound : (Matched → Result Shape Unfit) → Type 0
IsSound gives = (m : Matched) (s : Shape) → gives m ≡ Ok s → (W : World) → IsMatched W m → (top : Line) (others : List Line) → m.lines ≡ top ∷ others
    → SameBag (means W.instances W.tables (with_rows m.classes W.rows) top.expr) (meant (with_rows m.classes W.rows) s).rows

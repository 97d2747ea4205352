-- Well formed shapes: those that can stand in a log, operator by operator.
use Rattle.std.specs.Prelude.{◌≡◌, ℕ, Bool, true, ◌&&◌, List, ◌∷◌, ◌++◌, Ok, Result}
use Rattle.std.specs.List.{AllByRecursion, list_all}
use Rattle.std.specs.List.Sorted.{IsStrictlyIncreasing}
use Rattle.query.specs.declared.query.TableInstance.{TableInstance}
use Rattle.algebra.specs.declared.condition.Condition.{Condition}
use Rattle.algebra.specs.declared.expr.Aggregation.{Aggregation}
use Rattle.algebra.specs.declared.expr.Expr.{Expr}
use Rattle.algebra.specs.declared.expr.Expr.TheVariants.{Get, Select, Join, LeftJoin, Semi, Anti, Keep, Distinct, Group}
use Rattle.algebra.specs.Columns.{is_subset, rising}
use Rattle.algebra.specs.Expressions.{aggregate_columns, aggregation_formed, are_different, classes_pass, columns_of, is_formed, names_own, sides_formed, subqueries_pass}
use Rattle.props.specs.Knowledge.{Knowledge, are_same}
use Rattle.rules.specs.declared.shape.Shape.{Shape, fold-Shape}
use Rattle.rules.specs.declared.shape.Shape.TheOpen.{Shape-F}
use Rattle.rules.specs.declared.unfit.Unfit.{Unfit}
use Rattle.rules.specs.Matches.{Line, Matched}

-- the columns of a shape, and whether it is well formed
pub record Formed : Type 0 where
  pub columns : List ℕ
  pub is_formed : Bool

-- a query with these table instances and aggregates of its own, and classes with these columns, of which some are founded
module _ (instances : List TableInstance) (own : List Aggregation) (columns : ℕ → List ℕ) (founds : ℕ → Bool) where
  -- the conditions name classes that are founded, and columns of the query
  abbrev pub are_formed : List Condition → Bool
  are_formed C = subqueries_pass founds C && names_own instances own C

  -- the sides of a join, and its conditions
  abbrev pub are_joined : List Condition → Formed → Formed → Bool
  are_joined C a b = (a.is_formed && b.is_formed) && (are_formed C && sides_formed C a.columns b.columns)

  -- a group's keys are columns of its input, and its aggregates read these and are new
  abbrev pub groups_formed : List ℕ → List Aggregation → List ℕ → Bool
  groups_formed L G input = is_subset L input && are_different (aggregate_columns G) && list_all (aggregation_formed own input) G

  -- each operator asks what it asks of an expression
  abbrev pub formed_layer : Shape-F Formed → Formed
  formed_layer (Shape-F.Class g) = record { columns = columns g; is_formed = founds g }
  formed_layer (Shape-F.Select C x) = record { columns = x.columns; is_formed = x.is_formed && are_formed C }
  formed_layer (Shape-F.Join C a b) = record { columns = rising (a.columns ++ b.columns); is_formed = are_joined C a b }
  formed_layer (Shape-F.LeftJoin C a b) = record { columns = rising (a.columns ++ b.columns); is_formed = are_joined C a b }
  formed_layer (Shape-F.Semi C a b) = record { columns = a.columns; is_formed = are_joined C a b }
  formed_layer (Shape-F.Anti S M a b) = record { columns = a.columns; is_formed = are_joined (S ++ M) a b }
  formed_layer (Shape-F.Keep L x) = record { columns = L; is_formed = x.is_formed && is_subset L x.columns }
  formed_layer (Shape-F.Distinct x) = x
  formed_layer (Shape-F.Group L G x) = record { columns = rising (L ++ aggregate_columns G); is_formed = x.is_formed && groups_formed L G x.columns }

  unfoldable pub formed : Shape → Formed
  formed = fold-Shape Formed formed_layer

-- ---- what rules give

module _ (instances : List TableInstance) (own : List Aggregation) (K : Knowledge) (founds : ℕ → Bool) where
  -- the columns that an expression keeps, and those of its input, stand in rising order
  abbrev pub Rises : Expr → Type 0
  Rises (Get o) = Unit {0}
  Rises (Select C x) = Unit {0}
  Rises (Join C a b) = Unit {0}
  Rises (LeftJoin C a b) = Unit {0}
  Rises (Semi C a b) = Unit {0}
  Rises (Anti S M a b) = Unit {0}
  Rises (Keep L x) = IsStrictlyIncreasing L × IsStrictlyIncreasing (K.columns x)
  Rises (Distinct x) = Unit {0}
  Rises (Group L G x) = IsStrictlyIncreasing L

  -- a line whose expression may stand in a log, and has the columns of its class
  pub record IsFormedLine (l : Line) : Type 0 where
    pub known : classes_pass founds l.expr ≡ true
    pub formed : is_formed instances own K.columns l.expr ≡ true
    pub columns : columns_of instances K.columns l.expr ≡ K.columns l.class

  -- of lines that may stand a rule gives what may stand too, and it has the columns of the top line's class
  abbrev pub GivesFormed : (Matched → Result Shape Unfit) → Type 0
  GivesFormed gives = (pick : ℕ) (top : Line) (others : List Line) (s : Shape) → gives (record { lines = top ∷ others; pick = pick; classes = K }) ≡ Ok s
      → AllByRecursion IsFormedLine (top ∷ others) → Rises top.expr
      → ((formed instances own K.columns founds s).is_formed ≡ true) × ((formed instances own K.columns founds s).columns ≡ K.columns top.class)

-- So does a rule whatever the query, where classes that are the same have the same columns.
abbrev pub IsFormed : (Matched → Result Shape Unfit) → Type 0
IsFormed gives = (instances : List TableInstance) (own : List Aggregation) (K : Knowledge) (founds : ℕ → Bool)
    → ((g h : ℕ) → are_same K g h ≡ true → K.columns g ≡ K.columns h) → GivesFormed instances own K founds gives

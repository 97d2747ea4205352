-- What a shape is by the lines of a log: a class, or an expression, whose inner expressions stand in lines.
use Rattle.std.specs.Prelude.{◌≡◌, ℕ, true, List, ◌++◌, Some, Ok}
use Rattle.std.specs.List.{list_all}
use Rattle.query.specs.declared.query.TableInstance.{TableInstance}
use Rattle.algebra.specs.declared.expr.Aggregation.{Aggregation}
use Rattle.algebra.specs.declared.expr.Expr.{Expr}
use Rattle.algebra.specs.Classes.{class_columns}
use Rattle.algebra.specs.Expressions.{columns_of}
use Rattle.rules.specs.declared.shape.Shape.{Shape}
use Rattle.derivation.specs.declared.line.Line.TheVariants.{Founds}
use Rattle.derivation.specs.Logs.{Log, entries, founds, member}
use Rattle.derivation.specs.Replay.{is_earlier, stands}
use Rattle.derivation.specs.Spelling.{spelling}
use Rattle.rules.specs.Formed.{formed}

-- the columns of a log's classes
abbrev pub cols : List TableInstance → Log → ℕ → List ℕ
cols instances E = class_columns instances (entries E)

-- a line of a class that is founded has the expression, and the class has its columns
pub record HasLine (instances : List TableInstance) (E : Log) (x : Expr) (line class : ℕ) : Type 0 where
  pub there : member E line ≡ Some (record { class = class; expr = x })
  pub founded : founds E class ≡ true
  pub columns : cols instances E class ≡ columns_of instances (cols instances E) x

module _ (instances : List TableInstance) (own : List Aggregation) (E : Log) where
  abbrev pub MayStand : Shape → Type 0
  MayStand s = (formed instances own (cols instances E) (founds E) s).is_formed ≡ true

  abbrev pub shape_columns : Shape → List ℕ
  shape_columns s = (formed instances own (cols instances E) (founds E) s).columns

  abbrev pub MayBeFounded : Expr → Type 0
  MayBeFounded x = stands instances own E (Founds x) ≡ Ok (Founds x)

  -- the shape is this expression, which may be founded, its inner expressions being those of the lines
  pub record IsSpelt (s : Shape) (x : Expr) (makes : List ℕ) : Type 0 where
    pub spelt : (rest : List ℕ) → (spelling (member E) s).expr (makes ++ rest) ≡ Some (x, rest)
    pub founded : MayBeFounded x
    pub columns : columns_of instances (cols instances E) x ≡ shape_columns s
    pub cited : list_all (is_earlier E) makes ≡ true

  -- the shape is this class, which is founded, its expressions being those of the lines
  pub record IsPlaced (s : Shape) (g : ℕ) (makes : List ℕ) : Type 0 where
    pub spelt : (rest : List ℕ) → (spelling (member E) s).class (makes ++ rest) ≡ Some (g, rest)
    pub founded : founds E g ≡ true
    pub columns : cols instances E g ≡ shape_columns s
    pub cited : list_all (is_earlier E) makes ≡ true

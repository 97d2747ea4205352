-- Operators over inputs that are still to be found: as expressions, and as shapes.
use Rattle.std.specs.Prelude.{ℕ}
use Rattle.algebra.specs.declared.expr.Expr.{Expr}
use Rattle.algebra.specs.declared.expr.Expr.TheVariants as expr
use Rattle.rules.specs.declared.shape.Shape.{Shape}
use Rattle.rules.specs.declared.shape.Shape.TheVariants as shape
use Rattle.bindings.specs.declared.operators.OverOne.{OverOne}
use Rattle.bindings.specs.declared.operators.OverOne.TheVariants as one
use Rattle.bindings.specs.declared.operators.OverTwo.{OverTwo}
use Rattle.bindings.specs.declared.operators.OverTwo.TheVariants as two

abbrev pub over_one : OverOne → ℕ → Expr
over_one (one.Select C) = expr.Select C.now
over_one (one.Keep L) = expr.Keep L.now
over_one one.Distinct = expr.Distinct
over_one (one.Group L G) = expr.Group L.now G.now

abbrev pub over_two : OverTwo → ℕ → ℕ → Expr
over_two (two.Join C) = expr.Join C.now
over_two (two.LeftJoin C) = expr.LeftJoin C.now
over_two (two.Semi C) = expr.Semi C.now
over_two (two.Anti S M) = expr.Anti S.now M.now

abbrev pub one_shape : OverOne → Shape → Shape
one_shape (one.Select C) = shape.Select C.now
one_shape (one.Keep L) = shape.Keep L.now
one_shape one.Distinct = shape.Distinct
one_shape (one.Group L G) = shape.Group L.now G.now

abbrev pub two_shape : OverTwo → Shape → Shape → Shape
two_shape (two.Join C) = shape.Join C.now
two_shape (two.LeftJoin C) = shape.LeftJoin C.now
two_shape (two.Semi C) = shape.Semi C.now
two_shape (two.Anti S M) = shape.Anti S.now M.now

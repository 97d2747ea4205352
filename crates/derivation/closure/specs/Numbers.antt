-- Numbers of expressions: equal ones have one number, and most others another. What conditions that name classes say isn't in it, so that it can be read of
-- an expression as of the same with roots.
use Rattle.std.specs.Prelude.{ℕ, ◌+◌, ◌*◌, ◌%◌, if◌then◌else◌, List, [], ◌++◌}
use Rattle.std.specs.List.{fold, sum_by}
use Rattle.algebra.specs.declared.condition.Condition.{Condition}
use Rattle.algebra.specs.declared.expr.Expr.{Expr}
use Rattle.algebra.specs.declared.expr.Expr.TheVariants.{Get, Select, Join, LeftJoin, Semi, Anti, Keep, Distinct, Group}
use Rattle.algebra.specs.ConjunctOrder.{condition_text}
use Rattle.algebra.specs.ConjunctParts.{has_no_class}
use Rattle.algebra.specs.Expressions.{children, conditions}

-- the remainder by the last prime of 32 bits
unfoldable pub reduced : ℕ → ℕ
reduced n = n % 4294967291

-- a number with one more, and with all of a list
abbrev pub mixed : ℕ → ℕ → ℕ
mixed sum n = reduced (sum * 1000003 + n)

abbrev pub mixed_all : ℕ → List ℕ → ℕ
mixed_all sum ns = fold mixed sum ns

-- the number of a text, squared so that it isn't a sum of its letters' numbers
abbrev pub squared : ℕ → ℕ
squared n = reduced (n * n)

-- the number of a condition
abbrev pub condition_number : Condition → ℕ
condition_number c = if has_no_class c then squared (mixed_all 0 (condition_text c)) else 0

-- and of conditions, in whatever order
abbrev pub conditions_number : List Condition → ℕ
conditions_number C = reduced (sum_by condition_number C)

-- the columns that an expression keeps, or groups by
abbrev pub kept_columns : Expr → List ℕ
kept_columns (Get o) = []
kept_columns (Select C x) = []
kept_columns (Join C a b) = []
kept_columns (LeftJoin C a b) = []
kept_columns (Semi C a b) = []
kept_columns (Anti S M a b) = []
kept_columns (Keep K x) = K
kept_columns (Distinct x) = []
kept_columns (Group K G x) = K

-- the number of an expression
unfoldable pub expression_number : Expr → ℕ
expression_number x = mixed_all (conditions_number (conditions x)) (children x ++ kept_columns x)

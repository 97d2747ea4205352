-- Whether two values are the same, as specs/ConditionEquality has it of conditions.
use Rattle.std.specs.Prelude.{ℕ, Bool, List}
use Rattle.std.specs.Coded.{coded_list, coded_ℕ}
use Rattle.algebra.specs.declared.expr.Aggregation.{Aggregation}
use Rattle.algebra.specs.declared.expr.Expr.{Expr}
use Rattle.algebra.specs.contracts.expr.Aggregation as aggregation
use Rattle.algebra.specs.contracts.expr.Expr as expr
use Rattle.algebra.specs.ConditionEquality.{same_by}

unfoldable pub same_columns : List ℕ → List ℕ → Bool
same_columns = same_by (coded_list coded_ℕ)

unfoldable pub same_expr : Expr → Expr → Bool
same_expr = same_by expr.the_row.coded

unfoldable pub same_aggregation : Aggregation → Aggregation → Bool
same_aggregation = same_by aggregation.the_row.coded

unfoldable pub same_aggregations : List Aggregation → List Aggregation → Bool
same_aggregations = same_by (coded_list aggregation.the_row.coded)

-- Where the values of a plan's rows come from: whether its groups aggregate values of tables alone. A SUM of such values has
-- numbers of 64 bits to add (this project's own idea).
use Rattle.std.specs.Prelude.{ℕ, Bool, true, ◌&&◌, List, map}
use Rattle.std.specs.List.{list_all, AllByRecursion}
use Rattle.query.specs.declared.query.TableInstance.{TableInstance}
use Rattle.query.specs.Aggregates.{MayRead}
use Rattle.algebra.specs.declared.expr.Aggregation.{Aggregation}
use Rattle.algebra.specs.Columns.{is_subset}
use Rattle.algebra.specs.Bags.{Env}
use Rattle.algebra.specs.Expressions.{aggregate_reads}
use Rattle.algebra.specs.TableColumns.{is_table_column, are_apart}
use Rattle.physical.specs.declared.plan.Operator.{Operator}
use Rattle.physical.specs.declared.plan.Operator.TheVariants.{Projection, GroupRows}
use Rattle.physical.specs.declared.plan.Node.{Node}
use Rattle.physical.specs.declared.plan.Node.TheVariants.{Implements, Sort}
use Rattle.physical.specs.declared.plan.Plan.{Plan, fold-Plan}
use Rattle.physical.specs.declared.plan.Plan.TheOpen.{Plan-F}
use Rattle.physical.specs.Outputs.{node_columns, first_columns}

-- the columns of a plan's rows, and whether its groups aggregate values of tables alone
pub record Origin : Type 0 where
  pub columns : List ℕ
  pub reads : Bool

abbrev pub columns_of_all : List Origin → List (List ℕ)
columns_of_all inputs = map (λ x. x.columns) inputs

-- the aggregates read these columns alone
abbrev pub read_among : List ℕ → List Aggregation → Bool
read_among columns added = list_all (λ a. is_subset (aggregate_reads a.aggregate) columns) added

-- ---- operators

-- what an operator takes over by name is a column of its input, and its aggregates are apart from the tables' columns
abbrev pub operator_reads : List TableInstance → Operator → List Origin → Bool
operator_reads instances (Projection K) inputs = is_subset K (first_columns (columns_of_all inputs))
operator_reads instances (GroupRows method K G) inputs =
    is_subset K (first_columns (columns_of_all inputs)) && (read_among (first_columns (columns_of_all inputs)) G && are_apart (is_table_column instances) G)
operator_reads instances operator inputs = true

abbrev pub node_reads : List TableInstance → Node → List Origin → Bool
node_reads instances (Implements line operator) inputs = operator_reads instances operator inputs
node_reads instances (Sort keys) inputs = true

-- so it is of all inputs
abbrev pub all_read : List Origin → Bool
all_read inputs = list_all (λ x. x.reads) inputs

abbrev pub origin_layer : List TableInstance → Plan-F Origin → Origin
origin_layer instances p = record {
  columns = node_columns instances p.node (columns_of_all p.inputs);
  reads = node_reads instances p.node p.inputs && all_read p.inputs;
}

unfoldable pub plan_origin : List TableInstance → Plan → Origin
plan_origin instances = fold-Plan Origin (origin_layer instances)

-- the aggregates may read the rows: a SUM reads no number past 64 bits
abbrev pub AreReadable : List Aggregation → List Env → Type 0
AreReadable added rows = AllByRecursion (λ r. AllByRecursion (λ a. MayRead a.aggregate r) added) rows

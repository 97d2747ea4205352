-- What a plan produces: each operator on whole lists of rows. The operators are those of the algebra, on lists; that a join, by
-- whatever method, goes through the left rows and for each through the right ones, that a sort is stable, and that groups and
-- distinct rows come as first seen, is this project's profile.
use Rattle.std.specs.Prelude.{ℕ, ◌==◌, ◌&&◌, if◌then◌else◌, List, [], ◌∷◌, ◌++◌, map, slice_get}
use Rattle.query.specs.declared.query.TableInstance.{TableInstance}
use Rattle.query.specs.Rows.{Tables}
use Rattle.algebra.specs.Columns.{has, rising}
use Rattle.algebra.specs.Bags.{Bag, Test, select, join, left_join, semi, anti, keep, distinct, group}
use Rattle.algebra.specs.Conditions.{holds, allows, classes_in}
use Rattle.algebra.specs.Expressions.{get_rows, get_columns, with_aggregates, aggregate_columns}
use Rattle.physical.specs.declared.plan.Matching.{Matching}
use Rattle.physical.specs.declared.plan.Matching.TheVariants.{Inner, Left, Semi, Anti}
use Rattle.physical.specs.declared.plan.Operator.{Operator}
use Rattle.physical.specs.declared.plan.Operator.TheVariants.{Scan, IndexScan, Filter, FilterSubqueries, Projection, JoinRows, IndexJoin, GroupRows, DistinctRows}
use Rattle.physical.specs.declared.plan.Node.{Node}
use Rattle.physical.specs.declared.plan.Node.TheVariants.{Implements, Sort}
use Rattle.physical.specs.declared.plan.Plan.{Plan, fold-Plan}
use Rattle.physical.specs.declared.plan.Plan.TheOpen.{Plan-F}
use Rattle.physical.specs.Sorts.{sorted, keys_order}
use Rattle.physical.specs.Indexes.{accessed_columns, accessed_rows, index_order}

-- ---- columns

-- the columns of a node's first input, and of its second
abbrev pub first_columns : List (List ℕ) → List ℕ
first_columns [] = []
first_columns (K ∷ inputs) = K

abbrev pub second_columns : List (List ℕ) → List ℕ
second_columns [] = []
second_columns (K ∷ inputs) = first_columns inputs

-- the columns of a join's rows, given those of its sides
abbrev pub join_columns : Matching → List ℕ → List ℕ → List ℕ
join_columns (Inner C) left right = rising (left ++ right)
join_columns (Left C) left right = rising (left ++ right)
join_columns (Semi C) left right = left
join_columns (Anti S M) left right = left

-- the columns of an operator's rows, given those of its inputs
abbrev pub operator_columns : List TableInstance → Operator → List (List ℕ) → List ℕ
operator_columns instances (Scan o) inputs = get_columns (slice_get instances o)
operator_columns instances (IndexScan a C) inputs = accessed_columns instances a
operator_columns instances (Filter C) inputs = first_columns inputs
operator_columns instances (FilterSubqueries C) inputs = first_columns inputs
operator_columns instances (Projection K) inputs = K
operator_columns instances (JoinRows method j) inputs = join_columns j (first_columns inputs) (second_columns inputs)
operator_columns instances (IndexJoin a j) inputs = join_columns j (first_columns inputs) (accessed_columns instances a)
operator_columns instances (GroupRows method K G) inputs = rising (K ++ aggregate_columns G)
operator_columns instances (DistinctRows method) inputs = first_columns inputs

abbrev pub node_columns : List TableInstance → Node → List (List ℕ) → List ℕ
node_columns instances (Implements line operator) inputs = operator_columns instances operator inputs
node_columns instances (Sort keys) inputs = first_columns inputs

-- ---- rows

-- the output of a plan: the columns of its rows, and in each environment the rows in their order
pub record Output : Type 0 where
  pub columns : List ℕ
  pub rows : Bag

abbrev pub no_rows : Bag
no_rows e = []

-- the inputs of a node
abbrev pub first : List Output → Bag
first [] = no_rows
first (x ∷ inputs) = x.rows

abbrev pub rest : List Output → List Output
rest [] = []
rest (x ∷ inputs) = inputs

-- no class has a row
abbrev pub no_classes : ℕ → Bag
no_classes g = no_rows

-- the rows of classes, one input for each
abbrev pub subquery_rows : List ℕ → List Output → ℕ → Bag
subquery_rows [] inputs = no_classes
subquery_rows (g ∷ classes) [] = no_classes
subquery_rows (g ∷ classes) (x ∷ inputs) = λ h. if g == h then x.rows else subquery_rows classes inputs h

-- whether a left and a right row match
abbrev pub is_match : Matching → Test
is_match (Inner C) = holds no_classes C
is_match (Left C) = holds no_classes C
is_match (Semi C) = holds no_classes C
is_match (Anti S M) = λ r. holds no_classes S r && allows no_classes M r

-- the rows of a join, given the columns of its right side
abbrev pub join_rows : Matching → List ℕ → Bag → Bag → Bag
join_rows (Inner C) right a b = join (is_match (Inner C)) (has right) a b
join_rows (Left C) right a b = left_join (is_match (Left C)) (has right) a b
join_rows (Semi C) right a b = semi (is_match (Semi C)) (has right) a b
join_rows (Anti S M) right a b = anti (is_match (Anti S M)) (has right) a b

-- the rows that an operator produces, given its inputs' output
abbrev pub operator_rows : List TableInstance → Tables → Operator → List Output → Bag
operator_rows instances D (Scan o) inputs = get_rows (slice_get instances o) D
operator_rows instances D (IndexScan a C) inputs = λ e. sorted (keys_order (index_order instances a)) (select (holds no_classes C) (accessed_rows instances D a) e)
operator_rows instances D (Filter C) inputs = select (holds no_classes C) (first inputs)
operator_rows instances D (FilterSubqueries C) inputs = select (holds (subquery_rows (classes_in C) (rest inputs)) C) (first inputs)
operator_rows instances D (Projection K) inputs = keep (has K) (first inputs)
operator_rows instances D (JoinRows method j) inputs = join_rows j (second_columns (map (λ x. x.columns) inputs)) (first inputs) (first (rest inputs))
operator_rows instances D (IndexJoin a j) inputs = join_rows j (accessed_columns instances a) (first inputs) (accessed_rows instances D a)
operator_rows instances D (GroupRows method K G) inputs = group K (with_aggregates G) (first inputs)
operator_rows instances D (DistinctRows method) inputs = distinct (first_columns (map (λ x. x.columns) inputs)) (first inputs)

abbrev pub node_rows : List TableInstance → Tables → Node → List Output → Bag
node_rows instances D (Implements line operator) inputs = operator_rows instances D operator inputs
node_rows instances D (Sort keys) inputs = λ e. sorted (keys_order keys) (first inputs e)

abbrev pub output_layer : List TableInstance → Tables → Plan-F Output → Output
output_layer instances D p = record { columns = node_columns instances p.node (map (λ x. x.columns) p.inputs); rows = node_rows instances D p.node p.inputs }

unfoldable pub plan_output : List TableInstance → Tables → Plan → Output
plan_output instances D = fold-Plan Output (output_layer instances D)

-- the rows that a plan produces in each environment
abbrev pub output_rows : List TableInstance → Tables → Plan → Bag
output_rows instances D plan = (plan_output instances D plan).rows

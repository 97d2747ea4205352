-- What expressions mean, their columns and free columns, and when they are well formed.
use Rattle.std.specs.Prelude.{ℕ, ◌-◌, Bool, true, false, not, ◌&&◌, ◌||◌, ◌==◌, nat_lt, if◌then◌else◌, List, [], ◌∷◌, ◌++◌, length, map, slice_get, Option, Some, None}
use Rattle.std.specs.List.{list_any, list_all, range_with_len}
use Rattle.schema.specs.Databases.{Row}
use Rattle.query.specs.declared.query.TableInstance.{TableInstance}
use Rattle.query.specs.declared.query.Aggregate.{Aggregate}
use Rattle.query.specs.declared.query.Aggregate.TheVariants as by
use Rattle.query.specs.Rows.{Tables, value_at}
use Rattle.query.specs.Aggregates.{aggregate_of}
use Rattle.algebra.specs.declared.condition.Condition.{Condition}
use Rattle.algebra.specs.declared.expr.Aggregation.{Aggregation}
use Rattle.algebra.specs.declared.expr.Expr.{Expr}
use Rattle.algebra.specs.declared.expr.Expr.TheVariants.{Get, Select, Join, LeftJoin, Semi, Anti, Keep, Distinct, Group}
use Rattle.algebra.specs.Equality.{same_aggregation}
use Rattle.algebra.specs.Columns.{ColumnSet, has, is_subset, are_disjoint, rising}
use Rattle.algebra.specs.Bags.{Env, Bag, lay, select, join, left_join, semi, anti, keep, distinct, group}
use Rattle.algebra.specs.Conditions.{holds, allows, all_columns, all_classes, classes_in, mentions}

-- what is known of each class: its rows, its columns, and the columns of the environment on which its rows depend
pub record Classes : Type 0 where
  pub rows : ℕ → Bag
  pub columns : ℕ → List ℕ
  pub free : ℕ → ColumnSet

-- ---- what an expression is made of

-- the classes whose rows it takes, the left one first
abbrev pub children : Expr → List ℕ
children (Get o) = []
children (Select C x) = x ∷ []
children (Join C a b) = a ∷ b ∷ []
children (LeftJoin C a b) = a ∷ b ∷ []
children (Semi C a b) = a ∷ b ∷ []
children (Anti S M a b) = a ∷ b ∷ []
children (Keep K x) = x ∷ []
children (Distinct x) = x ∷ []
children (Group K G x) = x ∷ []

-- its conditions
abbrev pub conditions : Expr → List Condition
conditions (Get o) = []
conditions (Select C x) = C
conditions (Join C a b) = C
conditions (LeftJoin C a b) = C
conditions (Semi C a b) = C
conditions (Anti S M a b) = S ++ M
conditions (Keep K x) = []
conditions (Distinct x) = []
conditions (Group K G x) = []

-- ---- table instances

-- the columns of a table instance
abbrev pub instance_columns : TableInstance → List ℕ
instance_columns t = range_with_len t.first_column (length t.entry.columns)

-- a row of the instance in an environment
abbrev pub instance_row : TableInstance → Row → Env → Env
instance_row t row e = lay (has (instance_columns t)) (λ c. value_at (c - t.first_column) row) e

-- the rows of the instance
abbrev pub instance_rows : TableInstance → Tables → Bag
instance_rows t D e = map (λ row. instance_row t row e) (D.rows t.table)

abbrev pub get_rows : Option TableInstance → Tables → Bag
get_rows None D e = []
get_rows (Some t) D e = instance_rows t D e

abbrev pub get_columns : Option TableInstance → List ℕ
get_columns None = []
get_columns (Some t) = instance_columns t

-- ---- aggregates

-- the row with each aggregate of the rows in its column
abbrev pub with_aggregates : List Aggregation → List Env → Env → Env
with_aggregates [] rows r c = r c
with_aggregates (a ∷ rest) rows r c = if a.column == c then aggregate_of a.aggregate (length rows) (λ k. map (λ s. s k) rows) else with_aggregates rest rows r c

-- the columns that an aggregate reads
abbrev pub aggregate_reads : Aggregate → List ℕ
aggregate_reads by.CountRows = []
aggregate_reads (by.Count k) = k ∷ []
aggregate_reads (by.Sum k) = k ∷ []
aggregate_reads (by.Min k) = k ∷ []
aggregate_reads (by.Max k) = k ∷ []

abbrev pub aggregate_columns : List Aggregation → List ℕ
aggregate_columns added = map (λ a. a.column) added

-- ---- what an expression means, its columns and its free columns, given the classes that it names

abbrev pub means : List TableInstance → Tables → Classes → Expr → Bag
means instances D W (Get o) = get_rows (slice_get instances o) D
means instances D W (Select C x) = select (holds W.rows C) (W.rows x)
means instances D W (Join C a b) = join (holds W.rows C) (has (W.columns b)) (W.rows a) (W.rows b)
means instances D W (LeftJoin C a b) = left_join (holds W.rows C) (has (W.columns b)) (W.rows a) (W.rows b)
means instances D W (Semi C a b) = semi (holds W.rows C) (has (W.columns b)) (W.rows a) (W.rows b)
means instances D W (Anti S M a b) = anti (λ r. holds W.rows S r && allows W.rows M r) (has (W.columns b)) (W.rows a) (W.rows b)
means instances D W (Keep K x) = keep (has K) (W.rows x)
means instances D W (Distinct x) = distinct (W.columns x) (W.rows x)
means instances D W (Group K G x) = group K (with_aggregates G) (W.rows x)

abbrev pub columns_of : List TableInstance → (ℕ → List ℕ) → Expr → List ℕ
columns_of instances cols (Get o) = get_columns (slice_get instances o)
columns_of instances cols (Select C x) = cols x
columns_of instances cols (Join C a b) = rising (cols a ++ cols b)
columns_of instances cols (LeftJoin C a b) = rising (cols a ++ cols b)
columns_of instances cols (Semi C a b) = cols a
columns_of instances cols (Anti S M a b) = cols a
columns_of instances cols (Keep K x) = K
columns_of instances cols (Distinct x) = cols x
columns_of instances cols (Group K G x) = rising (K ++ aggregate_columns G)

-- the columns that conditions read
abbrev pub mentioned : (ℕ → List ℕ) → (ℕ → ColumnSet) → List Condition → ColumnSet
mentioned cols free C c = list_any (λ d. mentions d cols free c) C

-- what it reads of its environment: its classes' free columns, and what its conditions read but for its classes' columns
abbrev pub free_of : (ℕ → List ℕ) → (ℕ → ColumnSet) → Expr → ColumnSet
free_of cols free x c = list_any (λ g. free g c) (children x) || (mentioned cols free (conditions x) c && not (list_any (λ g. has (cols g) c) (children x)))

-- ---- well formed expressions

-- whether each class that conditions name passes a test
abbrev pub subqueries_pass : (ℕ → Bool) → List Condition → Bool
subqueries_pass p C = list_all (λ d. all_classes d p) C

-- whether each class that an expression names passes
abbrev pub classes_pass : (ℕ → Bool) → Expr → Bool
classes_pass p x = list_all p (children x) && subqueries_pass p (conditions x)

-- the classes that an expression names: those whose rows it takes, and those of its conditions, rising
abbrev pub input_classes : Expr → List ℕ
input_classes x = children x ++ classes_in (conditions x)

-- a column of the query: of a table instance, or of an aggregate of its own
abbrev pub is_query_column : List TableInstance → List Aggregation → ColumnSet
is_query_column instances own c = list_any (λ t. has (instance_columns t) c) instances || list_any (λ a. a.column == c) own

abbrev pub names_own : List TableInstance → List Aggregation → List Condition → Bool
names_own instances own C = list_all (λ d. all_columns d (is_query_column instances own)) C

-- the conditions name no class
abbrev pub is_plain : List Condition → Bool
is_plain C = subqueries_pass (λ g. false) C

-- the sides of a join share no column, and its conditions name no class
abbrev pub sides_formed : List Condition → List ℕ → List ℕ → Bool
sides_formed C left right = is_plain C && are_disjoint left right

abbrev pub are_different : List ℕ → Bool
are_different [] = true
are_different (c ∷ cs) = not (has cs c) && are_different cs

-- the aggregate is one of the query's own, reads the columns and is none of them
abbrev pub aggregation_formed : List Aggregation → List ℕ → Aggregation → Bool
aggregation_formed own columns a = list_any (same_aggregation a) own && is_subset (aggregate_reads a.aggregate) columns && not (has columns a.column)

-- what the operator itself asks, over classes with these columns, in a query with these table instances and aggregates
abbrev pub operator_formed : List TableInstance → List Aggregation → (ℕ → List ℕ) → Expr → Bool
operator_formed instances own cols (Get o) = nat_lt o (length instances)
operator_formed instances own cols (Select C x) = true
operator_formed instances own cols (Join C a b) = sides_formed C (cols a) (cols b)
operator_formed instances own cols (LeftJoin C a b) = sides_formed C (cols a) (cols b)
operator_formed instances own cols (Semi C a b) = sides_formed C (cols a) (cols b)
operator_formed instances own cols (Anti S M a b) = sides_formed (S ++ M) (cols a) (cols b)
operator_formed instances own cols (Keep K x) = is_subset K (cols x)
operator_formed instances own cols (Distinct x) = true
operator_formed instances own cols (Group K G x) = is_subset K (cols x) && are_different (aggregate_columns G) && list_all (aggregation_formed own (cols x)) G

-- whether the expression is well formed: its conditions name columns of the query, and it is as its operator asks
abbrev pub is_formed : List TableInstance → List Aggregation → (ℕ → List ℕ) → Expr → Bool
is_formed instances own cols x = names_own instances own (conditions x) && operator_formed instances own cols x

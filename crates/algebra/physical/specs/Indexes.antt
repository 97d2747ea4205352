-- Table instances that are read by an index of their table (the access path of P. Selinger et al., Access path selection in a
-- relational database management system, 1979).
use Rattle.std.specs.Prelude.{ℕ, ◌+◌, Bool, true, false, not, ◌&&◌, ◌==◌, nat_lt, if◌then◌else◌, List, [], ◌∷◌, length, map, slice_get, slice_index_or, Option, Some, None}
use Rattle.std.specs.List.{list_all}
use Rattle.values.specs.declared.truth.Comparison.TheVariants as by
use Rattle.query.specs.declared.query.TableInstance.{TableInstance}
use Rattle.query.specs.Rows.{Tables}
use Rattle.algebra.specs.declared.condition.Term.{Term}
use Rattle.algebra.specs.declared.condition.Term.TheVariants.{Column, Literal}
use Rattle.algebra.specs.declared.condition.Condition.{Condition, out-Condition}
use Rattle.algebra.specs.declared.condition.Condition.TheOpen.{Condition-F}
use Rattle.algebra.specs.Columns.{ColumnSet, has, is_subset}
use Rattle.algebra.specs.Bags.{Bag}
use Rattle.algebra.specs.Expressions.{get_columns, get_rows}
use Rattle.physical.specs.declared.plan.IndexAccess.{IndexAccess}
use Rattle.physical.specs.declared.plan.Matching.{Matching}
use Rattle.physical.specs.declared.plan.Matching.TheVariants.{Inner, Left, Semi, Anti}
use Rattle.physical.specs.declared.plan.OrderKey.{OrderKey}

-- the columns of the table instance that is read, and its rows
abbrev pub accessed_columns : List TableInstance → IndexAccess → List ℕ
accessed_columns instances a = get_columns (slice_get instances a.instance)

abbrev pub accessed_rows : List TableInstance → Tables → IndexAccess → Bag
accessed_rows instances D a = get_rows (slice_get instances a.instance) D

-- the columns of an index of a table instance, whose table has them at these places
abbrev pub numbered_from : ℕ → List ℕ → List ℕ
numbered_from first places = map (λ place. first + place) places

-- the columns of the index with a number; none where the table has no such index
abbrev pub columns_of_index : Option TableInstance → ℕ → List ℕ
columns_of_index None i = []
columns_of_index (Some t) i = numbered_from t.first_column (slice_index_or t.entry.indexes i [])

abbrev pub index_columns : List TableInstance → IndexAccess → List ℕ
index_columns instances a = columns_of_index (slice_get instances a.instance) a.index

-- rising by each of the columns in turn
abbrev pub rising_keys : List ℕ → List OrderKey
rising_keys columns = map (λ c. record { column = c; descending = false }) columns

-- the order of the index
abbrev pub index_order : List TableInstance → IndexAccess → List OrderKey
index_order instances a = rising_keys (index_columns instances a)

-- whether the table has an index with the number
abbrev pub numbers_index : Option TableInstance → ℕ → Bool
numbers_index None i = false
numbers_index (Some t) i = nat_lt i (length t.entry.indexes)

-- whether its table has the index, by columns of the table instance
abbrev pub has_index : List TableInstance → IndexAccess → Bool
has_index instances a = numbers_index (slice_get instances a.instance) a.index && is_subset (index_columns instances a) (accessed_columns instances a)

-- ---- what an index is probed with

-- the term is the column
abbrev pub is_column : ℕ → Term → Bool
is_column c (Column k) = k == c
is_column c (Literal v) = false

-- the term is none of the columns
abbrev pub is_outside : ColumnSet → Term → Bool
is_outside own (Column k) = not (own k)
is_outside own (Literal v) = true

-- what a column is equated with by an equality of these terms, if that is none of the columns
abbrev pub probe_of_terms : ColumnSet → ℕ → Term → Term → Option Term
probe_of_terms own c s t = if is_column c s && is_outside own t then Some t else if is_column c t && is_outside own s then Some s else None

abbrev pub probe_layer : ColumnSet → ℕ → Condition-F Condition → Option Term
probe_layer own c (Condition-F.Compare by.Equal s t) = probe_of_terms own c s t
probe_layer own c d = None

abbrev pub probe_of : ColumnSet → ℕ → Condition → Option Term
probe_of own c d = probe_layer own c (out-Condition d)

-- what the first of some conditions that does so equates a column with
abbrev pub or_else_probe : Option Term → Option Term → Option Term
or_else_probe None later = later
or_else_probe (Some t) later = Some t

abbrev pub probe_in : ColumnSet → List Condition → ℕ → Option Term
probe_in own [] c = None
probe_in own (d ∷ conditions) c = or_else_probe (probe_of own c d) (probe_in own conditions c)

abbrev pub is_probe : Option Term → Bool
is_probe None = false
is_probe (Some t) = true

-- whether each of some columns is equated with what is none of the table instance's
abbrev pub are_probed : ColumnSet → List Condition → List ℕ → Bool
are_probed own conditions columns = list_all (λ c. is_probe (probe_in own conditions c)) columns

-- the conditions of a join that each match makes true
abbrev pub sure_conditions : Matching → List Condition
sure_conditions (Inner C) = C
sure_conditions (Left C) = C
sure_conditions (Semi C) = C
sure_conditions (Anti S M) = S

-- whether a join is able to find the matches of a left row by the index: its table has it, and each match equates its columns
abbrev pub finds_by_index : List TableInstance → IndexAccess → Matching → Bool
finds_by_index instances a j = has_index instances a && are_probed (has (accessed_columns instances a)) (sure_conditions j) (index_columns instances a)

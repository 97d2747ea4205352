-- What is known of every bound query: what its blocks name is there, and the columns that a condition can name have numbers
-- of their own. Columns by level and place, and their numbers, are this project's profile of SQL.
use Rattle.std.specs.Prelude.{◌≡◌, ℕ, Bool, true, false, not, ◌&&◌, ◌==◌, nat_lt, if◌then◌else◌, List, [], ◌∷◌, ◌++◌, length, slice_get, slice_index_or, map, Option, Some, None}
use Rattle.std.specs.List.{AllByRecursion, list_any, list_all, range_with_len}
use Rattle.schema.specs.declared.schema.Schema.{Schema}
use Rattle.query.specs.declared.query.Column.{Column}
use Rattle.query.specs.declared.query.Term.{Term}
use Rattle.query.specs.declared.query.Term.TheVariants as term
use Rattle.query.specs.declared.query.Aggregate.{Aggregate}
use Rattle.query.specs.declared.query.Aggregate.TheVariants as by
use Rattle.query.specs.declared.query.Item.{Item}
use Rattle.query.specs.declared.query.Item.TheVariants as item
use Rattle.query.specs.declared.query.TableReference.{TableReference}
use Rattle.query.specs.declared.query.TableInstance.{TableInstance}
use Rattle.query.specs.declared.query.Cond.{Cond}
use Rattle.query.specs.declared.query.From.{From}
use Rattle.query.specs.declared.query.Block.{Block}
use Rattle.query.specs.declared.query.Query.{Query}
use Rattle.query.specs.declared.query.Cond.TheOpen.{Cond-F, From-F, Block-F}
use Rattle.query.specs.declared.query.Cond.TheFolds.{fold-Cond, fold-From, fold-Block}

-- ---- column numbers

-- the column numbers of the rows that a condition sees, the innermost first
abbrev pub Scope : Type 0
Scope = List (List ℕ)

-- the number of the column at a place of a row with these
abbrev pub number_at : List ℕ → ℕ → ℕ
number_at numbers place = slice_index_or numbers place 0

-- the number of a column
abbrev pub number : Scope → Column → ℕ
number scope c = number_at (slice_index_or scope c.level []) c.place

-- the scope has the column
abbrev pub names : Scope → Column → Bool
names scope c = nat_lt c.place (length (slice_index_or scope c.level []))

-- the column numbers of a table instance, in the order of its rows
abbrev pub numbers_of_instance : Option TableInstance → List ℕ
numbers_of_instance None = []
numbers_of_instance (Some t) = range_with_len t.first_column (length t.entry.columns)

abbrev pub instance_numbers : List TableInstance → TableReference → List ℕ
instance_numbers instances o = numbers_of_instance (slice_get instances o.number)

-- ---- numbers of their own

abbrev pub is_among : ℕ → List ℕ → Bool
is_among k numbers = list_any (λ j. j == k) numbers

-- no number stands twice
abbrev pub all_differ : List ℕ → Bool
all_differ [] = true
all_differ (k ∷ numbers) = not (is_among k numbers) && all_differ numbers

-- no number stands in both
abbrev pub none_among : List ℕ → List ℕ → Bool
none_among numbers others = list_all (λ k. not (is_among k others)) numbers

-- the numbers differ from one another and from those of the rows around
abbrev pub are_new : List ℕ → Scope → Bool
are_new numbers scope = all_differ numbers && list_all (none_among numbers) scope

-- the number is that of a column of a table instance
abbrev pub is_of_tables : List TableInstance → ℕ → Bool
is_of_tables instances k = list_any (λ t. is_among k (numbers_of_instance (Some t))) instances

abbrev pub none_of_tables : List TableInstance → List ℕ → Bool
none_of_tables instances numbers = list_all (λ k. not (is_of_tables instances k)) numbers

-- ---- what stands in conditions, FROMs and blocks is there

-- of a condition: it has no subquery; and in the scope all that it names is there
pub record CondScope : Type 0 where
  pub plain : Bool
  pub bound : Scope → Bool

-- of a FROM: the column numbers of its rows; and behind the scope of the rows around all that it names is there
pub record FromScope : Type 0 where
  pub numbers : List ℕ
  pub bound : Scope → Bool

-- of a block: it shows one column; and behind the scope of the rows around all that it names is there
pub record BlockScope : Type 0 where
  pub single : Bool
  pub bound : Scope → Bool

abbrev pub bound_term : Scope → Term → Bool
bound_term scope (term.Column c) = names scope c
bound_term scope (term.Literal v) = true

abbrev pub cond_scope_layer : Cond-F CondScope FromScope BlockScope → CondScope
cond_scope_layer (Cond-F.Compare op a b) = record { plain = true; bound = λ scope. bound_term scope a && bound_term scope b }
cond_scope_layer (Cond-F.IsNull a) = record { plain = true; bound = λ scope. bound_term scope a }
cond_scope_layer (Cond-F.Not c) = c
cond_scope_layer (Cond-F.And cs) = record { plain = list_all (λ c. c.plain) cs; bound = λ scope. list_all (λ c. c.bound scope) cs }
cond_scope_layer (Cond-F.Or cs) = record { plain = list_all (λ c. c.plain) cs; bound = λ scope. list_all (λ c. c.bound scope) cs }
cond_scope_layer (Cond-F.Exists q) = record { plain = false; bound = q.bound }
cond_scope_layer (Cond-F.In a q) = record { plain = false; bound = λ scope. bound_term scope a && (q.single && q.bound scope) }

-- the instance is one of the query's, of the same table
abbrev pub is_named_by : Option TableInstance → TableReference → Bool
is_named_by None o = false
is_named_by (Some t) o = t.table == o.table

abbrev pub names_instance : List TableInstance → TableReference → Bool
names_instance instances o = is_named_by (slice_get instances o.number) o

-- an ON names the columns of both sides, and has no subquery
abbrev pub join_scope : List TableInstance → FromScope → TableReference → CondScope → FromScope
join_scope instances f o on =
    let numbers = f.numbers ++ instance_numbers instances o in
    record { numbers = numbers; bound = λ scope. f.bound scope && (names_instance instances o && (on.plain && on.bound (numbers ∷ scope))) }

abbrev pub from_scope_layer : List TableInstance → From-F CondScope FromScope BlockScope → FromScope
from_scope_layer instances (From-F.Table o) = record { numbers = instance_numbers instances o; bound = λ scope. names_instance instances o }
from_scope_layer instances (From-F.Join f o on) = join_scope instances f o on
from_scope_layer instances (From-F.LeftJoin f o on) = join_scope instances f o on
from_scope_layer instances (From-F.Comma f g) = record { numbers = f.numbers ++ g.numbers; bound = λ scope. f.bound scope && g.bound scope }

abbrev pub bound_filter : Option CondScope → Scope → Bool
bound_filter None scope = true
bound_filter (Some c) scope = c.bound scope

-- the place that an aggregate reads, if it reads one, is one of so many
abbrev pub bound_aggregate : ℕ → Aggregate → Bool
bound_aggregate width by.CountRows = true
bound_aggregate width (by.Count place) = nat_lt place width
bound_aggregate width (by.Sum place) = nat_lt place width
bound_aggregate width (by.Min place) = nat_lt place width
bound_aggregate width (by.Max place) = nat_lt place width

-- an item of a block that isn't grouped is a column
abbrev pub bound_item : Scope → Item → Bool
bound_item scope (item.Column c) = names scope c
bound_item scope (item.Aggregate n a) = false

-- an item of a grouped block that is a column of its own FROM is a key
abbrev pub bound_group_item : ℕ → List ℕ → Scope → Item → Bool
bound_group_item width keys scope (item.Column c) = if c.level == 0 then is_among c.place keys else names scope c
bound_group_item width keys scope (item.Aggregate n a) = bound_aggregate width a

abbrev pub bound_items : Bool → ℕ → List ℕ → List Item → Scope → Bool
bound_items false width keys items scope = list_all (bound_item scope) items
bound_items true width keys items scope = list_all (λ k. nat_lt k width) keys && list_all (bound_group_item width keys scope) items

-- the column numbers of the aggregates
abbrev pub aggregate_numbers : List Item → List ℕ
aggregate_numbers [] = []
aggregate_numbers (item.Column c ∷ items) = aggregate_numbers items
aggregate_numbers (item.Aggregate n a ∷ items) = n ∷ aggregate_numbers items

-- the number of what an item shows
abbrev pub item_number : Scope → Item → ℕ
item_number scope (item.Column c) = number scope c
item_number scope (item.Aggregate n a) = n

-- the scope of a HAVING: the numbers of what its items show
abbrev pub having_scope : Scope → List Item → Scope
having_scope scope asked = map (item_number scope) asked ∷ []

abbrev pub is_single : List Item → Bool
is_single items = length items == 1

-- the numbers of aggregates are those of no table instance's columns, wherever that stands; HAVING reads what items may show
abbrev pub block_scope_layer : List TableInstance → Block-F CondScope FromScope BlockScope → BlockScope
block_scope_layer instances q =
    let numbers = q.from.numbers in
    let items = q.items ++ q.having_items in
    record {
      single = is_single q.items;
      bound = λ scope.
          are_new (aggregate_numbers items ++ numbers) scope
          && (none_of_tables instances (aggregate_numbers items)
          && (q.from.bound scope && (bound_filter q.filter (numbers ∷ scope)
          && (bound_items q.grouped (length numbers) q.keys items (numbers ∷ scope) && bound_filter q.having (having_scope (numbers ∷ scope) q.having_items)))));
    }

unfoldable pub cond_scope : List TableInstance → Cond → CondScope
cond_scope instances = fold-Cond CondScope FromScope BlockScope cond_scope_layer (from_scope_layer instances) (block_scope_layer instances)

unfoldable pub from_scope : List TableInstance → From → FromScope
from_scope instances = fold-From CondScope FromScope BlockScope cond_scope_layer (from_scope_layer instances) (block_scope_layer instances)

unfoldable pub block_scope : List TableInstance → Block → BlockScope
block_scope instances = fold-Block CondScope FromScope BlockScope cond_scope_layer (from_scope_layer instances) (block_scope_layer instances)

-- all that the query names is there, and the columns that a condition can name have numbers of their own
abbrev pub is_bound : Query → Bool
is_bound q = (block_scope q.tables q.block).bound []

-- ---- over a schema

-- the table instance is one of a table of the schema
abbrev pub IsOver : Schema → TableInstance → Type 0
IsOver S t = slice_get S.tables t.table ≡ Some t.entry

-- so are all table instances of the query
abbrev pub TablesAreOver : Schema → Query → Type 0
TablesAreOver S q = AllByRecursion (IsOver S) q.tables

-- the query is bound, and over the schema
pub record IsBoundOver (S : Schema) (q : Query) : Type 0 where
  pub bound : is_bound q ≡ true
  pub over : TablesAreOver S q

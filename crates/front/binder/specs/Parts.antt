-- What the names, terms, tables and items of a statement mean, and every fault of each (this project's profile of SQL). Nothing
-- here stops at a fault: what a part with one means is never asked.
use Rattle.std.specs.Prelude.{◌+◌, ◌==◌, ℕ, Bool, true, false, not, if◌then◌else◌, List, [], ◌∷◌, ◌++◌, flat_map, length, map, is_some, unwrap_or, zip, Option, Some, None, Result, Ok, Err}
use Rattle.std.specs.List.{list_all, range_with_len}
use Rattle.schema.specs.declared.schema.Column as entries
use Rattle.schema.specs.declared.schema.Kind.{Kind}
use Rattle.schema.specs.declared.schema.Kind.TheVariants as kind
use Rattle.schema.specs.declared.schema.Table.{Table}
use Rattle.schema.specs.declared.schema.Schema.{Schema}
use Rattle.sql_parse.specs.declared.statement.AggregateFunction.{AggregateFunction}
use Rattle.sql_parse.specs.declared.statement.AggregateFunction.TheVariants as function
use Rattle.sql_parse.specs.declared.statement.ColumnName.{ColumnName}
use Rattle.sql_parse.specs.declared.statement.HavingTerm.{HavingTerm}
use Rattle.sql_parse.specs.declared.statement.HavingTerm.TheVariants as asked
use Rattle.sql_parse.specs.declared.statement.ItemValue.{ItemValue}
use Rattle.sql_parse.specs.declared.statement.ItemValue.TheVariants as text
use Rattle.sql_parse.specs.declared.statement.OrderKey.{OrderKey}
use Rattle.sql_parse.specs.declared.statement.SelectItem.{SelectItem}
use Rattle.sql_parse.specs.declared.statement.SelectList.{SelectList}
use Rattle.sql_parse.specs.declared.statement.SelectList.TheVariants as list
use Rattle.sql_parse.specs.declared.statement.TableName.{TableName}
use Rattle.sql_parse.specs.declared.statement.Term as tree
use Rattle.sql_parse.specs.declared.statement.Term.TheVariants as written
use Rattle.query.specs.declared.query.Aggregate.{Aggregate}
use Rattle.query.specs.declared.query.Aggregate.TheVariants as by
use Rattle.query.specs.declared.query.Item.{Item}
use Rattle.query.specs.declared.query.Item.TheVariants as item
use Rattle.query.specs.declared.query.TableReference.{TableReference}
use Rattle.query.specs.declared.query.SortKey.{SortKey}
use Rattle.query.specs.declared.query.TableInstance.{TableInstance}
use Rattle.query.specs.declared.query.Term.TheVariants as term
use Rattle.binder.specs.declared.fault.BindReason.{BindReason}
use Rattle.binder.specs.declared.fault.BindReason.TheVariants.{UnknownTable, AmbiguousName, RepeatedName, UngroupedColumn, SumOfText, NoOutputColumn, OuterAggregate}
use Rattle.binder.specs.declared.fault.BindRefusal.{BindRefusal}
use Rattle.binder.specs.declared.output.Output.{Output}
use Rattle.binder.specs.declared.scope.TypedColumn.{TypedColumn}
use Rattle.binder.specs.declared.selects.BoundTerm.{BoundTerm}
use Rattle.binder.specs.HavingShapes.{named}
use Rattle.binder.specs.Havings.{is_key}
use Rattle.binder.specs.Kinds.{kind_of}
use Rattle.binder.specs.Lookups.{find_table, own, refusal}
use Rattle.binder.specs.Meanings.{columns_of}
use Rattle.binder.specs.Ordering.{first_place, outputs_meant, same_item}
use Rattle.binder.specs.Outputs.{is_aggregate, is_call, is_shown, output_name, shows}
use Rattle.binder.specs.Scopes.{Known, Scope, Scopes, is_taken, known_name, meant, place_in_text}

-- ---- faults

-- a fault, unless that holds
abbrev pub unless : Bool → BindReason → ℕ → List BindRefusal
unless holds reason at = if holds then [] else refusal reason at ∷ []

-- ---- names: what one means is said by specs/Meanings

abbrev pub fault_in : {A : Type 0} → Result A BindRefusal → List BindRefusal
fault_in (Ok x) = []
fault_in (Err r) = r ∷ []

abbrev pub value_in : {A : Type 0} → A → Result A BindRefusal → A
value_in other (Ok x) = x
value_in other (Err r) = other

abbrev pub name_faults : Scopes → ColumnName → List BindRefusal
name_faults scopes c = fault_in (meant c scopes)

abbrev pub the_column : Scopes → ColumnName → TypedColumn
the_column scopes c = value_in (record { column = own 0; kind = kind.Int }) (meant c scopes)

-- ---- terms

abbrev pub term_faults : Scopes → tree.Term → List BindRefusal
term_faults scopes (written.Column c) = name_faults scopes c
term_faults scopes (written.Literal v) = []

abbrev pub the_term : Scopes → tree.Term → BoundTerm
the_term scopes (written.Column c) = record { term = term.Column (the_column scopes c).column; kind = Some (the_column scopes c).kind }
the_term scopes (written.Literal v) = record { term = term.Literal v; kind = kind_of v }

-- ---- tables

abbrev pub no_table : ℕ × Table
no_table = (0, record { name = []; columns = []; unique = []; indexes = [] })

module _ (S : Schema) where
  -- the table's entry, and its place in the schema
  abbrev pub the_table : TableName → ℕ × Table
  the_table t = unwrap_or (find_table 0 S.tables t.name.text) no_table

  -- as columns know it
  abbrev pub known : TableName → Known
  known t = record { name = (known_name t).text; entry = (the_table t).1 }

  -- It is there, and its name is no other's in its FROM.
  abbrev pub table_faults : Scope → TableName → List BindRefusal
  table_faults others t =
      unless (is_some (find_table 0 S.tables t.name.text)) UnknownTable t.name.at ++ unless (not (is_taken (known_name t).text others)) RepeatedName (known_name t).at

  -- how many columns tables have together
  abbrev pub widths : List TableName → ℕ
  widths [] = 0
  widths (t ∷ ts) = length (the_table t).1.columns + widths ts

  -- behind these in the text: it has their number, and its columns are numbered on from theirs
  abbrev pub the_reference : List TableName → TableName → TableReference
  the_reference before t = record { number = length before; table = (the_table t).0 }

  abbrev pub the_instance : List TableName → TableName → TableInstance
  the_instance before t = record { table = (the_table t).0; entry = (the_table t).1; name = (known_name t).text; first_column = widths before }

  abbrev pub instances_behind : List TableName → List TableName → List TableInstance
  instances_behind before [] = []
  instances_behind before (t ∷ ts) = the_instance before t ∷ instances_behind (before ++ t ∷ []) ts

-- ---- items

-- a GROUP BY column is one of the own FROM
abbrev pub key_faults : Scopes → ColumnName → List BindRefusal
key_faults scopes c = name_faults scopes c ++ unless ((the_column scopes c).column.level == 0) UngroupedColumn (place_in_text c)

abbrev pub the_key : Scopes → ColumnName → ℕ
the_key scopes c = (the_column scopes c).column.place

abbrev pub aggregate_by : AggregateFunction → ℕ → Aggregate
aggregate_by function.Count place = by.Count place
aggregate_by function.Sum place = by.Sum place
aggregate_by function.Min place = by.Min place
aggregate_by function.Max place = by.Max place

abbrev pub kind_by : AggregateFunction → Kind → Kind
kind_by function.Count k = kind.Int
kind_by function.Sum k = kind.Int
kind_by function.Min k = k
kind_by function.Max k = k

-- a text has no sum
abbrev pub has_aggregate : AggregateFunction → Kind → Bool
has_aggregate function.Sum kind.Text = false
has_aggregate _ k = true

module _ (scopes : Scopes) where
  -- its column is one of the own FROM
  abbrev pub aggregate_faults : AggregateFunction → ℕ → Option ColumnName → List BindRefusal
  aggregate_faults f at None = []
  aggregate_faults f at (Some c) =
      name_faults scopes c ++ (unless ((the_column scopes c).column.level == 0) OuterAggregate at ++ unless (has_aggregate f (the_column scopes c).kind) SumOfText at)

  abbrev pub the_aggregate : AggregateFunction → Option ColumnName → Aggregate
  the_aggregate f None = by.CountRows
  the_aggregate f (Some c) = aggregate_by f (the_column scopes c).column.place

  abbrev pub aggregate_kind : AggregateFunction → Option ColumnName → Kind
  aggregate_kind f None = kind.Int
  aggregate_kind f (Some c) = kind_by f (the_column scopes c).kind

  abbrev pub item_faults : Bool → List ℕ → ItemValue → List BindRefusal
  item_faults grouped keys (text.Column c) = name_faults scopes c ++ unless (shows grouped keys (the_column scopes c).column) UngroupedColumn (place_in_text c)
  item_faults grouped keys (text.Aggregate call) = aggregate_faults call.function call.at call.column

  -- number is its own if it is an aggregate
  abbrev pub the_item : ℕ → ItemValue → Item
  the_item number (text.Column c) = item.Column (the_column scopes c).column
  the_item number (text.Aggregate call) = item.Aggregate number (the_aggregate call.function call.column)

  abbrev pub item_kind : ItemValue → Kind
  item_kind (text.Column c) = (the_column scopes c).kind
  item_kind (text.Aggregate call) = aggregate_kind call.function call.column

  abbrev pub the_output : ℕ → SelectItem → Output
  the_output number i = record { name = output_name i.alias i.value; item = the_item number i.value; kind = item_kind i.value }

  -- each aggregate has the next number
  abbrev pub the_outputs : ℕ → List SelectItem → List Output
  the_outputs number [] = []
  the_outputs number (i ∷ items) = the_output number i ∷ the_outputs (if is_aggregate i then number + 1 else number) items

  -- ---- HAVING, over these keys

  -- what it names is a GROUP BY column or an aggregate
  abbrev pub asked_faults : List ℕ → ItemValue → List BindRefusal
  asked_faults keys (text.Column c) = name_faults scopes c ++ unless (is_key keys (the_column scopes c).column) UngroupedColumn (place_in_text c)
  asked_faults keys (text.Aggregate call) = aggregate_faults call.function call.at call.column

  abbrev pub term_asked_faults : List ℕ → HavingTerm → List BindRefusal
  term_asked_faults keys a = flat_map (asked_faults keys) (named a)

  -- NULL has either kind
  abbrev pub asked_kind : HavingTerm → Option Kind
  asked_kind (asked.Column c) = Some (item_kind (text.Column c))
  asked_kind (asked.Aggregate call) = Some (item_kind (text.Aggregate call))
  asked_kind (asked.Literal v) = kind_of v

  -- each aggregate has the next number
  abbrev pub the_asked : ℕ → List ItemValue → List Item
  the_asked number [] = []
  the_asked number (v ∷ values) = the_item number v ∷ the_asked (if is_call v then number + 1 else number) values

-- ---- what a SELECT shows, whose own FROM is the innermost of the scopes

abbrev pub output_at : ℕ × entries.Column → Output
output_at (place, c) = record { name = c.name; item = item.Column (own place); kind = c.kind }

-- `*`: all columns of the FROM, by their places
abbrev pub all_columns : Scope → List Output
all_columns scope = map output_at (zip (range_with_len 0 (length (columns_of scope))) (columns_of scope))

abbrev pub list_faults : Scope → Scopes → Bool → List ℕ → SelectList → List BindRefusal
list_faults scope scopes grouped keys (list.Items items) = flat_map (λ i. item_faults scopes grouped keys i.value) items
list_faults scope scopes grouped keys (list.Star at) = unless (list_all (λ o. is_shown grouped keys o.item) (all_columns scope)) UngroupedColumn at

abbrev pub shown : Scope → Scopes → ℕ → SelectList → List Output
shown scope scopes number (list.Items items) = the_outputs scopes number items
shown scope scopes number (list.Star at) = all_columns scope

abbrev pub kinds_shown : Scope → Scopes → SelectList → List Kind
kinds_shown scope scopes (list.Items items) = map (λ i. item_kind scopes i.value) items
kinds_shown scope scopes (list.Star at) = map (λ o. o.kind) (all_columns scope)

abbrev pub is_one : {A : Type 0} → List A → Bool
is_one [] = false
is_one (x ∷ []) = true
is_one (x ∷ y ∷ more) = false

abbrev pub first_kind : List Kind → Option Kind
first_kind [] = None
first_kind (k ∷ more) = Some k

-- ---- ORDER BY

abbrev pub is_empty : {A : Type 0} → List A → Bool
is_empty [] = true
is_empty (x ∷ xs) = false

-- all are one column
abbrev pub are_one : List Item → Bool
are_one [] = true
are_one (i ∷ others) = list_all (same_item i) others

abbrev pub place_of : List Item → List Output → ℕ
place_of [] outputs = 0
place_of (i ∷ others) outputs = first_place i outputs

module _ (scope : Scope) (outputs : List Output) where
  -- the items that a key means
  abbrev pub items_meant : OrderKey → List Item
  items_meant key = map (λ o. o.item) (outputs_meant scope key.column.table key.column.name outputs)

  abbrev pub order_faults : OrderKey → List BindRefusal
  order_faults key = unless (not (is_empty (items_meant key))) NoOutputColumn (place_in_text key.column) ++ unless (are_one (items_meant key)) AmbiguousName (place_in_text key.column)

  abbrev pub the_sort_key : OrderKey → SortKey
  the_sort_key key = record { item = place_of (items_meant key) outputs; descending = key.descending }

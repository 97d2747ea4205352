-- What a SELECT shows: its items, their names and kinds, and what a grouped one may show (this project's profile of SQL).
use Rattle.std.specs.Prelude.{◌+◌, ◌==◌, ℕ, Bool, true, false, not, ◌||◌, nat_lt, if◌then◌else◌, List, [], ◌∷◌, ◌++◌, length, filter, codes, is_some, Option, Some, None, Result, Ok, Err}
use Rattle.std.specs.List.{list_any, list_all}
use Rattle.values.specs.Faults.{◌>>=◌, wanted_if}
use Rattle.schema.specs.declared.schema.Kind.{Kind}
use Rattle.schema.specs.declared.schema.Kind.TheVariants as kind
use Rattle.schema.specs.declared.schema.Column as entries
use Rattle.sql_parse.specs.declared.name.Name.{Name}
use Rattle.sql_parse.specs.declared.statement.ColumnName.{ColumnName}
use Rattle.sql_parse.specs.declared.statement.AggregateFunction.{AggregateFunction}
use Rattle.sql_parse.specs.declared.statement.AggregateFunction.TheVariants as function
use Rattle.sql_parse.specs.declared.statement.HavingCondition.{HavingCondition}
use Rattle.sql_parse.specs.declared.statement.ItemValue.{ItemValue}
use Rattle.sql_parse.specs.declared.statement.ItemValue.TheVariants as text
use Rattle.sql_parse.specs.declared.statement.SelectItem.{SelectItem}
use Rattle.sql_parse.specs.declared.statement.SelectList.{SelectList}
use Rattle.sql_parse.specs.declared.statement.SelectList.TheVariants as list
use Rattle.query.specs.declared.query.Column.{Column}
use Rattle.query.specs.declared.query.Aggregate.{Aggregate}
use Rattle.query.specs.declared.query.Aggregate.TheVariants as by
use Rattle.query.specs.declared.query.Item.{Item}
use Rattle.query.specs.declared.query.Item.TheVariants as item
use Rattle.binder.specs.declared.scope.TypedColumn.{TypedColumn}
use Rattle.binder.specs.declared.output.Output.{Output}
use Rattle.binder.specs.declared.fault.BindReason.TheVariants.{UngroupedColumn, OuterAggregate, SumOfText}
use Rattle.binder.specs.declared.fault.BindRefusal.{BindRefusal}
use Rattle.binder.specs.Lookups.{own, refusal}
use Rattle.binder.specs.Scopes.{Scope, Scopes, meant, place_in_text}

-- ---- groups

abbrev pub is_call : ItemValue → Bool
is_call (text.Column c) = false
is_call (text.Aggregate call) = true

abbrev pub is_aggregate : SelectItem → Bool
is_aggregate i = is_call i.value

-- how many aggregates are shown
abbrev pub aggregates : SelectList → ℕ
aggregates (list.Star at) = 0
aggregates (list.Items items) = length (filter is_aggregate items)

-- a SELECT is grouped if it has GROUP BY columns, shows an aggregate or has a HAVING
abbrev pub is_grouped : List ℕ → SelectList → Option HavingCondition → Bool
is_grouped keys items having = nat_lt 0 (length keys) || nat_lt 0 (aggregates items) || is_some having

-- a GROUP BY column is one of the own FROM
abbrev pub key_in : Scopes → ColumnName → Result ℕ BindRefusal
key_in scopes c = do
  found ← meant c scopes
  wanted_if (refusal UngroupedColumn (place_in_text c)) (found.column.level == 0) found.column.place

-- whether a column may be shown: in a grouped SELECT one of the own FROM is a GROUP BY column
abbrev pub shows : Bool → List ℕ → Column → Bool
shows grouped keys c = not grouped || not (c.level == 0) || list_any (λ k. k == c.place) keys

-- ---- items

abbrev pub function_name : AggregateFunction → List ℕ
function_name function.Count = codes "count"
function_name function.Sum = codes "sum"
function_name function.Min = codes "min"
function_name function.Max = codes "max"

-- an item's output name: its alias, or else its column's name or its function's
abbrev pub output_name : Option Name → ItemValue → List ℕ
output_name (Some alias) value = alias.text
output_name None (text.Column c) = c.name.text
output_name None (text.Aggregate call) = function_name call.function

-- numbers alone have a sum
abbrev pub sum_of : ℕ → ℕ → Kind → Result (Aggregate × Kind) BindRefusal
sum_of at place kind.Int = Ok (by.Sum place, kind.Int)
sum_of at place kind.Text = Err (refusal SumOfText at)

-- an aggregate of a column of the own FROM, and its kind
abbrev pub aggregate_of : AggregateFunction → ℕ → TypedColumn → Result (Aggregate × Kind) BindRefusal
aggregate_of function.Count at c = Ok (by.Count c.column.place, kind.Int)
aggregate_of function.Sum at c = sum_of at c.column.place c.kind
aggregate_of function.Min at c = Ok (by.Min c.column.place, c.kind)
aggregate_of function.Max at c = Ok (by.Max c.column.place, c.kind)

abbrev pub aggregate_in : Scopes → AggregateFunction → ℕ → Option ColumnName → Result (Aggregate × Kind) BindRefusal
aggregate_in scopes function at None = Ok (by.CountRows, kind.Int)
aggregate_in scopes function at (Some c) = do
  found ← meant c scopes
  own ← wanted_if (refusal OuterAggregate at) (found.column.level == 0) found
  aggregate_of function at own

-- an item, and its kind; number is its own if it is an aggregate
abbrev pub item_in : Scopes → Bool → List ℕ → ℕ → ItemValue → Result (Item × Kind) BindRefusal
item_in scopes grouped keys number (text.Column c) = do
  found ← meant c scopes
  wanted_if (refusal UngroupedColumn (place_in_text c)) (shows grouped keys found.column) (item.Column found.column, found.kind)
item_in scopes grouped keys number (text.Aggregate call) =
    aggregate_in scopes call.function call.at call.column >>= λ found. Ok (item.Aggregate number found.0, found.1)

abbrev pub output_in : Scopes → Bool → List ℕ → ℕ → SelectItem → Result Output BindRefusal
output_in scopes grouped keys number i =
    item_in scopes grouped keys number i.value >>= λ found. Ok (record { name = output_name i.alias i.value; item = found.0; kind = found.1 })

-- one after the other; each aggregate has the next number
unfoldable pub items_in : Scopes → Bool → List ℕ → ℕ → List SelectItem → Result (List Output) BindRefusal
items_in scopes grouped keys number [] = Ok []
items_in scopes grouped keys number (i ∷ items) = do
  first ← output_in scopes grouped keys number i
  others ← items_in scopes grouped keys (if is_aggregate i then number + 1 else number) items
  Ok (first ∷ others)

-- ---- `*`

-- the columns of a table, whose places are counted on from n
abbrev pub columns_from : ℕ → List entries.Column → List Output
columns_from n [] = []
columns_from n (c ∷ cs) = record { name = c.name; item = item.Column (own n); kind = c.kind } ∷ columns_from (n + 1) cs

-- all columns of a FROM
abbrev pub all_columns : ℕ → Scope → List Output
all_columns n [] = []
all_columns n (o ∷ scope) = columns_from n o.entry.columns ++ all_columns (n + length o.entry.columns) scope

abbrev pub is_shown : Bool → List ℕ → Item → Bool
is_shown grouped keys (item.Column c) = shows grouped keys c
is_shown grouped keys (item.Aggregate n a) = true

-- ---- either

-- what a SELECT shows, whose own FROM is the innermost of the scopes
abbrev pub outputs_in : Scope → Scopes → Bool → List ℕ → ℕ → SelectList → Result (List Output) BindRefusal
outputs_in scope scopes grouped keys number (list.Items items) = items_in scopes grouped keys number items
outputs_in scope scopes grouped keys number (list.Star at) =
    wanted_if (refusal UngroupedColumn at) (list_all (λ o. is_shown grouped keys o.item) (all_columns 0 scope)) (all_columns 0 scope)

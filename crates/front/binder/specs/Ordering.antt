-- The keys of ORDER BY, which are output columns (this project's profile of SQL).
use Rattle.std.specs.Prelude.{◌==◌, ℕ, Bool, false, not, ◌&&◌, List, [], ◌∷◌, filter, map, position, unwrap_or, Option, Some, None, Result, Ok, Err, bytes_eq}
use Rattle.std.specs.List.{list_all}
use Rattle.values.specs.Faults.{◌>>=◌, wanted_if}
use Rattle.schema.specs.Each.{each}
use Rattle.sql_parse.specs.declared.name.Name.{Name}
use Rattle.sql_parse.specs.declared.statement.OrderKey.{OrderKey}
use Rattle.query.specs.declared.query.Item.{Item}
use Rattle.query.specs.declared.query.Item.TheVariants as item
use Rattle.query.specs.declared.query.SortKey.{SortKey}
use Rattle.binder.specs.declared.scope.TypedColumn.{TypedColumn}
use Rattle.binder.specs.declared.output.Output.{Output}
use Rattle.binder.specs.declared.fault.BindReason.TheVariants.{AmbiguousName, NoOutputColumn}
use Rattle.binder.specs.declared.fault.BindRefusal.{BindRefusal}
use Rattle.binder.specs.Lookups.{refusal}
use Rattle.binder.specs.Scopes.{Scope, qualified, place_in_text}

-- whether two items are one column; different aggregates of the text are different columns
abbrev pub same_item : Item → Item → Bool
same_item (item.Column c) (item.Column d) = (c.level == d.level) && (c.place == d.place)
same_item (item.Column c) (item.Aggregate n a) = false
same_item (item.Aggregate m a) (item.Column d) = false
same_item (item.Aggregate m a) (item.Aggregate n b) = m == n

-- the outputs that are the column that was found
abbrev pub showing : Result TypedColumn BindRefusal → List Output → List Output
showing (Ok found) outputs = filter (λ o. same_item o.item (item.Column found.column)) outputs
showing (Err _) outputs = []

-- The outputs that a key means. A plain name means those of that output name, and a name with a table's name those that are
-- the column of the FROM that it means, if it means one.
abbrev pub outputs_meant : Scope → Option Name → Name → List Output → List Output
outputs_meant scope None name outputs = filter (λ o. bytes_eq o.name name.text) outputs
outputs_meant scope (Some table) name outputs = showing (qualified table name 0 (scope ∷ [])) outputs

-- the one column that all of the items are
abbrev pub one_column : ℕ → List Item → Result Item BindRefusal
one_column at [] = Err (refusal NoOutputColumn at)
one_column at (i ∷ others) = wanted_if (refusal AmbiguousName at) (list_all (λ j. same_item i j) others) i

-- the place of the first output that is this column
abbrev pub first_place : Item → List Output → ℕ
first_place i outputs = unwrap_or (position (λ o. same_item o.item i) outputs) 0

abbrev pub sort_key_in : Scope → List Output → OrderKey → Result SortKey BindRefusal
sort_key_in scope outputs key = do
  i ← one_column (place_in_text key.column) (map (λ o. o.item) (outputs_meant scope key.column.table key.column.name outputs))
  Ok (record { item = first_place i outputs; descending = key.descending })

-- a later key over a column that is a key already is dropped
unfoldable pub without_repeats : List SortKey → List SortKey
without_repeats [] = []
without_repeats (key ∷ keys) = key ∷ filter (λ later. not (key.item == later.item)) (without_repeats keys)

unfoldable pub order_in : Scope → List Output → List OrderKey → Result (List SortKey) BindRefusal
order_in scope outputs keys = each (sort_key_in scope outputs) keys >>= λ bound. Ok (without_repeats bound)

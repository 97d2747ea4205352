-- What a HAVING names, one after the other, with the first fault in it (this project's profile of SQL): of a comparison its
-- terms come first, and then their kinds.
use Rattle.std.specs.Prelude.{ℕ, ◌+◌, ◌==◌, Bool, ◌&&◌, List, [], ◌∷◌, ◌++◌, Option, Some, None, Result, Ok}
use Rattle.std.specs.List.{list_any}
use Rattle.values.specs.Faults.{◌>>=◌, wanted_if}
use Rattle.schema.specs.declared.schema.Kind.{Kind}
use Rattle.sql_parse.specs.declared.statement.HavingTerm.{HavingTerm}
use Rattle.sql_parse.specs.declared.statement.HavingTerm.TheVariants as written
use Rattle.sql_parse.specs.declared.statement.HavingCondition.{HavingCondition}
use Rattle.sql_parse.specs.declared.statement.HavingCondition.TheOpen.{HavingCondition-F}
use Rattle.sql_parse.specs.declared.statement.HavingCondition.TheFolds.{fold-HavingCondition}
use Rattle.sql_parse.specs.declared.statement.AggregateCall.{AggregateCall}
use Rattle.sql_parse.specs.declared.statement.ColumnName.{ColumnName}
use Rattle.sql_parse.specs.declared.statement.Operator.{Operator}
use Rattle.query.specs.declared.query.Aggregate.{Aggregate}
use Rattle.query.specs.declared.query.Column.{Column}
use Rattle.query.specs.declared.query.Item.{Item}
use Rattle.query.specs.declared.query.Item.TheVariants as item
use Rattle.binder.specs.declared.having.Asked.{Asked}
use Rattle.binder.specs.declared.fault.BindReason.TheVariants.{MixedKinds, UngroupedColumn}
use Rattle.binder.specs.declared.fault.BindRefusal.{BindRefusal}
use Rattle.binder.specs.Kinds.{are_comparable, kind_of}
use Rattle.binder.specs.Lookups.{refusal}
use Rattle.binder.specs.Outputs.{aggregate_in}
use Rattle.binder.specs.Scopes.{Scopes, meant, place_in_text}

-- a GROUP BY column of the own FROM
abbrev pub is_key : List ℕ → Column → Bool
is_key keys c = (c.level == 0) && list_any (λ k. k == c.place) keys

-- with one item more, which has this number if it is an aggregate
abbrev pub with_column : Asked → Column → Asked
with_column x c = record { items = x.items ++ item.Column c ∷ []; next_aggregate = x.next_aggregate }

abbrev pub with_aggregate : Asked → Aggregate → Asked
with_aggregate x a = record { items = x.items ++ item.Aggregate x.next_aggregate a ∷ []; next_aggregate = x.next_aggregate + 1 }

abbrev pub HavingBinding : Type 0
HavingBinding = Asked → Result Asked BindRefusal

-- one after the other
abbrev pub all_asked : List HavingBinding → HavingBinding
all_asked [] x = Ok x
all_asked (c ∷ cs) x = c x >>= all_asked cs

-- an aggregate's kind, and what is named with it
abbrev pub aggregate_asked : Scopes → AggregateCall → Asked → Result (Option Kind × Asked) BindRefusal
aggregate_asked scopes call x = aggregate_in scopes call.function call.at call.column >>= λ found. Ok (Some found.1, with_aggregate x found.0)

module _ (scopes : Scopes) (keys : List ℕ) where
  abbrev pub column_asked : ColumnName → Asked → Result (Option Kind × Asked) BindRefusal
  column_asked c x = do
    found ← meant c scopes
    wanted_if (refusal UngroupedColumn (place_in_text c)) (is_key keys found.column) (Some found.kind, with_column x found.column)

  abbrev pub term_asked : HavingTerm → Asked → Result (Option Kind × Asked) BindRefusal
  term_asked (written.Column c) x = column_asked c x
  term_asked (written.Aggregate call) x = aggregate_asked scopes call x
  term_asked (written.Literal v) x = Ok (kind_of v, x)

  -- the terms, and then their kinds
  abbrev pub comparison_asked : HavingTerm → Operator → HavingTerm → Asked → Result Asked BindRefusal
  comparison_asked a op b x = do
    left ← term_asked a x
    right ← term_asked b left.1
    wanted_if (refusal MixedKinds op.at) (are_comparable left.0 right.0) right.1

  abbrev pub null_test_asked : HavingTerm → Asked → Result Asked BindRefusal
  null_test_asked a x = term_asked a x >>= λ tested. Ok tested.1

  abbrev pub having_layer : HavingCondition-F HavingBinding → HavingBinding
  having_layer (HavingCondition-F.Compare a op b) x = comparison_asked a op b x
  having_layer (HavingCondition-F.IsNull a) x = null_test_asked a x
  having_layer (HavingCondition-F.Not c) x = c x
  having_layer (HavingCondition-F.And cs) x = all_asked cs x
  having_layer (HavingCondition-F.Or cs) x = all_asked cs x

  unfoldable pub condition_asked : HavingCondition → HavingBinding
  condition_asked = fold-HavingCondition HavingBinding having_layer

  -- of a HAVING, if there is one
  abbrev pub having_asked : Option HavingCondition → HavingBinding
  having_asked None x = Ok x
  having_asked (Some h) x = condition_asked h x

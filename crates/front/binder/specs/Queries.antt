-- The query that a statement is over a schema, or its first fault (this project's profile of SQL).
use Rattle.std.specs.Prelude.{[], map, nat_le, Result}
use Rattle.values.specs.Faults.{◌>>=◌, wanted_if}
use Rattle.schema.specs.declared.schema.Schema.{Schema}
use Rattle.sql_parse.specs.declared.statement.Statement.{Statement}
use Rattle.query.specs.declared.query.Query.{Query}
use Rattle.binder.specs.declared.extent.Extent.{Extent}
use Rattle.binder.specs.declared.tables.Numbered.{Numbered}
use Rattle.binder.specs.declared.statement.TheConstants.{MAX_COLUMNS}
use Rattle.binder.specs.declared.fault.BindReason.TheVariants.{TooLarge}
use Rattle.binder.specs.declared.fault.BindRefusal.{BindRefusal}
use Rattle.binder.specs.Lookups.{refusal}
use Rattle.binder.specs.Extents.{of_select, is_within}
use Rattle.binder.specs.Selects.{select_in}
use Rattle.binder.specs.Ordering.{order_in}

-- Before all names: columns are numbered from 0, and aggregates after all columns of the text.
abbrev pub at_start : Extent → Numbered
at_start e = record { tables = []; next_column = 0; next_aggregate = e.columns }

-- First the size is tested, then each name, the SELECT's before the ORDER BY's, and at last how many columns have numbers.
unfoldable pub bound_statement : Schema → Statement → Result Query BindRefusal
bound_statement S s = do
  extent ← wanted_if (refusal TooLarge 0) (is_within (of_select S s.select)) (of_select S s.select)
  select ← select_in S s.select [] (at_start extent)
  order ← order_in select.0.scope select.0.outputs s.order
  wanted_if (refusal TooLarge 0) (nat_le select.1.next_aggregate MAX_COLUMNS)
      (record { tables = select.1.tables; block = select.0.block; names = map (λ o. o.name) select.0.outputs; order = order })

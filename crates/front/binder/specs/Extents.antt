-- How large a statement is, before any name is looked up (this project's profile of SQL).
use Rattle.std.specs.Prelude.{ℕ, ◌+◌, Bool, ◌&&◌, nat_le, nat_lt, if◌then◌else◌, List, fold, length, Option, Some, None}
use Rattle.schema.specs.declared.schema.Table.{Table}
use Rattle.schema.specs.declared.schema.Schema.{Schema}
use Rattle.sql_parse.specs.declared.statement.TableName.{TableName}
use Rattle.sql_parse.specs.declared.statement.Condition.{Condition}
use Rattle.sql_parse.specs.declared.statement.Condition.TheOpen.{Condition-F, Join-F, Chain-F, Select-F}
use Rattle.sql_parse.specs.declared.statement.Condition.TheFolds.{fold-Condition, fold-Join, fold-Chain, fold-Select}
use Rattle.sql_parse.specs.declared.statement.Join.{Join}
use Rattle.sql_parse.specs.declared.statement.Chain.{Chain}
use Rattle.sql_parse.specs.declared.statement.Select.{Select}
use Rattle.binder.specs.HavingShapes.{having_tests}
use Rattle.binder.specs.Lookups.{find_table}
use Rattle.binder.specs.declared.extent.Extent.{Extent}
use Rattle.binder.specs.declared.extent.TheConstants.{MAX_TABLES, MAX_LEVELS, MAX_TESTS}

-- ---- parts put together

abbrev pub nothing : Extent
nothing = record { tables = 0; columns = 0; levels = 0; tests = 0 }

abbrev pub one_test : Extent
one_test = record { tables = 0; columns = 0; levels = 0; tests = 1 }

-- how many columns a table has, none if there is no such table
abbrev pub width_of : Option (ℕ × Table) → ℕ
width_of None = 0
width_of (Some found) = length found.1.columns

abbrev pub one_table : Schema → TableName → Extent
one_table S t = record { tables = 1; columns = width_of (find_table 0 S.tables t.name.text); levels = 0; tests = 0 }

-- of two parts, neither of which stands in the other
abbrev pub beside : Extent → Extent → Extent
beside a b = record {
  tables = a.tables + b.tables;
  columns = a.columns + b.columns;
  levels = if nat_lt a.levels b.levels then b.levels else a.levels;
  tests = a.tests + b.tests;
}

abbrev pub all_of : List Extent → Extent
all_of = fold beside nothing

-- of a SELECT, given what stands in it
abbrev pub one_level_more : Extent → Extent
one_level_more e = record { tables = e.tables; columns = e.columns; levels = e.levels + 1; tests = e.tests }

-- ---- a statement, part by part

abbrev pub condition_layer : Condition-F Extent Extent Extent Extent → Extent
condition_layer (Condition-F.Compare a op b) = one_test
condition_layer (Condition-F.IsNull a) = one_test
condition_layer (Condition-F.Not c) = c
condition_layer (Condition-F.And cs) = all_of cs
condition_layer (Condition-F.Or cs) = all_of cs
condition_layer (Condition-F.Exists q) = beside one_test q
condition_layer (Condition-F.In a at q) = beside one_test q

abbrev pub join_layer : Schema → Join-F Extent Extent Extent Extent → Extent
join_layer S x = beside (one_table S x.table) x.condition

abbrev pub chain_layer : Schema → Chain-F Extent Extent Extent Extent → Extent
chain_layer S x = beside (one_table S x.table) (all_of x.joins)

abbrev pub of_filter : Option Extent → Extent
of_filter None = nothing
of_filter (Some c) = c

-- with so many tests more
abbrev pub with_tests : ℕ → Extent → Extent
with_tests n e = record { tables = e.tables; columns = e.columns; levels = e.levels; tests = e.tests + n }

abbrev pub select_layer : Select-F Extent Extent Extent Extent → Extent
select_layer x = with_tests (having_tests x.having) (one_level_more (beside (all_of x.from) (of_filter x.filter)))

-- ---- the whole

unfoldable pub of_condition : Schema → Condition → Extent
of_condition S = fold-Condition Extent Extent Extent Extent condition_layer (chain_layer S) (join_layer S) select_layer

unfoldable pub of_join : Schema → Join → Extent
of_join S = fold-Join Extent Extent Extent Extent condition_layer (chain_layer S) (join_layer S) select_layer

unfoldable pub of_chain : Schema → Chain → Extent
of_chain S = fold-Chain Extent Extent Extent Extent condition_layer (chain_layer S) (join_layer S) select_layer

unfoldable pub of_select : Schema → Select → Extent
of_select S = fold-Select Extent Extent Extent Extent condition_layer (chain_layer S) (join_layer S) select_layer

-- at most so many table instances, queries in one another, and tests
abbrev pub is_within : Extent → Bool
is_within e = nat_le e.tables MAX_TABLES && nat_le e.levels MAX_LEVELS && nat_le e.tests MAX_TESTS

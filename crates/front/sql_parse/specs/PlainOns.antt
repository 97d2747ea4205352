-- When no ON of a statement's tree has a subquery, as the grammar has it (this project's profile of SQL). The types of trees
-- allow one there.
use Rattle.std.specs.Prelude.{◌≡◌, Bool, true, false, ◌&&◌, List, Option, Some, None}
use Rattle.std.specs.List.{list_all}
use Rattle.sql_parse.specs.declared.statement.Condition.{Condition}
use Rattle.sql_parse.specs.declared.statement.Condition.TheOpen.{Condition-F, Join-F, Chain-F, Select-F}
use Rattle.sql_parse.specs.declared.statement.Condition.TheFolds.{fold-Condition, fold-Join, fold-Chain, fold-Select}
use Rattle.sql_parse.specs.declared.statement.Join.{Join}
use Rattle.sql_parse.specs.declared.statement.Chain.{Chain}
use Rattle.sql_parse.specs.declared.statement.Select.{Select}
use Rattle.sql_parse.specs.declared.statement.Statement.{Statement}
use Rattle.sql_parse.specs.Statements.{ReadsStatement}
use Rattle.sql_parse.specs.Tokens.{Bytes}

-- of a condition: it has no subquery; and no ON in its subqueries has one
pub record Plainness : Type 0 where
  pub plain : Bool
  pub ons : Bool

abbrev pub all_plain : List Plainness → Plainness
all_plain cs = record { plain = list_all (λ c. c.plain) cs; ons = list_all (λ c. c.ons) cs }

abbrev pub condition_layer : Condition-F Plainness Bool Bool Bool → Plainness
condition_layer (Condition-F.Compare a op b) = record { plain = true; ons = true }
condition_layer (Condition-F.IsNull a) = record { plain = true; ons = true }
condition_layer (Condition-F.Not c) = c
condition_layer (Condition-F.And cs) = all_plain cs
condition_layer (Condition-F.Or cs) = all_plain cs
condition_layer (Condition-F.Exists q) = record { plain = false; ons = q }
condition_layer (Condition-F.In a at q) = record { plain = false; ons = q }

abbrev pub join_layer : Join-F Plainness Bool Bool Bool → Bool
join_layer x = x.condition.plain

abbrev pub chain_layer : Chain-F Plainness Bool Bool Bool → Bool
chain_layer x = list_all (λ j. j) x.joins

abbrev pub filter_ons : Option Plainness → Bool
filter_ons None = true
filter_ons (Some c) = c.ons

abbrev pub select_layer : Select-F Plainness Bool Bool Bool → Bool
select_layer x = list_all (λ c. c) x.from && filter_ons x.filter

unfoldable pub plainness : Condition → Plainness
plainness = fold-Condition Plainness Bool Bool Bool condition_layer chain_layer join_layer select_layer

unfoldable pub join_ons : Join → Bool
join_ons = fold-Join Plainness Bool Bool Bool condition_layer chain_layer join_layer select_layer

unfoldable pub chain_ons : Chain → Bool
chain_ons = fold-Chain Plainness Bool Bool Bool condition_layer chain_layer join_layer select_layer

unfoldable pub select_ons : Select → Bool
select_ons = fold-Select Plainness Bool Bool Bool condition_layer chain_layer join_layer select_layer

-- no ON of the statement has a subquery
abbrev pub ons_are_plain : Statement → Bool
ons_are_plain s = select_ons s.select

-- a statement that a text reads as is such a tree
abbrev pub StatementsArePlain : Type 0
StatementsArePlain = (bytes : Bytes) (s : Statement) → ReadsStatement bytes s → ons_are_plain s ≡ true

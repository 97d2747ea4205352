-- What each form of condition, join, chain and SELECT means: one equation for each.
use Rattle.std.proofs.Common.{◌≡◌, refl, ap, sym, ◌∙◌, List, map, Option, Some, None, option_map}
use Rattle.schema.specs.declared.schema.Schema.{Schema}
use Rattle.sql_parse.specs.declared.statement.Condition.{Condition, roll-Condition}
use Rattle.sql_parse.specs.declared.statement.Condition.TheOpen.{Condition-F, Select-F}
use Rattle.sql_parse.specs.declared.statement.Condition.TheFolds.{fold-roll-Condition, fold_out-Join, fold_out-Chain, fold_out-Select, map-Condition, map-Select}
use Rattle.sql_parse.specs.declared.statement.Join.{Join, out-Join}
use Rattle.sql_parse.specs.declared.statement.Chain.{Chain, out-Chain}
use Rattle.sql_parse.specs.declared.statement.Select.{Select, out-Select}
use Rattle.binder.specs.Analyses.{ConditionAnalysis, JoinAnalysis, ChainAnalysis, SelectAnalysis, condition_layer, join_layer, chain_layer, select_layer, condition_analysis, join_analysis, chain_analysis, select_analysis}

module _ (S : Schema) where
  pub analysis-condition : (x : Condition-F Condition Chain Join Select) (c : Condition) → roll-Condition x ≡ c → condition_analysis S c
      ≡ condition_layer (map-Condition Condition Chain Join Select ConditionAnalysis ChainAnalysis JoinAnalysis SelectAnalysis (condition_analysis S) (chain_analysis S) (join_analysis S) (select_analysis S) x)
  unfolding condition_analysis join_analysis chain_analysis select_analysis
  analysis-condition x c is = ap (condition_analysis S) (sym is) ∙ fold-roll-Condition ConditionAnalysis ChainAnalysis JoinAnalysis SelectAnalysis condition_layer (chain_layer S) (join_layer S) select_layer x

  -- of a join, whose condition means this
  pub analysis-join : (j : Join) → join_analysis S j ≡ join_layer S (record { kind = (out-Join j).kind; table = (out-Join j).table; condition = condition_analysis S (out-Join j).condition })
  unfolding condition_analysis join_analysis chain_analysis select_analysis
  analysis-join j = fold_out-Join ConditionAnalysis ChainAnalysis JoinAnalysis SelectAnalysis condition_layer (chain_layer S) (join_layer S) select_layer j

  pub analysis-chain : (c : Chain) → chain_analysis S c ≡ chain_layer S (record { table = (out-Chain c).table; joins = map (join_analysis S) (out-Chain c).joins })
  unfolding condition_analysis join_analysis chain_analysis select_analysis
  analysis-chain c = fold_out-Chain ConditionAnalysis ChainAnalysis JoinAnalysis SelectAnalysis condition_layer (chain_layer S) (join_layer S) select_layer c

  abbrev pub select_parts : Select-F Condition Chain Join Select → List ChainAnalysis → Option ConditionAnalysis → Select-F ConditionAnalysis ChainAnalysis JoinAnalysis SelectAnalysis
  select_parts x chains filter = record { distinct = x.distinct; list = x.list; from = chains; filter = filter; group = x.group; having = x.having }

  select_layers : (x : Select-F Condition Chain Join Select) (o : Option Condition)
      → select_layer (map-Select Condition Chain Join Select ConditionAnalysis ChainAnalysis JoinAnalysis SelectAnalysis (condition_analysis S) (chain_analysis S) (join_analysis S) (select_analysis S) (record x { filter = o }))
      ≡ select_layer (select_parts x (map (chain_analysis S) x.from) (option_map (condition_analysis S) o))
  select_layers x None = refl
  select_layers x (Some c) = refl

  select_roll : (q : Select) → select_analysis S q
      ≡ select_layer (map-Select Condition Chain Join Select ConditionAnalysis ChainAnalysis JoinAnalysis SelectAnalysis (condition_analysis S) (chain_analysis S) (join_analysis S) (select_analysis S) (out-Select q))
  unfolding condition_analysis join_analysis chain_analysis select_analysis
  select_roll q = fold_out-Select ConditionAnalysis ChainAnalysis JoinAnalysis SelectAnalysis condition_layer (chain_layer S) (join_layer S) select_layer q

  pub analysis-select : (q : Select) → select_analysis S q ≡ select_layer (select_parts (out-Select q) (map (chain_analysis S) (out-Select q).from) (option_map (condition_analysis S) (out-Select q).filter))
  analysis-select q = select_roll q ∙ select_layers (out-Select q) (out-Select q).filter

-- Whether ONs have no subquery, for each form of condition, join, chain and SELECT: one equation for each.
use Rattle.std.proofs.Common.{◌≡◌, refl, ap, sym, ◌∙◌, ℕ, Bool, true, false, ◌&&◌, List, map, Option, Some, None, option_map}
use Rattle.std.specs.List.{list_all}
use Rattle.sql_parse.specs.declared.statement.Term as tree
use Rattle.sql_parse.specs.declared.statement.Operator.{Operator}
use Rattle.sql_parse.specs.declared.statement.Condition.{Condition, roll-Condition}
use Rattle.sql_parse.specs.declared.statement.Condition.TheVariants.{Compare, IsNull, Not, And, Or, Exists, In, rolls-Compare, rolls-IsNull, rolls-Not, rolls-And, rolls-Or, rolls-Exists, rolls-In}
use Rattle.sql_parse.specs.declared.statement.Condition.TheOpen.{Condition-F, Select-F}
use Rattle.sql_parse.specs.declared.statement.Condition.TheFolds.{fold-roll-Condition, fold_out-Join, fold_out-Chain, fold_out-Select, map-Condition, map-Select}
use Rattle.sql_parse.specs.declared.statement.Join.{Join, out-Join}
use Rattle.sql_parse.specs.declared.statement.Chain.{Chain, out-Chain}
use Rattle.sql_parse.specs.declared.statement.Select.{Select, out-Select}
use Rattle.sql_parse.specs.PlainOns.{Plainness, plainness, join_ons, chain_ons, select_ons, filter_ons, all_plain, condition_layer, join_layer, chain_layer, select_layer}

condition_at : (x : Condition-F Condition Chain Join Select) (c : Condition) → roll-Condition x ≡ c → plainness c
    ≡ condition_layer (map-Condition Condition Chain Join Select Plainness Bool Bool Bool plainness chain_ons join_ons select_ons x)
unfolding plainness join_ons chain_ons select_ons
condition_at x c is = ap plainness (sym is) ∙ fold-roll-Condition Plainness Bool Bool Bool condition_layer chain_layer join_layer select_layer x

pub plain-Compare : (a : tree.Term) (op : Operator) (b : tree.Term) → plainness (Compare a op b) ≡ record { plain = true; ons = true }
plain-Compare a op b = condition_at (Condition-F.Compare a op b) _ (rolls-Compare a op b)

pub plain-IsNull : (a : tree.Term) → plainness (IsNull a) ≡ record { plain = true; ons = true }
plain-IsNull a = condition_at (Condition-F.IsNull a) _ (rolls-IsNull a)

pub plain-Not : (c : Condition) → plainness (Not c) ≡ plainness c
plain-Not c = condition_at (Condition-F.Not c) _ (rolls-Not c)

pub plain-And : (cs : List Condition) → plainness (And cs) ≡ all_plain (map plainness cs)
plain-And cs = condition_at (Condition-F.And cs) _ (rolls-And cs)

pub plain-Or : (cs : List Condition) → plainness (Or cs) ≡ all_plain (map plainness cs)
plain-Or cs = condition_at (Condition-F.Or cs) _ (rolls-Or cs)

pub plain-Exists : (q : Select) → plainness (Exists q) ≡ record { plain = false; ons = select_ons q }
plain-Exists q = condition_at (Condition-F.Exists q) _ (rolls-Exists q)

pub plain-In : (a : tree.Term) (at : ℕ) (q : Select) → plainness (In a at q) ≡ record { plain = false; ons = select_ons q }
plain-In a at q = condition_at (Condition-F.In a at q) _ (rolls-In a at q)

pub ons-join : (j : Join) → join_ons j ≡ (plainness (out-Join j).condition).plain
unfolding plainness join_ons chain_ons select_ons
ons-join j = fold_out-Join Plainness Bool Bool Bool condition_layer chain_layer join_layer select_layer j

pub ons-chain : (c : Chain) → chain_ons c ≡ list_all (λ j. j) (map join_ons (out-Chain c).joins)
unfolding plainness join_ons chain_ons select_ons
ons-chain c = fold_out-Chain Plainness Bool Bool Bool condition_layer chain_layer join_layer select_layer c

select_roll : (q : Select) → select_ons q ≡ select_layer (map-Select Condition Chain Join Select Plainness Bool Bool Bool plainness chain_ons join_ons select_ons (out-Select q))
unfolding plainness join_ons chain_ons select_ons
select_roll q = fold_out-Select Plainness Bool Bool Bool condition_layer chain_layer join_layer select_layer q

select_layers : (x : Select-F Condition Chain Join Select) (o : Option Condition) → select_layer (map-Select Condition Chain Join Select Plainness Bool Bool Bool plainness chain_ons join_ons select_ons (record x { filter = o }))
    ≡ (list_all (λ c. c) (map chain_ons x.from) && filter_ons (option_map plainness o))
select_layers x None = refl
select_layers x (Some c) = refl

pub ons-select : (q : Select) → select_ons q ≡ (list_all (λ c. c) (map chain_ons (out-Select q).from) && filter_ons (option_map plainness (out-Select q).filter))
ons-select q = select_roll q ∙ select_layers (out-Select q) (out-Select q).filter

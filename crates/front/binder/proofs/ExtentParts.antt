-- How large each form of condition, join, chain and SELECT is: one equation for each.
use Rattle.std.proofs.Common.{◌≡◌, refl, ℕ, ◌+◌, ◌<◌, ◌≤◌, List, [], ◌∷◌, ◌++◌, length, take, get_or, map, Option, Some, None, ap, sym, ◌∙◌, option_map}
use Rattle.std.proofs.lemmas.List.{take_all}
use Rattle.std.proofs.lemmas.List.Sums.{fold_push}
use Rattle.values.proofs.Lists.{map_next}
use Rattle.schema.specs.declared.schema.Schema.{Schema}
use Rattle.sql_parse.specs.declared.statement.Term as tree
use Rattle.sql_parse.specs.declared.statement.Operator.{Operator}
use Rattle.sql_parse.specs.declared.statement.Condition.{Condition, roll-Condition}
use Rattle.sql_parse.specs.declared.statement.Condition.TheVariants.{Compare, IsNull, Not, And, Or, Exists, In, rolls-Compare, rolls-IsNull, rolls-Not, rolls-And, rolls-Or, rolls-Exists, rolls-In}
use Rattle.sql_parse.specs.declared.statement.Condition.TheOpen.{Condition-F, Select-F}
use Rattle.sql_parse.specs.declared.statement.Condition.TheFolds.{fold-roll-Condition, fold_out-Join, fold_out-Chain, fold_out-Select, map-Condition, map-Select}
use Rattle.sql_parse.specs.declared.statement.Join.{Join, out-Join}
use Rattle.sql_parse.specs.declared.statement.Chain.{Chain, out-Chain}
use Rattle.sql_parse.specs.declared.statement.Select.{Select, out-Select}
use Rattle.binder.specs.declared.extent.Extent.{Extent}
use Rattle.binder.specs.HavingShapes.{having_tests}
use Rattle.binder.specs.Extents.{of_condition, of_join, of_chain, of_select, of_filter, condition_layer, join_layer, chain_layer, select_layer, with_tests, one_test, one_table, nothing, beside, all_of, one_level_more}

condition_roll : (S : Schema) (x : Condition-F Condition Chain Join Select) → of_condition S (roll-Condition x)
    ≡ condition_layer (map-Condition Condition Chain Join Select Extent Extent Extent Extent (of_condition S) (of_chain S) (of_join S) (of_select S) x)
unfolding of_condition of_join of_chain of_select
condition_roll S x = fold-roll-Condition Extent Extent Extent Extent condition_layer (chain_layer S) (join_layer S) select_layer x

condition_at : (S : Schema) (x : Condition-F Condition Chain Join Select) (c : Condition) → roll-Condition x ≡ c → of_condition S c
    ≡ condition_layer (map-Condition Condition Chain Join Select Extent Extent Extent Extent (of_condition S) (of_chain S) (of_join S) (of_select S) x)
condition_at S x c is = ap (of_condition S) (sym is) ∙ condition_roll S x

pub extent-Compare : (S : Schema) (a : tree.Term) (op : Operator) (b : tree.Term) → of_condition S (Compare a op b) ≡ one_test
extent-Compare S a op b = condition_at S (Condition-F.Compare a op b) _ (rolls-Compare a op b)

pub extent-IsNull : (S : Schema) (a : tree.Term) → of_condition S (IsNull a) ≡ one_test
extent-IsNull S a = condition_at S (Condition-F.IsNull a) _ (rolls-IsNull a)

pub extent-Not : (S : Schema) (c : Condition) → of_condition S (Not c) ≡ of_condition S c
extent-Not S c = condition_at S (Condition-F.Not c) _ (rolls-Not c)

pub extent-And : (S : Schema) (cs : List Condition) → of_condition S (And cs) ≡ all_of (map (of_condition S) cs)
extent-And S cs = condition_at S (Condition-F.And cs) _ (rolls-And cs)

pub extent-Or : (S : Schema) (cs : List Condition) → of_condition S (Or cs) ≡ all_of (map (of_condition S) cs)
extent-Or S cs = condition_at S (Condition-F.Or cs) _ (rolls-Or cs)

pub extent-Exists : (S : Schema) (q : Select) → of_condition S (Exists q) ≡ beside one_test (of_select S q)
extent-Exists S q = condition_at S (Condition-F.Exists q) _ (rolls-Exists q)

pub extent-In : (S : Schema) (a : tree.Term) (at : ℕ) (q : Select) → of_condition S (In a at q) ≡ beside one_test (of_select S q)
extent-In S a at q = condition_at S (Condition-F.In a at q) _ (rolls-In a at q)

pub extent-join : (S : Schema) (j : Join) → of_join S j ≡ beside (one_table S (out-Join j).table) (of_condition S (out-Join j).condition)
unfolding of_condition of_join of_chain of_select
extent-join S j = fold_out-Join Extent Extent Extent Extent condition_layer (chain_layer S) (join_layer S) select_layer j

pub extent-chain : (S : Schema) (c : Chain) → of_chain S c ≡ beside (one_table S (out-Chain c).table) (all_of (map (of_join S) (out-Chain c).joins))
unfolding of_condition of_join of_chain of_select
extent-chain S c = fold_out-Chain Extent Extent Extent Extent condition_layer (chain_layer S) (join_layer S) select_layer c

select_roll : (S : Schema) (q : Select) → of_select S q
    ≡ select_layer (map-Select Condition Chain Join Select Extent Extent Extent Extent (of_condition S) (of_chain S) (of_join S) (of_select S) (out-Select q))
unfolding of_condition of_join of_chain of_select
select_roll S q = fold_out-Select Extent Extent Extent Extent condition_layer (chain_layer S) (join_layer S) select_layer q

select_layers : (S : Schema) (x : Select-F Condition Chain Join Select) (o : Option Condition)
    → select_layer (map-Select Condition Chain Join Select Extent Extent Extent Extent (of_condition S) (of_chain S) (of_join S) (of_select S) (record x { filter = o }))
    ≡ with_tests (having_tests x.having) (one_level_more (beside (all_of (map (of_chain S) x.from)) (of_filter (option_map (of_condition S) o))))
select_layers S x None = refl
select_layers S x (Some c) = refl

pub extent-select : (S : Schema) (q : Select) → of_select S q ≡ with_tests (having_tests (out-Select q).having) (one_level_more (beside (all_of (map (of_chain S) (out-Select q).from)) (of_filter (option_map (of_condition S) (out-Select q).filter))))
extent-select S q = select_roll S q ∙ select_layers S (out-Select q) (out-Select q).filter

-- ---- parts one after the other, as a loop goes over them

pub all_more : {A : Type 0} (f : A → Extent) (xs : List A) (i : ℕ) (x : A) (all one more : Extent) → i < length xs → x ≡ get_or xs i x → all ≡ all_of (map f (take i xs)) → one ≡ f x
    → more ≡ beside all one → more ≡ all_of (map f (take (i + 1) xs))
all_more {A} f xs i x all one more lt at so_far is sum =
    let parts : map f (take (i + 1) xs) ≡ map f (take i xs) ++ f x ∷ [] = map_next f xs i x lt at in
    sum ∙ ap (λ (z : Extent). beside z one) so_far ∙ ap (beside (all_of (map f (take i xs)))) is ∙ sym (fold_push beside nothing (map f (take i xs)) (f x)) ∙ ap all_of (sym parts)

pub all_done : {A : Type 0} (f : A → Extent) (xs : List A) (i : ℕ) (all : Extent) → length xs ≤ i → all ≡ all_of (map f (take i xs)) → all ≡ all_of (map f xs)
all_done {A} f xs i all le so_far = so_far ∙ ap (λ (ys : List A). all_of (map f ys)) (take_all i xs le)

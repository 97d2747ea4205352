-- What becomes of each form of condition, join, chain and SELECT: one equation for each, of parts that are given by equations.
use Rattle.std.proofs.Common.{◌≡◌, refl, ℕ, Bool, ◌||◌, nat_lt, length, is_some, List, [], ◌∷◌, map, Option, Some, None, Result, Ok, ap, sym, ◌∙◌, option_map}
use Rattle.values.specs.Faults.{◌>>=◌}
use Rattle.schema.specs.declared.schema.Schema.{Schema}
use Rattle.schema.specs.Each.{each}
use Rattle.sql_parse.specs.declared.statement.Term as tree
use Rattle.sql_parse.specs.declared.statement.Operator.{Operator}
use Rattle.sql_parse.specs.declared.statement.SelectList.{SelectList}
use Rattle.sql_parse.specs.declared.statement.ColumnName.{ColumnName}
use Rattle.sql_parse.specs.declared.statement.Condition.{Condition, roll-Condition}
use Rattle.sql_parse.specs.declared.statement.Condition.TheVariants.{Compare, IsNull, Not, And, Or, Exists, In, rolls-Compare, rolls-IsNull, rolls-Not, rolls-And, rolls-Or, rolls-Exists, rolls-In}
use Rattle.sql_parse.specs.declared.statement.Condition.TheOpen.{Condition-F, Select-F}
use Rattle.sql_parse.specs.declared.statement.HavingCondition.{HavingCondition}
use Rattle.sql_parse.specs.declared.statement.Condition.TheFolds.{fold-roll-Condition, fold_out-Join, fold_out-Chain, fold_out-Select, map-Condition, map-Join, map-Chain, map-Select}
use Rattle.sql_parse.specs.declared.statement.Join.{Join, out-Join}
use Rattle.sql_parse.specs.declared.statement.Chain.{Chain, out-Chain}
use Rattle.sql_parse.specs.declared.statement.Select.{Select, out-Select}
use Rattle.query.specs.declared.query.Cond.{Cond}
use Rattle.query.specs.declared.query.Cond.TheVariants as cond
use Rattle.query.specs.declared.query.From.TheVariants as from
use Rattle.binder.specs.declared.fault.BindRefusal.{BindRefusal}
use Rattle.binder.specs.declared.having.Asked.{Asked}
use Rattle.binder.specs.declared.selects.BoundSelect.{BoundSelect}
use Rattle.binder.specs.declared.tables.Numbered.{Numbered}
use Rattle.binder.specs.Havings.{having_asked}
use Rattle.binder.specs.Scopes.{Scope, Scopes}
use Rattle.binder.specs.Numbers.{enter, with_aggregates}
use Rattle.binder.specs.Outputs.{aggregates, is_grouped, key_in, outputs_in}
use Rattle.binder.specs.Selects.{CondBinding, JoinBinding, ChainBinding, SelectBinding, FromSoFar, condition_in, join_in, chain_in, select_in, condition_layer, join_layer, chain_layer, select_layer, comparison_in, membership_in, term_in, all_in, joined, through, from_in, filter_in, block_of, nothing_asked, with_asked}

condition_roll : (S : Schema) (x : Condition-F Condition Chain Join Select) → condition_in S (roll-Condition x)
    ≡ condition_layer (map-Condition Condition Chain Join Select CondBinding ChainBinding JoinBinding SelectBinding (condition_in S) (chain_in S) (join_in S) (select_in S) x)
unfolding condition_in join_in chain_in select_in
condition_roll S x = fold-roll-Condition CondBinding ChainBinding JoinBinding SelectBinding condition_layer (chain_layer S) (join_layer S) select_layer x

join_roll : (S : Schema) (j : Join) → join_in S j
    ≡ join_layer S (map-Join Condition Chain Join Select CondBinding ChainBinding JoinBinding SelectBinding (condition_in S) (chain_in S) (join_in S) (select_in S) (out-Join j))
unfolding condition_in join_in chain_in select_in
join_roll S j = fold_out-Join CondBinding ChainBinding JoinBinding SelectBinding condition_layer (chain_layer S) (join_layer S) select_layer j

chain_roll : (S : Schema) (c : Chain) → chain_in S c
    ≡ chain_layer S (map-Chain Condition Chain Join Select CondBinding ChainBinding JoinBinding SelectBinding (condition_in S) (chain_in S) (join_in S) (select_in S) (out-Chain c))
unfolding condition_in join_in chain_in select_in
chain_roll S c = fold_out-Chain CondBinding ChainBinding JoinBinding SelectBinding condition_layer (chain_layer S) (join_layer S) select_layer c

select_roll : (S : Schema) (q : Select) → select_in S q
    ≡ select_layer (map-Select Condition Chain Join Select CondBinding ChainBinding JoinBinding SelectBinding (condition_in S) (chain_in S) (join_in S) (select_in S) (out-Select q))
unfolding condition_in join_in chain_in select_in
select_roll S q = fold_out-Select CondBinding ChainBinding JoinBinding SelectBinding condition_layer (chain_layer S) (join_layer S) select_layer q

condition_at : (S : Schema) (x : Condition-F Condition Chain Join Select) (c : Condition) → roll-Condition x ≡ c → (scopes : Scopes) (n : Numbered) → condition_in S c scopes n
    ≡ condition_layer (map-Condition Condition Chain Join Select CondBinding ChainBinding JoinBinding SelectBinding (condition_in S) (chain_in S) (join_in S) (select_in S) x) scopes n
condition_at S x c is scopes n = ap (λ y. condition_in S y scopes n) (sym is) ∙ ap (λ m. m scopes n) (condition_roll S x)

-- ---- conditions

pub compared : (S : Schema) (c : Condition) (a : tree.Term) (op : Operator) (b : tree.Term) (scopes : Scopes) (n : Numbered) → c ≡ Compare a op b
    → condition_in S c scopes n ≡ (comparison_in scopes a op b >>= λ bound. Ok (bound, n))
compared S c a op b scopes n is = condition_at S (Condition-F.Compare a op b) c (rolls-Compare a op b ∙ sym is) scopes n

pub null_tested : (S : Schema) (c : Condition) (a : tree.Term) (scopes : Scopes) (n : Numbered) → c ≡ IsNull a
    → condition_in S c scopes n ≡ (term_in scopes a >>= λ tested. Ok (cond.IsNull tested.term, n))
null_tested S c a scopes n is = condition_at S (Condition-F.IsNull a) c (rolls-IsNull a ∙ sym is) scopes n

pub negated : (S : Schema) (c d lent : Condition) (scopes : Scopes) (n : Numbered) → c ≡ Not d → lent ≡ d
    → condition_in S c scopes n ≡ (condition_in S lent scopes n >>= λ part. Ok (cond.Not part.0, part.1))
negated S c d lent scopes n is at = rw at (condition_at S (Condition-F.Not d) c (rolls-Not d ∙ sym is) scopes n)

pub conjoined : (S : Schema) (c : Condition) (ds lent : List Condition) (scopes : Scopes) (n : Numbered) → c ≡ And ds → lent ≡ ds
    → condition_in S c scopes n ≡ (all_in (map (condition_in S) lent) scopes n >>= λ parts. Ok (cond.And parts.0, parts.1))
conjoined S c ds lent scopes n is at = rw at (condition_at S (Condition-F.And ds) c (rolls-And ds ∙ sym is) scopes n)

pub disjoined : (S : Schema) (c : Condition) (ds lent : List Condition) (scopes : Scopes) (n : Numbered) → c ≡ Or ds → lent ≡ ds
    → condition_in S c scopes n ≡ (all_in (map (condition_in S) lent) scopes n >>= λ parts. Ok (cond.Or parts.0, parts.1))
disjoined S c ds lent scopes n is at = rw at (condition_at S (Condition-F.Or ds) c (rolls-Or ds ∙ sym is) scopes n)

pub existing : (S : Schema) (c : Condition) (q lent : Select) (scopes : Scopes) (n : Numbered) → c ≡ Exists q → lent ≡ q
    → condition_in S c scopes n ≡ (select_in S lent scopes n >>= λ query. Ok (cond.Exists query.0.block, query.1))
existing S c q lent scopes n is at = rw at (condition_at S (Condition-F.Exists q) c (rolls-Exists q ∙ sym is) scopes n)

pub contained : (S : Schema) (c : Condition) (a : tree.Term) (place : ℕ) (q lent : Select) (scopes : Scopes) (n : Numbered) → c ≡ In a place q → lent ≡ q
    → condition_in S c scopes n ≡ (term_in scopes a >>= λ left. select_in S lent scopes n >>= λ query. membership_in left place query.0 >>= λ bound. Ok (bound, query.1))
contained S c a place q lent scopes n is at = rw at (condition_at S (Condition-F.In a place q) c (rolls-In a place q ∙ sym is) scopes n)

-- ---- FROM

pub join_at : (S : Schema) (j : Join) (outer : Scopes) (before : Scope) (left : FromSoFar) (lent : Condition) → lent ≡ (out-Join j).condition → join_in S j outer before left
    ≡ (enter S before left.1 (out-Join j).table left.2 >>= λ right. condition_in S lent (right.1 ∷ outer) right.2 >>= λ on. Ok (joined (out-Join j).kind left.0 right.0 on.0, right.1, on.1))
join_at S j outer before left lent at = rw at (ap (λ m. m outer before left) (join_roll S j))

pub chain_at : (S : Schema) (c : Chain) (outer : Scopes) (before : Scope) (n : Numbered) (none : Scope) (lent : List Join) → none ≡ [] → lent ≡ (out-Chain c).joins → chain_in S c outer before n
    ≡ (enter S before none (out-Chain c).table n >>= λ first. through (map (join_in S) lent) outer before (from.Table first.0, first.1, first.2))
chain_at S c outer before n none lent empty at = rw (empty, at) (ap (λ m. m outer before n) (chain_roll S c))

-- ---- SELECT

module _ (S : Schema) (list : SelectList) (having : Option HavingCondition) (distinct : Bool) (outer : Scopes) (n : Numbered) where
  -- what a SELECT becomes behind its FROM, its WHERE, its GROUP BY and its HAVING
  abbrev pub behind_having : FromSoFar → Option Cond × Numbered → List ℕ → Asked → Result (BoundSelect × Numbered) BindRefusal
  behind_having sources filter keys asked = outputs_in sources.1 (sources.1 ∷ outer) (is_grouped keys list having) keys n.next_aggregate list
      >>= λ outputs. Ok (record { block = block_of distinct sources.0 filter.0 (is_grouped keys list having) keys having asked.items outputs; outputs = outputs; scope = sources.1 }, with_asked filter.1 asked)

  abbrev pub behind_keys : FromSoFar → Option Cond × Numbered → List ℕ → Result (BoundSelect × Numbered) BindRefusal
  behind_keys sources filter keys = having_asked (sources.1 ∷ outer) keys having (nothing_asked filter.1) >>= behind_having sources filter keys

  abbrev pub behind_filter : List ColumnName → FromSoFar → Option Cond × Numbered → Result (BoundSelect × Numbered) BindRefusal
  behind_filter group sources filter = each (key_in (sources.1 ∷ outer)) group >>= behind_keys sources filter

  abbrev pub behind_from : List ColumnName → Option Condition → FromSoFar → Result (BoundSelect × Numbered) BindRefusal
  behind_from group filter sources = filter_in (option_map (condition_in S) filter) (sources.1 ∷ outer) sources.2 >>= behind_filter group sources

select_layers : (S : Schema) (x : Select-F Condition Chain Join Select) (o : Option Condition)
    → select_layer (map-Select Condition Chain Join Select CondBinding ChainBinding JoinBinding SelectBinding (condition_in S) (chain_in S) (join_in S) (select_in S) (record x { filter = o }))
    ≡ (λ outer n. from_in (map (chain_in S) x.from) outer (with_aggregates n (aggregates x.list)) >>= behind_from S x.list x.having x.distinct outer n x.group o)
select_layers S x None = refl
select_layers S x (Some c) = refl

pub select_at : (S : Schema) (q : Select) (outer : Scopes) (n m : Numbered) (chains : List Chain) (group : List ColumnName) → m ≡ with_aggregates n (aggregates (out-Select q).list) → chains ≡ (out-Select q).from → group ≡ (out-Select q).group
    → select_in S q outer n ≡ (from_in (map (chain_in S) chains) outer m >>= behind_from S (out-Select q).list (out-Select q).having (out-Select q).distinct outer n group (out-Select q).filter)
select_at S q outer n m chains group counted at by = rw (counted, at, by) (ap (λ f. f outer n) (select_roll S q ∙ select_layers S (out-Select q) (out-Select q).filter))

-- ---- groups

pub grouped_is : (keys : List ℕ) (list : SelectList) (having : Option HavingCondition) (n m : ℕ) (has grouped : Bool) → n ≡ length keys → m ≡ aggregates list → has ≡ is_some having → grouped ≡ (nat_lt 0 n || nat_lt 0 m || has) → grouped ≡ is_grouped keys list having
grouped_is keys list having n m has grouped counted shown asks is = rw (← counted, ← shown, ← asks) is

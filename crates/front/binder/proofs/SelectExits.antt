-- Each exit of IN, JOIN and SELECT, by the steps that were taken before it.
use Rattle.std.proofs.Common.{◌≡◌, refl, ℕ, Bool, List, [], ◌∷◌, Option, map, Result, Ok, subst, option_map, ap, ◌∙◌}
use Rattle.values.specs.declared.fault.Fault.{Fault}
use Rattle.values.specs.Faults.{◌>>=◌, Fails, Gives}
use Rattle.schema.specs.declared.schema.Schema.{Schema}
use Rattle.schema.specs.Each.{each}
use Rattle.sql_parse.specs.declared.statement.Term as tree
use Rattle.sql_parse.specs.declared.statement.ColumnName.{ColumnName}
use Rattle.sql_parse.specs.declared.statement.Condition.{Condition}
use Rattle.sql_parse.specs.declared.statement.Condition.TheVariants.{In}
use Rattle.sql_parse.specs.declared.statement.Join.{Join, out-Join}
use Rattle.sql_parse.specs.declared.statement.Chain.{Chain}
use Rattle.sql_parse.specs.declared.statement.HavingCondition.{HavingCondition}
use Rattle.sql_parse.specs.declared.statement.Select.{Select, out-Select}
use Rattle.sql_parse.specs.declared.statement.SelectList.{SelectList}
use Rattle.query.specs.declared.query.Cond.{Cond}
use Rattle.query.specs.declared.query.TableReference.{TableReference}
use Rattle.query.specs.declared.query.From.{From}
use Rattle.query.specs.declared.query.Item.{Item}
use Rattle.query.specs.declared.query.Block.{roll-Block}
use Rattle.binder.specs.declared.having.Asked.{Asked}
use Rattle.binder.specs.declared.tables.Numbered.{Numbered}
use Rattle.binder.specs.declared.output.Output.{Output}
use Rattle.binder.specs.declared.selects.BoundTerm.{BoundTerm}
use Rattle.binder.specs.declared.selects.BoundSelect.{BoundSelect}
use Rattle.binder.specs.declared.fault.BindRefusal.{BindRefusal}
use Rattle.binder.specs.Scopes.{Scope, Scopes}
use Rattle.binder.specs.Numbers.{enter, with_aggregates}
use Rattle.binder.specs.Outputs.{aggregates, is_grouped, key_in, outputs_in}
use Rattle.binder.specs.HavingShapes.{having_becomes}
use Rattle.binder.specs.Havings.{having_asked}
use Rattle.binder.specs.Selects.{FromSoFar, condition_in, join_in, chain_in, joined, select_in, membership_in, term_in, from_in, filter_in, with_asked}
use Rattle.binder.proofs.SelectParts.{contained, join_at, select_at, behind_from, behind_filter, behind_keys, behind_having}
use Rattle.binder.proofs.Steps.{reported, handed, seen}

-- ---- `left IN query`

module _ (S : Schema) (c : Condition) (a : tree.Term) (at : ℕ) (q lent : Select) (scopes : Scopes) (n : Numbered) (is : c ≡ In a at q) (same : lent ≡ q) where
  pub left_fails : (e : Fault BindRefusal) → Fails e (term_in scopes a) → Fails e (condition_in S c scopes n)
  left_fails e = reported e _ _ _ (contained S c a at q lent scopes n is same)

  with_left : (left : BoundTerm) → term_in scopes a ≡ Ok left → condition_in S c scopes n ≡ (select_in S lent scopes n >>= λ query. membership_in left at query.0 >>= λ bound. Ok (bound, query.1))
  with_left left found = handed _ _ _ _ (contained S c a at q lent scopes n is same) found

  pub query_fails : (e : Fault BindRefusal) (left : BoundTerm) → term_in scopes a ≡ Ok left → Fails e (select_in S lent scopes n) → Fails e (condition_in S c scopes n)
  query_fails e left found = reported e _ _ _ (with_left left found)

  pub membership_gives : (left : BoundTerm) (query : BoundSelect) (m : Numbered) (answer : Result Cond (Fault BindRefusal)) → term_in scopes a ≡ Ok left → select_in S lent scopes n ≡ Ok (query, m)
      → Gives (λ (bound : Cond). bound) answer (membership_in left at query) → Gives (λ (bound : Cond). (bound, m)) answer (condition_in S c scopes n)
  membership_gives left query m answer found bound =
      seen (λ (x : Cond). x) (λ (x : Cond). (x, m)) answer (membership_in left at query) (condition_in S c scopes n) (handed _ _ _ _ (with_left left found) bound)

-- ---- JOIN

module _ (S : Schema) (j : Join) (outer : Scopes) (before : Scope) (left : FromSoFar) where
  pub right_fails : (e : Fault BindRefusal) → Fails e (enter S before left.1 (out-Join j).table left.2) → Fails e (join_in S j outer before left)
  right_fails e = reported e _ _ _ (join_at S j outer before left (out-Join j).condition refl)

  with_right : (lent : Condition) (right : TableReference × Scope × Numbered) → lent ≡ (out-Join j).condition → enter S before left.1 (out-Join j).table left.2 ≡ Ok right → join_in S j outer before left
      ≡ (condition_in S lent (right.1 ∷ outer) right.2 >>= λ on. Ok (joined (out-Join j).kind left.0 right.0 on.0, right.1, on.1))
  with_right lent right at entered = handed _ _ _ _ (join_at S j outer before left lent at) entered

  pub on_fails : (e : Fault BindRefusal) (lent : Condition) (right : TableReference × Scope × Numbered) → lent ≡ (out-Join j).condition → enter S before left.1 (out-Join j).table left.2 ≡ Ok right
      → Fails e (condition_in S lent (right.1 ∷ outer) right.2) → Fails e (join_in S j outer before left)
  on_fails e lent right at entered = reported e _ _ _ (with_right lent right at entered)

  pub join_is : (lent : Condition) (right : TableReference × Scope × Numbered) (on : Cond × Numbered) (f : From) → lent ≡ (out-Join j).condition → enter S before left.1 (out-Join j).table left.2 ≡ Ok right
      → condition_in S lent (right.1 ∷ outer) right.2 ≡ Ok on → f ≡ joined (out-Join j).kind left.0 right.0 on.0 → join_in S j outer before left ≡ Ok (f, right.1, on.1)
  join_is lent right on f at entered bound is = rw is (handed _ _ _ _ (with_right lent right at entered) bound)

-- ---- SELECT

module _ (S : Schema) (q : Select) (outer : Scopes) (n m : Numbered) (chains : List Chain) (group : List ColumnName) (counted : m ≡ with_aggregates n (aggregates (out-Select q).list)) (at : chains ≡ (out-Select q).from) (by : group ≡ (out-Select q).group) where
  abbrev list : SelectList
  list = (out-Select q).list

  abbrev having : Option HavingCondition
  having = (out-Select q).having

  abbrev twice : Bool
  twice = (out-Select q).distinct

  pub from_fails : (e : Fault BindRefusal) → Fails e (from_in (map (chain_in S) chains) outer m) → Fails e (select_in S q outer n)
  from_fails e = reported e _ _ _ (select_at S q outer n m chains group counted at by)

  module _ (sources : FromSoFar) (found : from_in (map (chain_in S) chains) outer m ≡ Ok sources) where
    with_from : select_in S q outer n ≡ behind_from S list having twice outer n group (out-Select q).filter sources
    with_from = handed _ _ _ _ (select_at S q outer n m chains group counted at by) found

    pub filter_fails : (e : Fault BindRefusal) → Fails e (filter_in (option_map (condition_in S) (out-Select q).filter) (sources.1 ∷ outer) sources.2) → Fails e (select_in S q outer n)
    filter_fails e = reported e _ _ _ with_from

    module _ (filter : Option Cond × Numbered) (bound : filter_in (option_map (condition_in S) (out-Select q).filter) (sources.1 ∷ outer) sources.2 ≡ Ok filter) where
      with_filter : select_in S q outer n ≡ behind_filter S list having twice outer n group sources filter
      with_filter = handed _ _ _ _ with_from bound

      pub keys_fail : (e : Fault BindRefusal) → Fails e (each (key_in (sources.1 ∷ outer)) group) → Fails e (select_in S q outer n)
      keys_fail e = reported e _ _ _ with_filter

      module _ (keys : List ℕ) (kept : each (key_in (sources.1 ∷ outer)) group ≡ Ok keys) where
        with_keys : select_in S q outer n ≡ behind_keys S list having twice outer n sources filter keys
        with_keys = handed _ _ _ _ with_filter kept

        -- what is lent of HAVING, and the number of its first aggregate
        module _ (lent : Option HavingCondition) (number : ℕ) (is : lent ≡ having) (next : number ≡ filter.1.next_aggregate) where
          abbrev lent_with : Option HavingCondition → ℕ → Option HavingCondition × ℕ
          lent_with h k = (h, k)

          both : lent_with lent number ≡ lent_with having filter.1.next_aggregate
          both = ap (λ h. lent_with h number) is ∙ ap (lent_with having) next

          pub having_fails : (e : Fault BindRefusal) → Fails e (having_asked (sources.1 ∷ outer) keys lent (record { items = []; next_aggregate = number })) → Fails e (select_in S q outer n)
          having_fails e h = reported e _ _ _ with_keys (subst (λ x. Fails e (having_asked (sources.1 ∷ outer) keys x.0 (record { items = []; next_aggregate = x.1 }))) both h)

          module _ (asked : Asked) (named : having_asked (sources.1 ∷ outer) keys lent (record { items = []; next_aggregate = number }) ≡ Ok asked) (grouped : Bool) (by_group : grouped ≡ is_grouped keys list having) where
            with_having : select_in S q outer n ≡ behind_having S list having twice outer n sources filter keys asked
            with_having = handed _ _ _ _ with_keys (subst (λ x. having_asked (sources.1 ∷ outer) keys x.0 (record { items = []; next_aggregate = x.1 }) ≡ Ok asked) both named)

            pub outputs_fail : (e : Fault BindRefusal) → Fails e (outputs_in sources.1 (sources.1 ∷ outer) grouped keys n.next_aggregate list) → Fails e (select_in S q outer n)
            outputs_fail e h = reported e _ _ _ with_having (subst (λ by. Fails e (outputs_in sources.1 (sources.1 ∷ outer) by keys n.next_aggregate list)) by_group h)

            pub select_is : (outputs : List Output) (items : List Item) (becomes : Option Cond) → outputs_in sources.1 (sources.1 ∷ outer) grouped keys n.next_aggregate list ≡ Ok outputs → items ≡ map (λ o. o.item) outputs
                → becomes ≡ having_becomes having → select_in S q outer n ≡ Ok (
                  record {
                    block = roll-Block (record { from = sources.0; filter = filter.0; grouped = grouped; keys = keys; having = becomes; having_items = asked.items; items = items; distinct = twice });
                    outputs = outputs;
                    scope = sources.1;
                  },
                  with_asked filter.1 asked,
                )
            select_is outputs items becomes shown listed became =
                rw (by_group, listed, became) (handed _ _ _ _ with_having (subst (λ by. outputs_in sources.1 (sources.1 ∷ outer) by keys n.next_aggregate list ≡ Ok outputs) by_group shown))

use Rattle.std.proofs.Common.{◌≡◌, refl, ◌∙◌, ap, sym, ◌-◌, length, take, drop, map, Some, Ok, arith}
use Rattle.std.proofs.lemmas.Result.{err_from_is_err_and}
use Rattle.sql_parse.specs.declared.statement.Chain.{out-Chain}
use Rattle.sql_parse.specs.declared.statement.Select.{out-Select}
use Rattle.query.specs.declared.query.Cond.{Cond}
use Rattle.query.specs.declared.query.Cond.TheVariants as cond
use Rattle.query.specs.declared.query.From.{From}
use Rattle.binder.specs.declared.output.Output.{Output}
use Rattle.binder.specs.Numbers.{with_aggregates}
use Rattle.binder.specs.Outputs.{is_grouped}
use Rattle.binder.specs.Scopes.{Scope}
use Rattle.binder.specs.Chained.{scopes_of}
use Rattle.binder.specs.Selects as spec
use Rattle.binder.proofs.SelectExits.{left_fails, query_fails, membership_gives, right_fails, on_fails, join_is, from_fails, filter_fails, keys_fail, outputs_fail, select_is, having_fails}
use Rattle.binder.proofs.SelectParts.{compared, null_tested, negated, conjoined, disjoined, existing, chain_at, grouped_is}
use Rattle.binder.proofs.SelectLoops.{none_in_front, conditions_on, conditions_end, conditions_done, filtered, not_filtered, joins_on, joins_end, joins_done, no_chain, first_chain, chains_on, chains_end, chains_done}
use Rattle.binder.proofs.Steps.{reported, handed, seen, same}
use Rattle.binder.proofs.selects.+selects.Goals as goal

pub condition-returns-in-Compare : goal.condition-returns-in-Compare
condition-returns-in-Compare t c = seen (λ (bound : Cond). bound) (λ (bound : Cond). (bound, c.args.numbered.now)) c.comparison.result _ _ (compared c.args.schema.now c.args.part.now c.in-Compare.left c.in-Compare.by c.in-Compare.right (scopes_of c.args.scopes.now) c.args.numbered.now c.in-Compare.is) c.comparison.ensures

pub condition-returns-in_err-term-in-IsNull : goal.condition-returns-in_err-term-in-IsNull
condition-returns-in_err-term-in-IsNull t c =
    let p = err_from_is_err_and c.from_residual.result c.from_residual.ensures.1 in
    rw (p.1, p.2) (reported c.in_err-term-in-IsNull.field-0.0 _ _ _ (null_tested c.args.schema.now c.args.part.now c.in-IsNull.tested (scopes_of c.args.scopes.now) c.args.numbered.now c.in-IsNull.is) c.in_err-term-in-IsNull.ensures)

pub condition-returns-in_ok-term-in-IsNull : goal.condition-returns-in_ok-term-in-IsNull
condition-returns-in_ok-term-in-IsNull t c = handed _ _ _ _ (null_tested c.args.schema.now c.args.part.now c.in-IsNull.tested (scopes_of c.args.scopes.now) c.args.numbered.now c.in-IsNull.is) c.in_ok-term-in-IsNull.ensures

pub condition-returns-in_err-inner-in-Not : goal.condition-returns-in_err-inner-in-Not
condition-returns-in_err-inner-in-Not t c =
    let p = err_from_is_err_and c.from_residual-in_err-inner-in-Not.result c.from_residual-in_err-inner-in-Not.ensures.1 in
    rw (p.1, p.2) (reported c.in_err-inner-in-Not.field-0.0 _ _ _ (negated c.args.schema.now c.args.part.now c.in-Not.inner c.get.result.now (scopes_of c.args.scopes.now) c.args.numbered.now c.in-Not.is c.get.ensures) c.in_err-inner-in-Not.ensures)

pub condition-returns-in_ok-new-in-Not : goal.condition-returns-in_ok-new-in-Not
condition-returns-in_ok-new-in-Not t c = handed _ _ _ _ (negated c.args.schema.now c.args.part.now c.in-Not.inner c.get.result.now (scopes_of c.args.scopes.now) c.args.numbered.now c.in-Not.is c.get.ensures) c.in_ok-inner-in-Not.ensures ∙ ap (λ (d : Cond). Ok (cond.Not d, c.condition.new.numbered)) (sym c.in_ok-new-in-Not.ensures)

pub condition-returns-in_err-parts-in-And : goal.condition-returns-in_err-parts-in-And
condition-returns-in_err-parts-in-And t c =
    let p = err_from_is_err_and c.from_residual-in_err-parts-in-And.result c.from_residual-in_err-parts-in-And.ensures.1 in
    rw (p.1, p.2) (reported c.in_err-parts-in-And.field-0.0 _ _ _ (conjoined c.args.schema.now c.args.part.now c.in-And.parts c.as_slice.result.now (scopes_of c.args.scopes.now) c.args.numbered.now c.in-And.is c.as_slice.ensures) c.in_err-parts-in-And.ensures)

pub condition-returns-in_ok-parts-in-And : goal.condition-returns-in_ok-parts-in-And
condition-returns-in_ok-parts-in-And t c = handed _ _ _ _ (conjoined c.args.schema.now c.args.part.now c.in-And.parts c.as_slice.result.now (scopes_of c.args.scopes.now) c.args.numbered.now c.in-And.is c.as_slice.ensures) c.in_ok-parts-in-And.ensures

pub condition-returns-in_err-parts-in-Or : goal.condition-returns-in_err-parts-in-Or
condition-returns-in_err-parts-in-Or t c =
    let p = err_from_is_err_and c.from_residual-in_err-parts-in-Or.result c.from_residual-in_err-parts-in-Or.ensures.1 in
    rw (p.1, p.2) (reported c.in_err-parts-in-Or.field-0.0 _ _ _ (disjoined c.args.schema.now c.args.part.now c.in-Or.parts c.as_slice-in-Or.result.now (scopes_of c.args.scopes.now) c.args.numbered.now c.in-Or.is c.as_slice-in-Or.ensures) c.in_err-parts-in-Or.ensures)

pub condition-returns-in_ok-parts-in-Or : goal.condition-returns-in_ok-parts-in-Or
condition-returns-in_ok-parts-in-Or t c = handed _ _ _ _ (disjoined c.args.schema.now c.args.part.now c.in-Or.parts c.as_slice-in-Or.result.now (scopes_of c.args.scopes.now) c.args.numbered.now c.in-Or.is c.as_slice-in-Or.ensures) c.in_ok-parts-in-Or.ensures

pub condition-returns-in_err-query-in-Exists : goal.condition-returns-in_err-query-in-Exists
condition-returns-in_err-query-in-Exists t c =
    let p = err_from_is_err_and c.from_residual-in_err-query-in-Exists.result c.from_residual-in_err-query-in-Exists.ensures.1 in
    rw (p.1, p.2) (reported c.in_err-query-in-Exists.field-0.0 _ _ _ (existing c.args.schema.now c.args.part.now c.in-Exists.query c.get-in-Exists.result.now (scopes_of c.args.scopes.now) c.args.numbered.now c.in-Exists.is c.get-in-Exists.ensures) c.in_err-query-in-Exists.ensures)

pub condition-returns-in_ok-query-in-Exists : goal.condition-returns-in_ok-query-in-Exists
condition-returns-in_ok-query-in-Exists t c = handed _ _ _ _ (existing c.args.schema.now c.args.part.now c.in-Exists.query c.get-in-Exists.result.now (scopes_of c.args.scopes.now) c.args.numbered.now c.in-Exists.is c.get-in-Exists.ensures) c.in_ok-query-in-Exists.ensures

pub condition-returns-in_err-left-in-In : goal.condition-returns-in_err-left-in-In
condition-returns-in_err-left-in-In t c =
    let p = err_from_is_err_and c.from_residual-in_err-left-in-In.result c.from_residual-in_err-left-in-In.ensures.1 in
    rw (p.1, p.2) (left_fails c.args.schema.now c.args.part.now c.in-In.tested c.in-In.at c.in-In.query c.in-In.query (scopes_of c.args.scopes.now) c.args.numbered.now c.in-In.is refl c.in_err-left-in-In.field-0.0 c.in_err-left-in-In.ensures)

pub condition-returns-in_err-query-in-In : goal.condition-returns-in_err-query-in-In
condition-returns-in_err-query-in-In t c =
    let p = err_from_is_err_and c.from_residual-in_err-query-in-In.result c.from_residual-in_err-query-in-In.ensures.1 in
    rw (p.1, p.2) (query_fails c.args.schema.now c.args.part.now c.in-In.tested c.in-In.at c.in-In.query c.get-in-In.result.now (scopes_of c.args.scopes.now) c.args.numbered.now c.in-In.is c.get-in-In.ensures c.in_err-query-in-In.field-0.0 c.in_ok-left-in-In.left c.in_ok-left-in-In.ensures c.in_err-query-in-In.ensures)

pub condition-returns-in_ok-query-in-In : goal.condition-returns-in_ok-query-in-In
condition-returns-in_ok-query-in-In t c =
    membership_gives c.args.schema.now c.args.part.now c.in-In.tested c.in-In.at c.in-In.query c.get-in-In.result.now (scopes_of c.args.scopes.now) c.args.numbered.now c.in-In.is c.get-in-In.ensures c.in_ok-left-in-In.left c.in_ok-query-in-In.query c.select-in-In.new.numbered c.membership.result c.in_ok-left-in-In.ensures c.in_ok-query-in-In.ensures c.membership.ensures

pub join-returns-in_err-right : goal.join-returns-in_err-right
join-returns-in_err-right t c =
    let p = err_from_is_err_and c.from_residual.result c.from_residual.ensures.1 in
    rw (p.1, p.2) (right_fails c.args.schema.now c.args.part.now (scopes_of c.args.outer.now) c.args.before.now (c.args.left.0, c.args.left.1, c.args.numbered.now) c.in_err-right.field-0.0 c.in_err-right.ensures)

pub join-returns-in_err-on : goal.join-returns-in_err-on
join-returns-in_err-on t c =
    let p = err_from_is_err_and c.from_residual-in_err-on.result c.from_residual-in_err-on.ensures.1 in
    rw (p.1, p.2) (on_fails c.args.schema.now c.args.part.now (scopes_of c.args.outer.now) c.args.before.now (c.args.left.0, c.args.left.1, c.args.numbered.now)
    c.in_err-on.field-0.0 c.get.result.now (c.in_ok-right.right, c.in_ok-right.chain, c.enter.new.numbered) c.get.ensures c.in_ok-right.ensures c.in_err-on.ensures)

pub join-returns : goal.join-returns
join-returns t c =
    join_is c.args.schema.now c.args.part.now (scopes_of c.args.outer.now) c.args.before.now (c.args.left.0, c.args.left.1, c.args.numbered.now)
    c.get.result.now (c.in_ok-right.right, c.in_ok-right.chain, c.enter.new.numbered) (c.in_ok-on.on, c.condition.new.numbered) c.in_ok-joined.field-0 c.get.ensures c.in_ok-right.ensures c.in_ok-on.ensures c.in_ok-joined.ensures

pub chain-returns-in_err-first : goal.chain-returns-in_err-first
chain-returns-in_err-first t c =
    let p = err_from_is_err_and c.from_residual.result c.from_residual.ensures.1 in
    rw (p.1, p.2) (reported c.in_err-first.field-0.0 _ _ _ (chain_at c.args.schema.now c.args.part.now (scopes_of c.args.outer.now) c.args.before.now c.args.numbered.now c.new-none.result (out-Chain c.args.part.now).joins c.new-none.ensures refl) c.in_err-first.ensures)

pub chain-returns : goal.chain-returns
chain-returns t c =
    let is = handed _ _ _ _ (chain_at c.args.schema.now c.args.part.now (scopes_of c.args.outer.now) c.args.before.now c.args.numbered.now c.new-none.result c.as_slice.result.now c.new-none.ensures c.as_slice.ensures) c.in_ok-first.ensures
    ∙ ap (λ (from : From). spec.through (map (spec.join_in c.args.schema.now) c.as_slice.result.now) (scopes_of c.args.outer.now) c.args.before.now (from, c.in_ok-first.scope, c.enter.new.numbered)) (sym c.in_ok-new.ensures) in
    same (λ (x : From × Scope). (x.0, x.1, c.joins.new.numbered)) c.joins.result _ _ is c.joins.ensures

pub select-returns-in_err-from : goal.select-returns-in_err-from
select-returns-in_err-from t c =
    let p = err_from_is_err_and c.from_residual-in_err-from.result c.from_residual-in_err-from.ensures.1 in
    rw (p.1, p.2) (from_fails c.args.schema.now c.args.part.now (scopes_of c.args.outer.now) c.args.numbered.now c.push_aggregates.new.self c.as_slice.result.now (out-Select c.args.part.now).group
    (c.in_ok-push_aggregates.ensures ∙ ap (with_aggregates c.args.numbered.now) c.aggregates-own_aggregates.ensures) c.as_slice.ensures refl c.in_err-from.field-0.0 c.in_err-from.ensures)

pub select-returns-in_err-filter : goal.select-returns-in_err-filter
select-returns-in_err-filter t c =
    let p = err_from_is_err_and c.from_residual-in_err-filter.result c.from_residual-in_err-filter.ensures.1 in
    rw (p.1, p.2) (filter_fails c.args.schema.now c.args.part.now (scopes_of c.args.outer.now) c.args.numbered.now c.push_aggregates.new.self c.as_slice.result.now (out-Select c.args.part.now).group
    (c.in_ok-push_aggregates.ensures ∙ ap (with_aggregates c.args.numbered.now) c.aggregates-own_aggregates.ensures) c.as_slice.ensures refl
    (c.in_ok-from.from, c.in_ok-from.scope, c.sources.new.numbered) c.in_ok-from.ensures c.in_err-filter.field-0.0 c.in_err-filter.ensures)

pub select-returns-in_err-keys : goal.select-returns-in_err-keys
select-returns-in_err-keys t c =
    let p = err_from_is_err_and c.from_residual-in_err-keys.result c.from_residual-in_err-keys.ensures.1 in
    rw (p.1, p.2) (keys_fail c.args.schema.now c.args.part.now (scopes_of c.args.outer.now) c.args.numbered.now c.push_aggregates.new.self c.as_slice.result.now c.as_slice-2.result.now
    (c.in_ok-push_aggregates.ensures ∙ ap (with_aggregates c.args.numbered.now) c.aggregates-own_aggregates.ensures) c.as_slice.ensures c.as_slice-2.ensures
    (c.in_ok-from.from, c.in_ok-from.scope, c.sources.new.numbered) c.in_ok-from.ensures (c.in_ok-filter.filter, c.filter.new.numbered) c.in_ok-filter.ensures c.in_err-keys.field-0.0 c.in_err-keys.ensures)

pub select-returns-in_err-asked : goal.select-returns-in_err-asked
select-returns-in_err-asked t c =
    let p = err_from_is_err_and c.from_residual-in_err-asked.result c.from_residual-in_err-asked.ensures.1 in
    rw (p.1, p.2) (having_fails c.args.schema.now c.args.part.now (scopes_of c.args.outer.now) c.args.numbered.now c.push_aggregates.new.self c.as_slice.result.now c.as_slice-2.result.now
    (c.in_ok-push_aggregates.ensures ∙ ap (with_aggregates c.args.numbered.now) c.aggregates-own_aggregates.ensures) c.as_slice.ensures c.as_slice-2.ensures
    (c.in_ok-from.from, c.in_ok-from.scope, c.sources.new.numbered) c.in_ok-from.ensures (c.in_ok-filter.filter, c.filter.new.numbered) c.in_ok-filter.ensures c.in_ok-keys.keys c.in_ok-keys.ensures
    (out-Select c.args.part.now).having c.filter.new.numbered.next_aggregate refl refl c.in_err-asked.field-0.0 c.in_err-asked.ensures)

pub select-returns-in_err-outputs : goal.select-returns-in_err-outputs
select-returns-in_err-outputs t c =
    let q = out-Select c.args.part.now in
    let grouped : c.is_grouped-grouped.result ≡ is_grouped c.in_ok-keys.keys q.list q.having = grouped_is c.in_ok-keys.keys q.list q.having c.len.result c.aggregates-own_aggregates.result c.is_some.result c.is_grouped-grouped.result c.len.ensures c.aggregates-own_aggregates.ensures c.is_some.ensures c.is_grouped-grouped.ensures in
    let p = err_from_is_err_and c.from_residual-in_err-outputs.result c.from_residual-in_err-outputs.ensures.1 in
    rw (p.1, p.2) (outputs_fail c.args.schema.now c.args.part.now (scopes_of c.args.outer.now) c.args.numbered.now c.push_aggregates.new.self c.as_slice.result.now c.as_slice-2.result.now
    (c.in_ok-push_aggregates.ensures ∙ ap (with_aggregates c.args.numbered.now) c.aggregates-own_aggregates.ensures) c.as_slice.ensures c.as_slice-2.ensures
    (c.in_ok-from.from, c.in_ok-from.scope, c.sources.new.numbered) c.in_ok-from.ensures (c.in_ok-filter.filter, c.filter.new.numbered) c.in_ok-filter.ensures c.in_ok-keys.keys c.in_ok-keys.ensures
    q.having c.filter.new.numbered.next_aggregate refl refl c.in_ok-asked.asked c.in_ok-asked.ensures c.is_grouped-grouped.result grouped c.in_err-outputs.field-0.0 c.in_err-outputs.ensures)

pub select-returns : goal.select-returns
select-returns t c =
    let q = out-Select c.args.part.now in
    let grouped : c.is_grouped-grouped.result ≡ is_grouped c.in_ok-keys.keys q.list q.having = grouped_is c.in_ok-keys.keys q.list q.having c.len.result c.aggregates-own_aggregates.result c.is_some.result c.is_grouped-grouped.result c.len.ensures c.aggregates-own_aggregates.ensures c.is_some.ensures c.is_grouped-grouped.ensures in
    let items : c.in_ok-items.items ≡ map (λ (o : Output). o.item) c.in_ok-outputs.outputs = c.in_ok-items.ensures ∙ ap (map (λ (o : Output). o.item)) c.as_slice-3.ensures in
    rw (c.in_ok-new.ensures, c.into_items.ensures, c.into_inner.ensures) (select_is c.args.schema.now c.args.part.now (scopes_of c.args.outer.now) c.args.numbered.now c.push_aggregates.new.self c.as_slice.result.now c.as_slice-2.result.now
    (c.in_ok-push_aggregates.ensures ∙ ap (with_aggregates c.args.numbered.now) c.aggregates-own_aggregates.ensures) c.as_slice.ensures c.as_slice-2.ensures
    (c.in_ok-from.from, c.in_ok-from.scope, c.sources.new.numbered) c.in_ok-from.ensures (c.in_ok-filter.filter, c.filter.new.numbered) c.in_ok-filter.ensures c.in_ok-keys.keys c.in_ok-keys.ensures
    q.having c.filter.new.numbered.next_aggregate refl refl c.in_ok-asked.asked c.in_ok-asked.ensures c.is_grouped-grouped.result grouped c.in_ok-outputs.outputs c.in_ok-items.items c.in_ok-becomes.field-0 c.in_ok-outputs.ensures items c.in_ok-becomes.ensures)

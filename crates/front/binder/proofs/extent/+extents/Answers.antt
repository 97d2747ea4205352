use Rattle.std.proofs.Common.{◌≡◌, refl, ℕ, ◌+◌, ◌∙◌, ap, sym, subst, IfOk, List, map, option_map, arith}
use Rattle.std.proofs.lemmas.Result.{err_from_is_err_and}
use Rattle.sql_parse.specs.declared.statement.Condition.{Condition}
use Rattle.sql_parse.specs.declared.statement.Join.{Join, out-Join}
use Rattle.sql_parse.specs.declared.statement.Chain.{Chain, out-Chain}
use Rattle.sql_parse.specs.declared.statement.Select.{out-Select}
use Rattle.binder.specs.declared.extent.Extent.{Extent}
use Rattle.binder.specs.Extents as spec
use Rattle.binder.specs.HavingShapes.{having_tests}
use Rattle.binder.proofs.ExtentParts.{extent-Compare, extent-IsNull, extent-Not, extent-And, extent-Or, extent-Exists, extent-In, extent-join, extent-chain, extent-select, all_more, all_done}
use Rattle.binder.proofs.extent.+extents.Goals as goal

pub of_condition-returns-in-Compare : goal.of_condition-returns-in-Compare
of_condition-returns-in-Compare t c = cc (extent-Compare c.args.schema.now c.in-Compare.field-0 c.in-Compare.field-1 c.in-Compare.field-2)

pub of_condition-returns-in-IsNull : goal.of_condition-returns-in-IsNull
of_condition-returns-in-IsNull t c = cc (extent-IsNull c.args.schema.now c.in-IsNull.field-0)

pub of_condition-returns-in-Not : goal.of_condition-returns-in-Not
of_condition-returns-in-Not t c =
    let S = c.args.schema.now in
    let is = ap (spec.of_condition S) c.get.ensures ∙ sym (extent-Not S c.in-Not.part) ∙ sym (ap (spec.of_condition S) c.in-Not.is) in
    subst (λ (z : Extent). IfOk c.of_condition.result (λ extent. extent ≡ z)) is c.of_condition.ensures

pub of_condition-returns-in-And : goal.of_condition-returns-in-And
of_condition-returns-in-And t c =
    let S = c.args.schema.now in
    let is = ap (λ (cs : List Condition). spec.all_of (map (spec.of_condition S) cs)) c.as_slice.ensures ∙ sym (extent-And S c.in-And.parts) ∙ sym (ap (spec.of_condition S) c.in-And.is) in
    subst (λ (z : Extent). IfOk c.of_conditions.result (λ extent. extent ≡ z)) is c.of_conditions.ensures

pub of_condition-returns-in-Or : goal.of_condition-returns-in-Or
of_condition-returns-in-Or t c =
    let S = c.args.schema.now in
    let is = ap (λ (cs : List Condition). spec.all_of (map (spec.of_condition S) cs)) c.as_slice-in-Or.ensures ∙ sym (extent-Or S c.in-Or.parts) ∙ sym (ap (spec.of_condition S) c.in-Or.is) in
    subst (λ (z : Extent). IfOk c.of_conditions-in-Or.result (λ extent. extent ≡ z)) is c.of_conditions-in-Or.ensures

pub of_condition-returns-in_ok-of_select-in-Exists : goal.of_condition-returns-in_ok-of_select-in-Exists
of_condition-returns-in_ok-of_select-in-Exists t c =
    let S = c.args.schema.now in
    let is = ap (spec.beside spec.one_test) (c.in_ok-of_select-in-Exists.ensures ∙ ap (spec.of_select S) c.get-in-Exists.ensures) ∙ sym (extent-Exists S c.in-Exists.query) ∙ sym (ap (spec.of_condition S) c.in-Exists.is) in
    subst (λ (z : Extent). IfOk c.beside.result (λ extent. extent ≡ z)) is c.beside.ensures

pub of_condition-returns-in_ok-of_select-in-In : goal.of_condition-returns-in_ok-of_select-in-In
of_condition-returns-in_ok-of_select-in-In t c =
    let S = c.args.schema.now in
    let is = ap (spec.beside spec.one_test) (c.in_ok-of_select-in-In.ensures ∙ ap (spec.of_select S) c.get-in-In.ensures) ∙ sym (extent-In S c.in-In.field-0 c.in-In.field-1 c.in-In.query) ∙ sym (ap (spec.of_condition S) c.in-In.is) in
    subst (λ (z : Extent). IfOk c.beside-in-In.result (λ extent. extent ≡ z)) is c.beside-in-In.ensures

pub of_join-returns : goal.of_join-returns
of_join-returns t c =
    let S = c.args.schema.now in
    let on : c.in_ok-of_condition.field-0 ≡ spec.of_condition S (out-Join c.args.join.now).condition = c.in_ok-of_condition.ensures ∙ ap (spec.of_condition S) c.get.ensures in
    let whole : spec.beside c.of_table.result c.in_ok-of_condition.field-0 ≡ spec.of_join S c.args.join.now =
    ap (λ (x : Extent). spec.beside x c.in_ok-of_condition.field-0) c.of_table.ensures ∙ ap (spec.beside (spec.one_table S (out-Join c.args.join.now).table)) on ∙ sym (extent-join S c.args.join.now) in
    subst (λ (z : Extent). IfOk c.beside.result (λ extent. extent ≡ z)) whole c.beside.ensures

pub of_chain-returns : goal.of_chain-returns
of_chain-returns t c =
    let S = c.args.schema.now in
    let joins : c.in_ok-of_joins.field-0 ≡ spec.all_of (map (spec.of_join S) (out-Chain c.args.chain.now).joins) =
    c.in_ok-of_joins.ensures ∙ ap (λ (js : List Join). spec.all_of (map (spec.of_join S) js)) c.as_slice.ensures in
    let whole : spec.beside c.of_table.result c.in_ok-of_joins.field-0 ≡ spec.of_chain S c.args.chain.now =
    ap (λ (x : Extent). spec.beside x c.in_ok-of_joins.field-0) c.of_table.ensures ∙ ap (spec.beside (spec.one_table S (out-Chain c.args.chain.now).table)) joins ∙ sym (extent-chain S c.args.chain.now) in
    subst (λ (z : Extent). IfOk c.beside.result (λ extent. extent ≡ z)) whole c.beside.ensures

pub of_select-returns : goal.of_select-returns
of_select-returns t c =
    let S = c.args.schema.now in
    let q = out-Select c.args.select.now in
    let from : c.in_ok-from.from ≡ spec.all_of (map (spec.of_chain S) q.from) = c.in_ok-from.ensures ∙ ap (λ (xs : List Chain). spec.all_of (map (spec.of_chain S) xs)) c.as_slice.ensures in
    let filter : c.in_ok-of_filter.field-0 ≡ spec.of_filter (option_map (spec.of_condition S) q.filter) = c.in_ok-of_filter.ensures in
    let inside : c.in_ok-inside.inside ≡ spec.beside (spec.all_of (map (spec.of_chain S) q.from)) (spec.of_filter (option_map (spec.of_condition S) q.filter)) =
    c.in_ok-inside.ensures ∙ ap (λ (x : Extent). spec.beside x c.in_ok-of_filter.field-0) from ∙ ap (spec.beside (spec.all_of (map (spec.of_chain S) q.from))) filter in
    let levels = ap (λ (n : ℕ). record c.in_ok-inside.inside { levels = n; tests = c.in_ok-sum-2.field-0 }) c.in_ok-sum.ensures in
    let tests : c.in_ok-sum-2.field-0 ≡ c.in_ok-inside.inside.tests + having_tests q.having = c.in_ok-sum-2.ensures ∙ ap (λ n. c.in_ok-inside.inside.tests + n) c.in_ok-having_tests.ensures in
    let counted = ap (λ (n : ℕ). record c.in_ok-inside.inside { levels = c.in_ok-inside.inside.levels + 1; tests = n }) tests in
    levels ∙ counted ∙ ap (λ e. spec.with_tests (having_tests q.having) (spec.one_level_more e)) inside ∙ sym (extent-select S c.args.select.now)

pub of_condition-returns-in_err-of_select-in-Exists : goal.of_condition-returns-in_err-of_select-in-Exists
of_condition-returns-in_err-of_select-in-Exists t c =
    let p = err_from_is_err_and c.from_residual.result c.from_residual.ensures.1 in
    rw p.1 tt

pub of_condition-returns-in_err-of_select-in-In : goal.of_condition-returns-in_err-of_select-in-In
of_condition-returns-in_err-of_select-in-In t c =
    let p = err_from_is_err_and c.from_residual-in_err-of_select-in-In.result c.from_residual-in_err-of_select-in-In.ensures.1 in
    rw p.1 tt

pub of_join-returns-in_err-of_condition : goal.of_join-returns-in_err-of_condition
of_join-returns-in_err-of_condition t c =
    let p = err_from_is_err_and c.from_residual.result c.from_residual.ensures.1 in
    rw p.1 tt

pub of_chain-returns-in_err-of_joins : goal.of_chain-returns-in_err-of_joins
of_chain-returns-in_err-of_joins t c =
    let p = err_from_is_err_and c.from_residual.result c.from_residual.ensures.1 in
    rw p.1 tt

pub of_select-returns-in_err-from : goal.of_select-returns-in_err-from
of_select-returns-in_err-from t c =
    let p = err_from_is_err_and c.from_residual.result c.from_residual.ensures.1 in
    rw p.1 tt

pub of_select-returns-in_err-of_filter : goal.of_select-returns-in_err-of_filter
of_select-returns-in_err-of_filter t c =
    let p = err_from_is_err_and c.from_residual-in_err-of_filter.result c.from_residual-in_err-of_filter.ensures.1 in
    rw p.1 tt

pub of_select-returns-in_err-inside : goal.of_select-returns-in_err-inside
of_select-returns-in_err-inside t c =
    let p = err_from_is_err_and c.from_residual-in_err-inside.result c.from_residual-in_err-inside.ensures.1 in
    rw p.1 tt

pub of_select-returns-in_err-sum : goal.of_select-returns-in_err-sum
of_select-returns-in_err-sum t c =
    let p = err_from_is_err_and c.from_residual-in_err-sum.result c.from_residual-in_err-sum.ensures.1 in
    rw p.1 tt

pub of_conditions-loop-condition-init : goal.of_conditions-loop-condition-init
of_conditions-loop-condition-init t c =
    refl

pub of_conditions-returns-in_err-of_condition : goal.of_conditions-returns-in_err-of_condition
of_conditions-returns-in_err-of_condition t c =
    let p = err_from_is_err_and c.from_residual.result c.from_residual.ensures.1 in
    rw p.1 tt

pub of_conditions-returns-in_err-all : goal.of_conditions-returns-in_err-all
of_conditions-returns-in_err-all t c =
    let p = err_from_is_err_and c.from_residual-in_err-all.result c.from_residual-in_err-all.ensures.1 in
    rw p.1 tt

pub of_conditions-loop-condition-preserved : goal.of_conditions-loop-condition-preserved
of_conditions-loop-condition-preserved t c =
    all_more (spec.of_condition c.args.schema.now) c.args.conditions.now c.loop-condition.condition-index c.condition-item.result c.loop-condition.all c.in_ok-of_condition.field-0 c.in_ok-all.all
    c.loop-condition-test.true c.condition-item.is c.loop-condition.invariant c.in_ok-of_condition.ensures c.in_ok-all.ensures

pub of_conditions-returns : goal.of_conditions-returns
of_conditions-returns t c =
    all_done (spec.of_condition c.args.schema.now) c.args.conditions.now c.loop-condition.condition-index c.loop-condition.all (omega arith) c.loop-condition.invariant

pub of_joins-loop-join-init : goal.of_joins-loop-join-init
of_joins-loop-join-init t c =
    refl

pub of_joins-returns-in_err-of_join : goal.of_joins-returns-in_err-of_join
of_joins-returns-in_err-of_join t c =
    let p = err_from_is_err_and c.from_residual.result c.from_residual.ensures.1 in
    rw p.1 tt

pub of_joins-returns-in_err-all : goal.of_joins-returns-in_err-all
of_joins-returns-in_err-all t c =
    let p = err_from_is_err_and c.from_residual-in_err-all.result c.from_residual-in_err-all.ensures.1 in
    rw p.1 tt

pub of_joins-loop-join-preserved : goal.of_joins-loop-join-preserved
of_joins-loop-join-preserved t c =
    all_more (spec.of_join c.args.schema.now) c.args.joins.now c.loop-join.join-index c.join-item.result c.loop-join.all c.in_ok-of_join.field-0 c.in_ok-all.all
    c.loop-join-test.true c.join-item.is c.loop-join.invariant c.in_ok-of_join.ensures c.in_ok-all.ensures

pub of_joins-returns : goal.of_joins-returns
of_joins-returns t c =
    all_done (spec.of_join c.args.schema.now) c.args.joins.now c.loop-join.join-index c.loop-join.all (omega arith) c.loop-join.invariant

pub of_chains-loop-chain-init : goal.of_chains-loop-chain-init
of_chains-loop-chain-init t c =
    refl

pub of_chains-returns-in_err-of_chain : goal.of_chains-returns-in_err-of_chain
of_chains-returns-in_err-of_chain t c =
    let p = err_from_is_err_and c.from_residual.result c.from_residual.ensures.1 in
    rw p.1 tt

pub of_chains-returns-in_err-all : goal.of_chains-returns-in_err-all
of_chains-returns-in_err-all t c =
    let p = err_from_is_err_and c.from_residual-in_err-all.result c.from_residual-in_err-all.ensures.1 in
    rw p.1 tt

pub of_chains-loop-chain-preserved : goal.of_chains-loop-chain-preserved
of_chains-loop-chain-preserved t c =
    all_more (spec.of_chain c.args.schema.now) c.args.chains.now c.loop-chain.chain-index c.chain-item.result c.loop-chain.all c.in_ok-of_chain.field-0 c.in_ok-all.all
    c.loop-chain-test.true c.chain-item.is c.loop-chain.invariant c.in_ok-of_chain.ensures c.in_ok-all.ensures

pub of_chains-returns : goal.of_chains-returns
of_chains-returns t c =
    all_done (spec.of_chain c.args.schema.now) c.args.chains.now c.loop-chain.chain-index c.loop-chain.all (omega arith) c.loop-chain.invariant

pub of_filter-returns-in-None : goal.of_filter-returns-in-None
of_filter-returns-in-None t c =
    rw c.in-None.is refl

pub of_filter-returns-in-Some : goal.of_filter-returns-in-Some
of_filter-returns-in-Some t c =
    let S = c.args.schema.now in
    let is : spec.of_condition S c.get.result.now ≡ spec.of_filter (option_map (spec.of_condition S) c.args.filter.now) = rw (c.in-Some.is, c.get.ensures) refl in
    subst (λ (z : Extent). IfOk c.of_condition.result (λ extent. extent ≡ z)) is c.of_condition.ensures

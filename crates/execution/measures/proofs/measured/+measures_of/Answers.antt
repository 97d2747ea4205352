use Rattle.std.proofs.Common.{◌≡◌, rules, refl, sym, ap, ◌∙◌, subst, ◌<◌, ◌||◌, length, get_or, arith}
use Rattle.std.proofs.lemmas.Option.{slice_get_read}
use Rattle.physical.specs.declared.plan.Plan.{out-Plan}
use Rattle.physical.specs.declared.plan.Plan.TheViews as views
use Rattle.physical.specs.declared.plan.Plan.TheFolds as folds
use Rattle.operators.proofs.RunnablePlans.{input-runnable, inputs-runnable}
use Rattle.query.specs.Rows.{tables_of}
use Rattle.measures.specs.Measures.{has_subqueries, plan_if}
use Rattle.measures.proofs.RunPlans.{measured-all, measured-below}
use Rattle.measures.proofs.measured.+measures_of.Goals.{then-is_repeated, else-is_repeated, then-place-eq0, else-place-eq0}
use Rattle.measures.proofs.measured.+measures_of.Goals as goal

pub measures_of-requires : goal.measures_of-requires
measures_of-requires g t c =
    let instances = c.args.sources.instances.now in
    let inputs = c.as_slice-input-items.result.now in
    let may = inputs-runnable instances c.args.plan.now _ inputs refl c.as_slice-input-items.ensures c.requires.runnable in
    let its = slice_get_read inputs _ c.loop-place.place c.input-item.result refl c.loop-place-test.true c.input-item.is in
    λ κs within. (search (rules, views.the_lemmas, folds.the_lemmas), (search rules, (input-runnable instances inputs c.loop-place.place c.input-item.result its may, c.requires.short)))

pub loop-place-preserved : goal.loop-place-preserved
loop-place-preserved g t c =
    let place = c.loop-place.place in
    let first = c.args.is_repeated in
    let later = c.if-is_repeated.are_repeated in
    let own = c.if-place-eq0.is_repeated in
    let at_first : place ≡ 0 → own ≡ first = elim c.if-place-eq0.branch [
      | then-place-eq0 w ↦ λ is. w.is_repeated-is
      | else-place-eq0 w ↦ λ is. absurd (omega (arith, w.if-place-eq0.false, is))
    ] in
    let at_later : 0 < place → own ≡ later = elim c.if-place-eq0.branch [
      | then-place-eq0 w ↦ λ behind. absurd (omega (arith, w.if-place-eq0.true, behind))
      | else-place-eq0 w ↦ λ behind. w.is_repeated-is
    ] in
    let inputs = c.as_slice-input-items.result.now in
    λ S. measured-below c.args.sources.instances.now (tables_of S c.args.sources.tables.now) (plan_if first c.args.plan.now) first later own (out-Plan c.args.plan.now).inputs place c.input-item.result c.loop-place.all.items c.in_ok-below.below.items c.append.new.self.items
    (subst (λ xs. place < length xs) c.as_slice-input-items.ensures c.loop-place-test.true) (subst (λ xs. c.input-item.result ≡ get_or xs place c.input-item.result) c.as_slice-input-items.ensures c.input-item.is)
    at_first at_later c.in_ok-append.ensures.items (c.loop-place.invariant S) (c.in_ok-below.ensures S)

pub returns : goal.returns
returns g t c =
    let later : c.if-is_repeated.are_repeated ≡ (c.args.is_repeated || has_subqueries (out-Plan c.args.plan.now).node) = elim c.if-is_repeated.branch [
      | then-is_repeated w ↦ w.are_repeated-is ∙ w.if-is_repeated.true ∙ ap (λ b. b || has_subqueries (out-Plan c.args.plan.now).node) (sym w.if-is_repeated.true)
      | else-is_repeated w ↦ w.are_repeated-is ∙ w.has_subqueries-are_repeated.ensures ∙ ap (λ b. b || has_subqueries (out-Plan c.args.plan.now).node) (sym w.if-is_repeated.false)
    ] in
    λ S. measured-all c.args.sources.instances.now (tables_of S c.args.sources.tables.now) c.args.is_repeated c.if-is_repeated.are_repeated c.args.plan.now c.as_slice-input-items.result.now c.loop-place.place c.loop-place.all.items
    c.as_slice-input-items.ensures c.loop-place-test.false later (c.loop-place.invariant S)

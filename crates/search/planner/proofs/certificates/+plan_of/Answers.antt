use Rattle.std.proofs.Common.{◌≡◌, sym, ◌∙◌, ap, subst, ◌<◌, ◌+◌, ℕ, List, [], ◌∷◌, ◌++◌, Some, get_or, take, arith}
use Rattle.std.specs.List.{slice_get}
use Rattle.std.proofs.lemmas.Option.{slice_get-get_or}
use Rattle.std.proofs.lemmas.List.{take_more, take_all}
use Rattle.algebra.specs.declared.expr.Expr.{Expr}
use Rattle.algebra.specs.Expressions.{input_classes}
use Rattle.physical.specs.declared.plan.Plan.{Plan}
use Rattle.planner.proofs.ClassPlans.{ArePlansOf, one_more, plan_of_class, earlier_input}
use Rattle.planner.proofs.certificates.+plan_of.Goals as goal

pub operator_of-requires : goal.operator_of-requires
operator_of-requires t c =
    let at = slice_get-get_or c.args.frame.now c.args.class c.index-frame-class.result c.requires.class ∙ ap Some (sym c.index-frame-class.is) in
    (c.requires.earlier c.args.class c.index-frame-class.result at).1

pub plan_of-requires : goal.plan_of-requires
plan_of-requires t c =
    let g : ℕ = c.args.class in
    let x : Expr = c.index-frame-class.result in
    let at : slice_get c.args.frame.now g ≡ Some x = slice_get-get_or c.args.frame.now g x c.requires.class ∙ ap Some (sym c.index-frame-class.is) in
    let classes : List ℕ = c.as_slice-input-items.result.now in
    let i : ℕ = c.loop-input.input-index in
    let h : ℕ = get_or classes i 0 in
    let named : slice_get (input_classes x) i ≡ Some h = ap (λ L. slice_get L i) (sym (c.as_slice-input-items.ensures.value ∙ c.in_ok-classes.ensures)) ∙ slice_get-get_or classes i 0 c.loop-input-test.true in
    let lt : h < g = earlier_input c.args.frame.now g x i h c.requires.earlier at named in
    (subst (λ n. h < n) c.decreases lt, (c.requires.earlier, omega (arith, lt, c.requires.class)))

pub loop-input-preserved : goal.loop-input-preserved
loop-input-preserved t c =
    let classes : List ℕ = c.as_slice-input-items.result.now in
    let i : ℕ = c.loop-input.input-index in
    let plans : List Plan = c.loop-input.inputs ++ c.in_ok-plan_of.field-0 ∷ [] in
    let more = one_more c.args.frame.now (take i classes) c.loop-input.inputs (get_or classes i 0) c.in_ok-plan_of.field-0 c.loop-input.invariant c.in_ok-plan_of.ensures in
    subst (λ plans. ArePlansOf c.args.frame.now (take (i + 1) classes) plans) (sym c.in_ok-push.ensures.ok)
    (subst (λ L. ArePlansOf c.args.frame.now L plans) (sym (take_more classes i 0 c.loop-input-test.true)) more)

pub returns : goal.returns
returns t c =
    let g : ℕ = c.args.class in
    let x : Expr = c.index-frame-class.result in
    let at : slice_get c.args.frame.now g ≡ Some x = slice_get-get_or c.args.frame.now g x c.requires.class ∙ ap Some (sym c.index-frame-class.is) in
    let classes : List ℕ = c.as_slice-input-items.result.now in
    let all : take c.loop-input.input-index classes ≡ input_classes x = take_all c.loop-input.input-index classes c.loop-input-test.false ∙ c.as_slice-input-items.ensures.value ∙ c.in_ok-classes.ensures in
    plan_of_class c.args.frame.now g x c.in_ok-operator.operator c.loop-input.inputs c.requires.earlier at c.in_ok-operator.ensures (subst (λ L. ArePlansOf c.args.frame.now L c.loop-input.inputs) all c.loop-input.invariant)

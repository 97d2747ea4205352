use Rattle.std.proofs.Common.{ℕ, get_or, ap, sym, ◌∙◌}
use Rattle.costs.specs.Equalities as spec
use Rattle.costs.proofs.ColumnLeaders.{no-leaders, leader-next}
use Rattle.costs.proofs.equalities.Leaders.of.Goals as goal

pub loop-equation-init : goal.loop-equation-init
loop-equation-init c = ap spec.leader_in c.new.ensures.items ∙ no-leaders

pub loop-equation-preserved : goal.loop-equation-preserved
loop-equation-preserved c =
    let P = c.args.equations.now in
    let i = c.loop-equation.equation-index in
    c.in_ok-join.ensures ∙ ap (λ (f : ℕ → ℕ). spec.joined f (get_or P i (0, 0))) c.loop-equation.invariant ∙ sym (leader-next P i (0, 0) c.loop-equation-test.true)

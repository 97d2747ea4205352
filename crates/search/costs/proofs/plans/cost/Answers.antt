use Rattle.std.proofs.Common.{ap, ◌∙◌, ℕ}
use mathlib.Core.Path.{fun_ext}
use Rattle.costs.specs.declared.nodes.Estimate.{Estimate}
use Rattle.costs.specs.Costs.{plan_estimate}
use Rattle.costs.proofs.plans.cost.Goals as goal

pub returns : goal.returns
returns c =
    let L = c.args.log.now in
    ap (λ (e : Estimate). e.cost) c.plan_estimate.ensures ∙ ap (λ (n : ℕ → ℕ). (plan_estimate c.args.statistics.now L.instances n L.log c.args.plan.now).cost) (fun_ext c.requires)

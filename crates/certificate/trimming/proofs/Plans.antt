-- A plan with other numbers, by its root's node.
use Rattle.std.proofs.Common.{◌≡◌, ap, sym, ◌∙◌, ℕ, List, map}
use Rattle.algebra.proofs.Lists.{two}
use Rattle.physical.specs.declared.plan.Node.{Node}
use Rattle.physical.specs.declared.plan.Plan.{Plan, roll-Plan, out-Plan, fold_out-Plan}
use Rattle.trimming.specs.Renumbered.{renumbered_node, renumbered_layer, renumbered_plan}

pub plan_at : (number : ℕ → ℕ) (p : Plan) (given inputs : List Plan) (node : Node) → given ≡ (out-Plan p).inputs → inputs ≡ map (renumbered_plan number) given → node ≡ renumbered_node number (out-Plan p).node
    → roll-Plan (record { node = node; inputs = inputs }) ≡ renumbered_plan number p
unfolding renumbered_plan
plan_at number p given inputs node is made named =
    let same : inputs ≡ map (renumbered_plan number) (out-Plan p).inputs = made ∙ ap (map (renumbered_plan number)) is in
    two (λ n ps. roll-Plan (record { node = n; inputs = ps })) named same ∙ sym (fold_out-Plan Plan (renumbered_layer number) p)

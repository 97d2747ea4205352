use Rattle.std.proofs.Common.{◌∙◌, ap, sym, refl, length}
use Rattle.std.proofs.lemmas.Option.{slice_get_read}
use Rattle.algebra.specs.Columns.{rising}
use Rattle.physical.specs.Outputs.{plan_output}
use Rattle.operators.proofs.RightSides.{second-at, second-none}
use Rattle.operators.proofs.right_sides.right_columns.Goals as goal

pub returns-in-Some : goal.returns-in-Some
returns-in-Some c = λ D.
    let plan = c.in-Some.plan.now in
    second-at (plan_output c.args.instances.now D) c.args.inputs.now plan c.plan_columns.result (slice_get_read c.args.inputs.now (length c.args.inputs.now) 1 plan refl c.in-Some.ensures.lookup.3.0 (c.in-Some.ensures.lookup.3.1 plan)) (c.plan_columns.ensures D)

pub returns-in-None : goal.returns-in-None
returns-in-None c = λ D. c.from_vec.ensures ∙ ap rising c.new.ensures.items ∙ sym (second-none (plan_output c.args.instances.now D) c.args.inputs.now c.in-None.ensures.lookup.3)

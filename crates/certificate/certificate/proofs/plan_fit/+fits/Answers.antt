use Rattle.std.proofs.Common.{rules, ap, sym, ◌∙◌, map}
use Rattle.physical.specs.EachOrder.{each_order}
use Rattle.physical.specs.declared.plan.Plan.TheViews as views
use Rattle.physical.specs.declared.plan.Plan.TheFolds as folds
use Rattle.physical.proofs.DeliveredOrders.{inputs_at}
use Rattle.certificate.proofs.plan_fit.+fits.Goals as goal

pub plan_fits-inputs_fit-requires : goal.plan_fits-inputs_fit-requires
plan_fits-inputs_fit-requires t c =
    let instances = c.args.derived.log.now.instances in (
      search (rules, views.the_lemmas, folds.the_lemmas),
      (
        search rules,
        c.as_slice-orders.ensures ∙ inputs_at instances c.args.plan.now c.args.delivered.now c.requires ∙ ap (map (each_order instances)) (sym c.as_slice-inputs.ensures),
      ),
    )

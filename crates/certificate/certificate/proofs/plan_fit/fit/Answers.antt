use Rattle.std.proofs.Common.{rules, ◌≡◌, ap, sym, subst, ◌∙◌, ℕ, Result, Ok}
use Rattle.values.specs.Faults.{◌>>=◌, Gives}
use Rattle.algebra.specs.Columns.{columns_at}
use Rattle.props.specs.Knowledge.{Knowledge}
use Rattle.physical.specs.declared.plan.Plan.{Plan}
use Rattle.certificate.specs.declared.certificate.CheckRefusal.{CheckRefusal}
use Rattle.certificate.proofs.FittedPlans.{delivered_is, fitted_by}
use Rattle.certificate.proofs.plan_fit.fit.Goals as goal

pub returns-in_err-plan_fits : goal.returns-in_err-plan_fits
returns-in_err-plan_fits c =
    let q = c.args.query.now in
    let E = c.args.log.now.log in
    let plan = c.args.plan.now in
    let delivers = delivered_is q plan c.in_ok-ordered.ordered c.as_slice.result.now c.in_ok-delivered.delivered c.as_slice-2.result.now c.as_slice.ensures c.in_ok-delivered.ensures c.as_slice-2.ensures c.in_ok-ordered.ensures in
    let left = fitted_by q E plan c.args.log.now.instances (columns_at c.classes.result.columns.columns.now) c.in_ok-ordered.ordered c.args.root c.len.result c.requires.instances (ap (λ (K : Knowledge). K.columns) c.classes.ensures.known) delivers c.requires.root c.len.ensures in
    subst (λ (z : Result Plan CheckRefusal). Gives (λ x. plan) c.from_residual-in_err-plan_fits.result z) (sym left) (search rules)

pub returns : goal.returns
returns c =
    let q = c.args.query.now in
    let E = c.args.log.now.log in
    let plan = c.args.plan.now in
    let delivers = delivered_is q plan c.in_ok-ordered.ordered c.as_slice.result.now c.in_ok-delivered.delivered c.as_slice-2.result.now c.as_slice.ensures c.in_ok-delivered.ensures c.as_slice-2.ensures c.in_ok-ordered.ensures in
    let left = fitted_by q E plan c.args.log.now.instances (columns_at c.classes.result.columns.columns.now) c.in_ok-ordered.ordered c.args.root c.len.result c.requires.instances (ap (λ (K : Knowledge). K.columns) c.classes.ensures.known) delivers c.requires.root c.len.ensures in
    left ∙ ap (λ (r : Result ℕ CheckRefusal). r >>= λ n. Ok plan) c.in_ok-plan_fits.ensures

use Rattle.std.proofs.Common.{ap, sym, ◌∙◌, subst, [], arith}
use Rattle.props.specs.Knowledge.{Knowledge}
use Rattle.derivation.specs.Logs.{founds, knowledge}
use Rattle.rules.specs.Formed.{Rises}
use Rattle.bindings.proofs.Results.{class_rises, none_rise}
use Rattle.bindings.proofs.result_laws.rises.Goals as goal

pub returns-in-Some : goal.returns-in-Some
returns-in-Some c =
    let instances = c.args.log.now.instances in
    let E = c.args.log.now.log in
    let columns = ap (λ (K : Knowledge). K.columns c.in-Keep.input) (sym c.classes.ensures.known) ∙ sym (c.in-Some.ensures.lookup.3.1 []) in
    subst (Rises instances c.args.log.now.own (knowledge instances E) (founds E)) (sym c.in-Keep.is) (class_rises instances c.args.log.now.own E c.in-Keep.columns c.in-Some.input.now c.in-Keep.input columns c.as_slice-kept.ensures.rising c.as_slice-input.ensures.rising)

pub returns-in_default-get : goal.returns-in_default-get
returns-in_default-get c =
    let instances = c.args.log.now.instances in
    let E = c.args.log.now.log in
    let columns = ap (λ (K : Knowledge). K.columns c.in-Keep.input) (sym c.classes.ensures.known) ∙ sym (c.in_default-get.ensures.lookup.4 (omega arith) []) in
    subst (Rises instances c.args.log.now.own (knowledge instances E) (founds E)) (sym c.in-Keep.is) (class_rises instances c.args.log.now.own E c.in-Keep.columns [] c.in-Keep.input columns c.as_slice-kept.ensures.rising none_rise)

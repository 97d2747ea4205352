use Rattle.std.proofs.Common.{◌∙◌, ap, subst, sym, Err}
use Rattle.std.specs.List.{AllByRecursion}
use Rattle.std.proofs.lemmas.Result.{err_from_is_err_and}
use Rattle.certificate.proofs.Answers.{checked}
use Rattle.certificate.proofs.NodeInputs.{nodes_have_inputs}
use Rattle.certificate.specs.declared.certificate.Certificate.{Certificate}
use Rattle.label_text.specs.LabelText.{IsReadableLabel}
use Rattle.pipeline.specs.Refusals.{of_certificate}
use Rattle.pipeline.proofs.Answered.{of_fault}
use Rattle.pipeline.proofs.LabelledPlans.{certificate_unlabelled, labels_unlabelled}
use Rattle.pipeline.proofs.labelled.labelled_texts.Goals as goal

pub returns-in_err-certificate-clause-refused : goal.returns-in_err-certificate-clause-refused
returns-in_err-certificate-clause-refused c =
    let p = err_from_is_err_and c.from_residual-in_err-certificate.result c.from_residual-in_err-certificate.ensures.1 in
    let planned = c.in_ok-planned.planned.certificate in
    of_fault c.from_residual-in_err-certificate.result (of_certificate c.in_err-certificate.field-0.0) _ (p.1 ∙ ap Err p.2)
    (certificate_unlabelled c.args.schema.now c.args.query.now c.args.statistics.now planned c.in_err-certificate.field-0.0
    (checked c.args.schema.now c.args.query.now c.requires planned c.in_ok-planned.ensures.replays) c.in_err-certificate.ensures.text)

pub returns-in_err-labels-clause-refused : goal.returns-in_err-labels-clause-refused
returns-in_err-labels-clause-refused c =
    let p = err_from_is_err_and c.from_residual-in_err-labels.result c.from_residual-in_err-labels.ensures.1 in
    let all : Certificate = record { lines = c.in_ok-planned.planned.log; plan = c.in_ok-planned.planned.plan } in
    of_fault c.from_residual-in_err-labels.result (of_certificate c.in_err-labels.field-0.0) _ (p.1 ∙ ap Err p.2)
    (labels_unlabelled c.args.schema.now c.args.query.now c.args.statistics.now all c.in_ok-planned.planned.labels c.in_err-labels.field-0.0
    (checked c.args.schema.now c.args.query.now c.requires all c.in_ok-planned.ensures.whole) c.in_ok-planned.ensures.labelled (rw c.as_slice.ensures at c.in_err-labels.ensures.text))

pub returns-clause-planned : goal.returns-clause-planned
returns-clause-planned c =
    let planned = c.in_ok-planned.planned in
    let is = c.in_ok-planned.ensures in
    let all : Certificate = record { lines = planned.log; plan = planned.plan } in
    let readable = c.in_ok-labels.ensures.readable (nodes_have_inputs c.args.schema.now c.args.query.now c.requires all is.whole) in
    record {
      planned = planned.certificate;
      planned_checked = checked c.args.schema.now c.args.query.now c.requires planned.certificate is.replays;
      planned_is = c.in_ok-certificate.ensures.text;
      planned_readable = c.in_ok-certificate.ensures.readable (nodes_have_inputs c.args.schema.now c.args.query.now c.requires planned.certificate is.replays);
      searched = all;
      labels = planned.labels;
      searched_checked = checked c.args.schema.now c.args.query.now c.requires all is.whole;
      searched_is = rw c.as_slice.ensures at c.in_ok-labels.ensures.text;
      searched_readable = readable.0;
      labels_readable = subst (AllByRecursion IsReadableLabel) c.as_slice.ensures readable.1;
      shown = is.labelled;
      cost = sym is.cost ∙ is.least;
    }

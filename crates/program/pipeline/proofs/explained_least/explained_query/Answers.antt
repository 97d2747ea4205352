use Rattle.std.proofs.Common.{◌∙◌, ◌++◌, sym}
use Rattle.certificate.proofs.Answers.{checked}
use Rattle.certificate.specs.declared.certificate.Certificate.{Certificate}
use Rattle.pipeline.specs.ExplainedLeast.{least_line}
use Rattle.pipeline.proofs.ShownLeast.{shown_cheapest}
use Rattle.pipeline.proofs.explained_least.explained_query.Goals as goal

pub returns-clause-text : goal.returns-clause-text
returns-clause-text c =
    let planned = c.in_ok-planned.planned in
    let is = c.in_ok-planned.ensures in
    let all : Certificate = record { lines = planned.log; plan = planned.plan } in
    record {
      certificate = planned.certificate;
      checked = checked c.args.schema.now c.args.query.now c.requires planned.certificate is.replays;
      searched = all;
      all_checked = checked c.args.schema.now c.args.query.now c.requires all is.whole;
      cost = sym is.cost ∙ is.least;
      labels = planned.labels;
      shown = is.labelled;
      least = shown_cheapest c.args.statistics.now c.args.query.now all planned.labels is.labelled;
      is_closed = planned.is_complete;
      closed = is.closed;
      told = is.told;
      written_is = c.in_ok-extend_from_slice.ensures.items
          ∙ (λ i. c.in_ok-text.ensures.text i ++ (c.as_bytes.ensures.value ∙ c.in_ok-line.ensures ∙ (λ j. least_line c.args.form (c.len.ensures j) (c.len-2.ensures j) planned.is_complete)) i);
    }

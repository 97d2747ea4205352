use Rattle.std.proofs.Common.{sym, ◌∙◌, map}
use Rattle.std.proofs.lemmas.List.{length-map}
use Rattle.algebra.specs.Columns.{columns_at}
use Rattle.labels.specs.Plans.{is_offered}
use Rattle.labels.proofs.PlanOffers.{other-count}
use Rattle.labels.proofs.offered.+offered.Goals as goal

pub are_for-returns-then-inputs-goals : goal.are_for-returns-then-inputs-goals
are_for-returns-then-inputs-goals t c =
    let of = is_offered c.args.derived.log.now.instances c.args.derived.log.now.log (columns_at c.args.derived.columns.now) in
    sym (other-count (map of c.args.inputs.now) c.args.goals.now (λ same. c.if-inputs-goals.true (sym (length-map c.args.inputs.now of) ∙ same)))

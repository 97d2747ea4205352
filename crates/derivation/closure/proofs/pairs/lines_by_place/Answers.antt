use Rattle.std.proofs.Common.{◌∙◌, map}
use Rattle.std.proofs.lemmas.List.{length-map}
use Rattle.closure.proofs.Agreeing.{entered-more}
use Rattle.closure.proofs.pairs.lines_by_place.Goals as goal

pub loop-line-preserved : goal.loop-line-preserved
loop-line-preserved c =
    entered-more c.args.log.now.log c.loop-line.line (map (λ v. v.items) c.loop-line.over.items) (map (λ v. v.items) c.enter.new.over.items) (length-map c.enter.new.over.items (λ v. v.items) ∙ c.in_ok-enter.ensures.count)
    c.in_ok-enter.ensures.entered c.in_ok-enter.ensures.stays c.loop-line.invariant

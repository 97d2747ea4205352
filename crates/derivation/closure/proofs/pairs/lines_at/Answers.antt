use Rattle.std.proofs.Common.{ap, sym, ◌∙◌, [], ◌<◌, length, map, arith}
use Rattle.std.proofs.lemmas.List.{get_or-map, length-map}
use Rattle.algebra.specs.Columns.{columns_at}
use Rattle.closure.proofs.Agreeing.{place-bound}
use Rattle.closure.proofs.pairs.lines_at.Goals as goal

pub returns : goal.returns
returns c =
    let within : c.in_ok-place.place < length c.args.over.now =
    omega (arith, place-bound c.args.log.now.log c.args.expr.now, c.in_ok-place.ensures, c.requires.count, length-map c.args.over.now (λ v. v.items)) in
    c.as_slice.ensures.value ∙ ap (λ v. v.items) c.index-over-place.is ∙ sym (get_or-map (λ v. v.items) c.args.over.now c.in_ok-place.place c.index-over-place.result [] within) ∙ ap (columns_at (map (λ v. v.items) c.args.over.now)) c.in_ok-place.ensures

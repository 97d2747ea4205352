use Rattle.std.proofs.Common.{ap, sym, ◌∙◌, ◌+◌, ◌∷◌, [], ◌++◌, arith}
use Rattle.std.proofs.lemmas.List.{length-set, take_more_set}
use Rattle.algebra.proofs.Sets.{range_more}
use Rattle.relations.proofs.passing.fill_range.Goals as goal

pub loop-place-preserved : goal.loop-place-preserved
loop-place-preserved c =
    let rows = c.loop-place.rows.items in
    let place = c.loop-place.place in
    let inv = c.loop-place.invariant in
    let row = c.args.start + place in
    record {
      filled = take_more_set rows place row (omega (arith, inv.long)) ∙ ap (λ l. l ++ row ∷ []) inv.filled ∙ sym (range_more c.args.start place);
      long = length-set rows place row ∙ inv.long;
    }

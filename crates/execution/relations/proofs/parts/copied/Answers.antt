use Rattle.std.proofs.Common.{◌∙◌, ap, sym, subst, ◌<◌, [], ◌∷◌, ◌++◌, length, get_or, take, arith}
use Rattle.std.proofs.lemmas.List.{length-take-le, take_more}
use Rattle.values.specs.declared.value.Value.TheVariants.{Null}
use Rattle.relations.specs.MadeColumns.{made_rows, made_values}
use Rattle.relations.proofs.CopiedCells.{AreCopied, value-copied, value-past}
use Rattle.relations.proofs.parts.copied.Goals as goal
use Rattle.relations.proofs.parts.copied.Goals.{then-number-len+in_ok-push+in_ok-push-2, else-number-len+in_ok-push-3}

pub loop-number-preserved : goal.loop-number-preserved
loop-number-preserved c =
    let numbers = c.args.numbers.now in
    let column = c.args.column.now in
    let end = length numbers in
    let i = c.loop-number.number-index in
    let n = get_or numbers i 0 in
    let taken = take_more numbers i 0 (omega arith) in
    let below : length (take i numbers) < end = let many = length-take-le i numbers (omega arith) in omega (arith, many) in
    let values = made_values column in
    let copies = made_values c.loop-number.copies in
    let places = c.loop-number.places.items in
    subst (AreCopied end (made_rows column) (made_rows c.if-number-len.copies) c.if-number-len.places.items) (sym taken) (elim c.if-number-len.branch [
      | then-number-len+in_ok-push+in_ok-push-2 w ↦ rw (w.copies-is, w.places-is)
          (value-copied end values copies places (take i numbers) c.loop-number.invariant below n _ _ w.len-then-number-len.result Null (w.in_ok-push-2.ensures ∙ ap (λ v. copies ++ v ∷ []) w.cell.ensures) w.in_ok-push.ensures.items w.len-then-number-len.ensures (omega (arith, c.len.ensures, w.if-number-len.true)))
      | else-number-len+in_ok-push-3 w ↦ rw (w.copies-is, w.places-is)
          (value-past end values copies places (take i numbers) c.loop-number.invariant below n _ w.in_ok-push-3.ensures.items (omega (arith, c.len.ensures, w.if-number-len.false)))
    ])

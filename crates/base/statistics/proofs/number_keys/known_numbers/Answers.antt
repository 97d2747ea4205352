use Rattle.std.proofs.Common.{sym, ap, ◌∙◌, ℕ, List, ◌++◌, ◌∷◌, [], append-nil, pos, cond, get_or}
use Rattle.std.specs.Int.{cast_unsigned, w64}
use Rattle.statistics.specs.NumberKeys.{known_numbers}
use Rattle.statistics.proofs.NumberKeys.{known_more, read-bits}
use Rattle.statistics.proofs.number_keys.known_numbers.Goals as goal
use Rattle.statistics.proofs.number_keys.known_numbers.Goals.{then-column-row+in_ok-push, else-column-row}

pub loop-row-preserved : goal.loop-row-preserved
loop-row-preserved c =
    let row = c.loop-row.row in
    let column = c.args.column in
    elim c.if-column-row.branch [
      | then-column-row+in_ok-push w ↦
          ap (λ v. v.items) w.known-is ∙ w.in_ok-push.ensures.items ∙ ap (λ (l : List ℕ). l ++ w.cast_unsigned.result ∷ []) c.loop-row.invariant
          ∙ read-bits column row w.cast_unsigned.result (c.requires.short row c.loop-row-test.true) w.if-column-row.true w.cast_unsigned.ensures
      | else-column-row w ↦
          ap (λ v. v.items) w.known-is ∙ c.loop-row.invariant ∙ sym (known_more column row ∙ ap (λ b. known_numbers column row ++ cond b (cast_unsigned w64 (get_or column.numbers.now row (pos 0)) ∷ []) []) w.if-column-row.false ∙ append-nil (known_numbers column row))
    ]

use Rattle.std.proofs.Common.{ap, sym, ◌∙◌, List, [], ◌∷◌, ◌++◌, map, Bool, Option, ℕ, arith}
use Rattle.std.specs.List.{range_with_len}
use Rattle.std.proofs.lemmas.List.FromFn.{map-range_with_len_more}
use Rattle.statistics.specs.ColumnKeys as spec
use Rattle.statistics.proofs.column_keys.column_keys.Goals as goal

pub loop-place-preserved : goal.loop-place-preserved
loop-place-preserved c =
    let place = c.loop-place.place in
    let known : ℕ → Option ℕ = λ p. spec.known_keys c.args.entry.now c.args.rows.now p (spec.is_counted c.args.counted.now c.args.table p) in
    let more = map-range_with_len_more known 0 place place (omega arith) in
    let before : List (Option ℕ) = map known (range_with_len 0 place) in
    c.in_ok-push.ensures.ok ∙ ap (λ (l : List (Option ℕ)). l ++ c.in_ok-known_keys.field-0 ∷ []) c.loop-place.invariant ∙ ap (λ (k : Option ℕ). before ++ k ∷ []) c.in_ok-known_keys.ensures
    ∙ ap (λ (b : Bool). before ++ spec.known_keys c.args.entry.now c.args.rows.now place b ∷ []) c.is_counted-is_counted.ensures ∙ sym more

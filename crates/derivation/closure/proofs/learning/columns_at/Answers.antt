use Rattle.std.proofs.Common.{◌+◌, ◌∙◌, ap, sym, ℕ, List, [], ◌∷◌, ◌++◌, map, take, arith}
use Rattle.std.proofs.lemmas.List.{map_more}
use Rattle.closure.proofs.learning.columns_at.Goals as goal

pub loop-place-preserved : goal.loop-place-preserved
loop-place-preserved c =
    let column : ℕ → ℕ = λ p. c.args.table.now.first_column + p in
    c.in_ok-push.ensures.items
    ∙ ap (λ (l : List ℕ). l ++ c.in_ok-id_behind.field-0 ∷ []) c.loop-place.invariant
    ∙ ap (λ (v : ℕ). map column (take c.loop-place.place-index c.args.places.now) ++ v ∷ []) c.in_ok-id_behind.ensures
    ∙ sym (map_more column c.args.places.now c.loop-place.place-index 0 (omega (arith, c.loop-place-test.true)))

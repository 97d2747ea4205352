use Rattle.std.proofs.Common.{ℕ, List, [], ◌∷◌, ◌++◌, map, ap, sym, ◌∙◌, append_assoc, arith}
use Rattle.std.specs.List.{range_with_len}
use Rattle.std.proofs.lemmas.List.FromFn.{map-range_with_len_more}
use Rattle.statistics.specs.declared.counts.TableColumn.{TableColumn}
use Rattle.statistics_text.proofs.columns.push_columns.Goals as goal

pub loop-place-preserved : goal.loop-place-preserved
loop-place-preserved c =
    let column : ℕ → TableColumn = λ place. record { table = c.args.number; place = place } in
    let before = c.args.columns.now.items in
    let place = c.loop-place.place in
    c.in_ok-push.ensures.items ∙ ap (λ (xs : List TableColumn). xs ++ column place ∷ []) c.loop-place.invariant ∙ append_assoc before (map column (range_with_len 0 place)) (column place ∷ [])
    ∙ ap (λ (xs : List TableColumn). before ++ xs) (sym (map-range_with_len_more column 0 place place (omega arith)))

use Rattle.std.proofs.Common.{ap, sym, ◌∙◌, ◌∷◌, [], ℕ, List, Some, map}
use Rattle.std.specs.List.{range_with_len}
use Rattle.std.proofs.lemmas.List.Sums.{fold-append}
use Rattle.values.specs.declared.cell.Cell.{Cell}
use Rattle.values.specs.declared.truth.Comparison.TheVariants as by
use Rattle.values.specs.declared.truth.Truth.{Truth}
use Rattle.values.specs.declared.truth.Truth.TheVariants.{False}
use Rattle.values.specs.Cells.{value_of}
use Rattle.values.specs.Truth.{compare, disjunction}
use Rattle.query.specs.Meaning.{any_of}
use Rattle.relations.specs.Parts.{row_at, value_in}
use Rattle.relations.specs.ValueLists.{among}
use Rattle.relations.proofs.ListedValues.{among-more}
use Rattle.relations.proofs.Numbers.{map_number}
use Rattle.relations.proofs.value_lists.values_at.Goals as goal

pub loop-number-preserved : goal.loop-number-preserved
loop-number-preserved c = λ v.
    let n = c.loop-number.number in
    let here : ℕ → Truth = λ m. compare by.Equal v (value_in (Some c.args.place) (row_at c.args.relation.now.rows.parts.items m)) in
    let done : List Truth = map here (range_with_len 0 n) in
    ap (λ (cells : List Cell). among v (map value_of cells)) c.in_ok-insert.ensures.keys
    ∙ among-more v c.loop-number.values.keys c.cell.result
    ∙ ap (λ (t : Truth). disjunction t (compare by.Equal v (value_of c.cell.result))) (c.loop-number.invariant v)
    ∙ ap (λ w. disjunction (any_of done) (compare by.Equal v w)) (c.cell.ensures ∙ c.column-column.ensures n)
    ∙ sym (ap any_of (map_number here n) ∙ fold-append disjunction False done (here n ∷ []))

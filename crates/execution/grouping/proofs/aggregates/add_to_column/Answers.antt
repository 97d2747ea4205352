use Rattle.std.proofs.Common.{◌≡◌, ap, ◌∙◌, ◌<◌, ◌≤◌, [], ◌∷◌, ◌++◌, List, get_or, length, set, arith}
use Rattle.std.proofs.lemmas.Result.{on_ok_weaker}
use Rattle.values.specs.declared.value.Value.{Value}
use Rattle.values.specs.declared.value.Value.TheVariants.{Null}
use Rattle.values.specs.Cells.{value_of}
use Rattle.query.specs.Aggregates.{one_more}
use Rattle.query.proofs.RunningAggregates.{aggregated}
use Rattle.grouping.specs.Groups.{group_values}
use Rattle.grouping.proofs.GroupValues.{more-past, more-within, values-many}
use Rattle.grouping.proofs.aggregates.add_to_column.Goals as goal

pub returns-then-group-len : goal.returns-then-group-len
returns-then-group-len c = λ value groups n is old.
    let of = c.args.of in
    let at = c.args.group in
    let before : List Value = group_values of value groups in
    let more : value_of c.one_more-more.result ≡ one_more of (value n) (get_or before at Null) =
    c.one_more-more.ensures.value ∙ ap (λ v. one_more of v (value_of c.cell.result)) is ∙ ap (one_more of (value n)) (c.cell.ensures ∙ ap (λ vs. get_or vs at Null) old) in
    let below : at < length groups = omega (arith, c.if-group-len.true, c.len.ensures, ap length old, values-many of value groups) in
    on_ok_weaker c.set.result (λ new. new ∙ ap (λ vs. set vs at (value_of c.one_more-more.result)) old ∙ ap (set before at) more ∙ more-within of value groups at n Null below) c.set.ensures

pub returns-else-group-len : goal.returns-else-group-len
returns-else-group-len c = λ value groups n is old.
    let of = c.args.of in
    let at = c.args.group in
    let before : List Value = group_values of value groups in
    let one : value_of c.value.result ≡ aggregated of (value n ∷ []) = c.value.ensures ∙ c.running_of.ensures.holds ∙ ap (λ v. aggregated of (v ∷ [])) is in
    let past : length groups ≤ at = omega (arith, c.if-group-len.false, c.len.ensures, ap length old, values-many of value groups) in
    on_ok_weaker c.push.result (λ new. new ∙ ap (λ vs. vs ++ value_of c.value.result ∷ []) old ∙ ap (λ v. before ++ v ∷ []) one ∙ more-past of value groups at n past) c.push.ensures

use Rattle.std.proofs.Common.{◌≡◌, ◌<◌, ◌≤◌, ap, sym, subst, ◌∙◌, [], List, IfOk, length, map, replicate, arith}
use Rattle.std.proofs.lemmas.List.{get_or-map}
use Rattle.values.specs.declared.value.Value.{Value}
use Rattle.values.specs.declared.value.Value.TheVariants.{Null}
use Rattle.relations.specs.MadeColumns.{made_values}
use Rattle.grouping.specs.KeyTables.{placed_value}
use Rattle.grouping.proofs.FoundGroups.{hash-count}
use Rattle.grouping.proofs.KeyColumns.{none-placed, null-placed}
use Rattle.grouping.proofs.key_table.KeyTable.column.Goals as goal

pub returns : goal.returns
returns c = λ width keys is.
    let kept = c.args.self.now.columns.items in
    let place = c.in-Some.place in
    let made = c.index.result.now in
    let wide = is.width_is in
    subst (λ (vs : List Value). IfOk c.copy.result (λ copy. made_values copy ≡ vs))
    (ap made_values c.index.ensures ∙ sym (get_or-map made_values kept place made [] (omega (arith, c.if-place-len.false, c.len-2.ensures))) ∙ is.columns_are place (omega (arith, c.if-place-len.false, c.len-2.ensures, wide)) ∙ ap (λ o. map (placed_value o) keys) (sym c.in-Some.is))
    c.copy.ensures

pub returns-then-place-len : goal.returns-then-place-len
returns-then-place-len c = λ width keys is.
    let wide = is.width_is in
    subst (λ (vs : List Value). IfOk c.nulls-then-place-len.result (λ made. made_values made ≡ vs))
    (ap (λ n. replicate n Null) (c.len-then-place-len.ensures ∙ hash-count keys c.args.self.now.hashes is.hashed) ∙ none-placed width c.in-Some.place keys (omega (arith, c.if-place-len.true, c.len-2.ensures, wide)) is.wide ∙ ap (λ o. map (placed_value o) keys) (sym c.in-Some.is))
    c.nulls-then-place-len.ensures

pub returns-in_default : goal.returns-in_default
returns-in_default c = λ width keys is.
    subst (λ (vs : List Value). IfOk c.nulls.result (λ made. made_values made ≡ vs))
    (ap (λ n. replicate n Null) (c.len.ensures ∙ hash-count keys c.args.self.now.hashes is.hashed) ∙ null-placed keys ∙ ap (λ o. map (placed_value o) keys) (sym c.in_default.is))
    c.nulls.ensures

use Rattle.std.proofs.Common.{ap, sym, subst, ◌≡◌, ◌∙◌, List, [], ◌∷◌, ◌++◌, length, get_or, map, take, arith}
use Rattle.std.specs.List.{AllByRecursion}
use Rattle.std.proofs.lemmas.List.{map-append, take_all, take_more}
use Rattle.schema.specs.Databases.{Row}
use Rattle.relations.proofs.Numbers.{even-chosen}
use Rattle.relations.proofs.rows.Rows.picked.Goals as goal

pub loop-part-preserved : goal.loop-part-preserved
loop-part-preserved c =
    let numbers = c.args.numbers.now in
    let parts = c.as_slice-part-items.result.now in
    let i = c.loop-part.part-index in
    let f : List Row → List Row = λ part. map (λ n. get_or part n []) numbers in
    c.in_ok-push.ensures.items ∙ ap (λ (l : List (List Row)). l ++ c.in_ok-picked.picked ∷ []) c.loop-part.invariant ∙ ap (λ (p : List Row). map f (take i parts) ++ p ∷ []) (c.in_ok-picked.ensures ∙ ap f c.part-item.is)
    ∙ sym (ap (map f) (take_more parts i c.part-item.result (omega arith)) ∙ map-append f (take i parts) _)

pub returns-clause-parts : goal.returns-clause-parts
returns-clause-parts c =
    let parts = c.as_slice-part-items.result.now in
    c.loop-part.invariant ∙ ap (map (λ (part : List Row). map (λ n. get_or part n []) c.args.numbers.now)) (take_all c.loop-part.part-index parts (omega arith) ∙ c.as_slice-part-items.ensures.value)

pub invariant_of-result : goal.invariant_of-result
invariant_of-result c = record { even = subst (AllByRecursion (λ part. length part ≡ length c.args.numbers.now)) (sym c.loop-part.invariant) (even-chosen c.args.numbers.now (take c.loop-part.part-index c.as_slice-part-items.result.now)) }

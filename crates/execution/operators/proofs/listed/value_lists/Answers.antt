use Rattle.std.proofs.Common.{◌≡◌, ap, sym, subst, ◌∙◌, ◌+◌, ◌∷◌, [], length, length-append, take, Option, IfSome, arith}
use Rattle.std.proofs.lemmas.List.{length-take}
use Rattle.values.proofs.Lists.{take_next}
use Rattle.relations.specs.Relations.{rows_of}
use Rattle.relations.specs.ValueLists.{IsListed}
use Rattle.relations.specs.declared.relation.Relation.{Relation}
use Rattle.relations.specs.declared.value_lists.ValueList.{ValueList}
use Rattle.operators.proofs.ListedRelations.{listed-more}
use Rattle.operators.proofs.listed.value_lists.Goals.{in-Some-Some+in_ok-list-in-Some-Some, in_default}
use Rattle.operators.proofs.listed.value_lists.Goals as goal

pub loop-number-preserved : goal.loop-number-preserved
loop-number-preserved c =
    let i = c.loop-number.number in
    let relations = c.args.relations.now in
    let r : Relation = c.index-relations-number.result in
    let lists = c.loop-number.lists.items in
    let found : IfSome c.match-get.list (IsListed (rows_of r)) = elim c.match-get.branch [
      | in-Some-Some+in_ok-list-in-Some-Some w ↦ subst (λ (o : Option ValueList). IfSome o (IsListed (rows_of r))) (sym w.list-is) w.in_ok-list-in-Some-Some.ensures
      | in_default w ↦ subst (λ (o : Option ValueList). IfSome o (IsListed (rows_of r))) (sym w.list-is) tt
    ] in
    let before : length lists ≡ length (take i relations) = (let short = length-take i relations in omega (arith, short, c.loop-number.invariant.each, c.loop-number-test.true)) in
    record {
      listed = rw (take_next relations i r c.loop-number-test.true c.index-relations-number.is, c.in_ok-push.ensures.items) (listed-more (take i relations) lists r c.match-get.list before c.loop-number.invariant.listed found);
      each = ap length c.in_ok-push.ensures.items ∙ length-append lists (c.match-get.list ∷ []) ∙ ap (λ m. m + 1) c.loop-number.invariant.each;
    }

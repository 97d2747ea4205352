use Rattle.std.proofs.Common.{◌≡◌, ap, subst, ◌∙◌, List, ◌++◌, IfOk}
use Rattle.algebra.specs.declared.condition.Condition.{Condition}
use Rattle.algebra.specs.Bags.{nulls}
use Rattle.relations.specs.Relations.{rows_of}
use Rattle.joins.specs.JoinStages.{IsJoining, joining_by}
use Rattle.joins.proofs.stages.JoinStage.of_some.Goals as goal

pub returns : goal.returns
returns c =
    let left = c.args.left in
    let all : c.add_copies-2.new.copies.items ≡ c.args.conjuncts.now ++ c.args.filter.now =
    c.in_ok-add_copies-2.ensures ∙ ap (λ l. l ++ c.args.filter.now) (c.in_ok-add_copies.ensures ∙ ap (λ l. l ++ c.args.conjuncts.now) c.new-all.ensures.items) in
    subst (λ (C : List Condition). IfOk c.new.result (IsJoining (joining_by c.args.unmatched C left.heading.columns c.args.right) (rows_of left nulls))) all c.new.ensures

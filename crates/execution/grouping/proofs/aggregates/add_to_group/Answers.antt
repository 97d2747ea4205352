use Rattle.std.proofs.Common.{sym, subst, arith, [], ◌∷◌, ◌++◌}
use Rattle.query.specs.Running.{IsAfter}
use Rattle.grouping.specs.Groups.{AreAfter, added_at}
use Rattle.grouping.proofs.RunningGroups.{after-within, after-past}
use Rattle.grouping.proofs.aggregates.add_to_group.Goals as goal

pub returns-then-group-len : goal.returns-then-group-len
returns-then-group-len c = λ value groups n is all.
    after-within c.args.of value groups c.args.running.now.items c.args.group n c.index_mut.result.now c.add.new.self (omega (arith, c.if-group-len.true, c.len.ensures)) (sym c.index_mut.ensures.value)
    (λ vs after. subst (λ v. IsAfter c.args.of (vs ++ v ∷ []) c.add.new.self) is (c.add.ensures c.args.of vs after)) all

pub returns : goal.returns
returns c = λ value groups n is all.
    subst (AreAfter c.args.of value (added_at c.args.group n groups)) (sym c.in_ok-push.ensures.items)
    (after-past c.args.of value groups c.args.running.now.items c.args.group n c.running_of.result (omega (arith, c.if-group-len.false, c.len.ensures)) (subst (λ v. IsAfter c.args.of (v ∷ []) c.running_of.result) is c.running_of.ensures) all)

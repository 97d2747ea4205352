use Rattle.std.proofs.Common.{◌≡◌}
use Rattle.binder.specs.Chained.{scopes_of}
use Rattle.binder.proofs.HavingLoops.{named-Compare, named-IsNull, named-Not, named-And, named-Or}
use Rattle.binder.proofs.Steps.{same}
use Rattle.binder.proofs.having.+named.Goals as goal

pub condition-returns-in-Compare : goal.condition-returns-in-Compare
condition-returns-in-Compare t c =
    same (λ (done : Unit {0}). c.comparison.new.asked) c.comparison.result _ _ (named-Compare (scopes_of c.args.scopes.now) c.args.keys.now c.args.part.now c.args.asked.now c.in-Compare.left c.in-Compare.by c.in-Compare.right c.in-Compare.is) c.comparison.ensures

pub condition-returns-in-IsNull : goal.condition-returns-in-IsNull
condition-returns-in-IsNull t c =
    same (λ (done : Unit {0}). c.null_test.new.asked) c.null_test.result _ _ (named-IsNull (scopes_of c.args.scopes.now) c.args.keys.now c.args.part.now c.args.asked.now c.in-IsNull.tested c.in-IsNull.is) c.null_test.ensures

pub condition-returns-in-Not : goal.condition-returns-in-Not
condition-returns-in-Not t c =
    same (λ (done : Unit {0}). c.condition.new.asked) c.condition.result _ _ (named-Not (scopes_of c.args.scopes.now) c.args.keys.now c.args.part.now c.args.asked.now c.in-Not.inner c.get.result.now c.in-Not.is c.get.ensures) c.condition.ensures

pub condition-returns-in-And : goal.condition-returns-in-And
condition-returns-in-And t c =
    same (λ (done : Unit {0}). c.conditions.new.asked) c.conditions.result _ _ (named-And (scopes_of c.args.scopes.now) c.args.keys.now c.args.part.now c.args.asked.now c.in-And.parts c.as_slice.result.now c.in-And.is c.as_slice.ensures) c.conditions.ensures

pub condition-returns-in-Or : goal.condition-returns-in-Or
condition-returns-in-Or t c =
    same (λ (done : Unit {0}). c.conditions-in-Or.new.asked) c.conditions-in-Or.result _ _ (named-Or (scopes_of c.args.scopes.now) c.args.keys.now c.args.part.now c.args.asked.now c.in-Or.parts c.as_slice-in-Or.result.now c.in-Or.is c.as_slice-in-Or.ensures) c.conditions-in-Or.ensures

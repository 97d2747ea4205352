use Rattle.std.proofs.Common.{sym, subst, [], ◌∷◌}
use Rattle.std.specs.List.{AllByRecursion}
use Rattle.values.specs.Truth.{is_true}
use Rattle.values.proofs.Lists.{all_append}
use Rattle.algebra.specs.Conditions.{truth}
use Rattle.physical.specs.Outputs.{no_classes}
use Rattle.relations.specs.Relations.{env_of}
use Rattle.joins.specs.declared.keys.Equality.{Equality}
use Rattle.joins.specs.Keys.{AreEquatedWhere}
use Rattle.joins.proofs.implied.equated_by_branches.Goals as goal
use Rattle.joins.proofs.implied.equated_by_branches.Goals.{then-implies+in_ok-push, else-implies}

pub loop-key-preserved : goal.loop-key-preserved
loop-key-preserved c =
    let P : Equality → Type 0 = AreEquatedWhere (λ r. is_true (truth c.args.condition.now no_classes r)) c.args.left.now c.args.right.now (env_of c.args.env.now) in
    elim c.if-implies.branch [
      | then-implies+in_ok-push w ↦ subst (λ v. AllByRecursion P v.items) (sym w.keys-is) (subst (AllByRecursion P) (sym w.in_ok-push.ensures.items) (all_append P c.loop-key.keys.items (_ ∷ []) c.loop-key.invariant (c.implies.ensures w.if-implies.true, tt)))
      | else-implies w ↦ subst (λ v. AllByRecursion P v.items) (sym w.keys-is) c.loop-key.invariant
    ]

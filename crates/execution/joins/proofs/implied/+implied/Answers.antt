use Rattle.std.proofs.Common.{◌≡◌, ◌||◌, refl, ap, sym, subst, ◌∙◌, Bool, true, false, take}
use Rattle.std.specs.List.{list_any}
use Rattle.std.proofs.lemmas.List.{take_all}
use Rattle.std.proofs.lemmas.List.Folds.{list_any_more}
use Rattle.values.specs.Truth.{is_true}
use Rattle.algebra.specs.declared.condition.Condition.{Condition}
use Rattle.algebra.specs.Bags.{Env}
use Rattle.algebra.specs.Conditions.{holds, truth}
use Rattle.physical.specs.Outputs.{no_classes}
use Rattle.relations.specs.Relations.{env_of}
use Rattle.index_access.proofs.Probes.{passes_each}
use Rattle.joins.specs.Joins.{pair_env}
use Rattle.joins.specs.declared.keys.Equality.{Equality}
use Rattle.joins.specs.Keys.{AreSame, left_at, right_at}
use Rattle.joins.proofs.Branches.{and-each, or-each}
use Rattle.joins.proofs.SharedKeys.{same-values}
use Rattle.joins.proofs.implied.+implied.Goals as goal

either : (P : Type 0) (a b : Bool) → (a ≡ true → P) → (b ≡ true → P) → (a || b) ≡ true → P
either P true b f g h = f refl
either P false b f g h = g h

pub all_imply-loop-condition-preserved : goal.all_imply-loop-condition-preserved
all_imply-loop-condition-preserved t c = λ i j h.
    let C = c.args.conditions.now in
    let n = c.loop-condition.condition-index in
    let r : Env = pair_env c.args.left.now c.args.right.now (env_of c.args.env.now) i j in
    let p : Condition → Bool = λ d. is_true (truth d no_classes r) in
    either (AreSame (left_at c.args.left.now i c.args.key.now) (right_at c.args.right.now j c.args.key.now)) (list_any p (take n C)) (p c.condition-item.result)
    (c.loop-condition.invariant i j) (c.implies.ensures c.if-not-implies.false i j)
    (sym (list_any_more p C n c.condition-item.result c.loop-condition-test.true ∙ ap (λ d. list_any p (take n C) || p d) (sym c.condition-item.is)) ∙ h)

pub all_imply-returns : goal.all_imply-returns
all_imply-returns t c = λ _ i j h.
    let C = c.args.conditions.now in
    let r : Env = pair_env c.args.left.now c.args.right.now (env_of c.args.env.now) i j in
    c.loop-condition.invariant i j (ap (list_any (λ d. is_true (truth d no_classes r))) (take_all c.loop-condition.condition-index C c.loop-condition-test.false) ∙ h)

pub implies-returns-then-implies : goal.implies-returns-then-implies
implies-returns-then-implies t c = λ _ i j h.
    let r : Env = pair_env c.args.left.now c.args.right.now (env_of c.args.env.now) i j in
    let parts = and-each c.args.condition.now c.in-And.a c.in-And.b c.in-And.more no_classes r c.in-And.is h in
    c.implies.ensures c.if-implies.true i j (ap (λ d. is_true (truth d no_classes r)) c.get.ensures ∙ parts.0)

pub implies-returns-then-implies-2 : goal.implies-returns-then-implies-2
implies-returns-then-implies-2 t c = λ _ i j h.
    let r : Env = pair_env c.args.left.now c.args.right.now (env_of c.args.env.now) i j in
    let parts = and-each c.args.condition.now c.in-And.a c.in-And.b c.in-And.more no_classes r c.in-And.is h in
    c.implies-in-And.ensures c.if-implies-2.true i j (ap (λ d. is_true (truth d no_classes r)) c.get-in-And.ensures ∙ parts.1)

pub implies-returns-else-implies-2 : goal.implies-returns-else-implies-2
implies-returns-else-implies-2 t c = λ is i j h.
    let r : Env = pair_env c.args.left.now c.args.right.now (env_of c.args.env.now) i j in
    let parts = and-each c.args.condition.now c.in-And.a c.in-And.b c.in-And.more no_classes r c.in-And.is h in
    c.some_implies.ensures is i j (ap (λ cs. holds no_classes cs r) c.as_slice.ensures ∙ parts.2)

pub implies-returns-else-not-implies-2 : goal.implies-returns-else-not-implies-2
implies-returns-else-not-implies-2 t c = λ is i j h.
    let r : Env = pair_env c.args.left.now c.args.right.now (env_of c.args.env.now) i j in
    let p : Condition → Bool = λ d. is_true (truth d no_classes r) in
    or-each (AreSame (left_at c.args.left.now i c.args.key.now) (right_at c.args.right.now j c.args.key.now)) c.args.condition.now c.in-Or.a c.in-Or.b c.in-Or.more no_classes r c.in-Or.is
    (λ first. c.implies-in-Or.ensures c.if-not-implies.false i j (ap p c.get-in-Or.ensures ∙ first))
    (λ second. c.implies-in-Or-2.ensures c.if-not-implies-2.false i j (ap p c.get-in-Or-2.ensures ∙ second))
    (λ other. c.all_imply.ensures is i j (ap (list_any p) c.as_slice-in-Or.ensures ∙ other)) h

pub implies-returns-in-Some : goal.implies-returns-in-Some
implies-returns-in-Some t c = λ is i j h.
    let given = rw c.in-Some.is at c.equated.ensures in
    subst (λ (k : Equality). AreSame (left_at c.args.left.now i k) (right_at c.args.right.now j k)) (c.is_same.ensures is) (same-values _ _ (sym (ap is_true (given i j)) ∙ h))

pub some_implies-returns-then-implies : goal.some_implies-returns-then-implies
some_implies-returns-then-implies t c = λ _ i j h.
    let r : Env = pair_env c.args.left.now c.args.right.now (env_of c.args.env.now) i j in
    c.implies.ensures c.if-implies.true i j (passes_each (λ d. is_true (truth d no_classes r)) c.args.conditions.now c.loop-condition.condition-index c.condition-item.result c.loop-condition-test.true c.condition-item.is h)

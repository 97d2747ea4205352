use Rattle.std.proofs.Common.{refl, sym, ◌∙◌, arith}
use Rattle.std.proofs.lemmas.Grind.{common_steps}
use Rattle.algebra.proofs.Equations.{different_at}
use Rattle.algebra.proofs.formed.are_different.Goals as goal

pub returns-then-is_added : goal.returns-then-is_added
returns-then-is_added c =
    sym (c.loop-i.invariant ∙ different_at c.args.added.now c.loop-i.i _ c.is_added.result c.loop-i-test.true (λ d. grind (arith, common_steps)) c.is_added.ensures ∙ rw c.if-is_added.true refl)

pub loop-i-preserved : goal.loop-i-preserved
loop-i-preserved c =
    c.loop-i.invariant ∙ different_at c.args.added.now c.loop-i.i _ c.is_added.result c.loop-i-test.true (λ d. grind (arith, common_steps)) c.is_added.ensures ∙ rw c.if-is_added.false refl

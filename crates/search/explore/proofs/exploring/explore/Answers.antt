use Rattle.std.proofs.Common.{refl, ◌∙◌, subst}
use Rattle.lean_logs.specs.Growth.{Extends}
use Rattle.lean_logs.proofs.Growth.{extended_along, lean_fills}
use Rattle.lean_logs.proofs.Lean.{filled_is_lean}
use Rattle.explore.proofs.Along.{filling_at_first, filling_along}
use Rattle.explore.proofs.exploring.explore.Goals as goal

pub adding-init : goal.adding-init
adding-init c = (filling_at_first _ _, refl)

pub returns-in_err-lacking-clause-extends : goal.returns-in_err-lacking-clause-extends
returns-in_err-lacking-clause-extends c = c.adding.invariant.0.extends

pub returns-in_default-clause-extends : goal.returns-in_default-clause-extends
returns-in_default-clause-extends c = c.adding.invariant.0.extends

pub returns-in_default-clause-fills : goal.returns-in_default-clause-fills
returns-in_default-clause-fills c = c.adding.invariant.0.fills

pub returns-in_default-clause-lean : goal.returns-in_default-clause-lean
returns-in_default-clause-lean c = filled_is_lean _ _ _ c.adding.invariant.0.fills

pub returns-then-is_full-clause-extends : goal.returns-then-is_full-clause-extends
returns-then-is_full-clause-extends c = c.adding.invariant.0.extends

pub returns-then-is_full-clause-fills : goal.returns-then-is_full-clause-fills
returns-then-is_full-clause-fills c = c.adding.invariant.0.fills

pub returns-then-is_full-clause-lean : goal.returns-then-is_full-clause-lean
returns-then-is_full-clause-lean c = filled_is_lean _ _ _ c.adding.invariant.0.fills

pub returns-in_err-add_missing-clause-extends : goal.returns-in_err-add_missing-clause-extends
returns-in_err-add_missing-clause-extends c = extended_along _ _ _ _ c.adding.invariant.0.extends (subst (λ n. Extends n c.adding.memo.log c.add_missing.new.memo.log) c.adding.invariant.1 c.add_missing.ensures.extends)

pub returns-in_err-apply_all-clause-extends : goal.returns-in_err-apply_all-clause-extends
returns-in_err-apply_all-clause-extends c = extended_along _ _ _ _ (extended_along _ _ _ _ c.adding.invariant.0.extends (subst (λ n. Extends n c.adding.memo.log c.add_missing.new.memo.log) c.adding.invariant.1 c.add_missing.ensures.extends))
    (subst (λ n. Extends n c.add_missing.new.memo.log c.apply_all.new.memo.log) (c.add_missing.ensures.limit ∙ c.adding.invariant.1) c.apply_all.ensures.extends)

pub adding-preserved : goal.adding-preserved
adding-preserved c = (filling_along _ _ _ _ _ (filling_along _ _ _ _ _ c.adding.invariant.0 c.adding.invariant.1 c.add_missing.ensures.extends c.in_ok-add_missing.ensures.fills) (c.add_missing.ensures.limit ∙ c.adding.invariant.1) c.apply_all.ensures.extends (lean_fills _ _ _ c.in_ok-apply_all.ensures.lean), c.apply_all.ensures.limit ∙ (c.add_missing.ensures.limit ∙ c.adding.invariant.1))

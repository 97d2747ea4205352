use Rattle.std.proofs.Common.{◌≡◌, ap, sym, ◌∙◌, subst, inl, inr, ◌<◌, length, arith}
use Rattle.derivation.specs.Logs.{member}
use Rattle.derivation.proofs.Lookups.{member-within}
use Rattle.lean_logs.specs.Texts.{IsEntered}
use Rattle.lean_logs.proofs.Numbers.{less_or}
use Rattle.lean_logs.proofs.lean_log.lines_of.Goals as goal

pub loop-line-preserved : goal.loop-line-preserved
loop-line-preserved c = λ n k lt at. elim (less_or n c.loop-line.line) [
  | inl before ↦ c.enter_member.ensures.stays k.expr n (c.loop-line.invariant n k before at)
  | inr behind ↦
      let same : n ≡ c.loop-line.line = omega (arith, lt, behind) in
      subst (λ m. IsEntered c.enter_member.new.lines k.expr m) (sym same) (c.in_ok-enter_member.ensures.entered k (ap (member c.args.log.now.log) (sym same) ∙ at))
]

pub returns : goal.returns
returns c = λ n l at.
    let within : n < length c.args.log.now.log = member-within c.args.log.now.log n l at in
    c.loop-line.invariant n l (omega (arith, within)) at

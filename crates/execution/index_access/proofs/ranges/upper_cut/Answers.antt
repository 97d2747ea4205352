use Rattle.std.proofs.Common.{◌≡◌, true, not, ap, ◌∙◌, map, IfSome, subst, Option}
use Rattle.index_access.specs.declared.bounds.Bound.{Bound}
use Rattle.index_access.specs.declared.bounds.Side.TheVariants as side
use Rattle.index_access.specs.Cuts.{goes_before, key_order, key_value}
use Rattle.index_access.specs.Probes.{IsBounded, bounds}
use Rattle.index_access.proofs.Probes.{before_high, before_end}
use Rattle.index_access.proofs.ranges.upper_cut.Goals as goal

pub returns-in_ok-longer-in-Some : goal.returns-in_ok-longer-in-Some
returns-in_ok-longer-in-Some c = λ f columns h high.
    let key = map key_value c.args.key.now in
    let b = c.in-Some.bound in
    let here = subst (λ (o : Option Bound). IsBounded f columns key o) c.in-Some.is high in
    let above = subst (λ (o : Option Bound). IfSome o (λ x. bounds side.Above x.comparison ≡ true)) c.in-Some.is c.requires in
    ap (λ s. goes_before (not s) (key_order f columns (map key_value c.in_ok-longer-in-Some.field-0.items))) c.is_strict.ensures
    ∙ before_high f columns key (map key_value c.in_ok-longer-in-Some.field-0.items) b.comparison (key_value b.cell) h above here.0 here.1 c.in_ok-longer-in-Some.ensures

pub returns-in_ok-copied-in-None : goal.returns-in_ok-copied-in-None
returns-in_ok-copied-in-None c = λ f columns h high.
    ap (λ k. goes_before (not c.has_null.result) (key_order f columns (map key_value k))) c.in_ok-copied-in-None.ensures ∙ before_end f columns c.args.key.now c.has_null.result h c.has_null.ensures

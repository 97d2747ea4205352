use Rattle.std.proofs.Common.{◌≡◌, true, false, ap, ◌∙◌, map, IfSome, subst, Option}
use Rattle.index_access.specs.declared.bounds.Bound.{Bound}
use Rattle.index_access.specs.declared.bounds.Side.TheVariants as side
use Rattle.index_access.specs.Cuts.{goes_before, key_order, key_value}
use Rattle.index_access.specs.Probes.{IsBounded, bounds}
use Rattle.index_access.proofs.Probes.{behind_low, behind_nulls, behind_key}
use Rattle.index_access.proofs.ranges.lower_cut.Goals as goal

pub returns-in_ok-longer-in-Some-default : goal.returns-in_ok-longer-in-Some-default
returns-in_ok-longer-in-Some-default c = λ f columns h low high.
    let key = map key_value c.args.key.now in
    let b = c.in-Some-default.bound in
    let here = subst (λ (o : Option Bound). IsBounded f columns key o) c.in-Some-default.is-0 low in
    let below = subst (λ (o : Option Bound). IfSome o (λ x. bounds side.Below x.comparison ≡ true)) c.in-Some-default.is-0 c.requires in
    ap (λ s. goes_before s (key_order f columns (map key_value c.in_ok-longer-in-Some-default.field-0.items))) c.is_strict.ensures
    ∙ behind_low f columns key (map key_value c.in_ok-longer-in-Some-default.field-0.items) b.comparison (key_value b.cell) h below here.0 here.1 c.in_ok-longer-in-Some-default.ensures

pub returns-in_ok-longer-in-None-Some : goal.returns-in_ok-longer-in-None-Some
returns-in_ok-longer-in-None-Some c = λ f columns h low high.
    let key = map key_value c.args.key.now in
    let b = c.in-None-Some.field-0-1 in
    let here = subst (λ (o : Option Bound). IsBounded f columns key o) c.in-None-Some.is-1 high in
    behind_nulls f columns key (map key_value c.in_ok-longer-in-None-Some.field-0.items) b.comparison (key_value b.cell) h here.0 here.1 c.in_ok-longer-in-None-Some.ensures

pub returns-in_ok-copied-in-None-None : goal.returns-in_ok-copied-in-None-None
returns-in_ok-copied-in-None-None c = λ f columns h low high.
    ap (λ k. goes_before false (key_order f columns (map key_value k))) c.in_ok-copied-in-None-None.ensures ∙ behind_key f columns (map key_value c.args.key.now) h

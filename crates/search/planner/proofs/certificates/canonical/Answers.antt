use Rattle.std.proofs.Common.{sym, ◌∙◌, ap, subst, ◌<◌, ◌-◌, map, length, arith}
use Rattle.frame.specs.Frames.{query_frame}
use Rattle.frame.proofs.FormedQueries.{frames_formed}
use Rattle.derivation.specs.declared.line.Line.TheVariants.{Founds}
use Rattle.certificate.specs.Replay.{root}
use Rattle.planner.specs.Canonical.{NameEarlier, IsPlanOf, top}
use Rattle.planner.proofs.FrameLines.{names_earlier}
use Rattle.planner.proofs.OneCertificate.{one_certificate}
use Rattle.planner.proofs.Accepted.{canonical_replays}
use Rattle.planner.proofs.certificates.canonical.Goals as goal

pub overflow_sub-frame : goal.overflow_sub-frame
overflow_sub-frame c =
    let some : 0 < length (query_frame c.args.query.now) = (frames_formed c.args.query.now c.query-query.ensures.bound).some in
    rw (c.frame-frame.ensures) (omega (arith, some))

pub plan_of-requires-clause-earlier : goal.plan_of-requires-clause-earlier
plan_of-requires-clause-earlier c = subst NameEarlier (sym c.frame-frame.ensures) (names_earlier c.args.query.now c.query-query.ensures.bound)

pub plan_of-requires-clause-class : goal.plan_of-requires-clause-class
plan_of-requires-clause-class c =
    let some : 0 < length (query_frame c.args.query.now) = (frames_formed c.args.query.now c.query-query.ensures.bound).some in
    subst (λ k. k < length c.frame-frame.result.now) (sym c.in_ok-root.ensures) (rw (c.frame-frame.ensures) (omega (arith, some)))

pub returns-clause-replays : goal.returns-clause-replays
returns-clause-replays c =
    let q = c.args.query.now in
    let below : IsPlanOf (query_frame q) (root q) c.in_ok-below.below = subst (λ g. IsPlanOf (query_frame q) g c.in_ok-below.below) (c.in_ok-root.ensures ∙ ap (λ n. n - 1) (ap length c.frame-frame.ensures)) (subst (λ L. IsPlanOf L c.in_ok-root.root c.in_ok-below.below) c.frame-frame.ensures c.in_ok-below.ensures) in
    canonical_replays q c.query-query.ensures.bound (record { lines = c.in_ok-lines.lines; plan = c.in_ok-plan.plan }) c.in_ok-below.below (c.in_ok-lines.ensures ∙ ap (map Founds) c.frame-frame.ensures) (c.in_ok-plan.ensures ∙ ap (λ ks. top ks c.in_ok-below.below) (c.from_vec-order.ensures ∙ c.in_ok-from_slice.ensures.items ∙ c.order.ensures)) below

pub returns-clause-only : goal.returns-clause-only
returns-clause-only c =
    one_certificate c.args.query.now (record { lines = c.in_ok-lines.lines; plan = c.in_ok-plan.plan })
    (record { lines = c.in_ok-lines.ensures ∙ ap (map Founds) c.frame-frame.ensures; below = c.in_ok-below.below; basic = c.in_ok-below.ensures.basic; plan = c.in_ok-plan.ensures ∙ ap (λ ks. top ks c.in_ok-below.below) (c.from_vec-order.ensures ∙ c.in_ok-from_slice.ensures.items ∙ c.order.ensures) })
    (returns-clause-replays c)

use Rattle.std.proofs.Common.{◌≡◌, ◌<◌, ◌^◌, ◌++◌, refl, arith}
use Rattle.values.specs.declared.fault.Fault.TheVariants.{Memory}
use Rattle.physical.specs.declared.plan.Plan.{Plan}
use Rattle.certificate_text.specs.CertificateText.{plan_text, node_count}
use Rattle.certificate_read.specs.TextReading.{IsWanted}
use Rattle.certificate_text.proofs.PlanTexts.{some_nodes}
use Rattle.certificate_read.proofs.WordCalls.{gives_less}
use Rattle.std.proofs.Common.{[]}
use Rattle.certificate_text.proofs.Exits.{holds_of_fault}
use Rattle.certificate_read.specs.TextCalls.{PassesWholePlan}
use Rattle.certificate_read.proofs.PlanCounts.{count_unread, none_counted, plan_counted}
use Rattle.certificate_read.proofs.reading.plan.Goals as goal

pub returns-then-count-eq0-clause-complete : goal.returns-then-count-eq0-clause-complete
returns-then-count-eq0-clause-complete c = λ p rest h le e.
    let short : node_count p < 2 ^ 32 = omega (arith, le) in
    let count = c.in_ok-count.ensures.complete (node_count p) (plan_text p ++ rest) le short refl e in
    absurd (omega (arith, count.0, c.if-count-eq0.true, some_nodes p))

pub returns-clause-complete : goal.returns-clause-complete
returns-clause-complete c = λ p rest h le e.
    let short : node_count p < 2 ^ 32 = omega (arith, le) in
    let count = c.in_ok-count.ensures.complete (node_count p) (plan_text p ++ rest) le short refl e in
    gives_less Memory (λ (read : Plan). (read ≡ p) × (c.plan_within.new.text.left.now ≡ rest) × IsWanted 0 0 c.plan_within.new.wanted) (λ (read : Plan). (read ≡ p) × (c.plan_within.new.text.left.now ≡ rest)) c.plan_within.result
    (λ read given. (given.0, given.1)) (c.plan_within.ensures.complete p 0 0 rest h (omega (arith, count.0), refl) (omega arith, λ none. refl) count.1)

pub returns-in_err-count-clause-exact : goal.returns-in_err-count-clause-exact
returns-in_err-count-clause-exact c =
    holds_of_fault (PassesWholePlan c.args.text.now c.count.new.text) c.from_residual.result c.in_err-count.field-0.0 c.from_residual.ensures.1
    (count_unread c.args.text.now c.in_err-count.field-0.0 (c.in_err-count.ensures.exact (omega arith) refl))

pub returns-then-count-eq0-clause-exact : goal.returns-then-count-eq0-clause-exact
returns-then-count-eq0-clause-exact c =
    let count = c.in_ok-count.ensures.exact (omega arith) refl in
    rw c.refused.ensures (none_counted c.args.text.now c.count.new.text c.in_ok-count.count count.0 (omega (arith, c.if-count-eq0.true)))

pub returns-clause-exact : goal.returns-clause-exact
returns-clause-exact c =
    let count = c.in_ok-count.ensures.exact (omega arith) refl in
    let some : 0 < c.in_ok-count.count = omega (arith, c.if-count-eq0.false) in
    plan_counted c.args.text.now c.count.new.text c.in_ok-count.count count.0 count.1 some (record { counted = c.in_ok-count.count; inputs = 1 }) c.plan_within.new.wanted c.plan_within.new.text c.plan_within.result refl (c.plan_within.ensures.exact 0 [] (refl, refl, some, count.1))

use Rattle.std.proofs.Common.{◌≡◌, ap, ◌∙◌, subst, ◌++◌, ◌∷◌, [], Some, Option}
use Rattle.std.specs.Option.{IfSome}
use Rattle.derivation.specs.Logs.{member}
use Rattle.derivation.specs.Replay.{Replays}
use Rattle.logs.specs.Logged.{Logged}
use Rattle.bindings.specs.Bindings.{step_of}
use Rattle.lean_logs.specs.declared.lean_log.Member.{Member}
use Rattle.lean_logs.proofs.Results.{line_adds, line_unites}
use Rattle.lean_logs.proofs.lean_log.LeanLog.add_spelt.Goals as goal

pub add_told-requires-clause-stands : goal.add_told-requires-clause-stands
add_told-requires-clause-stands c =
    line_adds c.args.limit c.args.self.now c.args.given.now c.args.binding c.args.spelt c.in_ok-step.step c.requires.result c.requires.spelt
    (c.in_ok-step.ensures ∙ ap (step_of c.args.binding) c.as_slice.ensures.value)

pub add_told-requires-2-clause-stands : goal.add_told-requires-2-clause-stands
add_told-requires-2-clause-stands c =
    let log = c.args.self.now in
    let there : member log.log c.in-Some.field-0.line ≡ Some (record { class = c.in-Some.field-0.class; expr = c.args.spelt.expr }) =
    subst (λ (o : Option Member). IfSome o (λ m. member log.log m.line ≡ Some (record { class = m.class; expr = c.args.spelt.expr }))) c.in-Some.is c.in_ok-line.ensures.some in
    let step : c.in_ok-step-2.step ≡ step_of c.args.binding (c.in-Some.field-0.line ∷ c.args.spelt.makes.items) =
    c.in_ok-step-2.ensures ∙ ap (step_of c.args.binding) (c.as_slice-3.ensures.value ∙ c.in_ok-extend_from_slice.ensures.items
    ∙ ap (λ ns. ns ++ c.as_slice-2.result.now) (c.in_ok-push.ensures.items ∙ ap (λ ns. ns ++ (c.in-Some.field-0.line ∷ [])) c.new-spelt.ensures.items)
    ∙ ap (λ ms. c.in-Some.field-0.line ∷ ms) c.as_slice-2.ensures.value) in
    line_unites c.args.limit log c.args.given.now c.args.binding c.args.spelt c.in-Some.field-0.line c.in-Some.field-0.class c.in_ok-step-2.step
    (subst (λ (l : Logged). Replays l.instances l.own l.log) c.log.ensures c.lines-replays.ensures.replays) c.requires.result c.requires.spelt there step

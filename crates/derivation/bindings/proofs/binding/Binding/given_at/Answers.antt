use Rattle.std.proofs.Common.{ap, sym, ◌∙◌, subst, map}
use Rattle.values.specs.Faults.{Fails}
use Rattle.props.specs.Knowledge.{Knowledge, known as known_by}
use Rattle.rules.specs.Matches.{line_in}
use Rattle.bindings.specs.Bindings.{applied, shape_given}
use Rattle.bindings.proofs.Results.{shape-there, shape-none}
use Rattle.bindings.proofs.binding.Binding.given_at.Goals as goal

pub returns-in-Ok : goal.returns-in-Ok
returns-in-Ok c =
    let known = ap (λ (K : Knowledge). applied K c.args.self.rule c.args.self.pick (map line_in c.args.lines.now)) (sym c.classes.ensures.known) in
    shape-there c.args.top.class c.in-Ok.shape _ (known ∙ c.in-Ok.ensures)

pub returns-in-Err-Refused : goal.returns-in-Err-Refused
returns-in-Err-Refused c =
    let known = ap (λ (K : Knowledge). applied K c.args.self.rule c.args.self.pick (map line_in c.args.lines.now)) (sym c.classes.ensures.known) in
    shape-none c.args.top.class _ _
    (known ∙ subst (λ f. Fails f (applied (known_by c.classes.result) c.args.self.rule c.args.self.pick (map line_in c.args.lines.now))) c.in-Err-Refused.field-0-is c.in-Err-Refused.ensures)

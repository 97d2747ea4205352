use Rattle.std.proofs.Common.{◌≡◌, ap, sym, ◌∙◌, subst, not, ◌↔◌, IsTrue}
use Rattle.std.proofs.lemmas.Bool.{not-true}
use Rattle.props.specs.Facts.{knows}
use Rattle.props.specs.Given.{is_known}
use Rattle.props.specs.Knowledge.{Knowledge}
use Rattle.derivation.specs.declared.line.Line.{Line}
use Rattle.derivation.specs.Logs.{knowledge}
use Rattle.logs.specs.Logged.{Logged}
use Rattle.bindings.specs.Lean.{SaysNew}
use Rattle.lean_logs.proofs.lean_log.LeanLog.says_new.Goals as goal

pub returns-in-Gives : goal.returns-in-Gives
returns-in-Gives c =
    let same : c.knows.result ≡ is_known (knowledge c.args.self.now.instances c.args.self.now.log) c.in-Gives.class c.in-Gives.fact =
    c.knows.ensures ∙ ap (λ (K : Knowledge). knows (K.facts c.in-Gives.class) c.in-Gives.fact) c.classes.ensures.known ∙ ap (λ (l : Logged). is_known (knowledge l.instances l.log) c.in-Gives.class c.in-Gives.fact) c.self.view_is in
    subst (λ (l : Line). IsTrue (not c.knows.result) ↔ SaysNew c.args.self.now.instances c.args.self.now.log l) (sym c.in-Gives.is) ((λ new. sym same ∙ not-true _ new), (λ new. ap not (same ∙ new)))

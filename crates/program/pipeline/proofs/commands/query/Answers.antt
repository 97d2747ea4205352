use Rattle.std.proofs.Common.{◌≡◌, sym, subst, List, ℕ, map, Result, Ok, IfOk, OnOk, None, Vec, Global}
use Rattle.std.specs.Io.KnownBytes.{Appends}
use Rattle.pipeline.specs.EndToEnd.{WithPlanned}
use Rattle.pipeline.specs.Measured.{WithMeasured}
use Rattle.pipeline.proofs.Answered.{of_measured}
use Rattle.pipeline.proofs.commands.query.Goals.{in-Ok, in-Err}
use Rattle.pipeline.proofs.commands.query.Goals as goal

of_ok : {A E : Type 0} (r : Result A E) (x : A) (Q : A → Type 0) → r ≡ Ok x → IfOk r Q → Q x
of_ok r x Q is so = subst (λ s. IfOk s Q) is so

pub returns-clause-answered : goal.returns-clause-answered
returns-clause-answered g c =
    let inputs = map g.R.TableInput.remaining c.args.tables.now in
    let text : List ℕ → Type 0 = Appends (g.W.AnswerOutput.contents c.args.out.now) (g.W.AnswerOutput.contents c.answered.new.out) in
    let told = λ (report : Vec ℕ Global). WithMeasured None c.args.schema.now c.args.text.now inputs text report.items in
    elim c.match-answered.branch [
      | in-Ok w ↦ subst (λ r. OnOk r (WithPlanned c.args.schema.now c.args.text.now inputs text)) (sym w.result-is)
          (of_measured None c.args.schema.now c.args.text.now inputs text _ (of_ok c.answered.result _ told w.in-Ok.is c.answered.ensures.answered))
      | in-Err w ↦ subst (λ r. OnOk r (WithPlanned c.args.schema.now c.args.text.now inputs text)) (sym w.result-is) tt
    ]

use Rattle.certificate_text.proofs.Passing.{form_unnamed}
use Rattle.certificate_text.proofs.conditions.Cursor.form.Goals as goal

pub returns-in-None : goal.returns-in-None
returns-in-None c = rw c.into.ensures (form_unnamed c.in_ok-name.name.now c.args.self.now c.until.new.self c.until.new.self c.in_ok-name.ensures.0 c.in_ok-name.ensures.1 (rw c.in-None.is at c.named_form.ensures))

use Rattle.std.proofs.Common.{refl, Some}
use Rattle.std.proofs.lemmas.Str.Pattern.{split_parts}
use Rattle.certificate_text.proofs.AggregateParts.{cut_at}
use Rattle.certificate_text.proofs.CursorSteps.{lacking_before}
use Rattle.certificate_text.proofs.conditions.Cursor.until.Goals as goal

pub returns-in-Some : goal.returns-in-Some
returns-in-Some c =
    let parts = split_parts c.args.end c.args.self.now.left.now (Some (c.in-Some.word, c.in-Some.left)) (rw c.in-Some.is at c.split_once.ensures.cases) c.requires in
    (parts.0, lacking_before c.args.end c.in-Some.word.now parts.1, refl)

pub returns-in-None : goal.returns-in-None
returns-in-None c = rw c.into.ensures (λ word rest free e. rw c.in-None.is at (cut_at c.args.end c.args.self.now.left.now word rest c.split_once.result c.split_once.ensures.cases c.requires free e))

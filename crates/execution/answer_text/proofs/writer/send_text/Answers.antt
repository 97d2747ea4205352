use Rattle.std.proofs.Common.{refl}
use Rattle.answer_text.proofs.Sent.{front_of_taken}
use Rattle.answer_text.proofs.writer.send_text.Goals as goal

pub returns-in-Err-clause-front : goal.returns-in-Err-clause-front
returns-in-Err-clause-front g c =
    let (n, taken) = c.in-Err.ensures.front in
    front_of_taken _ _ n _ _ refl taken

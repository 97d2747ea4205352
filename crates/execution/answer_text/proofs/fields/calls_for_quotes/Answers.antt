use Rattle.std.proofs.Common.{◌≡◌, refl, Bool, true, false, ◌||◌, ◌==◌}
use Rattle.answer_text.proofs.fields.calls_for_quotes.Goals as goal

any-mark : (a b c d : Bool) → (((a || b) || c) || d) ≡ ((((a || b) || (c || d)) || false) || false)
any-mark true b c d = refl
any-mark false true c d = refl
any-mark false false true d = refl
any-mark false false false true = refl
any-mark false false false false = refl

pub returns : goal.returns
returns c = any-mark (c.args.byte == 44) (c.args.byte == 34) (c.args.byte == 13) (c.args.byte == 10)

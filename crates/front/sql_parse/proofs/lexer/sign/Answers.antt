use Rattle.sql_parse.proofs.TokenSigns.{sign_cut}
use Rattle.sql_parse.proofs.lexer.sign.Goals as goal

pub cut-requires : goal.cut-requires
cut-requires c =
    rw (← c.byte_at.ensures, ← c.byte_at-2.ensures, ← c.sign_of.ensures, c.in-Some.is) at (sign_cut c.args.text.now)

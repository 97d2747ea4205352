use Rattle.sql_parse.proofs.TextRuns.{space_cut}
use Rattle.sql_parse.proofs.lexer.trimmed.Goals as goal

pub cut-requires : goal.cut-requires
cut-requires c = rw (c.run_len.ensures, c.as_bytes.ensures.value) (space_cut c.args.text.now)

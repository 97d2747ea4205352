use Rattle.sql_parse.proofs.TextRuns.{word_cut}
use Rattle.sql_parse.proofs.lexer.word.Goals as goal

pub cut-requires : goal.cut-requires
cut-requires c = rw (c.run_len.ensures, c.as_bytes.ensures.value) (word_cut c.args.text.now)

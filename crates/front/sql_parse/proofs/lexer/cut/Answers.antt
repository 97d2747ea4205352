use Rattle.sql_parse.proofs.TextRuns.{boundary}
use Rattle.sql_parse.proofs.lexer.cut.Goals as goal

pub split_at-requires : goal.split_at-requires
split_at-requires c = boundary c.args.text.now c.args.len c.utf8.text c.requires

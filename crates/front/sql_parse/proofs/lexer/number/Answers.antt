use Rattle.std.proofs.Common.{◌∙◌, ap}
use Rattle.sql_parse.specs.Reading.{number_len}
use Rattle.sql_parse.proofs.TextRuns.{number_cut}
use Rattle.sql_parse.proofs.TokenNumbers.{number_parsed, number_unparsed}
use Rattle.sql_parse.proofs.lexer.number.Goals as goal

pub cut-requires : goal.cut-requires
cut-requires c = rw (c.number_len.ensures, c.as_bytes.ensures.value) (number_cut c.args.text.now)

pub returns-in-Ok : goal.returns-in-Ok
returns-in-Ok c =
    number_parsed c.args.at c.args.text.now c.cut.result.0.now c.cut.result.1.now c.number_len.result c.in-Ok.value (c.number_len.ensures ∙ ap number_len c.as_bytes.ensures.value)
    c.cut.ensures.front c.cut.ensures.behind c.in-Ok.ensures.value.0.0.1 c.in-Ok.ensures.value.0.1

pub returns-in-Err : goal.returns-in-Err
returns-in-Err c =
    rw c.refused.ensures (number_unparsed c.args.at c.args.text.now c.cut.result.0.now c.number_len.result (c.number_len.ensures ∙ ap number_len c.as_bytes.ensures.value)
    c.cut.ensures.front c.requires c.in-Err.ensures.value.0)

use Rattle.std.proofs.Common.{ap, sym, ◌∙◌, Ok}
use Rattle.sql_parse.proofs.PlainStatements.{statements_plain}
use Rattle.sql_parse.proofs.statement_parser.parse.Goals as goal

pub new-requires : goal.new-requires
new-requires c = statements_plain c.args.text.now c.in-Ok.tree c.in-Ok.ensures.found

pub returns-in-Ok-clause-only : goal.returns-in-Ok-clause-only
returns-in-Ok-clause-only c tree reads = c.in-Ok.ensures.only tree reads ∙ ap Ok (sym c.new.ensures)

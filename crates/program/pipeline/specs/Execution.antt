-- What an executor gives.
use Rattle.std.specs.Prelude.{ℕ, List}
use Rattle.schema.specs.Databases.{Row, Stored}
use Rattle.query.specs.Rows.{tables_in}
use Rattle.certificate.specs.QueryOrders.{answer}
use Rattle.checker.specs.Accepted.{Accepted}
use Rattle.answer_text.specs.AnswerText.{answer_text}

-- the rows that an accepted plan gives
abbrev pub accepted_rows : Accepted → Stored → List Row
accepted_rows a d = answer a.query (tables_in d) a.certificate.plan

-- their text
abbrev pub accepted_text : Accepted → Stored → List ℕ
accepted_text a d = answer_text a.query.names (accepted_rows a d)

-- How a statement's tokens are read. `end` is where the end of the text stands.
use Rattle.std.specs.Prelude.{ℕ, List, [], ◌∷◌}
use Rattle.grammar.specs.Readers.{Reader, Reported, parse, inside}
use Rattle.sql_parse.specs.declared.fault.ParseReason.TheVariants.{Unexpected, TooDeep}
use Rattle.sql_parse.specs.declared.fault.ParseRefusal.{ParseRefusal}
use Rattle.sql_parse.specs.declared.token.Token.{Token}
use Rattle.sql_parse.specs.Reading.{refusal}
use Rattle.sql_parse.specs.Sql.{Sql, sql}

-- where the next token stands, or the end
abbrev pub place : ℕ → List Token → ℕ
place end [] = end
place end (t ∷ ts) = t.at

abbrev pub reported : ℕ → Reported Token ParseRefusal
reported end = record { unexpected = λ r. refusal Unexpected (place end r); too_deep = λ r. refusal TooDeep (place end r) }

-- the reader of a production, where so many parentheses may still be opened
abbrev pub reads : ℕ → ℕ → {A : Type 0} → Sql A → Reader Token ParseRefusal A
reads end depth g = parse sql (reported end) (inside sql (reported end) depth) g

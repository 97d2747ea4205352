-- Which text is a statement of the whole language, and why another is refused.
use Rattle.std.specs.Prelude.{◌≡◌, ℕ, ◌<◌, ◌≤◌, List, length, ◌⊎◌}
use Rattle.std.specs.Str.{IsUtf8, IsValidUpTo}
use Rattle.grammar.specs.Words.{Reads}
use Rattle.grammar.specs.Faults.{IsWithin, IsUnexpected, IsTooDeep}
use Rattle.sql_parse.specs.declared.fault.ParseReason.{ParseReason}
use Rattle.sql_parse.specs.declared.fault.ParseReason.TheVariants.{NoToken, Unexpected, TooDeep, TooLong}
use Rattle.sql_parse.specs.declared.fault.ParseRefusal.{ParseRefusal}
use Rattle.sql_parse.specs.declared.statement_parser.TheConstants.{MAX_TEXT}
use Rattle.sql_parse.specs.declared.statement.Statement.{Statement}
use Rattle.sql_parse.specs.declared.token.Token.{Token}
use Rattle.sql_parse.specs.Sql.{sql, a_statement}
use Rattle.sql_parse.specs.StatementReading.{place}
use Rattle.sql_parse.specs.Tokens.{Bytes, AreTokens, IsLexicalFault}

-- the most parentheses that may be open at once
unfoldable pub limit : ℕ
limit = 64

-- the bytes are a text within the limits that is a statement, with this tree
pub record ReadsStatement (bytes : Bytes) (tree : Statement) : Type 0 where
  pub short : length bytes ≤ MAX_TEXT
  pub utf8 : IsUtf8 bytes
  pub tokens : List Token
  pub are_tokens : AreTokens bytes tokens
  pub reads : Reads sql a_statement tokens tree
  pub within : IsWithin sql limit tokens

-- the bytes are a text of tokens, and at this place is the fault of them that there is where these begin
pub record IsTokenFault (bytes : Bytes) (at : ℕ) (IsFault : List Token → List Token → Type 0) : Type 0 where
  pub short : length bytes ≤ MAX_TEXT
  pub utf8 : IsUtf8 bytes
  pub tokens : List Token
  pub are_tokens : AreTokens bytes tokens
  pub rest : List Token
  pub is_there : at ≡ place (length bytes) rest
  pub is_fault : IsFault tokens rest

-- The first of these that holds: the bytes are too many, are no text, have a place where no token begins, or are tokens that
-- no statement begins with or that open too many parentheses, whichever of these two comes first.
abbrev pub IsFaultFor : ParseReason → ℕ → Bytes → Type 0
IsFaultFor TooLong at bytes = (MAX_TEXT < length bytes) × (at ≡ MAX_TEXT)
IsFaultFor TooDeep at bytes = IsTokenFault bytes at (IsTooDeep sql a_statement limit)
IsFaultFor Unexpected at bytes = IsTokenFault bytes at (IsUnexpected sql a_statement limit)
IsFaultFor NoToken at bytes = (length bytes ≤ MAX_TEXT) × ((IsUtf8 bytes × IsLexicalFault bytes (record { reason = NoToken; at = at })) ⊎ ((IsUtf8 bytes → ⊥) × IsValidUpTo bytes at))
IsFaultFor reason at bytes = (length bytes ≤ MAX_TEXT) × IsUtf8 bytes × IsLexicalFault bytes (record { reason = reason; at = at })

abbrev pub IsStatementFault : Bytes → ParseRefusal → Type 0
IsStatementFault bytes r = IsFaultFor r.reason r.at bytes

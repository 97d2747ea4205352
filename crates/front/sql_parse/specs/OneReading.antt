-- What a text is: one list of tokens at most, one tree at most, and a tree or a fault and never both. So the relations of
-- specs/Statements pin what a parser may answer. A grammar that gives each of its words one tree is unambiguous (Aho, Lam,
-- Sethi and Ullman, Compilers, section 2.2).
use Rattle.std.specs.Prelude.{◌≡◌, List}
use Rattle.sql_parse.specs.declared.fault.ParseRefusal.{ParseRefusal}
use Rattle.sql_parse.specs.declared.statement.Statement.{Statement}
use Rattle.sql_parse.specs.declared.token.Token.{Token}
use Rattle.sql_parse.specs.Statements.{ReadsStatement, IsStatementFault}
use Rattle.sql_parse.specs.Tokens.{Bytes, AreTokens}

-- bytes are one list of tokens at most
abbrev pub TokensAreOne : Type 0
TokensAreOne = (bytes : Bytes) (x y : List Token) → AreTokens bytes x → AreTokens bytes y → x ≡ y

-- no text has two trees
abbrev pub TreesAreOne : Type 0
TreesAreOne = (bytes : Bytes) (s t : Statement) → ReadsStatement bytes s → ReadsStatement bytes t → s ≡ t

-- a text that has a tree has no fault
abbrev pub TreesHaveNoFault : Type 0
TreesHaveNoFault = (bytes : Bytes) (s : Statement) (r : ParseRefusal) → ReadsStatement bytes s → IsStatementFault bytes r → ⊥

-- no text has two faults that are the first
abbrev pub FaultsAreOne : Type 0
FaultsAreOne = (bytes : Bytes) (q r : ParseRefusal) → IsStatementFault bytes q → IsStatementFault bytes r → q ≡ r

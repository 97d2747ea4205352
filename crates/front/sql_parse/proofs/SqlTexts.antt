-- From the tokens of a text to its statement, or to why there is none.
use Rattle.std.proofs.Common.{◌≡◌, ◌≤◌, List, length, Result, Ok, Err, refl, sym, subst}
use Rattle.std.specs.Prelude.{IfOk, IfErr}
use Rattle.std.specs.Str.{IsUtf8}
use Rattle.values.specs.declared.fault.Fault.{Fault as Refusing}
use Rattle.values.specs.declared.fault.Fault.TheVariants.{Memory, Refused}
use Rattle.values.specs.Faults.{Gives}
use Rattle.grammar.specs.Readers.{whole}
use Rattle.grammar.specs.Faults.{Fault, Unexpected, TooDeep, IsFirstFault}
use Rattle.grammar.proofs.Reporting.{report}
use Rattle.grammar.proofs.Verdicts.{found, only, refused}
use Rattle.sql_parse.specs.declared.fault.ParseRefusal.{ParseRefusal}
use Rattle.sql_parse.specs.declared.statement_parser.TheConstants.{MAX_TEXT}
use Rattle.sql_parse.specs.declared.statement.Statement.{Statement}
use Rattle.sql_parse.specs.declared.token.Token.{Token}
use Rattle.sql_parse.specs.Sql.{sql, a_statement}
use Rattle.sql_parse.specs.StatementReading.{reported}
use Rattle.sql_parse.specs.Statements.{ReadsStatement, IsStatementFault, limit}
use Rattle.sql_parse.specs.ReadingFaults.{IfRefused}
use Rattle.sql_parse.specs.Tokens.{Bytes, AreTokens}
use Rattle.sql_parse.proofs.SqlDecided.{is_decided, statement_decided, statement_paired}

abbrev Answer : Type 0
Answer = Result Statement (Refusing ParseRefusal)

abbrev pub Answers : Bytes → List Token → Answer → Type 0
Answers text ts answer = Gives (λ t. t) answer (whole sql (reported (length text)) limit a_statement ts)

pub statement_found : (text : Bytes) (ts : List Token) (answer : Answer) → length text ≤ MAX_TEXT → IsUtf8 text → AreTokens text ts → Answers text ts answer → IfOk answer (λ tree. ReadsStatement text tree)
statement_found text ts (Ok tree) short utf8 are e =
    let f = found sql is_decided a_statement statement_decided statement_paired (reported (length text)) limit ts tree e in
    record { short = short; utf8 = utf8; tokens = ts; are_tokens = are; reads = f.0; within = f.1 }
statement_found text ts (Err fault) short utf8 are e = tt

pub statement_only : (text : Bytes) (ts : List Token) (answer : Answer) → ((us : List Token) → AreTokens text us → us ≡ ts) → Answers text ts answer
    → (tree : Statement) → ReadsStatement text tree → Gives (λ t. t) answer (Ok tree)
statement_only text ts answer same e tree h =
    let i : h.tokens ≡ ts = same h.tokens h.are_tokens in
    let r : whole sql (reported (length text)) limit a_statement h.tokens ≡ Ok tree = only sql is_decided a_statement statement_decided statement_paired (reported (length text)) limit h.tokens tree h.reads h.within in
    let s : whole sql (reported (length text)) limit a_statement ts ≡ Ok tree = subst (λ z. whole sql (reported (length text)) limit a_statement z ≡ Ok tree) i r in
    subst (Gives (λ t. t) answer) s e

fault_of : (text : Bytes) (ts : List Token) → length text ≤ MAX_TEXT → IsUtf8 text → AreTokens text ts → (f : Fault Token) → IsFirstFault sql a_statement limit ts f → IsStatementFault text (report (reported (length text)) f)
fault_of text ts short utf8 are (Unexpected r) k = record { short = short; utf8 = utf8; tokens = ts; are_tokens = are; rest = r; is_there = refl; is_fault = k }
fault_of text ts short utf8 are (TooDeep r) k = record { short = short; utf8 = utf8; tokens = ts; are_tokens = are; rest = r; is_there = refl; is_fault = k }

pub statement_refused : (text : Bytes) (ts : List Token) (answer : Answer) → length text ≤ MAX_TEXT → IsUtf8 text → AreTokens text ts → Answers text ts answer
    → IfErr answer (λ fault. IfRefused fault (IsStatementFault text))
statement_refused text ts (Ok tree) short utf8 are e = tt
statement_refused text ts (Err Memory) short utf8 are e = tt
statement_refused text ts (Err (Refused r)) short utf8 are e =
    let q = refused sql is_decided a_statement statement_decided statement_paired (reported (length text)) limit ts r e in
    subst (λ (x : ParseRefusal). IsStatementFault text x) (sym q.1) (fault_of text ts short utf8 are q.0 q.2)

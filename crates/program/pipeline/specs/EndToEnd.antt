-- From bytes to bytes.
use Rattle.std.specs.Prelude.{◌≡◌, ◌≢◌, ◌<◌, ◌^◌, ℕ, List, [], length, slice_get, slice_index_or, Option, Some, None, Result, Ok, Err}
use Rattle.schema.specs.declared.schema.Schema.{Schema}
use Rattle.schema.specs.declared.schema.Table.{Table}
use Rattle.schema.specs.Databases.{Row, Database, Satisfies, Stored}
use Rattle.schema.specs.Reading.{schema_of}
use Rattle.sql_parse.specs.declared.statement.Statement.{Statement}
use Rattle.sql_parse.specs.Statements.{ReadsStatement, IsStatementFault}
use Rattle.store.specs.declared.fault.TableRefusal.{TableRefusal}
use Rattle.store.specs.Devices.{Rose}
use Rattle.store.specs.Tables.{records_of, IsReported}
use Rattle.query.specs.declared.query.Query.{Query}
use Rattle.binder.specs.declared.fault.BindRefusal.{BindRefusal}
use Rattle.binder.specs.Queries.{bound_statement}
use Rattle.query.specs.Rows.{tables_of}
use Rattle.query.specs.Answer.{IsAnswer}
use Rattle.certificate.specs.declared.certificate.Certificate.{Certificate}
use Rattle.certificate.specs.QueryOrders.{answer}
use Rattle.certificate.specs.Replay.{IsChecked}
use Rattle.answer_text.specs.AnswerText.{answer_text}
use Rattle.pipeline.specs.declared.refusal.Refusal.{Refusal}
use Rattle.pipeline.specs.declared.refusal.Refusal.TheVariants as refusal

-- ---- what is asked

-- where the bytes are a schema, it has so many tables
abbrev pub HasTables : List ℕ → ℕ → Type 0
HasTables bytes n = (S : Schema) → schema_of bytes ≡ Ok S → n ≡ length S.tables

-- the text is this query over the schema
abbrev pub IsQuery : List ℕ → Schema → Query → Type 0
IsQuery text S q = (tree : Statement) × ReadsStatement text tree × (bound_statement S tree ≡ Ok q)

-- the text is a statement, which over the schema is no query for this cause
abbrev pub IsUnbound : List ℕ → Schema → BindRefusal → Type 0
IsUnbound text S r = (tree : Statement) × ReadsStatement text tree × (bound_statement S tree ≡ Err r)

-- the bytes are a schema, and the text is a query over it
pub record Asks (schema text : List ℕ) (S : Schema) (q : Query) : Type 0 where
  pub is_schema : schema_of schema ≡ Ok S
  pub is_query : IsQuery text S q

-- ---- the tables' files

-- the bytes that an input has still to give, where they are known
abbrev pub Input : Type 0
Input = Option (List ℕ)

-- as the file of the table with this number, the input gives its rows or its first fault
abbrev pub FileReports : Schema → List Input → ℕ → Result (List Row) TableRefusal → Type 0
FileReports S inputs n reported = (t : Table) (bytes : List ℕ) → slice_get S.tables n ≡ Some t → slice_index_or inputs n None ≡ Some bytes
    → IsReported t (records_of bytes) reported

-- the inputs give the rows of the first so many tables of the database
abbrev pub TablesReported : Schema → List Input → ℕ → Database → Type 0
TablesReported S inputs count D = (n : ℕ) → n < count → FileReports S inputs n (Ok (slice_index_or D n []))

-- the files of all tables give rows
abbrev pub AllReported : Schema → List Input → Type 0
AllReported S inputs = (D : Database) × TablesReported S inputs (length S.tables) D

-- there is a table of this number, and the files of the tables before it give rows
pub record IsReached (S : Schema) (inputs : List Input) (n : ℕ) : Type 0 where
  pub is_there : n < length S.tables
  pub earlier : Database
  pub reported : TablesReported S inputs n earlier

-- so it is, and the fault is the first of the table's file
pub record IsTableRefused (S : Schema) (inputs : List Input) (n : ℕ) (r : TableRefusal) : Type 0 where
  pub reached : IsReached S inputs n
  pub fault : FileReports S inputs n (Err r)

-- why the tables were not loaded
abbrev pub IsLoadFault : Schema → List Input → Refusal → Type 0
IsLoadFault S inputs refusal.Memory = Unit {0}
IsLoadFault S inputs (refusal.TableDevice n) = IsReached S inputs n
IsLoadFault S inputs (refusal.Table n r) = IsTableRefused S inputs n r
IsLoadFault S inputs _ = ⊥

-- ---- what is prepared

-- why the text is no query over the schema
abbrev pub IsNoQuery : List ℕ → Schema → Refusal → Type 0
IsNoQuery text S refusal.Memory = Unit {0}
IsNoQuery text S (refusal.Text r) = IsStatementFault text r
IsNoQuery text S (refusal.Scope r) = IsUnbound text S r
IsNoQuery text S _ = ⊥

-- a database of the schema, which has the rows that the files give
pub record IsFromFiles (S : Schema) (inputs : List Input) (d : Stored) : Type 0 where
  pub is_over : d.schema ≡ S
  pub reported : TablesReported S inputs (length S.tables) d.tables
  pub satisfies : Satisfies S d.tables

-- the query that the text is over the schema, and that database
pub record IsPrepared (S : Schema) (text : List ℕ) (inputs : List Input) (q : Query) (d : Stored) : Type 0 where
  pub is_query : IsQuery text S q
  pub files : IsFromFiles S inputs d

-- the text is a query, whose tables were not loaded for this cause
abbrev pub IsNotLoaded : Schema → List ℕ → List Input → Refusal → Type 0
IsNotLoaded S text inputs r = (q : Query) × IsQuery text S q × IsLoadFault S inputs r

-- why they are not there: the first fault, in the order text, scope, tables
abbrev pub IsUnprepared : Schema → List ℕ → List Input → Refusal → Type 0
IsUnprepared S text inputs refusal.Memory = Unit {0}
IsUnprepared S text inputs (refusal.Table n r) = IsNotLoaded S text inputs (refusal.Table n r)
IsUnprepared S text inputs (refusal.TableDevice n) = IsNotLoaded S text inputs (refusal.TableDevice n)
IsUnprepared S text inputs (refusal.Text r) = IsStatementFault text r
IsUnprepared S text inputs (refusal.Scope r) = IsUnbound text S r
IsUnprepared S text inputs _ = ⊥

-- ---- the answer

-- the certificate is checked, and the text of the rows that its plan gives over the database is as said
abbrev pub ByCertificate : Certificate → Schema → Query → Database → (List ℕ → Type 0) → Type 0
ByCertificate c S q D P = IsChecked S q c × P (answer_text q.names (answer q (tables_of S D) c.plan))

-- so it is of some certificate
abbrev pub ByPlan : Schema → Query → Database → (List ℕ → Type 0) → Type 0
ByPlan S q D P = (c : Certificate) × ByCertificate c S q D P

-- the text of rows that are an answer over the database is as said
abbrev pub ByMeaning : Schema → Query → Database → (List ℕ → Type 0) → Type 0
ByMeaning S q D P = (rows : List Row) × IsAnswer q (tables_of S D) rows × P (answer_text q.names rows)

-- the certificate is checked, and the rows that its plan gives over the database are more than 2^62
abbrev pub IsLongAnswer : Certificate → Schema → Query → Database → Type 0
IsLongAnswer c S q D = IsChecked S q c × (2 ^ 62 < length (answer q (tables_of S D) c.plan))

-- so it is of some certificate
abbrev pub HasLongAnswer : Schema → Query → Database → Type 0
HasLongAnswer S q D = (c : Certificate) × IsLongAnswer c S q D

-- while the answer is made or written: memory ran out, or the output's count of failures rose between these
abbrev pub IsAnswerFault : ℕ → ℕ → Refusal → Type 0
IsAnswerFault out out' refusal.Memory = out' ≡ out
IsAnswerFault out out' refusal.Output = Rose out out'
IsAnswerFault out out' _ = ⊥

-- the same while rows are written as a plan gives them: there may be too many of them, which is as said
abbrev pub IsWriteFault : Type 0 → ℕ → ℕ → Refusal → Type 0
IsWriteFault many out out' refusal.TooManyRows = many × (out' ≡ out)
IsWriteFault many out out' r = IsAnswerFault out out' r

-- the text of an answer of the query that is asked, over the rows that the files give
pub record IsAnswerText (schema text : List ℕ) (inputs : List Input) (written : List ℕ) : Type 0 where
  pub S : Schema
  pub query : Query
  pub asks : Asks schema text S query
  pub database : Database
  pub reported : TablesReported S inputs (length S.tables) database
  pub satisfies : Satisfies S database
  pub rows : List Row
  pub answers : IsAnswer query (tables_of S database) rows
  pub written_is : written ≡ answer_text query.names rows

-- the rows of that text are those that the plan of a checked certificate gives
pub record IsByPlan {schema text : List ℕ} {inputs : List Input} {written : List ℕ} (A : IsAnswerText schema text inputs written) : Type 0 where
  pub certificate : Certificate
  pub checked : IsChecked A.S A.query certificate
  pub rows_are : A.rows ≡ answer A.query (tables_of A.S A.database) certificate.plan

-- some such text is as said
abbrev pub WithAnswer : List ℕ → List ℕ → List Input → (List ℕ → Type 0) → Type 0
WithAnswer schema text inputs P = (written : List ℕ) × IsAnswerText schema text inputs written × P written

-- some such text, whose rows are by a checked plan, is as said
abbrev pub WithPlanned : List ℕ → List ℕ → List Input → (List ℕ → Type 0) → Type 0
WithPlanned schema text inputs P = (written : List ℕ) × (A : IsAnswerText schema text inputs written) × IsByPlan A × P written

-- ---- refusals

-- there is such a text, and its rows, which are by a checked plan, are more than 2^62
abbrev pub HasTooManyRows : List ℕ → List ℕ → List Input → Type 0
HasTooManyRows schema text inputs = (written : List ℕ) × (A : IsAnswerText schema text inputs written) × IsByPlan A × (2 ^ 62 < length A.rows)

-- some query is asked, over a schema that is as said
abbrev pub WithQuery : List ℕ → List ℕ → (Schema → Type 0) → Type 0
WithQuery schema text P = (S : Schema) × (q : Query) × Asks schema text S q × P S

-- the first fault, in the order schema, text, scope, tables, output; no query is refused for a certificate
abbrev pub IsRefusedBy : List ℕ → List ℕ → List Input → Refusal → Type 0
IsRefusedBy schema text inputs refusal.Memory = Unit {0}
IsRefusedBy schema text inputs (refusal.Schema r) = schema_of schema ≡ Err r
IsRefusedBy schema text inputs (refusal.Text r) = (S : Schema) × (schema_of schema ≡ Ok S) × IsStatementFault text r
IsRefusedBy schema text inputs (refusal.Scope r) = (S : Schema) × (schema_of schema ≡ Ok S) × IsUnbound text S r
IsRefusedBy schema text inputs (refusal.Statistics r) = ⊥
IsRefusedBy schema text inputs (refusal.Certificate r) = ⊥
IsRefusedBy schema text inputs (refusal.Check r) = ⊥
IsRefusedBy schema text inputs refusal.NotLeast = ⊥
IsRefusedBy schema text inputs (refusal.Table n r) = WithQuery schema text (λ S. IsTableRefused S inputs n r)
IsRefusedBy schema text inputs (refusal.TableDevice n) = WithQuery schema text (λ S. IsReached S inputs n)
IsRefusedBy schema text inputs refusal.Output = WithQuery schema text (λ S. AllReported S inputs)
IsRefusedBy schema text inputs refusal.TooManyRows = ⊥

-- the same where a plan answers: at last its rows may be too many
abbrev pub IsNotQueried : List ℕ → List ℕ → List Input → Refusal → Type 0
IsNotQueried schema text inputs refusal.TooManyRows = HasTooManyRows schema text inputs
IsNotQueried schema text inputs r = IsRefusedBy schema text inputs r

-- the refusal comes before anything is written
abbrev pub IsBefore : Refusal → Type 0
IsBefore refusal.Memory = ⊥
IsBefore refusal.Output = ⊥
IsBefore refusal.TooManyRows = ⊥
IsBefore (refusal.Schema r) = Unit {0}
IsBefore (refusal.Text r) = Unit {0}
IsBefore (refusal.Scope r) = Unit {0}
IsBefore (refusal.Statistics r) = Unit {0}
IsBefore (refusal.Certificate r) = Unit {0}
IsBefore (refusal.Check r) = Unit {0}
IsBefore refusal.NotLeast = Unit {0}
IsBefore (refusal.Table n r) = Unit {0}
IsBefore (refusal.TableDevice n) = Unit {0}

-- the counts of failures stayed as they were
abbrev pub AreQuiet : List ℕ → List ℕ → Type 0
AreQuiet old new = (n : ℕ) → slice_index_or new n 0 ≡ slice_index_or old n 0

-- so did those of the tables and that of the output
abbrev pub IsQuiet : List ℕ → List ℕ → ℕ → ℕ → Type 0
IsQuiet old new out out' = AreQuiet old new × (out' ≡ out)

-- the count with this number rose, and the others stayed as they were
abbrev pub RoseAlone : List ℕ → List ℕ → ℕ → Type 0
RoseAlone old new n = Rose (slice_index_or old n 0) (slice_index_or new n 0) × ((m : ℕ) → m ≢ n → slice_index_or new m 0 ≡ slice_index_or old m 0)

-- the device whose fault is reported failed, and no other: its count of failures rose between these; where none is reported, none failed
abbrev pub IsDeviceFault : List ℕ → List ℕ → ℕ → ℕ → Refusal → Type 0
IsDeviceFault old new out out' (refusal.TableDevice n) = RoseAlone old new n × (out' ≡ out)
IsDeviceFault old new out out' refusal.Output = AreQuiet old new × Rose out out'
IsDeviceFault old new out out' refusal.Memory = IsQuiet old new out out'
IsDeviceFault old new out out' refusal.TooManyRows = IsQuiet old new out out'
IsDeviceFault old new out out' (refusal.Schema r) = IsQuiet old new out out'
IsDeviceFault old new out out' (refusal.Text r) = IsQuiet old new out out'
IsDeviceFault old new out out' (refusal.Scope r) = IsQuiet old new out out'
IsDeviceFault old new out out' (refusal.Statistics r) = IsQuiet old new out out'
IsDeviceFault old new out out' (refusal.Certificate r) = IsQuiet old new out out'
IsDeviceFault old new out out' (refusal.Check r) = IsQuiet old new out out'
IsDeviceFault old new out out' refusal.NotLeast = IsQuiet old new out out'
IsDeviceFault old new out out' (refusal.Table n r) = IsQuiet old new out out'

-- From bytes to bytes by a certificate that is handed in.
use Rattle.std.specs.Prelude.{◌≡◌, ◌<◌, ◌^◌, ℕ, List, length, Ok, Err}
use Rattle.schema.specs.declared.schema.Schema.{Schema}
use Rattle.schema.specs.Databases.{Stored}
use Rattle.schema.specs.Reading.{schema_of}
use Rattle.sql_parse.specs.Statements.{IsStatementFault}
use Rattle.query.specs.declared.query.Query.{Query}
use Rattle.certificate.specs.declared.certificate.Certificate.{Certificate}
use Rattle.certificate.specs.declared.certificate.CheckRefusal.{CheckRefusal}
use Rattle.certificate.specs.Replay.{replayed, IsChecked}
use Rattle.certificate_text.specs.declared.fault.TextRefusal.{TextRefusal}
use Rattle.certificate_text.specs.Limits.{written}
use Rattle.certificate_text.specs.Readable.{IsReadableCertificate}
use Rattle.certificate_read.specs.TextFaults.{IsFirstFault}
use Rattle.pipeline.specs.declared.refusal.Refusal.{Refusal}
use Rattle.pipeline.specs.declared.refusal.Refusal.TheVariants as refusal
use Rattle.pipeline.specs.EndToEnd.{Input, Asks, IsFromFiles, ByCertificate, IsUnbound, IsReached, IsTableRefused, AllReported, IsAnswerText, IsByPlan, IsLongAnswer, WithQuery}

-- ---- what is accepted

-- the bytes are the text of this certificate, which is within the limits
abbrev pub IsCertificate : List ℕ → Certificate → Type 0
IsCertificate bytes c = written c ≡ Ok bytes

-- they are the text of none whose numbers are within their ranges, whose lists are in order, whose nodes have as many inputs as they take, and whose
-- merges are inner joins
abbrev pub IsNoCertificate : List ℕ → Type 0
IsNoCertificate bytes = (c : Certificate) → IsReadableCertificate c → IsCertificate bytes c → ⊥

-- a query is asked, and the bytes are the text of a certificate that is checked against it
pub record Accepts (schema text certificate : List ℕ) : Type 0 where
  pub S : Schema
  pub query : Query
  pub asks : Asks schema text S query
  pub checked_is : Certificate
  pub is_certificate : IsCertificate certificate checked_is
  pub checked : IsChecked S query checked_is

-- and that certificate can be read
abbrev pub AcceptsReadable : List ℕ → List ℕ → List ℕ → Type 0
AcceptsReadable schema text certificate = (a : Accepts schema text certificate) × IsReadableCertificate a.checked_is

-- ---- the answer

-- some text of an answer, whose rows are by the plan of that certificate, is as said
abbrev pub WithCertified : List ℕ → List ℕ → List ℕ → List Input → (List ℕ → Type 0) → Type 0
WithCertified schema text certificate inputs P =
    (answered : List ℕ) × (A : IsAnswerText schema text inputs answered) × (B : IsByPlan A) × IsCertificate certificate B.certificate × P answered

-- the files give a database over which the certificate is checked, and the text of the rows that its plan gives is as said
abbrev pub ByFiles : Schema → Query → Certificate → List Input → (List ℕ → Type 0) → Type 0
ByFiles S q c inputs P = (d : Stored) × IsFromFiles S inputs d × ByCertificate c S q d.tables P

-- ---- refusals

-- why a certificate isn't accepted for the query
abbrev pub IsCheckFault : Query → Certificate → Refusal → Type 0
IsCheckFault q c refusal.Memory = Unit {0}
IsCheckFault q c (refusal.Check r) = replayed q c ≡ Err r
IsCheckFault q c _ = ⊥

-- the files give a database over which the certificate is checked, and its rows are more than 2^62
abbrev pub IsLongByFiles : Schema → Query → Certificate → List Input → Type 0
IsLongByFiles S q c inputs = (d : Stored) × IsFromFiles S inputs d × IsLongAnswer c S q d.tables

-- why a certificate gives no answer: the first fault, in the order check, tables, output and number of rows
abbrev pub IsNotAnswered : Schema → Query → Certificate → List Input → Refusal → Type 0
IsNotAnswered S q c inputs refusal.Memory = Unit {0}
IsNotAnswered S q c inputs (refusal.Check r) = replayed q c ≡ Err r
IsNotAnswered S q c inputs refusal.NotLeast = ⊥
IsNotAnswered S q c inputs (refusal.Table n r) = IsChecked S q c × IsTableRefused S inputs n r
IsNotAnswered S q c inputs (refusal.TableDevice n) = IsChecked S q c × IsReached S inputs n
IsNotAnswered S q c inputs refusal.Output = IsChecked S q c × AllReported S inputs
IsNotAnswered S q c inputs refusal.TooManyRows = IsLongByFiles S q c inputs
IsNotAnswered S q c inputs (refusal.Schema r) = ⊥
IsNotAnswered S q c inputs (refusal.Text r) = ⊥
IsNotAnswered S q c inputs (refusal.Scope r) = ⊥
IsNotAnswered S q c inputs (refusal.Statistics r) = ⊥
IsNotAnswered S q c inputs (refusal.Certificate r) = ⊥

-- a query is asked, and the bytes are no certificate's text: this is their first faulty line, and why
abbrev pub IsTextRefused : List ℕ → List ℕ → List ℕ → TextRefusal → Type 0
IsTextRefused schema text certificate r = WithQuery schema text (λ S. IsNoCertificate certificate × IsFirstFault certificate r)

-- a query is asked, against which the certificate that the bytes are the text of is refused
abbrev pub IsCheckRefused : List ℕ → List ℕ → List ℕ → CheckRefusal → Type 0
IsCheckRefused schema text certificate r = (S : Schema) × (q : Query) × Asks schema text S q × (c : Certificate) × IsCertificate certificate c × (replayed q c ≡ Err r)

-- a certificate is accepted for a query over a schema that is as said
abbrev pub WithAccepted : List ℕ → List ℕ → List ℕ → (Schema → Type 0) → Type 0
WithAccepted schema text certificate P = (a : Accepts schema text certificate) × P a.S

-- why nothing is accepted: the first fault, in the order schema, text, scope, certificate, check
abbrev pub IsNotAccepted : List ℕ → List ℕ → List ℕ → Refusal → Type 0
IsNotAccepted schema text certificate refusal.Memory = Unit {0}
IsNotAccepted schema text certificate (refusal.Schema r) = schema_of schema ≡ Err r
IsNotAccepted schema text certificate (refusal.Text r) = (S : Schema) × (schema_of schema ≡ Ok S) × IsStatementFault text r
IsNotAccepted schema text certificate (refusal.Scope r) = (S : Schema) × (schema_of schema ≡ Ok S) × IsUnbound text S r
IsNotAccepted schema text certificate (refusal.Statistics r) = ⊥
IsNotAccepted schema text certificate (refusal.Certificate r) = IsTextRefused schema text certificate r
IsNotAccepted schema text certificate (refusal.Check r) = IsCheckRefused schema text certificate r
IsNotAccepted schema text certificate refusal.NotLeast = ⊥
IsNotAccepted schema text certificate (refusal.Table n r) = ⊥
IsNotAccepted schema text certificate (refusal.TableDevice n) = ⊥
IsNotAccepted schema text certificate refusal.Output = ⊥
IsNotAccepted schema text certificate refusal.TooManyRows = ⊥

-- there is a text of an answer, and its rows, which are by the plan of that certificate, are more than 2^62
abbrev pub HasTooManyRowsBy : List ℕ → List ℕ → List ℕ → List Input → Type 0
HasTooManyRowsBy schema text certificate inputs =
    (answered : List ℕ) × (A : IsAnswerText schema text inputs answered) × (B : IsByPlan A) × IsCertificate certificate B.certificate × (2 ^ 62 < length A.rows)

-- why there is no answer: the same, and then tables, output and number of rows
abbrev pub IsNotRun : List ℕ → List ℕ → List ℕ → List Input → Refusal → Type 0
IsNotRun schema text certificate inputs refusal.Memory = Unit {0}
IsNotRun schema text certificate inputs (refusal.Schema r) = IsNotAccepted schema text certificate (refusal.Schema r)
IsNotRun schema text certificate inputs (refusal.Text r) = IsNotAccepted schema text certificate (refusal.Text r)
IsNotRun schema text certificate inputs (refusal.Scope r) = IsNotAccepted schema text certificate (refusal.Scope r)
IsNotRun schema text certificate inputs (refusal.Statistics r) = ⊥
IsNotRun schema text certificate inputs (refusal.Certificate r) = IsNotAccepted schema text certificate (refusal.Certificate r)
IsNotRun schema text certificate inputs (refusal.Check r) = IsNotAccepted schema text certificate (refusal.Check r)
IsNotRun schema text certificate inputs refusal.NotLeast = ⊥
IsNotRun schema text certificate inputs (refusal.Table n r) = WithAccepted schema text certificate (λ S. IsTableRefused S inputs n r)
IsNotRun schema text certificate inputs (refusal.TableDevice n) = WithAccepted schema text certificate (λ S. IsReached S inputs n)
IsNotRun schema text certificate inputs refusal.Output = WithAccepted schema text certificate (λ S. AllReported S inputs)
IsNotRun schema text certificate inputs refusal.TooManyRows = HasTooManyRowsBy schema text certificate inputs

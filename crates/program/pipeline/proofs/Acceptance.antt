-- What is accepted, and what a certificate that is accepted answers.
use Rattle.std.proofs.Common.{◌≡◌, refl, sym, ap, subst, ℕ, Bool, true, false, List, [], Ok}
use Rattle.std.proofs.lemmas.Bool.{false≢true}
use Rattle.values.specs.declared.fault.Fault.{Fault}
use Rattle.values.specs.declared.fault.Fault.TheVariants as fault
use Rattle.values.specs.Faults.{◌>>=◌, Fails}
use Rattle.values.proofs.Results.{both_ok}
use Rattle.schema.specs.declared.schema.Schema.{Schema}
use Rattle.schema.specs.Databases.{Database, Stored}
use Rattle.schema.specs.Reading.{schema_of}
use Rattle.query.specs.declared.query.Query.{Query}
use Rattle.query.specs.Rows.{tables_of}
use Rattle.certificate.specs.declared.certificate.Certificate.{Certificate}
use Rattle.certificate.specs.declared.certificate.CheckRefusal.{CheckRefusal}
use Rattle.certificate.specs.QueryOrders.{answer}
use Rattle.certificate.specs.Replay.{lines_replay, fitted_plan, replayed, IsChecked}
use Rattle.certificate_text.specs.declared.fault.TextRefusal.{TextRefusal}
use Rattle.certificate_read.specs.TextCalls.{RefusesText}
use Rattle.certificate_text.specs.Readable.{IsReadableCertificate}
use Rattle.answer_text.specs.AnswerText.{answer_text}
use Rattle.checker.specs.Accepted.{Accepted}
use Rattle.pipeline.specs.declared.refusal.Refusal.{Refusal}
use Rattle.pipeline.specs.declared.refusal.Refusal.TheVariants as refusal
use Rattle.pipeline.specs.Refusals.{of_certificate, of_check}
use Rattle.pipeline.specs.Certified.{IsCertificate, Accepts, ByFiles, IsLongByFiles, WithCertified, HasTooManyRowsBy, IsCheckFault, IsNotAnswered, IsNotAccepted, IsNotRun}
use Rattle.pipeline.specs.EndToEnd.{Input, Asks, IsNoQuery, IsLoadFault, IsFromFiles, ByCertificate, IsLongAnswer, IsWriteFault, IsDeviceFault}

-- ---- refusals

pub no_query_accepted : (schema text certificate : List ℕ) (S : Schema) (r : Refusal) → schema_of schema ≡ Ok S → IsNoQuery text S r → IsNotAccepted schema text certificate r
no_query_accepted schema text certificate S refusal.Memory is h = tt
no_query_accepted schema text certificate S (refusal.Text r) is h = (S, is, h)
no_query_accepted schema text certificate S (refusal.Scope r) is h = (S, is, h)
no_query_accepted schema text certificate S (refusal.Schema r) is h = absurd h
no_query_accepted schema text certificate S (refusal.Statistics r) is h = absurd h
no_query_accepted schema text certificate S (refusal.Certificate r) is h = absurd h
no_query_accepted schema text certificate S (refusal.Check r) is h = absurd h
no_query_accepted schema text certificate S refusal.NotLeast is h = absurd h
no_query_accepted schema text certificate S (refusal.Table n r) is h = absurd h
no_query_accepted schema text certificate S (refusal.TableDevice n) is h = absurd h
no_query_accepted schema text certificate S refusal.Output is h = absurd h
no_query_accepted schema text certificate S refusal.TooManyRows is h = absurd h

abbrev pub is_memory : {R : Type 0} → Fault R → Bool
is_memory fault.Memory = true
is_memory (fault.Refused r) = false

-- each text that a certificate has is read, unless memory runs out; another is refused at its first faulty line
pub text_not_accepted : (schema text certificate : List ℕ) (S : Schema) (q : Query) (f : Fault TextRefusal) → Asks schema text S q → ((c : Certificate) → IsReadableCertificate c → IsCertificate certificate c → f ≡ fault.Memory) → RefusesText certificate f
    → IsNotAccepted schema text certificate (of_certificate f)
text_not_accepted schema text certificate S q fault.Memory asks memory first = tt
text_not_accepted schema text certificate S q (fault.Refused r) asks memory first = (S, q, asks, ((λ c readable is. false≢true (ap is_memory (memory c readable is))), first))

pub check_refused : (q : Query) (c : Certificate) (f : Fault CheckRefusal) → Fails f (replayed q c) → IsCheckFault q c (of_check f)
check_refused q c fault.Memory fails = tt
check_refused q c (fault.Refused r) fails = fails

pub check_not_accepted : (schema text certificate : List ℕ) (S : Schema) (q : Query) (c : Certificate) (r : Refusal) → Asks schema text S q → IsCertificate certificate c → IsCheckFault q c r
    → IsNotAccepted schema text certificate r
check_not_accepted schema text certificate S q c refusal.Memory asks is h = tt
check_not_accepted schema text certificate S q c (refusal.Check r) asks is h = (S, q, asks, c, is, h)
check_not_accepted schema text certificate S q c refusal.NotLeast asks is h = absurd h
check_not_accepted schema text certificate S q c (refusal.Schema r) asks is h = absurd h
check_not_accepted schema text certificate S q c (refusal.Text r) asks is h = absurd h
check_not_accepted schema text certificate S q c (refusal.Scope r) asks is h = absurd h
check_not_accepted schema text certificate S q c (refusal.Statistics r) asks is h = absurd h
check_not_accepted schema text certificate S q c (refusal.Certificate r) asks is h = absurd h
check_not_accepted schema text certificate S q c (refusal.Table n r) asks is h = absurd h
check_not_accepted schema text certificate S q c (refusal.TableDevice n) asks is h = absurd h
check_not_accepted schema text certificate S q c refusal.Output asks is h = absurd h
check_not_accepted schema text certificate S q c refusal.TooManyRows asks is h = absurd h

-- what isn't accepted isn't run
pub not_accepted_run : (schema text certificate : List ℕ) (inputs : List Input) (r : Refusal) → IsNotAccepted schema text certificate r → IsNotRun schema text certificate inputs r
not_accepted_run schema text certificate inputs refusal.Memory h = tt
not_accepted_run schema text certificate inputs (refusal.Schema r) h = h
not_accepted_run schema text certificate inputs (refusal.Text r) h = h
not_accepted_run schema text certificate inputs (refusal.Scope r) h = h
not_accepted_run schema text certificate inputs (refusal.Statistics r) h = absurd h
not_accepted_run schema text certificate inputs (refusal.Certificate r) h = h
not_accepted_run schema text certificate inputs (refusal.Check r) h = h
not_accepted_run schema text certificate inputs refusal.NotLeast h = absurd h
not_accepted_run schema text certificate inputs (refusal.Table n r) h = absurd h
not_accepted_run schema text certificate inputs (refusal.TableDevice n) h = absurd h
not_accepted_run schema text certificate inputs refusal.Output h = absurd h
not_accepted_run schema text certificate inputs refusal.TooManyRows h = absurd h

-- and no device has failed then
pub not_accepted_quiet : (schema text certificate : List ℕ) (counts : List ℕ) (o : ℕ) (r : Refusal) → IsNotAccepted schema text certificate r → IsDeviceFault counts counts o o r
not_accepted_quiet schema text certificate counts o refusal.Memory h = (λ n. refl, refl)
not_accepted_quiet schema text certificate counts o (refusal.Schema r) h = (λ n. refl, refl)
not_accepted_quiet schema text certificate counts o (refusal.Text r) h = (λ n. refl, refl)
not_accepted_quiet schema text certificate counts o (refusal.Scope r) h = (λ n. refl, refl)
not_accepted_quiet schema text certificate counts o (refusal.Statistics r) h = absurd h
not_accepted_quiet schema text certificate counts o (refusal.Certificate r) h = (λ n. refl, refl)
not_accepted_quiet schema text certificate counts o (refusal.Check r) h = (λ n. refl, refl)
not_accepted_quiet schema text certificate counts o refusal.NotLeast h = absurd h
not_accepted_quiet schema text certificate counts o (refusal.Table n r) h = absurd h
not_accepted_quiet schema text certificate counts o (refusal.TableDevice n) h = absurd h
not_accepted_quiet schema text certificate counts o refusal.Output h = absurd h
not_accepted_quiet schema text certificate counts o refusal.TooManyRows h = absurd h

-- ---- what is accepted

-- what replays as a certificate is that certificate
pub replays_itself : (q : Query) (c d : Certificate) → replayed q c ≡ Ok d → c ≡ d
unfolding replayed
replays_itself q c d ok =
    let first = both_ok (lines_replay q [] c.lines) (λ E. fitted_plan q E c.plan >>= λ p. Ok c) d ok in
    let second = both_ok (fitted_plan q first.0 c.plan) (λ p. Ok c) d first.2 in
    let same : Ok c ≡ Ok d = second.2 in
    cc

abbrev pub accepted : (schema text certificate : List ℕ) (S : Schema) (q : Query) (c : Certificate) → Asks schema text S q → IsCertificate certificate c → IsChecked S q c → Accepts schema text certificate
accepted schema text certificate S q c asks is checked = record { S = S; query = q; asks = asks; checked_is = c; is_certificate = is; checked = checked }

-- what was checked is checked against the schema and the query, as the certificate that it was
pub checked_itself : (a : Accepted) (S : Schema) (q : Query) (c : Certificate) → (a.schema ≡ S) × (a.query ≡ q) → replayed q c ≡ Ok a.certificate → IsChecked a.schema a.query a.certificate → IsChecked S q c
checked_itself a S q c of replays checked =
    let same : a.certificate ≡ c = sym (replays_itself q c a.certificate replays) in
    subst (λ c. IsChecked S q c) same (subst (λ q. IsChecked S q a.certificate) of.1 (subst (λ S. IsChecked S a.query a.certificate) of.0 checked))

-- ---- the answer

pub check_not_answered : (S : Schema) (q : Query) (c : Certificate) (inputs : List Input) (f : Fault CheckRefusal) → Fails f (replayed q c) → IsNotAnswered S q c inputs (of_check f)
check_not_answered S q c inputs fault.Memory fails = tt
check_not_answered S q c inputs (fault.Refused r) fails = fails

pub load_not_answered : (S : Schema) (q : Query) (c : Certificate) (inputs : List Input) (r : Refusal) → IsChecked S q c → IsLoadFault S inputs r → IsNotAnswered S q c inputs r
load_not_answered S q c inputs refusal.Memory checked h = tt
load_not_answered S q c inputs (refusal.Table n r) checked h = (checked, h)
load_not_answered S q c inputs (refusal.TableDevice n) checked h = (checked, h)
load_not_answered S q c inputs (refusal.Schema r) checked h = absurd h
load_not_answered S q c inputs (refusal.Text r) checked h = absurd h
load_not_answered S q c inputs (refusal.Scope r) checked h = absurd h
load_not_answered S q c inputs (refusal.Statistics r) checked h = absurd h
load_not_answered S q c inputs (refusal.Certificate r) checked h = absurd h
load_not_answered S q c inputs (refusal.Check r) checked h = absurd h
load_not_answered S q c inputs refusal.NotLeast checked h = absurd h
load_not_answered S q c inputs refusal.Output checked h = absurd h
load_not_answered S q c inputs refusal.TooManyRows checked h = absurd h

-- what is not loaded says nothing of the output
pub load_quiet : (S : Schema) (inputs : List Input) (old new : List ℕ) (o : ℕ) (r : Refusal) → IsLoadFault S inputs r → IsDeviceFault old new 0 0 r → IsDeviceFault old new o o r
load_quiet S inputs old new o refusal.Memory h d = (d.0, refl)
load_quiet S inputs old new o (refusal.Table n r) h d = (d.0, refl)
load_quiet S inputs old new o (refusal.TableDevice n) h d = (d.0, refl)
load_quiet S inputs old new o (refusal.Schema r) h d = absurd h
load_quiet S inputs old new o (refusal.Text r) h d = absurd h
load_quiet S inputs old new o (refusal.Scope r) h d = absurd h
load_quiet S inputs old new o (refusal.Statistics r) h d = absurd h
load_quiet S inputs old new o (refusal.Certificate r) h d = absurd h
load_quiet S inputs old new o (refusal.Check r) h d = absurd h
load_quiet S inputs old new o refusal.NotLeast h d = absurd h
load_quiet S inputs old new o refusal.Output h d = absurd h
load_quiet S inputs old new o refusal.TooManyRows h d = absurd h

pub answer_not_answered : (S : Schema) (q : Query) (c : Certificate) (inputs : List Input) (d : Stored) (o p : ℕ) (r : Refusal) → IsChecked S q c → IsFromFiles S inputs d → IsWriteFault (IsLongAnswer c S q d.tables) o p r
    → IsNotAnswered S q c inputs r
answer_not_answered S q c inputs d o p refusal.Memory checked files h = tt
answer_not_answered S q c inputs d o p refusal.Output checked files h = (checked, (d.tables, files.reported))
answer_not_answered S q c inputs d o p refusal.TooManyRows checked files h = (d, files, h.0)
answer_not_answered S q c inputs d o p (refusal.Schema r) checked files h = absurd h
answer_not_answered S q c inputs d o p (refusal.Text r) checked files h = absurd h
answer_not_answered S q c inputs d o p (refusal.Scope r) checked files h = absurd h
answer_not_answered S q c inputs d o p (refusal.Statistics r) checked files h = absurd h
answer_not_answered S q c inputs d o p (refusal.Certificate r) checked files h = absurd h
answer_not_answered S q c inputs d o p (refusal.Check r) checked files h = absurd h
answer_not_answered S q c inputs d o p refusal.NotLeast checked files h = absurd h
answer_not_answered S q c inputs d o p (refusal.Table n r) checked files h = absurd h
answer_not_answered S q c inputs d o p (refusal.TableDevice n) checked files h = absurd h

-- what a checked certificate's plan gives over the loaded tables
pub by_files : (a : Accepted) (S : Schema) (q : Query) (c : Certificate) (inputs : List Input) (d : Stored) (P : List ℕ → Type 0) → (a.schema ≡ S) × (a.query ≡ q) → replayed q c ≡ Ok a.certificate
    → IsFromFiles S inputs d → ByCertificate a.certificate a.schema a.query d.tables P → ByFiles S q c inputs P
by_files a S q c inputs d P of replays files by =
    let same : a.certificate ≡ c = sym (replays_itself q c a.certificate replays) in
    (d, files, subst (λ c. ByCertificate c S q d.tables P) same (subst (λ q. ByCertificate a.certificate S q d.tables P) of.1 (subst (λ S. ByCertificate a.certificate S a.query d.tables P) of.0 by)))

-- and so of the number of its rows
pub long_itself : (a : Accepted) (S : Schema) (q : Query) (c : Certificate) (D : Database) → (a.schema ≡ S) × (a.query ≡ q) → replayed q c ≡ Ok a.certificate
    → IsLongAnswer a.certificate a.schema a.query D → IsLongAnswer c S q D
long_itself a S q c D of replays long =
    let same : a.certificate ≡ c = sym (replays_itself q c a.certificate replays) in
    subst (λ c. IsLongAnswer c S q D) same (subst (λ q. IsLongAnswer a.certificate S q D) of.1 (subst (λ S. IsLongAnswer a.certificate S a.query D) of.0 long))

-- ---- from files

-- the text of an answer that a certificate's plan gives, whose rows are too many
pub many_certified : (schema text certificate : List ℕ) (inputs : List Input) (S : Schema) (q : Query) (c : Certificate) → Asks schema text S q → IsCertificate certificate c
    → IsLongByFiles S q c inputs → HasTooManyRowsBy schema text certificate inputs
many_certified schema text certificate inputs S q c asks is by = (
  answer_text q.names (answer q (tables_of S by.0.tables) c.plan),
  record {
    S = S;
    query = q;
    asks = asks;
    database = by.0.tables;
    reported = by.1.reported;
    satisfies = by.1.satisfies;
    rows = answer q (tables_of S by.0.tables) c.plan;
    answers = by.2.0.answers by.0.tables by.1.satisfies;
    written_is = refl;
  },
  record { certificate = c; checked = by.2.0; rows_are = refl },
  is,
  by.2.1,
)

pub not_answered_run : (schema text certificate : List ℕ) (inputs : List Input) (S : Schema) (q : Query) (c : Certificate) (r : Refusal) → Asks schema text S q → IsCertificate certificate c
    → IsNotAnswered S q c inputs r → IsNotRun schema text certificate inputs r
not_answered_run schema text certificate inputs S q c refusal.Memory asks is h = tt
not_answered_run schema text certificate inputs S q c (refusal.Check r) asks is h = (S, q, asks, c, is, h)
not_answered_run schema text certificate inputs S q c refusal.NotLeast asks is h = absurd h
not_answered_run schema text certificate inputs S q c (refusal.Table n r) asks is h = (accepted schema text certificate S q c asks is h.0, h.1)
not_answered_run schema text certificate inputs S q c (refusal.TableDevice n) asks is h = (accepted schema text certificate S q c asks is h.0, h.1)
not_answered_run schema text certificate inputs S q c refusal.Output asks is h = (accepted schema text certificate S q c asks is h.0, h.1)
not_answered_run schema text certificate inputs S q c refusal.TooManyRows asks is h = many_certified schema text certificate inputs S q c asks is h
not_answered_run schema text certificate inputs S q c (refusal.Schema r) asks is h = absurd h
not_answered_run schema text certificate inputs S q c (refusal.Text r) asks is h = absurd h
not_answered_run schema text certificate inputs S q c (refusal.Scope r) asks is h = absurd h
not_answered_run schema text certificate inputs S q c (refusal.Statistics r) asks is h = absurd h
not_answered_run schema text certificate inputs S q c (refusal.Certificate r) asks is h = absurd h

-- what is so of the text that an accepted certificate's plan gives
pub certified : (schema text certificate : List ℕ) (inputs : List Input) (S : Schema) (q : Query) (c : Certificate) (P : List ℕ → Type 0) → Asks schema text S q → IsCertificate certificate c
    → ByFiles S q c inputs P → WithCertified schema text certificate inputs P
certified schema text certificate inputs S q c P asks is by = (
  answer_text q.names (answer q (tables_of S by.0.tables) c.plan),
  record {
    S = S;
    query = q;
    asks = asks;
    database = by.0.tables;
    reported = by.1.reported;
    satisfies = by.1.satisfies;
    rows = answer q (tables_of S by.0.tables) c.plan;
    answers = by.2.0.answers by.0.tables by.1.satisfies;
    written_is = refl;
  },
  record { certificate = c; checked = by.2.0; rows_are = refl },
  is,
  by.2.1,
)

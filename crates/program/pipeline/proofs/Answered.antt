-- The answer of a query, and of a text.
use Rattle.std.proofs.Common.{◌≡◌, ◌≢◌, ◌<◌, ◌^◌, refl, sym, ◌∙◌, subst, ap, ℕ, false, List, [], length, Option, Some, None, Result, Ok, Err, IfErr, OnErr}
use Rattle.values.specs.declared.fault.Fault.{Fault}
use Rattle.values.specs.declared.fault.Fault.TheVariants as fault
use Rattle.values.specs.Faults.{Fails}
use Rattle.schema.specs.declared.schema.Schema.{Schema}
use Rattle.schema.specs.Reading.{schema_of}
use Rattle.schema.specs.Databases.{Database, Row, Stored}
use Rattle.store.specs.Devices.{Rose}
use Rattle.query.specs.declared.query.Query.{Query}
use Rattle.query.specs.Rows.{tables_in, tables_of}
use Rattle.std.specs.Io.KnownBytes.{Appends}
use Rattle.statistics.specs.declared.counts.Statistics.{Statistics}
use Rattle.statistics.specs.declared.counts.TableColumn.{TableColumn}
use Rattle.statistics.specs.Counting.{counts_of}
use Rattle.measures.specs.declared.measured.Measure.{Measure}
use Rattle.measures.specs.Measures.{AreMeasured, plans_run}
use Rattle.certificate.specs.QueryOrders.{answer}
use Rattle.certificate.specs.declared.certificate.Certificate.{Certificate}
use Rattle.certificate.specs.declared.certificate.CheckRefusal.{CheckRefusal}
use Rattle.certificate.specs.Replay.{replayed, IsChecked}
use Rattle.checker.specs.Accepted.{Accepted}
use Rattle.answer_text.specs.declared.output.OutputFailed.{OutputFailed}
use Rattle.pipeline.specs.declared.written.WriteFault.{WriteFault}
use Rattle.pipeline.specs.declared.written.WriteFault.TheVariants as write
use Rattle.answer_text.specs.AnswerText.{answer_text, HasFront}
use Rattle.answer_text.proofs.Sent.{front_of_all}
use Rattle.pipeline.specs.Execution.{accepted_rows, accepted_text}
use Rattle.pipeline.specs.declared.refusal.Refusal.{Refusal}
use Rattle.pipeline.specs.declared.refusal.Refusal.TheVariants as refusal
use Rattle.pipeline.specs.Refusals.{of_check, of_answer, of_write}
use Rattle.pipeline.specs.EndToEnd.{Input, IsPrepared, IsUnprepared, ByCertificate, ByPlan, ByMeaning, IsLongAnswer, HasLongAnswer, IsAnswerFault, IsWriteFault, WithAnswer, WithPlanned, HasTooManyRows, IsRefusedBy, IsNotQueried, IsBefore, IsDeviceFault, AreQuiet}
use Rattle.pipeline.specs.declared.measured.ReportForm.{ReportForm}
use Rattle.pipeline.specs.Measured.{ByMeasured, IsReport, IsReported, WithMeasured, report_in}

-- ---- what holds of the fault that a call ends with

pub of_fault : {A E : Type 0} (r : Result A E) (e : E) (P : E → Type 0) → r ≡ Err e → P e → IfErr r P
of_fault r e P is h = rw is h

pub on_fault : {A E : Type 0} (r : Result A E) (e : E) (P : Type 0) → r ≡ Err e → P → OnErr r P
on_fault r e P is h = rw is h

-- what is so of any fault
pub on_any_fault : {A E : Type 0} (r : Result A E) (P : Type 0) → P → OnErr r P
on_any_fault (Ok x) P p = tt
on_any_fault (Err e) P p = p

-- ---- the check

-- the check of a certificate that replays fails only by running out of memory
pub only_memory : (f : Fault CheckRefusal) (q : Query) (V : Certificate) → Fails f (replayed q V) → replayed q V ≡ Ok V → of_check f ≡ refusal.Memory
only_memory fault.Memory q V fails ok = refl
only_memory (fault.Refused r) q V fails ok = let e : Ok V ≡ Err r = sym ok ∙ fails in cc

-- what is so of the text that a checked plan gives
pub by_certificate : (d : Stored) (a : Accepted) (P : List ℕ → Type 0) → d.schema ≡ a.schema → IsChecked a.schema a.query a.certificate → P (accepted_text a d)
    → ByCertificate a.certificate a.schema a.query d.tables P
by_certificate d a P over checked p =
    let same : accepted_text a d ≡ answer_text a.query.names (answer a.query (tables_of a.schema d.tables) a.certificate.plan) = rw over refl in
    (checked, rw same at p)

-- and so of the number of its rows
pub long_answer : (d : Stored) (a : Accepted) → d.schema ≡ a.schema → IsChecked a.schema a.query a.certificate → 2 ^ 62 < length (accepted_rows a d)
    → IsLongAnswer a.certificate a.schema a.query d.tables
long_answer d a over checked long =
    let same : accepted_rows a d ≡ answer a.query (tables_of a.schema d.tables) a.certificate.plan = rw over refl in
    (checked, subst (λ (rows : List Row). 2 ^ 62 < length rows) same long)

-- what is so of what was checked is so of the schema and the query that it was checked with
pub of_accepted : (a : Accepted) (S : Schema) (q : Query) (P : Schema → Query → Type 0) → (a.schema ≡ S) × (a.query ≡ q) → P a.schema a.query → P S q
of_accepted a S q P of h = subst (λ T. P T q) of.0 (subst (P a.schema) of.1 h)

-- ---- the answer

pub answer_fault : (o p : ℕ) (f : Fault OutputFailed) → (f ≢ fault.Memory → Rose o p) → (f ≡ fault.Memory → p ≡ o) → IsAnswerFault o p (of_answer f)
answer_fault o p fault.Memory rose same = same refl
answer_fault o p (fault.Refused r) rose same = rose (λ e. cc e)

-- the same of rows that are written as a plan gives them
pub write_fault : (many : Type 0) (o p : ℕ) (f : WriteFault) → (f ≡ write.TooManyRows → many) → (f ≡ write.Output → Rose o p) → (f ≢ write.Output → p ≡ o) → IsWriteFault many o p (of_write f)
write_fault many o p write.Memory long rose same = same (λ e. cc e)
write_fault many o p write.Output long rose same = rose refl
write_fault many o p write.TooManyRows long rose same = (long refl, same (λ e. cc e))

pub write_fault_weaker : (many more : Type 0) (o p : ℕ) (r : Refusal) → (many → more) → IsWriteFault many o p r → IsWriteFault more o p r
write_fault_weaker many more o p refusal.Memory weaker h = h
write_fault_weaker many more o p refusal.Output weaker h = h
write_fault_weaker many more o p refusal.TooManyRows weaker h = (weaker h.0, h.1)
write_fault_weaker many more o p (refusal.Text r) weaker h = absurd h
write_fault_weaker many more o p (refusal.Scope r) weaker h = absurd h
write_fault_weaker many more o p (refusal.Table n r) weaker h = absurd h
write_fault_weaker many more o p (refusal.TableDevice n) weaker h = absurd h
write_fault_weaker many more o p (refusal.Schema r) weaker h = absurd h
write_fault_weaker many more o p (refusal.Statistics r) weaker h = absurd h
write_fault_weaker many more o p (refusal.Certificate r) weaker h = absurd h
write_fault_weaker many more o p (refusal.Check r) weaker h = absurd h
write_fault_weaker many more o p refusal.NotLeast weaker h = absurd h

-- ---- texts

pub planned : (schema text : List ℕ) (inputs : List Input) (S : Schema) (q : Query) (d : Stored) (P : List ℕ → Type 0) → schema_of schema ≡ Ok S → IsPrepared S text inputs q d
    → ByPlan S q d.tables P → WithPlanned schema text inputs P
planned schema text inputs S q d P is ready by = (
  answer_text q.names (answer q (tables_of S d.tables) by.0.plan),
  record {
    S = S;
    query = q;
    asks = record { is_schema = is; is_query = ready.is_query };
    database = d.tables;
    reported = ready.files.reported;
    satisfies = ready.files.satisfies;
    rows = answer q (tables_of S d.tables) by.0.plan;
    answers = by.1.0.answers d.tables ready.files.satisfies;
    written_is = refl;
  },
  record { certificate = by.0; checked = by.1.0; rows_are = refl },
  by.1.1,
)

-- the same, and what is reported of the plan
pub measured : (form : Option ReportForm) (schema text : List ℕ) (inputs : List Input) (S : Schema) (q : Query) (d : Stored) (P : List ℕ → Type 0) (report : List ℕ) → schema_of schema ≡ Ok S → IsPrepared S text inputs q d
    → ByMeasured form S q d.tables P report → WithMeasured form schema text inputs P report
measured form schema text inputs S q d P report is ready by = (
  answer_text q.names (answer q (tables_of S d.tables) by.0.plan),
  record {
    S = S;
    query = q;
    asks = record { is_schema = is; is_query = ready.is_query };
    database = d.tables;
    reported = ready.files.reported;
    satisfies = ready.files.satisfies;
    rows = answer q (tables_of S d.tables) by.0.plan;
    answers = by.1.0.answers d.tables ready.files.satisfies;
    written_is = refl;
  },
  record { certificate = by.0; checked = by.1.0; rows_are = refl },
  by.1.1,
  by.2,
)

-- what is reported of a checked certificate, by the counts of the database
pub is_report : (form : ReportForm) (S : Schema) (q r : Query) (d : Stored) (V U : Certificate) (s : Statistics) (counted : List TableColumn) (measures : List (Option Measure)) (report : List ℕ) → d.schema ≡ S → q ≡ r → V ≡ U → s ≡ counts_of counted d
    → AreMeasured q.tables (tables_in d) (plans_run false V.plan) measures → report ≡ report_in form s r measures U → IsReport form S q d.tables V report
is_report form S q r d V U s counted measures report over asked same counts measured is = record {
  counted = counted;
  measures = measures;
  measured = subst (λ T. AreMeasured q.tables (tables_of T d.tables) (plans_run false V.plan) measures) over measured;
  report_is = is ∙ ap (λ x. report_in form s x measures U) (sym asked) ∙ ap (λ (W : Certificate). report_in form s q measures W) (sym same) ∙ ap (λ x. report_in form x q measures V) counts
      ∙ ap (λ T. report_in form (counts_of counted (record { schema = T; tables = d.tables })) q measures V) over;
}

pub reported_none : (form : Option ReportForm) (S : Schema) (q : Query) (D : Database) (V : Certificate) (report : List ℕ) → form ≡ None → report ≡ [] → IsReported form S q D V report
reported_none form S q D V report none is = subst (λ f. IsReported f S q D V report) (sym none) is

pub reported_some : (form : Option ReportForm) (asked : ReportForm) (S : Schema) (q : Query) (D : Database) (V : Certificate) (report : List ℕ) → form ≡ Some asked → IsReport asked S q D V report → IsReported form S q D V report
reported_some form asked S q D V report some is = subst (λ f. IsReported f S q D V report) (sym some) is

-- a whole text is one of its beginnings
pub front_of_certificate : (V : Certificate) (S : Schema) (q : Query) (D : Database) (a c : Option (List ℕ)) → ByCertificate V S q D (Appends a c) → ByCertificate V S q D (HasFront a c)
front_of_certificate V S q D a c by = (by.0, front_of_all a c _ by.1)

-- which is an answer by a plan
pub of_measured : (form : Option ReportForm) (schema text : List ℕ) (inputs : List Input) (P : List ℕ → Type 0) (report : List ℕ) → WithMeasured form schema text inputs P report → WithPlanned schema text inputs P
of_measured form schema text inputs P report w = (w.0, w.1, w.2, w.3)

pub meant : (schema text : List ℕ) (inputs : List Input) (S : Schema) (q : Query) (d : Stored) (P : List ℕ → Type 0) → schema_of schema ≡ Ok S → IsPrepared S text inputs q d
    → ByMeaning d.schema q d.tables P → WithAnswer schema text inputs P
meant schema text inputs S q d P is ready by = (
  answer_text q.names by.0,
  record {
    S = S;
    query = q;
    asks = record { is_schema = is; is_query = ready.is_query };
    database = d.tables;
    reported = ready.files.reported;
    satisfies = ready.files.satisfies;
    rows = by.0;
    answers = rw (← ready.files.is_over) by.1;
    written_is = refl;
  },
  by.2,
)

-- the text of an answer that a plan gives, whose rows are too many
pub many_planned : (schema text : List ℕ) (inputs : List Input) (S : Schema) (q : Query) (d : Stored) → schema_of schema ≡ Ok S → IsPrepared S text inputs q d
    → HasLongAnswer S q d.tables → HasTooManyRows schema text inputs
many_planned schema text inputs S q d is ready by = (
  answer_text q.names (answer q (tables_of S d.tables) by.0.plan),
  record {
    S = S;
    query = q;
    asks = record { is_schema = is; is_query = ready.is_query };
    database = d.tables;
    reported = ready.files.reported;
    satisfies = ready.files.satisfies;
    rows = answer q (tables_of S d.tables) by.0.plan;
    answers = by.1.0.answers d.tables ready.files.satisfies;
    written_is = refl;
  },
  record { certificate = by.0; checked = by.1.0; rows_are = refl },
  by.1.1,
)

-- ---- refusals

pub unprepared_refused : (schema text : List ℕ) (S : Schema) (inputs : List Input) (r : Refusal) → schema_of schema ≡ Ok S → IsUnprepared S text inputs r → IsRefusedBy schema text inputs r
unprepared_refused schema text S inputs refusal.Memory is h = tt
unprepared_refused schema text S inputs (refusal.Text r) is h = (S, is, h)
unprepared_refused schema text S inputs (refusal.Scope r) is h = (S, is, h)
unprepared_refused schema text S inputs (refusal.Table n r) is h = (S, h.0, record { is_schema = is; is_query = h.1 }, h.2)
unprepared_refused schema text S inputs (refusal.TableDevice n) is h = (S, h.0, record { is_schema = is; is_query = h.1 }, h.2)
unprepared_refused schema text S inputs (refusal.Schema r) is h = absurd h
unprepared_refused schema text S inputs (refusal.Statistics r) is h = absurd h
unprepared_refused schema text S inputs (refusal.Certificate r) is h = absurd h
unprepared_refused schema text S inputs (refusal.Check r) is h = absurd h
unprepared_refused schema text S inputs refusal.NotLeast is h = absurd h
unprepared_refused schema text S inputs refusal.Output is h = absurd h
unprepared_refused schema text S inputs refusal.TooManyRows is h = absurd h

-- the same of a query that a plan answers
pub unprepared_queried : (schema text : List ℕ) (S : Schema) (inputs : List Input) (r : Refusal) → schema_of schema ≡ Ok S → IsUnprepared S text inputs r → IsNotQueried schema text inputs r
unprepared_queried schema text S inputs refusal.Memory is h = tt
unprepared_queried schema text S inputs (refusal.Text r) is h = (S, is, h)
unprepared_queried schema text S inputs (refusal.Scope r) is h = (S, is, h)
unprepared_queried schema text S inputs (refusal.Table n r) is h = (S, h.0, record { is_schema = is; is_query = h.1 }, h.2)
unprepared_queried schema text S inputs (refusal.TableDevice n) is h = (S, h.0, record { is_schema = is; is_query = h.1 }, h.2)
unprepared_queried schema text S inputs (refusal.Schema r) is h = absurd h
unprepared_queried schema text S inputs (refusal.Statistics r) is h = absurd h
unprepared_queried schema text S inputs (refusal.Certificate r) is h = absurd h
unprepared_queried schema text S inputs (refusal.Check r) is h = absurd h
unprepared_queried schema text S inputs refusal.NotLeast is h = absurd h
unprepared_queried schema text S inputs refusal.Output is h = absurd h
unprepared_queried schema text S inputs refusal.TooManyRows is h = absurd h

-- what is not prepared says nothing of the output
pub unprepared_device : (text : List ℕ) (S : Schema) (inputs : List Input) (old new : List ℕ) (o : ℕ) (r : Refusal) → IsUnprepared S text inputs r → IsDeviceFault old new 0 0 r → IsDeviceFault old new o o r
unprepared_device text S inputs old new o refusal.Memory h d = (d.0, refl)
unprepared_device text S inputs old new o (refusal.Text r) h d = (d.0, refl)
unprepared_device text S inputs old new o (refusal.Scope r) h d = (d.0, refl)
unprepared_device text S inputs old new o (refusal.Table n r) h d = (d.0, refl)
unprepared_device text S inputs old new o (refusal.TableDevice n) h d = (d.0, refl)
unprepared_device text S inputs old new o (refusal.Schema r) h d = absurd h
unprepared_device text S inputs old new o (refusal.Statistics r) h d = absurd h
unprepared_device text S inputs old new o (refusal.Certificate r) h d = absurd h
unprepared_device text S inputs old new o (refusal.Check r) h d = absurd h
unprepared_device text S inputs old new o refusal.NotLeast h d = absurd h
unprepared_device text S inputs old new o refusal.Output h d = absurd h
unprepared_device text S inputs old new o refusal.TooManyRows h d = absurd h

pub answer_refused : (schema text : List ℕ) (S : Schema) (q : Query) (d : Stored) (inputs : List Input) (o p : ℕ) (r : Refusal) → schema_of schema ≡ Ok S → IsPrepared S text inputs q d
    → IsAnswerFault o p r → IsRefusedBy schema text inputs r
answer_refused schema text S q d inputs o p refusal.Memory is ready h = tt
answer_refused schema text S q d inputs o p refusal.Output is ready h = (S, q, record { is_schema = is; is_query = ready.is_query }, (d.tables, ready.files.reported))
answer_refused schema text S q d inputs o p refusal.TooManyRows is ready h = absurd h
answer_refused schema text S q d inputs o p (refusal.Text r) is ready h = absurd h
answer_refused schema text S q d inputs o p (refusal.Scope r) is ready h = absurd h
answer_refused schema text S q d inputs o p (refusal.Table n r) is ready h = absurd h
answer_refused schema text S q d inputs o p (refusal.TableDevice n) is ready h = absurd h
answer_refused schema text S q d inputs o p (refusal.Schema r) is ready h = absurd h
answer_refused schema text S q d inputs o p (refusal.Statistics r) is ready h = absurd h
answer_refused schema text S q d inputs o p (refusal.Certificate r) is ready h = absurd h
answer_refused schema text S q d inputs o p (refusal.Check r) is ready h = absurd h
answer_refused schema text S q d inputs o p refusal.NotLeast is ready h = absurd h

pub write_refused : (schema text : List ℕ) (S : Schema) (q : Query) (d : Stored) (inputs : List Input) (o p : ℕ) (r : Refusal) → schema_of schema ≡ Ok S → IsPrepared S text inputs q d
    → IsWriteFault (HasLongAnswer S q d.tables) o p r → IsNotQueried schema text inputs r
write_refused schema text S q d inputs o p refusal.Memory is ready h = tt
write_refused schema text S q d inputs o p refusal.Output is ready h = (S, q, record { is_schema = is; is_query = ready.is_query }, (d.tables, ready.files.reported))
write_refused schema text S q d inputs o p refusal.TooManyRows is ready h = many_planned schema text inputs S q d is ready h.0
write_refused schema text S q d inputs o p (refusal.Text r) is ready h = absurd h
write_refused schema text S q d inputs o p (refusal.Scope r) is ready h = absurd h
write_refused schema text S q d inputs o p (refusal.Table n r) is ready h = absurd h
write_refused schema text S q d inputs o p (refusal.TableDevice n) is ready h = absurd h
write_refused schema text S q d inputs o p (refusal.Schema r) is ready h = absurd h
write_refused schema text S q d inputs o p (refusal.Statistics r) is ready h = absurd h
write_refused schema text S q d inputs o p (refusal.Certificate r) is ready h = absurd h
write_refused schema text S q d inputs o p (refusal.Check r) is ready h = absurd h
write_refused schema text S q d inputs o p refusal.NotLeast is ready h = absurd h

pub answer_device : (old new : List ℕ) (o p : ℕ) (r : Refusal) → AreQuiet old new → IsAnswerFault o p r → IsDeviceFault old new o p r
answer_device old new o p refusal.Memory quiet h = (quiet, h)
answer_device old new o p refusal.Output quiet h = (quiet, h)
answer_device old new o p refusal.TooManyRows quiet h = absurd h
answer_device old new o p (refusal.Text r) quiet h = absurd h
answer_device old new o p (refusal.Scope r) quiet h = absurd h
answer_device old new o p (refusal.Table n r) quiet h = absurd h
answer_device old new o p (refusal.TableDevice n) quiet h = absurd h
answer_device old new o p (refusal.Schema r) quiet h = absurd h
answer_device old new o p (refusal.Statistics r) quiet h = absurd h
answer_device old new o p (refusal.Certificate r) quiet h = absurd h
answer_device old new o p (refusal.Check r) quiet h = absurd h
answer_device old new o p refusal.NotLeast quiet h = absurd h

-- a fault of the answer comes after its beginning
pub answer_after : (o p : ℕ) (r : Refusal) → IsAnswerFault o p r → IsBefore r → ⊥
answer_after o p refusal.Memory h before = before
answer_after o p refusal.Output h before = before
answer_after o p refusal.TooManyRows h before = before
answer_after o p (refusal.Text r) h before = h
answer_after o p (refusal.Scope r) h before = h
answer_after o p (refusal.Table n r) h before = h
answer_after o p (refusal.TableDevice n) h before = h
answer_after o p (refusal.Schema r) h before = h
answer_after o p (refusal.Statistics r) h before = absurd h
answer_after o p (refusal.Certificate r) h before = h
answer_after o p (refusal.Check r) h before = h
answer_after o p refusal.NotLeast h before = h

-- so does one of rows that are written as a plan gives them
pub write_device : (many : Type 0) (old new : List ℕ) (o p : ℕ) (r : Refusal) → AreQuiet old new → IsWriteFault many o p r → IsDeviceFault old new o p r
write_device many old new o p refusal.Memory quiet h = (quiet, h)
write_device many old new o p refusal.Output quiet h = (quiet, h)
write_device many old new o p refusal.TooManyRows quiet h = (quiet, h.1)
write_device many old new o p (refusal.Text r) quiet h = absurd h
write_device many old new o p (refusal.Scope r) quiet h = absurd h
write_device many old new o p (refusal.Table n r) quiet h = absurd h
write_device many old new o p (refusal.TableDevice n) quiet h = absurd h
write_device many old new o p (refusal.Schema r) quiet h = absurd h
write_device many old new o p (refusal.Statistics r) quiet h = absurd h
write_device many old new o p (refusal.Certificate r) quiet h = absurd h
write_device many old new o p (refusal.Check r) quiet h = absurd h
write_device many old new o p refusal.NotLeast quiet h = absurd h

pub write_after : (many : Type 0) (o p : ℕ) (r : Refusal) → IsWriteFault many o p r → IsBefore r → ⊥
write_after many o p refusal.Memory h before = before
write_after many o p refusal.Output h before = before
write_after many o p refusal.TooManyRows h before = before
write_after many o p (refusal.Text r) h before = absurd h
write_after many o p (refusal.Scope r) h before = absurd h
write_after many o p (refusal.Table n r) h before = absurd h
write_after many o p (refusal.TableDevice n) h before = absurd h
write_after many o p (refusal.Schema r) h before = absurd h
write_after many o p (refusal.Statistics r) h before = absurd h
write_after many o p (refusal.Certificate r) h before = absurd h
write_after many o p (refusal.Check r) h before = absurd h
write_after many o p refusal.NotLeast h before = absurd h

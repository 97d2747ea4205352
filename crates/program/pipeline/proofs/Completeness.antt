-- What is asked is asked in one way, so a certificate that can be read and replays for it is accepted.
use Rattle.std.proofs.Common.{◌≡◌, refl, ap, sym, ◌∙◌, ℕ, List, Ok}
use Rattle.values.specs.declared.fault.Fault.{Fault}
use Rattle.values.specs.declared.fault.Fault.TheVariants as fault
use Rattle.values.specs.Faults.{Fails}
use Rattle.schema.specs.declared.schema.Schema.{Schema}
use Rattle.schema.specs.declared.fault.SchemaRefusal.{SchemaRefusal}
use Rattle.schema.specs.Reading.{schema_of}
use Rattle.sql_parse.proofs.OneReadings.{one_tree_of_text, tree_or_fault}
use Rattle.query.specs.declared.query.Query.{Query}
use Rattle.binder.specs.Queries.{bound_statement}
use Rattle.certificate.specs.declared.certificate.Certificate.{Certificate}
use Rattle.certificate.specs.Replay.{replayed}
use Rattle.certificate_text.proofs.Exits.{not_both, same_ok}
use Rattle.pipeline.specs.declared.refusal.Refusal.{Refusal}
use Rattle.pipeline.specs.declared.refusal.Refusal.TheVariants as refusal
use Rattle.pipeline.specs.Certified.{IsCheckFault}
use Rattle.pipeline.specs.EndToEnd.{IsQuery, IsNoQuery}
use Rattle.pipeline.specs.Refusals.{of_schema}

pub schema_read : (schema : List ℕ) (S : Schema) (f : Fault SchemaRefusal) → schema_of schema ≡ Ok S → Fails f (schema_of schema) → of_schema f ≡ refusal.Memory
schema_read schema S fault.Memory is fails = refl
schema_read schema S (fault.Refused r) is fails = absurd (not_both (schema_of schema) r S fails is)

pub query_read : (text : List ℕ) (S : Schema) (q : Query) (r : Refusal) → IsQuery text S q → IsNoQuery text S r → r ≡ refusal.Memory
query_read text S q refusal.Memory is fault_is = refl
query_read text S q (refusal.Text r) is fault_is = absurd (tree_or_fault text is.0 r is.1 fault_is)
query_read text S q (refusal.Scope r) is fault_is = absurd (not_both (bound_statement S is.0) r q (ap (bound_statement S) (one_tree_of_text text is.0 fault_is.0 is.1 fault_is.1) ∙ fault_is.2) is.2)
query_read text S q (refusal.Schema r) is fault_is = absurd fault_is
query_read text S q (refusal.Statistics r) is fault_is = absurd fault_is
query_read text S q (refusal.Certificate r) is fault_is = absurd fault_is
query_read text S q (refusal.Check r) is fault_is = absurd fault_is
query_read text S q refusal.NotLeast is fault_is = absurd fault_is
query_read text S q (refusal.Table n r) is fault_is = absurd fault_is
query_read text S q (refusal.TableDevice n) is fault_is = absurd fault_is
query_read text S q refusal.Output is fault_is = absurd fault_is
query_read text S q refusal.TooManyRows is fault_is = absurd fault_is

pub one_schema : (schema : List ℕ) (S T : Schema) → schema_of schema ≡ Ok S → schema_of schema ≡ Ok T → S ≡ T
one_schema schema S T is are = same_ok (schema_of schema) S T is are

pub one_query : (text : List ℕ) (S : Schema) (q p : Query) → IsQuery text S q → IsQuery text S p → q ≡ p
one_query text S q p is are = same_ok (bound_statement S is.0) q p is.2 (ap (bound_statement S) (one_tree_of_text text is.0 are.0 is.1 are.1) ∙ are.2)

pub check_passes : (q p : Query) (c d : Certificate) (r : Refusal) → q ≡ p → c ≡ d → replayed p d ≡ Ok d → IsCheckFault q c r → r ≡ refusal.Memory
check_passes q p c d refusal.Memory query is replays h = refl
check_passes q p c d (refusal.Check r) query is replays h = absurd (not_both (replayed p d) r d ((λ i. replayed (sym query i) (sym is i)) ∙ h) replays)
check_passes q p c d refusal.NotLeast query is replays h = absurd h
check_passes q p c d (refusal.Schema r) query is replays h = absurd h
check_passes q p c d (refusal.Text r) query is replays h = absurd h
check_passes q p c d (refusal.Scope r) query is replays h = absurd h
check_passes q p c d (refusal.Statistics r) query is replays h = absurd h
check_passes q p c d (refusal.Certificate r) query is replays h = absurd h
check_passes q p c d (refusal.Table n r) query is replays h = absurd h
check_passes q p c d (refusal.TableDevice n) query is replays h = absurd h
check_passes q p c d refusal.Output query is replays h = absurd h
check_passes q p c d refusal.TooManyRows query is replays h = absurd h

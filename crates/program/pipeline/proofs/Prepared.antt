-- What is prepared for a query, and why it is not.
use Rattle.std.proofs.Common.{◌≡◌, refl, sym, subst, ℕ, List, length, Ok}
use Rattle.values.specs.declared.fault.Fault.{Fault}
use Rattle.values.specs.declared.fault.Fault.TheVariants as fault
use Rattle.values.specs.Faults.{Fails}
use Rattle.schema.specs.declared.schema.Schema.{Schema}
use Rattle.schema.specs.Databases.{Database, Satisfies, Stored}
use Rattle.schema.specs.Reading.{schema_of}
use Rattle.sql_parse.specs.declared.statement.Statement.{Statement}
use Rattle.sql_parse.specs.Statements.{ReadsStatement}
use Rattle.query.specs.declared.query.Query.{Query}
use Rattle.binder.specs.declared.fault.BindRefusal.{BindRefusal}
use Rattle.binder.specs.Queries.{bound_statement}
use Rattle.binder.proofs.BoundStatements.{statements_bound, statements_over}
use Rattle.sql_parse.proofs.PlainStatements.{statements_plain}
use Rattle.query.specs.Bound.{IsBoundOver}
use Rattle.pipeline.specs.declared.refusal.Refusal.{Refusal}
use Rattle.pipeline.specs.declared.refusal.Refusal.TheVariants as refusal
use Rattle.pipeline.specs.Refusals.{of_scope}
use Rattle.pipeline.specs.EndToEnd.{Input, Asks, IsQuery, IsNoQuery, TablesReported, IsLoadFault, IsFromFiles, IsUnprepared, IsDeviceFault}

-- ---- the query

pub scope_refused : (text : List ℕ) (S : Schema) (tree : Statement) (f : Fault BindRefusal) → ReadsStatement text tree → Fails f (bound_statement S tree) → IsNoQuery text S (of_scope f)
scope_refused text S tree fault.Memory reads fails = tt
scope_refused text S tree (fault.Refused r) reads fails = (tree, reads, fails)

-- the query that a text is over a schema is bound over it
pub query_bound : (text : List ℕ) (S : Schema) (q : Query) → IsQuery text S q → IsBoundOver S q
query_bound text S q is = record { bound = statements_bound S is.0 q (statements_plain text is.0 is.1) is.2; over = statements_over S is.0 q is.2 }

-- what is prepared of it is that query
pub asks_prepared : (schema text : List ℕ) (S : Schema) (asked query : Query) → schema_of schema ≡ Ok S → IsQuery text S asked → query ≡ asked → Asks schema text S query
asks_prepared schema text S asked query is asks same = record { is_schema = is; is_query = subst (IsQuery text S) (sym same) asks }

pub no_query_unprepared : (text : List ℕ) (S : Schema) (inputs : List Input) (r : Refusal) → IsNoQuery text S r → IsUnprepared S text inputs r
no_query_unprepared text S inputs refusal.Memory h = tt
no_query_unprepared text S inputs (refusal.Text r) h = h
no_query_unprepared text S inputs (refusal.Scope r) h = h
no_query_unprepared text S inputs (refusal.Schema r) h = absurd h
no_query_unprepared text S inputs (refusal.Statistics r) h = absurd h
no_query_unprepared text S inputs (refusal.Certificate r) h = absurd h
no_query_unprepared text S inputs (refusal.Check r) h = absurd h
no_query_unprepared text S inputs refusal.NotLeast h = absurd h
no_query_unprepared text S inputs (refusal.Table n r) h = absurd h
no_query_unprepared text S inputs (refusal.TableDevice n) h = absurd h
no_query_unprepared text S inputs refusal.Output h = absurd h
no_query_unprepared text S inputs refusal.TooManyRows h = absurd h

-- where there is no query no device was asked
pub no_query_quiet : (text : List ℕ) (S : Schema) (counts : List ℕ) (r : Refusal) → IsNoQuery text S r → IsDeviceFault counts counts 0 0 r
no_query_quiet text S counts refusal.Memory h = (λ n. refl, refl)
no_query_quiet text S counts (refusal.Text r) h = (λ n. refl, refl)
no_query_quiet text S counts (refusal.Scope r) h = (λ n. refl, refl)
no_query_quiet text S counts (refusal.Schema r) h = absurd h
no_query_quiet text S counts (refusal.Statistics r) h = absurd h
no_query_quiet text S counts (refusal.Certificate r) h = absurd h
no_query_quiet text S counts (refusal.Check r) h = absurd h
no_query_quiet text S counts refusal.NotLeast h = absurd h
no_query_quiet text S counts (refusal.Table n r) h = absurd h
no_query_quiet text S counts (refusal.TableDevice n) h = absurd h
no_query_quiet text S counts refusal.Output h = absurd h
no_query_quiet text S counts refusal.TooManyRows h = absurd h

-- ---- the tables

pub load_unprepared : (text : List ℕ) (S : Schema) (q : Query) (inputs : List Input) (r : Refusal) → IsQuery text S q → IsLoadFault S inputs r → IsUnprepared S text inputs r
load_unprepared text S q inputs refusal.Memory is h = tt
load_unprepared text S q inputs (refusal.TableDevice n) is h = (q, is, h)
load_unprepared text S q inputs (refusal.Table n r) is h = (q, is, h)
load_unprepared text S q inputs refusal.Output is h = absurd h
load_unprepared text S q inputs refusal.TooManyRows is h = absurd h
load_unprepared text S q inputs (refusal.Schema r) is h = absurd h
load_unprepared text S q inputs (refusal.Text r) is h = absurd h
load_unprepared text S q inputs (refusal.Scope r) is h = absurd h
load_unprepared text S q inputs (refusal.Statistics r) is h = absurd h
load_unprepared text S q inputs (refusal.Certificate r) is h = absurd h
load_unprepared text S q inputs (refusal.Check r) is h = absurd h
load_unprepared text S q inputs refusal.NotLeast is h = absurd h

-- a database of the schema, whose tables are all read
pub from_files : (S : Schema) (inputs : List Input) (n : ℕ) (d : Stored) → d.schema ≡ S → n ≡ length S.tables → TablesReported S inputs n d.tables → Satisfies d.schema d.tables → IsFromFiles S inputs d
from_files S inputs n d over all reported satisfies = record { is_over = over; reported = rw (← all) reported; satisfies = rw (← over) satisfies }

-- a database satisfies its schema
pub satisfied_by : (S : Schema) (D : Database) (d : Stored) → record { schema = S; tables = D } ≡ d → Satisfies S D → Satisfies d.schema d.tables
satisfied_by S D d is h = rw (← is) h

-- The answer that a plan gives, and that the plan may be run.
use Rattle.std.proofs.Common.{◌≡◌, ap, sym, subst, ◌∙◌, ℕ, false, List, Option, map}
use Rattle.schema.specs.declared.schema.Schema.{Schema}
use Rattle.schema.specs.Databases.{Database, Satisfies}
use Rattle.query.specs.declared.query.TableInstance.{TableInstance}
use Rattle.query.specs.declared.query.Query.{Query}
use Rattle.query.specs.Answer.{IsAnswer}
use Rattle.query.specs.Aggregates.{AreShortTables}
use Rattle.query.specs.Rows.{tables_of}
use Rattle.query.proofs.ShortTables.{satisfying_short}
use Rattle.certificate.specs.declared.certificate.Certificate.{Certificate}
use Rattle.algebra.specs.Bags.{nulls}
use Rattle.frame.specs.Frames.{query_numbers}
use Rattle.physical.specs.Outputs.{output_rows}
use Rattle.certificate.specs.QueryOrders.{answer}
use Rattle.certificate.specs.Replay.{IsChecked}
use Rattle.operators.specs.Runnable.{IsRunnable}
use Rattle.measures.specs.declared.measured.Measure.{Measure}
use Rattle.measures.specs.Measures.{AreMeasured, plans_run}

-- the rows that a plan produces, read in the query's columns, are its answer
pub answer_of : (q r : Query) (U V : Certificate) (S : Schema) (tables D : Database) (columns : List ℕ) (instances : List TableInstance) → columns ≡ query_numbers q → instances ≡ q.tables → q ≡ r → U ≡ V
    → tables ≡ D → map (λ e. map e columns) (output_rows instances (tables_of S tables) U.plan nulls) ≡ answer r (tables_of S D) V.plan
answer_of q r U V S tables D columns instances shows same_instances same proof given =
    ap (λ cs. map (λ e. map e cs) (output_rows instances (tables_of S tables) U.plan nulls)) shows
    ∙ ap (λ us. map (λ e. map e (query_numbers q)) (output_rows us (tables_of S tables) U.plan nulls)) same_instances ∙ ap (λ p. answer p (tables_of S tables) U.plan) same
    ∙ ap (λ (W : Certificate). answer r (tables_of S tables) W.plan) proof ∙ ap (λ ts. answer r (tables_of S ts) V.plan) given

-- in a database of the schema that it was checked with it answers the query
pub answers_of : (S T : Schema) (q : Query) (V : Certificate) (D : Database) → IsChecked S q V → Satisfies T D → S ≡ T → IsAnswer q (tables_of T D) (answer q (tables_of T D) V.plan)
answers_of S T q V D checked satisfies same =
    let Answers : Schema → Type 0 = λ U. Satisfies U D → IsAnswer q (tables_of U D) (answer q (tables_of U D) V.plan) in
    subst Answers same (checked.answers D) satisfies

-- ---- what it needs to be run

-- the groups of a checked plan aggregate values of tables alone, and its nodes get the orders that they require
pub runnable_of : (S : Schema) (q r : Query) (U V : Certificate) (instances : List TableInstance) → instances ≡ r.tables → r ≡ q → U ≡ V → IsChecked S q V → IsRunnable instances U.plan
runnable_of S q r U V instances same_instances same proof checked =
    let is : instances ≡ q.tables = same_instances ∙ ap (λ (x : Query). x.tables) same in
    subst (λ us. IsRunnable us U.plan) (sym is)
    (subst (λ (W : Certificate). IsRunnable q.tables W.plan) (sym proof) (record { reads = checked.reads; sorted = checked.sorted }))

-- whose numbers have 64 bits
pub short_of : (S : Schema) (tables D : Database) → tables ≡ D → Satisfies S D → (T : Schema) → AreShortTables (tables_of T tables)
short_of S tables D given satisfies T = subst (λ ts. AreShortTables (tables_of T ts)) (sym given) (satisfying_short S D satisfies)

-- ---- what is measured of it

pub measured_of : (q r : Query) (U V : Certificate) (S : Schema) (tables D : Database) (instances : List TableInstance) (all : List (Option Measure)) → instances ≡ q.tables → q ≡ r → U ≡ V → tables ≡ D
    → AreMeasured instances (tables_of S tables) (plans_run false U.plan) all → AreMeasured r.tables (tables_of S D) (plans_run false V.plan) all
measured_of q r U V S tables D instances all same_instances same proof given measured =
    subst (λ ts. AreMeasured r.tables (tables_of S ts) (plans_run false V.plan) all) given
    (subst (λ (W : Certificate). AreMeasured r.tables (tables_of S tables) (plans_run false W.plan) all) proof
    (subst (λ us. AreMeasured us (tables_of S tables) (plans_run false U.plan) all) (same_instances ∙ ap (λ (x : Query). x.tables) same) measured))

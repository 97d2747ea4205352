-- The plan of a certificate that replays gives answers of its query.
use Rattle.std.proofs.Common.{◌≡◌, refl, ap, sym, ◌∙◌, ℕ, ◌+◌, ◌<◌, Bool, true, if◌then◌else◌, List, [], ◌∷◌, ◌++◌, map, length, reverse, Result, Ok, arith}
use Rattle.std.specs.List.{AllByRecursion}
use Rattle.std.proofs.lemmas.List.{map-append, reverse-append, length-reverse}
use Rattle.values.specs.Faults.{◌>>=◌}
use Rattle.values.proofs.Results.{both_ok}
use Rattle.schema.specs.declared.schema.Schema.{Schema}
use Rattle.schema.specs.declared.schema.Table.{Table}
use Rattle.schema.specs.Databases.{Row, Database, Satisfies, SatisfyTables, IsUnique}
use Rattle.schema.proofs.EmptyTables.{no-rows}
use Rattle.query.specs.declared.query.Query.{Query}
use Rattle.query.specs.declared.query.TableInstance.{TableInstance}
use Rattle.query.specs.Bound.{IsBoundOver, TablesAreOver}
use Rattle.query.specs.Rows.{Tables, tables_of, same_rows, count}
use Rattle.query.proofs.ShortTables.{satisfying_short}
use Rattle.query.proofs.TableInstances.{instances-wide}
use Rattle.query.proofs.Widths.{satisfying_fits}
use Rattle.algebra.specs.declared.expr.Expr.{Expr}
use Rattle.algebra.specs.Bags.{Env, SameRows, nulls, total}
use Rattle.algebra.specs.Classes.{class_columns, class_rows, root_rows}
use Rattle.frame.specs.Frames.{query_frame, query_numbers, query_shown}
use Rattle.frame.specs.FormedFrames.{own_aggregates, own_apart}
use Rattle.frame.proofs.FrameMeaning.{frame_means}
use Rattle.frame.proofs.FormedQueries.{frames_formed}
use Rattle.derivation.specs.declared.line.Line.{Line}
use Rattle.derivation.specs.declared.line.Line.TheVariants.{Founds}
use Rattle.derivation.specs.Laws.{IsTrue}
use Rattle.derivation.specs.Logs.{Log, entry, entries}
use Rattle.derivation.proofs.Truth.{logs_true}
use Rattle.physical.specs.declared.plan.Plan.{Plan, out-Plan}
use Rattle.physical.specs.Origins.{plan_origin}
use Rattle.physical.specs.Outputs.{output_rows}
use Rattle.physical.specs.Orders.{plan_order}
use Rattle.physical.specs.RequiredOrders.{plan_supply}
use Rattle.physical.proofs.Deliveries.{plans_deliver}
use Rattle.physical.proofs.RequiredOrders.{supplied}
use Rattle.certificate.specs.declared.certificate.Certificate.{Certificate}
use Rattle.certificate.specs.declared.certificate.CheckRefusal.{CheckRefusal}
use Rattle.certificate.specs.Replay.{lines_replay, node_fits, plan_fits, fitted_plan, is_delivered, root, replayed, ReplayIsSound}
use Rattle.certificate.proofs.ClassOutputs.{IsOfClass, of_class}
use Rattle.certificate.proofs.Fits.{after_node, after-is, plan_fits_out}
use Rattle.certificate.proofs.FrameLines.{founded-entries}
use Rattle.certificate.proofs.Founded.{begins, later, log-replays, map-reverse, turned}
use Rattle.certificate.proofs.Ordered.{delivered-allowed}
use Rattle.certificate.proofs.StoredPlans.{plan-reads}

-- ---- the root

-- a log that begins with the frame's lines founds the query's class
root-is : (q : Query) → 0 < length (query_frame q) → (D : Tables) (lines rest : List Line) (e : Env) → lines ≡ map Founds (query_frame q) ++ rest → class_rows q.tables D (entries (reverse lines)) (root q) e ≡ root_rows q.tables D (query_frame q) e
root-is q some D lines rest e is =
    let frame : List Expr = query_frame q in
    let count : length (reverse frame) ≡ length frame = length-reverse frame in
    let all : entries (reverse lines) ≡ reverse (map entry rest) ++ reverse frame =
    map-reverse entry lines ∙ ap (λ ls. reverse (map entry ls)) is ∙ ap reverse (map-append entry (map Founds frame) rest) ∙ ap (λ K. reverse (K ++ map entry rest)) (founded-entries frame) ∙ reverse-append frame (map entry rest) in
    ap (λ E. class_rows q.tables D E (root q) e) all ∙ later q.tables D (reverse (map entry rest)) (reverse frame) (root q) e (omega (arith, some, count))

-- a plan that fits delivers the order that is wanted
ordered-is : (instances : List TableInstance) (E : Log) (cols : ℕ → List ℕ) (p : Plan) (ordered : Bool) (g n m : ℕ) → plan_fits instances E cols p ordered g n ≡ Ok m → ordered ≡ true
ordered-is instances E cols p ordered g n m fits =
    let node = (out-Plan p).node in
    let after : List ℕ → Result ℕ CheckRefusal = after_node cols node (map (plan_order instances) (out-Plan p).inputs) (map (plan_fits instances E cols) (out-Plan p).inputs) ordered n in
    let first = both_ok (node_fits instances E cols node (length (out-Plan p).inputs) g n) after m (sym (plan_fits_out instances E cols p ordered g n) ∙ fits) in
    (after-is cols node (map (plan_order instances) (out-Plan p).inputs) (map (plan_fits instances E cols) (out-Plan p).inputs) ordered n m first.0 first.2).delivered

-- what a certificate that replays leaves: a log, and a plan that fits
pub record IsReplayed (q : Query) (c : Certificate) : Type 0 where
  pub log : Log
  pub is_log : lines_replay q [] c.lines ≡ Ok log
  pub last : ℕ
  pub fits : plan_fits q.tables log (class_columns q.tables (entries log)) c.plan (is_delivered q c.plan) (root q) (length log) ≡ Ok last

pub replayed-is : (q : Query) (c d : Certificate) → replayed q c ≡ Ok d → IsReplayed q c
unfolding replayed
replayed-is q c d ok =
    let first = both_ok (lines_replay q [] c.lines) (λ E. fitted_plan q E c.plan >>= λ p. Ok c) d ok in
    let second = both_ok (fitted_plan q first.0 c.plan) (λ p. Ok c) d first.2 in
    let third = both_ok (plan_fits q.tables first.0 (class_columns q.tables (entries first.0)) c.plan (is_delivered q c.plan) (root q) (length first.0)) (λ n. Ok c.plan) second.0 second.1 in
    record { log = first.0; is_log = first.1; last = third.0; fits = third.1 }

-- what its log says is true in each database that satisfies the schema
pub log-true : (S : Schema) (D : Database) (q : Query) → Satisfies S D → TablesAreOver S q → (c : Certificate) (is : IsReplayed q c) → IsTrue q.tables (own_aggregates q) (tables_of S D) is.log
log-true S D q satisfies over c is = logs_true S D satisfies q.tables over (own_aggregates q) is.log (log-replays q c.lines [] is.log tt is.is_log)

record IsRootOutput (q : Query) (c : Certificate) (D : Tables) : Type 0 where
  rows : (e : Env) → SameRows (output_rows q.tables D c.plan e) (root_rows q.tables D (query_frame q) e)
  ordered : is_delivered q c.plan ≡ true

root-output : (q : Query) → 0 < length (query_frame q) → (c : Certificate) (D : Tables) (is : IsReplayed q c) → IsTrue q.tables (own_aggregates q) D is.log → IsRootOutput q c D
root-output q some c D is is_true =
    let begin = begins q c.lines [] is.log is.is_log in
    let turn : is.log ≡ reverse c.lines = turned q c.lines [] is.log is.is_log in
    let out : IsOfClass q.tables (own_aggregates q) D is.log is_true c.plan (root q) = of_class q.tables (own_aggregates q) D is.log is_true c.plan (is_delivered q c.plan) (root q) (length is.log) is.last is.fits in
    record {
      rows = λ e f. out.output.rows e f ∙ ap (total f) (ap (λ E. class_rows q.tables D (entries E) (root q) e) turn ∙ root-is q some D c.lines begin.0 e begin.1);
      ordered = ordered-is q.tables is.log (class_columns q.tables (entries is.log)) c.plan (is_delivered q c.plan) (root q) (length is.log) is.last is.fits;
    }

-- ---- a database without rows

-- what is said of the plan alone: its groups aggregate values of tables, and its nodes get the orders that they require
record IsOfTables (instances : List TableInstance) (p : Plan) : Type 0 where
  reads : (plan_origin instances p).reads ≡ true
  sorted : (plan_supply instances p).sorted ≡ true

-- so it is of a plan that fits: its columns and its lines' forms are those over tables without rows
fitting-is : (S : Schema) (q : Query) → IsBoundOver S q → own_apart q ≡ true → (c : Certificate) → IsReplayed q c → IsOfTables q.tables c.plan
fitting-is S q bound apart c is =
    let D : Database = map (λ t. []) S.tables in
    let satisfies : Satisfies S D = no-rows S.tables in
    let T : Tables = tables_of S D in
    let true_ = log-true S D q satisfies bound.over c is in
    record {
      reads = plan-reads q.tables (own_aggregates q) apart T (satisfying_short S D satisfies) is.log true_ c.plan (is_delivered q c.plan) (root q) (length is.log) is.last is.fits;
      sorted = (of_class q.tables (own_aggregates q) T is.log true_ c.plan (is_delivered q c.plan) (root q) (length is.log) is.last is.fits).sorted;
    }

-- ---- the answer

-- how often a row stands among shown ones is a sum over them
count-shown : (q : Query) (r : Row) (rows : List Env) → count r (query_shown q rows) ≡ total (λ s. if same_rows r (map s (query_numbers q)) then 1 else 0) rows
count-shown q r [] = refl
count-shown q r (s ∷ rows) = ap (λ n. (if same_rows r (map s (query_numbers q)) then 1 else 0) + n) (count-shown q r rows)

pub checked : ReplayIsSound
checked S q bound c ok =
    let formed = frames_formed q bound.bound in
    let is = replayed-is q c c ok in
    let plan = fitting-is S q bound formed.apart c is in
    record {
      replays = ok;
      reads = plan.reads;
      sorted = plan.sorted;
      answers = λ D satisfies.
          let T : Tables = tables_of S D in
          let root = root-output q formed.some c T is (log-true S D q satisfies bound.over c is) in
          record {
            spread = λ r. count-shown q r (output_rows q.tables T c.plan nulls) ∙ root.rows nulls (λ s. if same_rows r (map s (query_numbers q)) then 1 else 0) ∙ sym (count-shown q r (root_rows q.tables T (query_frame q) nulls))
                ∙ frame_means q bound.bound T (satisfying_fits S D satisfies) (instances-wide S D q.tables bound.over) nulls r;
            ordered = delivered-allowed q c.plan (output_rows q.tables T c.plan nulls) root.ordered (plans_deliver q.tables T c.plan nulls ((supplied q.tables c.plan).stands plan.sorted));
          };
    }

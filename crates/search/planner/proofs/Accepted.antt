-- The check accepts a canonical certificate.
use Rattle.std.proofs.Common.{◌≡◌, refl, sym, subst, ℕ, true, List, map, length, reverse, Ok}
use Rattle.query.specs.declared.query.Query.{Query}
use Rattle.query.specs.Bound.{is_bound}
use Rattle.algebra.specs.declared.expr.Expr.{Expr}
use Rattle.algebra.specs.Classes.{class_columns}
use Rattle.algebra.specs.Columns.{is_subset}
use Rattle.frame.specs.Frames.{query_frame, query_numbers}
use Rattle.frame.proofs.FormedQueries.{frames_formed}
use Rattle.derivation.specs.declared.line.Line.TheVariants.{Founds}
use Rattle.derivation.specs.Logs.{Log, entries}
use Rattle.physical.specs.declared.plan.Plan.{Plan}
use Rattle.certificate.specs.QueryOrders.{query_order}
use Rattle.certificate.specs.declared.certificate.Certificate.{Certificate}
use Rattle.certificate.specs.Replay.{root, replayed}
use Rattle.certificate.proofs.FrameLines.{founded-entries, frame_replays}
use Rattle.planner.specs.Canonical.{log_of, top, IsPlanOf}
use Rattle.planner.proofs.OrderedPlans.{order_subset, top_fits, top_delivered}

-- the frame's lines, and a plan of its last class with the sort on top
pub canonical_replays : (q : Query) → is_bound q ≡ true → (V : Certificate) (below : Plan) → V.lines ≡ map Founds (query_frame q) → V.plan ≡ top (query_order q) below
    → IsPlanOf (query_frame q) (root q) below → replayed q V ≡ Ok V
unfolding replayed
canonical_replays q bound V below lines plan is =
    let frame : List Expr = query_frame q in
    let E : Log = log_of frame in
    let cols : ℕ → List ℕ = class_columns q.tables (entries E) in
    let shown = subst (λ L. is_subset (query_numbers q) (class_columns q.tables L (root q)) ≡ true) (sym (founded-entries (reverse frame))) (frames_formed q bound).shown in
    let fits = top_fits q.tables frame cols (query_order q) below (root q) (length E) is (order_subset q (cols (root q)) shown) in
    rw (lines, frame_replays q bound, plan, top_delivered q below, fits.1) refl

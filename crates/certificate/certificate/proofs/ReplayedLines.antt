-- One line more of a certificate, behind those of a log, and a plan behind all of them.
use Rattle.std.proofs.Common.{◌≡◌, refl, ap, sym, ◌∙◌, subst, ℕ, ◌+◌, ◌<◌, Bool, true, false, List, [], ◌∷◌, length, drop, get_or, slice_get, Option, Result, Ok, Err}
use Rattle.values.specs.Faults.{◌>>=◌, Fails, wanted_if}
use Rattle.values.specs.declared.fault.Fault.{Fault}
use Rattle.values.specs.declared.fault.Fault.TheVariants.{Memory, Refused}
use Rattle.values.proofs.Lists.{drop_next}
use Rattle.query.specs.declared.query.Query.{Query}
use Rattle.query.specs.declared.query.TableInstance.{TableInstance}
use Rattle.algebra.specs.declared.expr.Expr.{Expr}
use Rattle.algebra.specs.declared.expr.Aggregation.{Aggregation}
use Rattle.frame.specs.Frames.{query_frame}
use Rattle.frame.specs.FormedFrames.{own_aggregates}
use Rattle.derivation.specs.declared.line.Line.{Line}
use Rattle.derivation.specs.declared.line.LineReason.{LineReason}
use Rattle.derivation.specs.Logs.{Log}
use Rattle.derivation.specs.Replay.{stands}
use Rattle.physical.specs.declared.plan.Plan.{Plan}
use Rattle.certificate.specs.declared.certificate.Certificate.{Certificate}
use Rattle.certificate.specs.declared.certificate.CheckReason.TheVariants.{OtherLine}
use Rattle.certificate.specs.declared.certificate.CheckRefusal.{CheckRefusal}
use Rattle.certificate.specs.Replay.{refusal, at_line, is_frame_line, line_replays, lines_replay, fitted_plan, replayed}

-- ---- a line

-- its copy stands as it does
pub stands_as : (q : Query) (E : Log) (line copy : Line) (instances : List TableInstance) (own : List Aggregation) → instances ≡ q.tables → own ≡ own_aggregates q → copy ≡ line
    → stands instances own E copy ≡ stands q.tables (own_aggregates q) E line
stands_as q E line copy instances own same_instances aggregates same = rw (same_instances, aggregates, same) refl

-- a fault of a first step is one of both
fails-first : {A B R : Type 0} (f : Fault R) (x : Result A R) (next : A → Result B R) → Fails f x → Fails f (x >>= next)
fails-first Memory x next fails = tt
fails-first (Refused r) x next fails = ap (λ y. y >>= next) fails

pub refused_line : (q : Query) (E : Log) (line : Line) (n : ℕ) (f : Fault CheckRefusal) → n ≡ length E → Fails f (at_line n (stands q.tables (own_aggregates q) E line)) → Fails f (line_replays q E line)
refused_line q E line n f count fails =
    fails-first f (at_line (length E) (stands q.tables (own_aggregates q) E line)) (λ l. wanted_if (refusal (length E) OtherLine) (is_frame_line (slice_get (query_frame q) (length E)) l) l)
    (subst (λ k. Fails f (at_line k (stands q.tables (own_aggregates q) E line))) count fails)

-- a line that may stand is the frame's, or not
pub framed_line : (q : Query) (E : Log) (line : Line) (n : ℕ) (frame : List Expr) (b : Bool) → stands q.tables (own_aggregates q) E line ≡ Ok line → n ≡ length E → frame ≡ query_frame q → b ≡ is_frame_line (slice_get frame n) line
    → line_replays q E line ≡ wanted_if (refusal n OtherLine) b line
framed_line q E line n frame b stands_there count is framed = rw (framed, is, count, stands_there) refl

-- ---- a certificate

pub certificate_replays : (q : Query) (V : Certificate) (lines : List Line) (E : Log) → lines ≡ V.lines → lines_replay q [] lines ≡ Ok E → fitted_plan q E V.plan ≡ Ok V.plan → replayed q V ≡ Ok V
unfolding replayed
certificate_replays q V lines E is replay fits =
    let last : Plan → Result Certificate CheckRefusal = λ p. Ok V in
    let next : Log → Result Certificate CheckRefusal = λ E. fitted_plan q E V.plan >>= last in
    ap (λ L. lines_replay q [] L >>= next) (sym is) ∙ ap (λ r. r >>= next) replay ∙ ap (λ r. r >>= last) fits

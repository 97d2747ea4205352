-- Logs of a query: of the lines that found its frame, and of those behind which a log is served.
use Rattle.std.proofs.Common.{◌≡◌, refl, ap, sym, ◌∙◌, subst, ℕ, ◌≤◌, List, [], length, map, max, reverse, true, arith}
use Rattle.std.proofs.lemmas.List.{length-map, length-reverse}
use Rattle.query.specs.declared.query.Query.{Query}
use Rattle.query.specs.declared.query.TableInstance.{TableInstance}
use Rattle.query.specs.Bound.{is_bound}
use Rattle.algebra.specs.declared.expr.Aggregation.{Aggregation}
use Rattle.frame.specs.Frames.{query_frame}
use Rattle.frame.specs.FormedFrames.{own_aggregates}
use Rattle.derivation.specs.declared.line.Line.{Line}
use Rattle.derivation.specs.declared.line.Line.TheVariants.{Founds}
use Rattle.derivation.specs.Logs.{Log}
use Rattle.derivation.specs.Replay.{Replays}
use Rattle.logs.specs.Logged.{Logged}
use Rattle.bindings.specs.Lean.{IsLean, named_by}
use Rattle.lean_logs.proofs.Serving.{served_at_first, served_ends, served_is_lean}
use Rattle.certificate.proofs.Founded.{log-replays, map-reverse}
use Rattle.certificate.proofs.FrameLines.{frame_replays}
use Rattle.lean_logs.specs.Growth.{Extends, IsServed}
use Rattle.planner.specs.Searched.{IsLogOf, IsLeanBehind, frame_lines, framed}

pub same-log : (I J : List TableInstance) (O P : List Aggregation) (L M : List Line) → I ≡ J → O ≡ P → L ≡ M
    → ◌≡◌ {A = Logged} (record { instances = I; own = O; log = reverse L }) (record { instances = J; own = P; log = reverse M })
same-log I J O P L M instances own lines = cc

module _ (q : Query) where
  abbrev log_with : List Line → Logged
  log_with lines = record { instances = q.tables; own = own_aggregates q; log = reverse lines }

  founded : (known : List Line) → known ≡ map Founds (query_frame q) → reverse known ≡ frame_lines q
  founded known lines = ap reverse lines ∙ sym (map-reverse Founds (query_frame q))

  pub frame-log : (known : List Line) (log : Logged) → known ≡ map Founds (query_frame q) → log ≡ log_with known → log ≡ framed q
  frame-log known log lines is = is ∙ ap (λ E. record { instances = q.tables; own = own_aggregates q; log = E }) (founded known lines)

  pub frame-stands : is_bound q ≡ true → (known : List Line) → known ≡ map Founds (query_frame q) → Replays q.tables (own_aggregates q) (reverse known)
  frame-stands bound known lines =
      subst (Replays q.tables (own_aggregates q)) (sym (founded known lines)) (log-replays q (map Founds (query_frame q)) [] (frame_lines q) tt (frame_replays q bound))

  -- ---- lean logs

  pub served_log : (l : Logged) → IsServed (framed q) l → IsLogOf q l
  served_log l is = record { instances = is.grows.instances; own = is.grows.own; rest = is.grows.more; log_is = is.grows.log }

  frame-count : length (frame_lines q) ≡ length (query_frame q)
  frame-count = length-map (reverse (query_frame q)) Founds ∙ length-reverse (query_frame q)

  pub lean_behind : (E : Log) → IsLean q.tables named_by (length (frame_lines q)) E → IsLeanBehind q E
  lean_behind E is = subst (λ n. IsLean q.tables named_by n E) frame-count is

  pub served_lean : (l : Logged) → IsServed (framed q) l → IsLeanBehind q l.log
  served_lean l is = lean_behind l.log (served_is_lean (framed q) l is)

  -- ---- logs that are judged

  pub judged_behind : (a l : Logged) → a ≡ framed q → IsServed a l → IsServed (framed q) l
  judged_behind a l is served = subst (λ b. IsServed b l) is served

  pub judged_within : (limit : ℕ) (a l : Logged) → a ≡ framed q → Extends limit a l → length l.log ≤ max limit (length (query_frame q))
  judged_within limit a l is extends =
      let within : length l.log ≤ max limit (length a.log) = extends.within in
      let count : length a.log ≡ length (query_frame q) = ap (λ (b : Logged). length b.log) is ∙ frame-count in
      omega (arith, within, count)

  pub judged_frame : (l : Logged) → l ≡ framed q → IsServed (framed q) l
  judged_frame l is = subst (IsServed (framed q)) (sym is) (served_ends (framed q) (framed q) (served_at_first (framed q)))

  pub frame_within : (limit : ℕ) (l : Logged) → l ≡ framed q → length l.log ≤ max limit (length (query_frame q))
  frame_within limit l is = let count : length l.log ≡ length (query_frame q) = ap (λ (b : Logged). length b.log) is ∙ frame-count in omega (arith, count)

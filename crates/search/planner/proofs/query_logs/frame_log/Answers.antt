use Rattle.std.proofs.Common.{◌≡◌, ap, sym, ◌∙◌, subst, reverse, Option}
use Rattle.std.specs.Option.{IfSome}
use Rattle.query.specs.declared.query.Query.{Query}
use Rattle.frame.specs.FormedFrames.{own_aggregates}
use Rattle.derivation.specs.Replay.{Replays}
use Rattle.logs.specs.Logged.{Logged}
use Rattle.planner.proofs.QueryLogs.{frame-log, frame-stands, same-log}
use Rattle.planner.proofs.query_logs.frame_log.Goals as goal

pub unreachable-requires : goal.unreachable-requires
unreachable-requires c =
    let q : Query = c.args.planning.query.now in
    let tables : c.as_slice-tables.result.now ≡ q.tables = c.as_slice-tables.ensures ∙ ap (λ (q : Query). q.tables) c.query.ensures.query in
    let stands = frame-stands q c.requires.ready.bound c.args.planning.known.now.lines c.requires.ready.known.lines in
    c.in_ok-log.ensures.none c.in-None.is
    (subst (λ I. Replays I c.own.result.now (reverse c.as_slice.result.now)) (sym tables)
    (subst (λ O. Replays q.tables O (reverse c.as_slice.result.now)) (sym c.own.ensures)
    (subst (λ L. Replays q.tables (own_aggregates q) (reverse L)) (sym c.as_slice.ensures) stands)))

pub returns : goal.returns
returns c =
    let q : Query = c.args.planning.query.now in
    let tables : c.as_slice-tables.result.now ≡ q.tables = c.as_slice-tables.ensures ∙ ap (λ (q : Query). q.tables) c.query.ensures.query in
    let given : c.in-Some.log ≡ record { instances = c.as_slice-tables.result.now; own = c.own.result.now; log = reverse c.as_slice.result.now }
    = subst (λ (o : Option Logged). IfSome o (λ log. log ≡ record { instances = c.as_slice-tables.result.now; own = c.own.result.now; log = reverse c.as_slice.result.now })) c.in-Some.is c.in_ok-log.ensures.some in
    frame-log q c.args.planning.known.now.lines c.in-Some.log c.requires.ready.known.lines (given ∙ same-log _ _ _ _ _ _ tables c.own.ensures c.as_slice.ensures)

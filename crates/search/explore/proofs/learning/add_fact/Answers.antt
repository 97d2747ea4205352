use Rattle.std.proofs.Common.{◌<◌, ◌≤◌, subst, length, arith}
use Rattle.derivation.specs.Replay.{Replays}
use Rattle.logs.specs.Logged.{Logged}
use Rattle.lean_logs.specs.Growth.{Extends}
use Rattle.lean_logs.proofs.Growth.{extended_along}
use Rattle.explore.proofs.Along.{grown_along, longer}
use Rattle.explore.proofs.Missing.{fact_says}
use Rattle.closure.proofs.MissingLines.{gives_stands}
use Rattle.explore.proofs.learning.add_fact.Goals as goal

pub returns-clause-extends : goal.returns-clause-extends
returns-clause-extends c = extended_along _ _ _ _ c.learn.ensures.extends (subst (λ n. Extends n c.learn.new.memo.log c.learn_all.new.memo.log) c.learn.ensures.limit c.learn_all.ensures.extends)

pub returns-in_err-learn_all-clause-extends : goal.returns-in_err-learn_all-clause-extends
returns-in_err-learn_all-clause-extends c = extended_along _ _ _ _ c.learn.ensures.extends (subst (λ n. Extends n c.learn.new.memo.log c.learn_all.new.memo.log) c.learn.ensures.limit c.learn_all.ensures.extends)

pub returns-clause-lean : goal.returns-clause-lean
returns-clause-lean c = (grown_along _ _ _ _ _ (record { extends = c.learn.ensures.extends; lean = c.in_ok-learn.ensures.lean }) c.learn.ensures.limit c.learn_all.ensures.extends c.in_ok-learn_all.ensures.lean).lean

pub returns-clause-added : goal.returns-clause-added
returns-clause-added c =
    let log = c.args.memo.now.log in
    let more : length log.log < length c.learn.new.memo.log.log = c.in_ok-learn.ensures.added c.requires.room (gives_stands log.instances log.own log.log (subst (λ (l : Logged). Replays l.instances l.own l.log) c.log.ensures c.lines-replays.ensures.replays) c.args.class c.args.line c.args.fact c.requires.lacks) (fact_says log.instances log.log c.args.class c.args.line c.args.fact c.requires.lacks) in
    let rest : length c.learn.new.memo.log.log ≤ length c.learn_all.new.memo.log.log = longer _ _ c.learn_all.ensures.extends.grows in
    omega (arith, more, rest)

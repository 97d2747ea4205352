use Rattle.std.proofs.Common.{refl, subst}
use Rattle.algebra.proofs.MentionedColumns.{on_ok}
use Rattle.lean_logs.proofs.Growth.{lean_fills}
use Rattle.closure.specs.Lacking.{IsMissing}
use Rattle.closure.proofs.MissingLines.{alike_stands, lacking_gives}
use Rattle.explore.proofs.Along.{where_ok}
use Rattle.explore.proofs.Missing.{alike_says, stands_not}
use Rattle.explore.proofs.exploring.add_missing.Goals as goal

pub returns-in-Alike-clause-added : goal.returns-in-Alike-clause-added
returns-in-Alike-clause-added c =
    let log = c.args.memo.now.log in
    let lacks = subst (IsMissing log.instances log.log) c.in-Alike.is c.requires.lacks in
    on_ok c.add.result (λ added. added c.requires.room (alike_stands log.instances log.own log.log c.in-Alike.first c.in-Alike.second lacks) (alike_says log.instances log.log c.in-Alike.first c.in-Alike.second lacks)) c.add.ensures.added

pub returns-in-Alike-clause-fills : goal.returns-in-Alike-clause-fills
returns-in-Alike-clause-fills c = where_ok c.add.result (lean_fills _ _ _ (c.add.ensures.lean refl))

pub returns-in-Fact-clause-fills : goal.returns-in-Fact-clause-fills
returns-in-Fact-clause-fills c = on_ok c.add_fact.result (λ lean. lean_fills _ _ _ lean) c.add_fact.ensures.lean

pub add_result-requires : goal.add_result-requires
add_result-requires c =
    let log = c.args.memo.now.log in
    lacking_gives log.instances log.log c.in-Result.binding (subst (IsMissing log.instances log.log) c.in-Result.is c.requires.lacks)

pub returns-in-Result-clause-added : goal.returns-in-Result-clause-added
returns-in-Result-clause-added c =
    let log = c.args.memo.now.log in
    on_ok c.add_result.result (λ added. stands_not log c.in-Result.binding _ (subst (IsMissing log.instances log.log) c.in-Result.is c.requires.lacks) (added c.requires.room)) c.add_result.ensures.added

use Rattle.std.proofs.Common.{◌≡◌, ap, sym, ◌∙◌, reverse, Ok}
use Rattle.std.proofs.lemmas.List.{reverse-reverse}
use Rattle.query.specs.declared.query.Query.{Query}
use Rattle.statistics.specs.declared.counts.Statistics.{Statistics}
use Rattle.certificate.specs.Replay.{replayed}
use Rattle.planner.specs.NotDearer.{IsNotDearer}
use Rattle.planner.proofs.ChosenPlans.{all-serve, when_both}
use Rattle.planner.proofs.planned.certified.Goals as goal

pub returns-clause-replays : goal.returns-clause-replays
returns-clause-replays c =
    let q : Query = c.args.planning.query.now in
    let S : Statistics = c.args.planning.statistics.now in
    let back = sym (reverse-reverse c.lines.result.now) ∙ ap reverse c.lines.ensures.lines in
    when_both c.whole.result (λ x. x.lines ≡ c.lines.result.now) (λ x. x.plan ≡ c.args.searched.now.best.plan) (λ x. replayed q x ≡ Ok x)
    (λ x lines plan. (all-serve S q c.requires.ready.bound c.args.planning.limit c.args.searched.now c.requires.searched c.lines.ensures.replays x (lines ∙ back) plan).replayed_is)
    c.whole.ensures.lines c.whole.ensures.plan

pub returns-clause-cheap : goal.returns-clause-cheap
returns-clause-cheap c =
    let q : Query = c.args.planning.query.now in
    let S : Statistics = c.args.planning.statistics.now in
    let back = sym (reverse-reverse c.lines.result.now) ∙ ap reverse c.lines.ensures.lines in
    when_both c.whole.result (λ x. x.lines ≡ c.lines.result.now) (λ x. x.plan ≡ c.args.searched.now.best.plan) (IsNotDearer S q)
    (λ x lines plan. (all-serve S q c.requires.ready.bound c.args.planning.limit c.args.searched.now c.requires.searched c.lines.ensures.replays x (lines ∙ back) plan).cheap)
    c.whole.ensures.lines c.whole.ensures.plan

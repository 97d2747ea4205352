use Rattle.std.proofs.Common.{sym, ◌∙◌}
use Rattle.physical.specs.declared.plan.Node.TheVariants.{Implements}
use Rattle.labels.proofs.NodeLists.{none-more, one-more}
use Rattle.labels.proofs.nodes.push_fitting.Goals as goal

pub returns-then-not-branch : goal.returns-then-not-branch
returns-then-not-branch c = none-more _ (λ p. p (Implements c.args.of.line c.args.operator)) c.args.nodes.now.items (sym c.in_ok-fits.ensures ∙ c.if-not-branch.true)

pub returns : goal.returns
returns c = one-more _ (Implements c.args.of.line c.args.operator) c.args.nodes.now.items c.push.new.self.items (sym c.in_ok-fits.ensures ∙ c.if-not-branch.false) c.in_ok-push.ensures.items

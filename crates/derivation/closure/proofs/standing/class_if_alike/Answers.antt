use Rattle.std.proofs.Common.{ap, sym, ◌∙◌, option_map}
use Rattle.rules.specs.Matches.{line_in}
use Rattle.closure.proofs.Agreeing.{alike_found, alike_not}
use Rattle.closure.proofs.standing.class_if_alike.Goals as goal

pub returns-then-not-branch : goal.returns-then-not-branch
returns-then-not-branch c =
    alike_not c.args.log.now.instances c.args.log.now.log c.args.expr.now c.args.line (line_in c.in-Some.member) _ (sym c.member.ensures ∙ ap (option_map line_in) c.in-Some.is) c.in_ok-alike.ensures c.if-not-branch.true

pub returns : goal.returns
returns c =
    alike_found c.args.log.now.instances c.args.log.now.log c.args.expr.now c.args.line (line_in c.in-Some.member) _ (sym c.member.ensures ∙ ap (option_map line_in) c.in-Some.is) c.in_ok-alike.ensures c.if-not-branch.false

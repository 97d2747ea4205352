use Rattle.std.proofs.Common.{sym, ap, ◌∙◌, arith}
use Rattle.grouping.specs.RowNumbers.{numbers_in}
use Rattle.grouping.specs.declared.keys.GroupNumbers.{GroupNumbers}
use Rattle.grouping.proofs.FoundGroups.{founder-past, founder-within}
use Rattle.grouping.proofs.keys.GroupNumbers.add.Goals.{then-len-group+in_ok-push, else-len-group}
use Rattle.grouping.proofs.keys.GroupNumbers.add.Goals as goal

pub returns-clause-firsts : goal.returns-clause-firsts
returns-clause-firsts c =
    let firsts = numbers_in c.args.self.now.firsts in
    elim c.if-len-group.branch [
      | then-len-group+in_ok-push w ↦ ap (λ (g : GroupNumbers). numbers_in g.firsts) w.self-is ∙ w.in_ok-push.ensures ∙ sym (founder-past firsts c.args.group c.args.row (omega (arith, w.if-len-group.true, c.len.ensures)))
      | else-len-group w ↦ ap (λ (g : GroupNumbers). numbers_in g.firsts) w.self-is ∙ sym (founder-within firsts c.args.group c.args.row (omega (arith, w.if-len-group.false, c.len.ensures)))
    ]

use Rattle.std.proofs.Common.{◌≡◌, false, sym, ◌∙◌, subst, get_or, slice_get}
use Rattle.std.proofs.lemmas.List.{take_all}
use Rattle.winners.specs.Numbers.{IsNotAmong, is_at}
use Rattle.winners.proofs.Numbering.{among_more, found_at}
use Rattle.winners.proofs.goals.find.Goals as goal

pub returns-then-is_at-clause-found : goal.returns-then-is_at-clause-found
returns-then-is_at-clause-found c = found_at _ c.args.goal.now (sym c.is_at.ensures ∙ c.if-is_at.true)

pub loop-number-preserved : goal.loop-number-preserved
loop-number-preserved c =
    let i = c.loop-number.number-index in
    let own : is_at (slice_get c.args.list.now (get_or c.args.numbers.now i 0)) c.args.goal.now ≡ false = sym c.is_at.ensures ∙ c.if-is_at.false in
    among_more c.args.list.now c.args.numbers.now i c.args.goal.now c.loop-number-test.true c.loop-number.invariant own

pub returns-clause-none : goal.returns-clause-none
returns-clause-none c =
    subst (λ v. IsNotAmong c.args.list.now v c.args.goal.now) (take_all c.loop-number.number-index c.args.numbers.now c.loop-number-test.false) c.loop-number.invariant

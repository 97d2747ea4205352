use Rattle.std.proofs.Common.{ap, ◌∙◌, nat_eq}
use Rattle.std.specs.Cmp.{nat_eq_equiv}
use Rattle.std.specs.Set.{is_member}
use Rattle.std.proofs.lemmas.List.{take_all}
use Rattle.std.proofs.lemmas.Map.Made.{length-from_keys}
use Rattle.statistics.proofs.number_keys.told_by_set.Goals as goal

pub returns : goal.returns
returns c =
    let xs = c.args.numbers.now in
    c.len.ensures.len ∙ length-from_keys nat_eq_equiv c.loop-number.set.keys xs c.loop-number.invariant.1 (λ q. c.loop-number.invariant.0 q ∙ ap (λ l. is_member nat_eq l q) (take_all c.loop-number.number-index xs c.loop-number-test.false))

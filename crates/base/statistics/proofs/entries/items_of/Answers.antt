use Rattle.std.proofs.Common.{length, ap, sym, ◌∙◌}
use Rattle.statistics.proofs.ItemCounts.{items_right, items_wrong}
use Rattle.statistics.proofs.entries.items_of.Goals as goal

pub returns-then-items-count : goal.returns-then-items-count
returns-then-items-count c =
    rw c.shape-then-items-count.ensures (items_wrong c.args.count _ _ c.in-Some.ensures (λ e. c.if-items-count.true (ap length c.as_slice-items.ensures.value ∙ e)))

pub returns : goal.returns
returns c = rw c.as_slice-items.ensures.value (items_right c.args.count _ _ c.in-Some.ensures (ap length (sym c.as_slice-items.ensures.value) ∙ c.if-items-count.false))

use Rattle.std.proofs.Common.{◌≡◌, ◌∙◌}
use Rattle.binder.proofs.HavingLoops.{placed-Compare, placed-IsNull, placed-Not, placed-And, placed-Or}
use Rattle.binder.proofs.having.+placed.Goals as goal

pub placed-returns-in_ok-right-in-Compare : goal.placed-returns-in_ok-right-in-Compare
placed-returns-in_ok-right-in-Compare t c =
    placed-Compare c.args.part.now c.in-Compare.left c.in-Compare.by c.in-Compare.right c.args.place.now c.placed_term.new.place c.placed_term-in-Compare.new.place c.in_ok-left-in-Compare.left c.in_ok-right-in-Compare.right
    c.in-Compare.is c.in_ok-left-in-Compare.ensures.term c.in_ok-left-in-Compare.ensures.place c.in_ok-right-in-Compare.ensures.term c.in_ok-right-in-Compare.ensures.place

pub placed-returns-in_ok-placed_term-in-IsNull : goal.placed-returns-in_ok-placed_term-in-IsNull
placed-returns-in_ok-placed_term-in-IsNull t c =
    placed-IsNull c.args.part.now c.in-IsNull.tested c.args.place.now c.placed_term-in-IsNull.new.place c.in_ok-placed_term-in-IsNull.field-0 c.in-IsNull.is c.in_ok-placed_term-in-IsNull.ensures.term c.in_ok-placed_term-in-IsNull.ensures.place

pub placed-returns-in_ok-new-in-Not : goal.placed-returns-in_ok-new-in-Not
placed-returns-in_ok-new-in-Not t c =
    placed-Not c.args.part.now c.in-Not.inner c.get.result.now c.args.place.now c.placed.new.place c.in_ok-new-in-Not.field-0 c.in-Not.is c.get.ensures (c.in_ok-new-in-Not.ensures ∙ c.in_ok-inner-in-Not.ensures.condition) c.in_ok-inner-in-Not.ensures.place

pub placed-returns-in_ok-all_placed-in-And : goal.placed-returns-in_ok-all_placed-in-And
placed-returns-in_ok-all_placed-in-And t c =
    placed-And c.args.part.now c.in-And.parts c.as_slice.result.now c.args.place.now c.all_placed.new.place c.in_ok-all_placed-in-And.field-0 c.in-And.is c.as_slice.ensures c.in_ok-all_placed-in-And.ensures.conditions c.in_ok-all_placed-in-And.ensures.place

pub placed-returns-in_ok-all_placed-in-Or : goal.placed-returns-in_ok-all_placed-in-Or
placed-returns-in_ok-all_placed-in-Or t c =
    placed-Or c.args.part.now c.in-Or.parts c.as_slice-in-Or.result.now c.args.place.now c.all_placed-in-Or.new.place c.in_ok-all_placed-in-Or.field-0 c.in-Or.is c.as_slice-in-Or.ensures c.in_ok-all_placed-in-Or.ensures.conditions c.in_ok-all_placed-in-Or.ensures.place

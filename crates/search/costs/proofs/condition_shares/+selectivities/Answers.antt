use Rattle.std.proofs.Common.{ap, sym, ◌∙◌}
use Rattle.costs.specs.Selectivity.{selectivity, others}
use Rattle.costs.proofs.SelectivityForms.{compare-at, selectivity-IsNull, selectivity-Not, selectivity-And, selectivity-Or, selectivity-Exists, selectivity-In}
use Rattle.costs.proofs.condition_shares.+selectivities.Goals as goal

pub selectivity-returns-in-Compare-clause-share : goal.selectivity-returns-in-Compare-clause-share
selectivity-returns-in-Compare-clause-share t c =
    compare-at _ _ _ c.in-Compare.comparison c.in-Compare.a c.in-Compare.b c.term_keys-first.result c.term_keys-second.result c.greater.result c.share_of_key.result c.compared.result c.in-Compare.is c.term_keys-first.ensures c.term_keys-second.ensures
    c.greater.ensures c.share_of_key.ensures.share c.compared.ensures.share

pub selectivity-returns-in-IsNull-clause-share : goal.selectivity-returns-in-IsNull-clause-share
selectivity-returns-in-IsNull-clause-share t c = sym (ap (selectivity c.args.statistics.now c.args.instances.now) c.in-IsNull.is ∙ selectivity-IsNull _ _ c.in-IsNull.field-0)

pub selectivity-returns-in-Not-clause-share : goal.selectivity-returns-in-Not-clause-share
selectivity-returns-in-Not-clause-share t c =
    let of = selectivity c.args.statistics.now c.args.instances.now in
    c.others.ensures.share ∙ ap others (c.selectivity.ensures.share ∙ ap of c.get.ensures) ∙ sym (ap of c.in-Not.is ∙ selectivity-Not _ _ c.in-Not.part)

pub selectivity-returns-in-And-clause-share : goal.selectivity-returns-in-And-clause-share
selectivity-returns-in-And-clause-share t c =
    rw (c.all_of.ensures.share, c.per_million-both.ensures.share, c.per_million.ensures.share, c.selectivity-first.ensures.share, c.selectivity-second.ensures.share, c.get-in-And.ensures, c.get-in-And-2.ensures, c.as_slice.ensures)
    (sym (ap (selectivity c.args.statistics.now c.args.instances.now) c.in-And.is ∙ selectivity-And _ _ c.in-And.a c.in-And.b c.in-And.more))

pub selectivity-returns-in-Or-clause-share : goal.selectivity-returns-in-Or-clause-share
selectivity-returns-in-Or-clause-share t c =
    rw (c.any_of.ensures.share, c.either-one.ensures.share, c.either.ensures.share, c.selectivity-first-in-Or.ensures.share, c.selectivity-second-in-Or.ensures.share, c.get-in-Or.ensures, c.get-in-Or-2.ensures, c.as_slice-in-Or.ensures)
    (sym (ap (selectivity c.args.statistics.now c.args.instances.now) c.in-Or.is ∙ selectivity-Or _ _ c.in-Or.a c.in-Or.b c.in-Or.more))

pub selectivity-returns-in-Exists-clause-share : goal.selectivity-returns-in-Exists-clause-share
selectivity-returns-in-Exists-clause-share t c = sym (ap (selectivity c.args.statistics.now c.args.instances.now) c.in-Exists.is ∙ selectivity-Exists _ _ c.in-Exists.field-0)

pub selectivity-returns-in-In-clause-share : goal.selectivity-returns-in-In-clause-share
selectivity-returns-in-In-clause-share t c =
    sym (ap (selectivity c.args.statistics.now c.args.instances.now) c.in-In.is ∙ selectivity-In _ _ c.in-In.field-0 c.in-In.field-1 c.in-In.field-2)

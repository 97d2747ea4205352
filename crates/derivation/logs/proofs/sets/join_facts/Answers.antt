use Rattle.std.proofs.Common.{◌≡◌, ◌∙◌, get_or, subst}
use Rattle.std.proofs.lemmas.List.{get_or_default, get_or-set_other}
use Rattle.std.proofs.lemmas.Result.{on_err_weaker, on_ok_weaker}
use Rattle.props.specs.declared.fact.FactSets.{FactSets}
use Rattle.logs.specs.Sets.{AreOfBoth}
use Rattle.logs.proofs.MovedSets.{facts-back, facts-joined, not-same}
use Rattle.logs.proofs.sets.join_facts.Goals as goal

pub returns-clause-joined : goal.returns-clause-joined
returns-clause-joined c =
    let facts = c.args.facts.now.items in
    let into = c.args.into in
    let from = c.args.from in
    let second : (d : FactSets) → c.replace-more.result ≡ get_or facts from d =
    λ d. c.replace-more.ensures.value ∙ c.index_mut.ensures.value ∙ get_or_default facts from c.index_mut.result.now d c.requires.from in
    let first : (d : FactSets) → c.index_mut-2.result.now ≡ get_or facts into d =
    λ d. c.index_mut-2.ensures.value ∙ get_or-set_other facts from into c.replace-more.new.dest c.index_mut-2.result.now (not-same into from c.requires.other) ∙ get_or_default facts into c.index_mut-2.result.now d c.requires.into in
    on_ok_weaker c.unite_facts-joined.result (λ both. facts-joined facts into from c.replace-more.new.dest c.unite_facts-joined.new.first c.unite_facts-joined.new.second c.requires.into c.requires.from c.requires.other
    (λ d. subst (λ F. AreOfBoth F (get_or facts from d) c.unite_facts-joined.new.first) (first d) (subst (λ F. AreOfBoth c.index_mut-2.result.now F c.unite_facts-joined.new.first) (second d) both))) c.unite_facts-joined.ensures.united

pub returns-clause-refused : goal.returns-clause-refused
returns-clause-refused c =
    let d : FactSets = c.index_mut-2.result.now in
    let second = c.replace-more.ensures.value ∙ c.index_mut.ensures.value ∙ get_or_default c.args.facts.now.items c.args.from c.index_mut.result.now d c.requires.from in
    on_err_weaker c.unite_facts-joined.result (λ same. facts-back c.args.facts.now.items c.args.into c.args.from c.replace-more.new.dest c.unite_facts-joined.new.first c.unite_facts-joined.new.second c.requires.into c.requires.from c.requires.other
    d (same.0 ∙ c.index_mut-2.ensures.value) (same.1 ∙ second)) c.unite_facts-joined.ensures.refused

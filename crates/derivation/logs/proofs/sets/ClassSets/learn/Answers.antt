use Rattle.std.proofs.Common.{◌≡◌, refl, sym, ap, ◌∙◌, subst, ◌<◌, length, get_or}
use Rattle.std.proofs.Common.{set as put}
use Rattle.std.specs.Vec.{with_item}
use Rattle.std.proofs.lemmas.List.{get_or_default}
use Rattle.std.proofs.lemmas.Result.{on_ok_weaker}
use Rattle.props.specs.Facts.{no_facts, with_fact}
use Rattle.logs.specs.declared.sets.ClassSets.{ClassSets}
use Rattle.logs.specs.Sets.{set_at}
use Rattle.logs.proofs.PushedSets.{learnt-facts}
use Rattle.logs.proofs.SetReads.{in-facts}
use Rattle.logs.proofs.sets.ClassSets.learn.Goals as goal

pub returns-clause-facts : goal.returns-clause-facts
returns-clause-facts c =
    let s : ClassSets = c.args.self.now in
    let set = c.index-set.result.now in
    let t : ClassSets = record { sets = s.sets; roots = s.roots; members = s.members; facts = with_item s.facts set c.learn.new.self } in
    let is : set ≡ set_at s.sets.items c.args.class = c.index-set.ensures ∙ get_or_default s.sets.items c.args.class set 0 c.requires.class in
    let low = subst (λ k. k < length s.facts.items) (sym is) (in-facts s c.requires.sets c.args.class c.requires.class) in
    let old = c.index_mut.ensures.value ∙ get_or_default s.facts.items set c.index_mut.result.now no_facts low in
    on_ok_weaker c.learn.result (λ learnt. learnt-facts s t c.requires.sets c.args.class c.args.fact.now c.requires.class refl
    (ap (put s.facts.items set) (learnt ∙ ap (λ F. with_fact F c.args.fact.now) old) ∙ ap (λ k. put s.facts.items k (with_fact (get_or s.facts.items k no_facts) c.args.fact.now)) is)) c.learn.ensures.learnt

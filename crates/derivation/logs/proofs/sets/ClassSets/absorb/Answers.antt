use Rattle.std.proofs.Common.{◌≡◌, refl, sym, ap, ◌∙◌, subst, set, get_or, length, ◌<◌, ◌==◌, false, ℕ, [], ◌++◌, if◌then◌else◌}
use Rattle.std.specs.Vec.{with_item, with_items}
use Rattle.std.proofs.lemmas.List.{get_or_default, with_items_is}
use Rattle.algebra.specs.Columns.{has, columns_at}
use Rattle.derivation.specs.Logs.{lesser}
use Rattle.logs.specs.declared.sets.ClassSets.{ClassSets}
use Rattle.logs.specs.Sets.{set_at}
use Rattle.logs.proofs.MovedSets.{AreMoved, written, moved-sets, moved-united, lesser-min}
use Rattle.logs.proofs.Relabelled.{all-from-has}
use Rattle.logs.proofs.SetReads.{in-members, in-roots}
use Rattle.logs.proofs.sets.ClassSets.absorb.Goals as goal

abbrev after : goal.After-drop-classes-2 → ClassSets
after c = record {
  sets = with_items c.args.self.now.sets c.relabel.new.sets;
  roots = with_item c.args.self.now.roots c.index-into.result.now c.min.result;
  members = with_item c.join.new.members c.index-from.result.now c.none.result;
  facts = with_item c.join.new.facts c.index-from.result.now c.none-2.result;
}

moved : (c : goal.After-drop-classes-2) → AreMoved c.args.self.now (after c) (set_at c.args.self.now.sets.items c.args.into) (set_at c.args.self.now.sets.items c.args.from)
moved c =
    let s : ClassSets = c.args.self.now in
    let are = c.requires.sets in
    let into : ℕ = c.index-into.result.now in
    let from : ℕ = c.index-from.result.now in
    let into-is : into ≡ set_at s.sets.items c.args.into = c.index-into.ensures ∙ get_or_default s.sets.items c.args.into into 0 c.requires.into in
    let from-is : from ≡ set_at s.sets.items c.args.from = c.index-from.ensures ∙ get_or_default s.sets.items c.args.from from 0 c.requires.from in
    let low : from < length s.members.items = subst (λ k. k < length s.members.items) (sym from-is) (in-members s are c.args.from c.requires.from) in
    let low-root : from < length s.roots.items = subst (λ k. k < length s.roots.items) (sym from-is) (in-roots s are c.args.from c.requires.from) in
    let high-root : into < length s.roots.items = subst (λ k. k < length s.roots.items) (sym into-is) (in-roots s are c.args.into c.requires.into) in
    let apart : (into == from) ≡ false = ap (λ k. k == from) into-is ∙ ap (λ k. set_at s.sets.items c.args.into == k) from-is ∙ c.requires.other in
    let sets-is : (after c).sets.items ≡ c.relabel.new.sets = with_items_is s.sets c.relabel.new.sets (c.relabel.ensures.count ∙ c.deref_mut.ensures.len) in
    let gone : c.in_ok-classes.classes ≡ columns_at s.members.items from = c.in_ok-classes.ensures ∙ c.index.ensures ∙ get_or_default s.members.items from c.index.result.now [] low in
    let joined : c.join.new.members.items ≡ set s.members.items into (columns_at s.members.items into ++ columns_at s.members.items from) =
    c.in_ok-join.ensures.members ∙ ap (λ xs. set s.members.items into (columns_at s.members.items into ++ xs)) gone in
    let root : c.min.result ≡ lesser (get_or s.roots.items into 0) (get_or s.roots.items from 0) =
    c.min.ensures ∙ lesser-min c.index-2.result.now c.index-3.result.now ∙ ap (λ r. lesser r c.index-3.result.now) (c.index-2.ensures ∙ get_or_default s.roots.items into c.index-2.result.now 0 high-root)
    ∙ ap (lesser (get_or s.roots.items into 0)) (c.index-3.ensures ∙ get_or_default s.roots.items from c.index-3.result.now 0 low-root) in
    let classes : c.as_slice.result.now ≡ columns_at s.members.items from = c.as_slice.ensures ∙ gone in
    subst (λ p. AreMoved s (after c) p (set_at s.sets.items c.args.from)) into-is (subst (AreMoved s (after c) into) from-is (
    written s (after c) into from are
    (subst (λ k. k < length s.sets.items) (sym into-is) (are.bounded c.args.into c.requires.into)) (subst (λ k. k < length s.sets.items) (sym from-is) (are.bounded c.args.from c.requires.from)) apart
    c.join.new.facts.items c.none-2.result
    (ap length sets-is ∙ c.relabel.ensures.count ∙ ap length c.deref_mut.ensures.value)
    (λ g. ap (λ xs. set_at xs g) sets-is ∙ c.relabel.ensures.sets g ∙ ap (λ xs. if has xs g then into else get_or c.deref_mut.result.now g 0) classes ∙ ap (λ ys. if has (columns_at s.members.items from) g then into else get_or ys g 0) c.deref_mut.ensures.value)
    (ap (λ xs. set xs from c.none.result) joined ∙ ap (set (set s.members.items into (columns_at s.members.items into ++ columns_at s.members.items from)) from) c.none.ensures)
    (ap (set s.roots.items into) root)
    c.in_ok-join.ensures.facts
    refl))

pub returns-clause-sets : goal.returns-clause-sets
returns-clause-sets c = moved-sets c.args.self.now (after c) c.requires.sets c.args.into c.args.from c.requires.into c.requires.from c.requires.other (moved c)

pub returns-clause-united : goal.returns-clause-united
returns-clause-united c = moved-united c.args.self.now (after c) c.requires.sets c.args.into c.args.from c.requires.into c.requires.from c.requires.other (moved c)

pub relabel-requires : goal.relabel-requires
relabel-requires c =
    let s : ClassSets = c.args.self.now in
    let from : ℕ = c.index-from.result.now in
    let from-is : from ≡ set_at s.sets.items c.args.from = c.index-from.ensures ∙ get_or_default s.sets.items c.args.from from 0 c.requires.from in
    let low : from < length s.members.items = subst (λ k. k < length s.members.items) (sym from-is) (in-members s c.requires.sets c.args.from c.requires.from) in
    let classes : c.as_slice.result.now ≡ columns_at s.members.items from = c.as_slice.ensures ∙ c.in_ok-classes.ensures ∙ c.index.ensures ∙ get_or_default s.members.items from c.index.result.now [] low in
    all-from-has (λ g. g < length c.deref_mut.result.now) c.as_slice.result.now
    (λ g is. subst (λ xs. g < length xs) (sym c.deref_mut.ensures.value) (c.requires.sets.sound from g (ap (λ xs. has xs g) (sym classes) ∙ is)).0)

use Rattle.std.proofs.Common.{◌≡◌, ap, sym, ◌∙◌, subst, ◌<◌, ◌++◌, ◌∷◌, [], List, length, slice_get, Some}
use Rattle.algebra.specs.Columns.{columns_at}
use Rattle.physical.specs.declared.plan.OrderKey.{OrderKey}
use Rattle.physical.specs.declared.plan.Node.TheVariants.{Sort}
use Rattle.winners.specs.declared.collect.Wanted.{Wanted}
use Rattle.winners.specs.declared.nodes.Nodes.{Nodes}
use Rattle.winners.specs.Collected.{IsBegun}
use Rattle.winners.specs.Numbers.{Keeps}
use Rattle.winners.specs.Offered.{AreSound, IsWhole}
use Rattle.winners.specs.Spans.{IsFront}
use Rattle.winners.proofs.Collecting.{fit_push, front_push, offers_kept, sound_kept, whole_from, wholes_more}
use Rattle.winners.proofs.Lists.{get-copy, get-last}
use Rattle.winners.proofs.Numbering.{class_within}
use Rattle.winners.proofs.Standing.{class_front, made_front}
use Rattle.winners.proofs.collect.offer_goal.Goals as goal

pub of_class-requires-clause-class : goal.of_class-requires-clause-class
of_class-requires-clause-class c =
    let goals = c.args.goals.now.list.items in
    let g = c.in_ok-goal.goal in
    let at = get-copy goals c.args.number c.index.result.now g c.requires.number c.index.ensures c.in_ok-goal.ensures in
    let cols = columns_at c.args.derived.columns.now in
    subst (λ n. g.class < n) (sym c.requires.met.classes) (class_within c.args.derived.log.now.log cols g (c.requires.met.indexed.goals c.args.number g at))

pub offer_span-requires-clause-goal : goal.offer_span-requires-clause-goal
offer_span-requires-clause-goal c = get-copy c.args.goals.now.list.items c.args.number c.index.result.now c.in_ok-goal.goal c.requires.number c.index.ensures c.in_ok-goal.ensures

pub offer_span-requires-clause-fit : goal.offer_span-requires-clause-fit
offer_span-requires-clause-fit c =
    let log = c.args.derived.log.now in
    fit_push log.instances log.log (columns_at c.args.derived.columns.now) c.of_class.new.self.list.items c.as_slice-2.result.now c.in_ok-keys.keys (c.as_slice-2.ensures.value ∙ c.in_ok-sort.ensures.list) c.in_ok-span.ensures.made.fit

pub offer_span-requires-clause-sound : goal.offer_span-requires-clause-sound
offer_span-requires-clause-sound c =
    let log = c.args.derived.log.now in
    let goals = c.args.goals.now.list.items in
    let pushed = front_push c.of_class.new.self.list.items c.as_slice-2.result.now (Sort c.in_ok-keys.keys) (c.as_slice-2.ensures.value ∙ c.in_ok-sort.ensures.list) in
    let front : IsFront c.args.nodes.now.list.items c.as_slice-2.result.now = λ k node at. pushed k node (c.in_ok-span.ensures.before k node at) in
    sound_kept log.instances log.log (columns_at c.args.derived.columns.now) goals goals c.args.nodes.now.list.items c.as_slice-2.result.now c.args.offers.now.items (λ i g at. at) front c.requires.met.sound

pub offer_node-requires-clause-goal : goal.offer_node-requires-clause-goal
offer_node-requires-clause-goal c =
    let at = get-copy c.args.goals.now.list.items c.args.number c.index.result.now c.in_ok-goal.goal c.requires.number c.index.ensures c.in_ok-goal.ensures in
    c.in_ok-offer_span.ensures.kept c.args.number c.in_ok-goal.goal at

pub offer_node-requires-clause-fit : goal.offer_node-requires-clause-fit
offer_node-requires-clause-fit c =
    let log = c.args.derived.log.now in
    fit_push log.instances log.log (columns_at c.args.derived.columns.now) c.of_class.new.self.list.items c.as_slice-2.result.now c.in_ok-keys.keys (c.as_slice-2.ensures.value ∙ c.in_ok-sort.ensures.list) c.in_ok-span.ensures.made.fit

pub returns-clause-met : goal.returns-clause-met
returns-clause-met c =
    let log = c.args.derived.log.now in
    let cols = columns_at c.args.derived.columns.now in
    let g = c.in_ok-goal.goal in
    let number = c.args.number in
    let before = c.args.goals.now.list.items in
    let after = c.offer_node.new.goals.list.items in
    let own_nodes = c.of_class.new.self.list.items in
    let lent = c.as_slice-2.result.now in
    let old_offers = c.args.offers.now.items in
    let new_offers = c.offer_node.new.offers.items in
    let nodes : Nodes = record { list = c.push.new.self.list; spans = c.push.new.self.spans } in
    let lent_is : lent ≡ nodes.list.items = c.as_slice-2.ensures.value in
    let more : nodes.list.items ≡ own_nodes ++ Sort c.in_ok-keys.keys ∷ [] = c.in_ok-sort.ensures.list in
    let pushed : IsFront own_nodes nodes.list.items = front_push own_nodes nodes.list.items (Sort c.in_ok-keys.keys) more in
    let front : IsFront c.args.nodes.now.list.items nodes.list.items = λ k node at. pushed k node (c.in_ok-span.ensures.before k node at) in
    let kept : Keeps before after = λ i h at. c.in_ok-offer_node.ensures.kept i h (c.in_ok-offer_span.ensures.kept i h at) in
    let begun : IsBegun old_offers new_offers = λ k o at. c.in_ok-offer_node.ensures.more k o (c.in_ok-offer_span.ensures.more k o at) in
    let at = get-copy before number c.index.result.now g c.requires.number c.index.ensures c.in_ok-goal.ensures in
    let fit = fit_push log.instances log.log cols own_nodes nodes.list.items c.in_ok-keys.keys more c.in_ok-span.ensures.made.fit in
    let w : Wanted = record { derived = c.args.derived; nodes = c.as_slice-2.result; number = number; goal = record { ref_ptr = c.index.result.ref_ptr; now = g } } in
    let keys : c.in_ok-keys.keys ≡ g.order = c.in_ok-keys.ensures ∙ c.as_slice.ensures in
    let sort_is : slice_get lent c.in_ok-sort.sort ≡ Some (Sort g.order) =
    ap (λ ns. slice_get ns c.in_ok-sort.sort) (lent_is ∙ more) ∙ ap (slice_get (own_nodes ++ Sort c.in_ok-keys.keys ∷ [])) c.in_ok-sort.ensures.number ∙ get-last own_nodes (Sort c.in_ok-keys.keys)
    ∙ ap (λ (ks : List OrderKey). Some (Sort ks)) keys in
    let span = c.in_ok-span.span in
    let class_is = class_front log.instances log.log cols own_nodes lent g.class span (subst (IsFront own_nodes) (sym lent_is) pushed) c.in_ok-span.ensures.own in
    let have = offers_kept w c.offer_span.new.offers.items new_offers span.start span.end c.in_ok-offer_node.ensures.more c.in_ok-offer_span.ensures.offered in
    let whole = whole_from w after new_offers span c.in_ok-sort.sort (kept number g at) class_is sort_is have c.in_ok-offer_node.ensures.offered in
    record {
      indexed = c.in_ok-offer_node.ensures.indexed;
      classes = ap length c.in_ok-sort.ensures.spans ∙ c.in_ok-span.ensures.as_many ∙ c.requires.met.classes;
      made = made_front log.instances log.log cols c.of_class.new.self nodes pushed fit c.in_ok-sort.ensures.spans c.in_ok-span.ensures.made;
      sound = subst (λ ns. AreSound log.instances log.log cols after ns new_offers) lent_is c.in_ok-offer_node.ensures.sound;
      whole = wholes_more log.instances log.log cols before after c.args.nodes.now.list.items nodes.list.items old_offers new_offers number c.requires.number kept front begun c.requires.met.whole
          (subst (λ ns. IsWhole log.instances log.log cols after ns new_offers number) lent_is whole);
    }

use Rattle.std.proofs.Common.{◌≡◌, sym, ◌∙◌, subst, true, get_or, Some}
use Rattle.std.specs.List.{list_all}
use Rattle.std.proofs.lemmas.Option.{slice_get-get_or}
use Rattle.algebra.specs.Columns.{columns_at}
use Rattle.labels.specs.Offers.{input_goals, is_goal}
use Rattle.winners.specs.declared.space.Offer.{Offer}
use Rattle.winners.specs.Numbers.{AreNumbers}
use Rattle.winners.specs.Offered.{IsSound}
use Rattle.winners.proofs.Collecting.{begun_push, names_last, sound_kept, sound_push}
use Rattle.winners.proofs.collect.offer_node.Goals as goal

pub numbers-requires-clause-goals : goal.numbers-requires-clause-goals
numbers-requires-clause-goals c =
    let w = c.args.wanted in
    let log = w.derived.log.now in
    let cols = columns_at w.derived.columns.now in
    let node = get_or w.nodes.now c.args.node c.index-wanted-node.result in
    let is = c.requires.indexed.goals w.number w.goal.now c.requires.goal in
    let offered : input_goals log.instances log.log cols w.goal.now node ≡ Some c.in-Some.inputs = sym c.in_ok-inputs.ensures ∙ c.in-Some.is in
    subst (λ v. list_all (is_goal log.log cols) v ≡ true) (sym c.as_slice.ensures) (c.requires.closed w.goal.now is node c.in-Some.inputs offered)

pub returns-clause-sound : goal.returns-clause-sound
returns-clause-sound c =
    let w = c.args.wanted in
    let log = w.derived.log.now in
    let cols = columns_at w.derived.columns.now in
    let nodes = w.nodes.now in
    let node = get_or w.nodes.now c.args.node c.index-wanted-node.result in
    let old = c.args.goals.now.list.items in
    let new = c.numbers.new.goals.list.items in
    let o : Offer = record { goal = w.number; node = c.args.node; inputs = c.in_ok-inputs-2.inputs } in
    let own : IsSound log.instances log.log cols new nodes o = record {
      goal = w.goal.now;
      node = node;
      inputs = c.in-Some.inputs;
      goal_is = c.in_ok-inputs-2.ensures.kept w.number w.goal.now c.requires.goal;
      node_is = slice_get-get_or nodes c.args.node c.index-wanted-node.result c.requires.node;
      offered = sym c.in_ok-inputs.ensures ∙ c.in-Some.is;
      inputs_are = subst (AreNumbers new c.in_ok-inputs-2.inputs) c.as_slice.ensures c.in_ok-inputs-2.ensures.are;
    } in
    let before = sound_kept log.instances log.log cols old new nodes nodes c.args.offers.now.items c.in_ok-inputs-2.ensures.kept (λ k n at. at) c.requires.sound in
    sound_push log.instances log.log cols new nodes c.args.offers.now.items c.push.new.self.items o before own c.in_ok-push.ensures.items

pub returns-clause-more : goal.returns-clause-more
returns-clause-more c = begun_push c.args.offers.now.items c.push.new.self.items (record { goal = c.args.wanted.number; node = c.args.node; inputs = c.in_ok-inputs-2.inputs }) c.in_ok-push.ensures.items

pub returns-clause-offered : goal.returns-clause-offered
returns-clause-offered c = λ node inputs at is.
    names_last c.args.offers.now.items c.push.new.self.items (record { goal = c.args.wanted.number; node = c.args.node; inputs = c.in_ok-inputs-2.inputs }) c.in_ok-push.ensures.items

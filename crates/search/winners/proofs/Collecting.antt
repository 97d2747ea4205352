-- Goals, nodes and offers, as more of them come.
use Rattle.std.proofs.Common.{◌≡◌, refl, ap, sym, ◌∙◌, subst, ℕ, ◌+◌, ◌<◌, Bool, true, false, not, ◌&&◌, if◌then◌else◌, List, [], ◌∷◌, ◌++◌, length, slice_get, Option, Some, None, arith, ⊎_elim}
use Rattle.std.proofs.lemmas.Bool.{and_parts}
use Rattle.query.specs.declared.query.TableInstance.{TableInstance}
use Rattle.algebra.specs.Columns.{columns_at}
use Rattle.algebra.proofs.Same.{same_by-equal}
use Rattle.std.specs.Coded.{coded_list}
use Rattle.rules.specs.Matches as matches
use Rattle.derivation.specs.Logs.{Log, are_same, member}
use Rattle.logs.specs.Members.{is_member, is_of}
use Rattle.physical.specs.declared.plan.OrderKey.{OrderKey}
use Rattle.physical.specs.contracts.plan.OrderKey as order_key
use Rattle.physical.specs.declared.plan.Operator.{Operator}
use Rattle.physical.specs.declared.plan.Node.{Node}
use Rattle.physical.specs.declared.plan.Node.TheVariants.{Implements, Sort}
use Rattle.physical.specs.RequiredOrders.{same_order}
use Rattle.labels.specs.declared.goal.Goal.{Goal}
use Rattle.labels.specs.Nodes.{fits, member_fits, node_fits}
use Rattle.labels.specs.Offers.{goal_of, input_goals, is_any, member_goals, operator_goals, where_so}
use Rattle.winners.specs.declared.space.Offer.{Offer}
use Rattle.winners.specs.declared.collect.Wanted.{Wanted}
use Rattle.winners.specs.declared.nodes.Span.{Span}
use Rattle.winners.specs.Collected.{HasOffer, HaveOffers, IsBegun, Names}
use Rattle.winners.specs.Spans.{AllFit, HasClass, IsFront}
use Rattle.winners.specs.Numbers.{AreNumbers, Keeps}
use Rattle.winners.specs.Offered.{AreSound, AreWhole, HoldsOfOffers, IsSound, IsWhole}
use Rattle.winners.proofs.Lists.{get-append, get-last, get-push, lt_cases, same_read, there, zip_weaker}

if_some : {A : Type 0} (b : Bool) (found : Option A) (x : A) → (if b then found else None) ≡ Some x → b ≡ true
if_some true found x e = refl
if_some false found x e = absurd (cc)

module _ (instances : List TableInstance) (E : Log) (cols : ℕ → List ℕ) where
  -- ---- sound offers

  pub numbers_kept : (old new : List Goal) (numbers : List ℕ) (goals : List Goal) → Keeps old new → AreNumbers old numbers goals → AreNumbers new numbers goals
  numbers_kept old new numbers goals kept = zip_weaker _ _ (λ i g h. kept i g h) numbers goals

  pub sound_kept : (old new : List Goal) (nodes more : List Node) (offers : List Offer) → Keeps old new → IsFront nodes more → AreSound instances E cols old nodes offers → AreSound instances E cols new more offers
  sound_kept old new nodes more offers kept front sound k o at =
      let own = sound k o at in
      record {
        goal = own.goal;
        node = own.node;
        inputs = own.inputs;
        goal_is = kept o.goal own.goal own.goal_is;
        node_is = front o.node own.node own.node_is;
        offered = own.offered;
        inputs_are = numbers_kept old new o.inputs own.inputs kept own.inputs_are;
      }

  pub sound_push : (goals : List Goal) (nodes : List Node) (offers more : List Offer) (o : Offer) → AreSound instances E cols goals nodes offers → IsSound instances E cols goals nodes o → more ≡ offers ++ o ∷ []
      → AreSound instances E cols goals nodes more
  sound_push goals nodes offers more o sound own news k p at = ⊎_elim
      (λ old. sound k p old)
      (λ new. subst (IsSound instances E cols goals nodes) new.1 own)
      (get-push offers o p k (sym (ap (λ os. slice_get os k) news) ∙ at))

  -- ---- whole offers

  pub whole_kept : (old new : List Goal) (nodes more : List Node) (offers offers' : List Offer) (i : ℕ) → i < length old → Keeps old new → IsFront nodes more → IsBegun offers offers'
      → IsWhole instances E cols old nodes offers i → IsWhole instances E cols new more offers' i
  whole_kept old new nodes more offers offers' i lt kept front begun whole goal at p holds =
      let (own, own_is) = there old i lt in
      let same = same_read (slice_get new i) own goal (kept i own own_is) at in
      whole goal (own_is ∙ ap (λ g. Some g) same) p (λ k o node o_is number node_is. holds k o node (begun k o o_is) number (front o.node node node_is))

  pub wholes_more : (old new : List Goal) (nodes more : List Node) (offers offers' : List Offer) (n : ℕ) → n < length old → Keeps old new → IsFront nodes more → IsBegun offers offers'
      → AreWhole instances E cols old nodes offers n → IsWhole instances E cols new more offers' n → AreWhole instances E cols new more offers' (n + 1)
  wholes_more old new nodes more offers offers' n lt kept front begun wholes whole i below = ⊎_elim
      (λ less. whole_kept old new nodes more offers offers' i (omega (arith, lt, less)) kept front begun (wholes i less))
      (λ same. subst (IsWhole instances E cols new more offers') (sym same) whole)
      (lt_cases i n below)

  -- ---- what is offered implements a member that it fits, or sorts

  fits-where : (goal : Goal) (line : ℕ) (o : Operator) (l : matches.Line) (goals : List Goal) → operator_goals instances E cols goal.order line o l.expr ≡ Some goals → fits instances E cols line o l.expr ≡ true
  fits-where goal line o l goals e = if_some (fits instances E cols line o l.expr) _ goals e

  fits-member : (goal : Goal) (line : ℕ) (o : Operator) (found : Option matches.Line) (goals : List Goal) → member_goals instances E cols goal line o found ≡ Some goals
      → (is_of E goal.class found ≡ true) × (member_fits instances E cols line o found ≡ true)
  fits-member goal line o None goals e = absurd (cc)
  fits-member goal line o (Some l) goals e = by (are_same E l.class goal.class) refl e
    where
      by : (b : Bool) → are_same E l.class goal.class ≡ b → (if b then operator_goals instances E cols goal.order line o l.expr else None) ≡ Some goals
          → (are_same E l.class goal.class ≡ true) × (fits instances E cols line o l.expr ≡ true)
      by true is h = (is, fits-where goal line o l goals h)
      by false is h = absurd (cc)

  pub of_member : (goal : Goal) (line : ℕ) (o : Operator) (goals : List Goal) → input_goals instances E cols goal (Implements line o) ≡ Some goals
      → (is_member E goal.class line ≡ true) × (node_fits instances E cols (Implements line o) ≡ true)
  of_member goal line o goals e = fits-member goal line o (member E line) goals e

  same_order-equal : (a b : List OrderKey) → same_order a b ≡ true → a ≡ b
  unfolding same_order
  same_order-equal = same_by-equal (coded_list order_key.the_row.coded)

  pub of_order : (goal : Goal) (keys : List OrderKey) (goals : List Goal) → input_goals instances E cols goal (Sort keys) ≡ Some goals → keys ≡ goal.order
  of_order goal keys goals e = by (not (is_any goal.order) && same_order keys goal.order) refl e
    where
      by : (b : Bool) → (not (is_any goal.order) && same_order keys goal.order) ≡ b → where_so b (goal_of E goal.class [] ∷ []) ≡ Some goals → keys ≡ goal.order
      by true is h = same_order-equal keys goal.order (and_parts (not (is_any goal.order)) (same_order keys goal.order) is).1
      by false is h = absurd (cc)

-- ---- one goal

module _ (w : Wanted) where
  abbrev tables : List TableInstance
  tables = w.derived.log.now.instances

  abbrev lines : Log
  lines = w.derived.log.now.log

  abbrev cols_of : ℕ → List ℕ
  cols_of = columns_at w.derived.columns.now

  abbrev wants : Node → Option (List Goal)
  wants = input_goals tables lines cols_of w.goal.now

  -- not offered at the goal, or with the property
  abbrev passes : (Node → Bool) → Node → Option (List Goal) → Bool
  passes p node None = true
  passes p node (Some inputs) = p node

  named : (offers : List Offer) (p : Node → Bool) (k : ℕ) (node : Node) → HoldsOfOffers w.nodes.now offers w.number p → HasOffer w k offers → slice_get w.nodes.now k ≡ Some node → passes p node (wants node) ≡ true
  named offers p k node holds has at = by (wants node) refl
    where
      by : (found : Option (List Goal)) → wants node ≡ found → passes p node found ≡ true
      by None is = refl
      by (Some inputs) is =
          let own = has node inputs at is in
          holds own.place own.offer node own.offer_is own.goal_is (ap (slice_get w.nodes.now) own.node_is ∙ at)

  passed : (p : Node → Bool) (node : Node) (inputs : List Goal) → wants node ≡ Some inputs → passes p node (wants node) ≡ true → p node ≡ true
  passed p node inputs is h = subst (λ found. passes p node found ≡ true) is h

  -- all nodes of the class's lines are offered, and the sort by the order: so none is left out
  pub whole_from : (goals : List Goal) (offers : List Offer) (span : Span) (sort : ℕ) → slice_get goals w.number ≡ Some w.goal.now → HasClass tables lines cols_of w.nodes.now w.goal.now.class span
      → slice_get w.nodes.now sort ≡ Some (Sort w.goal.now.order) → HaveOffers w span.start span.end offers → HasOffer w sort offers → IsWhole tables lines cols_of goals w.nodes.now offers w.number
  whole_from goals offers span sort here own sort_is have enforced goal at p holds node inputs is =
      let same : goal ≡ w.goal.now = same_read (slice_get goals w.number) goal w.goal.now at here in
      by node inputs (subst (λ g. input_goals tables lines cols_of g node ≡ Some inputs) same is)
    where
      by : (node : Node) (inputs : List Goal) → wants node ≡ Some inputs → p node ≡ true
      by (Implements line o) inputs e =
          let of = of_member tables lines cols_of w.goal.now line o inputs e in
          passed p (Implements line o) inputs e
          (own.each (λ n. passes p n (wants n)) (λ k n low high at_k. named offers p k n holds (have k low high) at_k) line o of.0 of.1)
      by (Sort keys) inputs e =
          let order : keys ≡ w.goal.now.order = of_order tables lines cols_of w.goal.now keys inputs e in
          passed p (Sort keys) inputs e (subst (λ ks. passes p (Sort ks) (wants (Sort ks)) ≡ true) (sym order) (named offers p sort (Sort w.goal.now.order) holds enforced sort_is))

  pub offers_kept : (old new : List Offer) (start end : ℕ) → IsBegun old new → HaveOffers w start end old → HaveOffers w start end new
  offers_kept old new start end begun have k low high node inputs at is =
      let own = have k low high node inputs at is in
      record { place = own.place; offer = own.offer; offer_is = begun own.place own.offer own.offer_is; goal_is = own.goal_is; node_is = own.node_is }

  pub offers_more : (old new : List Offer) (start k : ℕ) → IsBegun old new → HaveOffers w start k old → HasOffer w k new → HaveOffers w start (k + 1) new
  offers_more old new start k begun have own j low high = ⊎_elim
      (λ less. offers_kept old new start k begun have j low less)
      (λ same. subst (λ n. HasOffer w n new) (sym same) own)
      (lt_cases j k high)

pub begun_push : (old new : List Offer) (o : Offer) → new ≡ old ++ o ∷ [] → IsBegun old new
begun_push old new o news k p at = ap (λ os. slice_get os k) news ∙ get-append old (o ∷ []) k p at

pub names_last : (old new : List Offer) (o : Offer) → new ≡ old ++ o ∷ [] → Names new o.goal o.node
names_last old new o news = record { place = length old; offer = o; offer_is = ap (λ os. slice_get os (length old)) news ∙ get-last old o; goal_is = refl; node_is = refl }

-- a sort fits, whatever its keys
pub fit_push : (instances : List TableInstance) (E : Log) (cols : ℕ → List ℕ) (old new : List Node) (keys : List OrderKey) → new ≡ old ++ Sort keys ∷ [] → AllFit instances E cols old → AllFit instances E cols new
fit_push instances E cols old new keys news fit k node at = ⊎_elim
    (λ before. fit k node before)
    (λ last. subst (λ n. node_fits instances E cols n ≡ true) last.1 refl)
    (get-push old (Sort keys) node k (sym (ap (λ ns. slice_get ns k) news) ∙ at))

pub front_push : (old new : List Node) (node : Node) → new ≡ old ++ node ∷ [] → IsFront old new
front_push old new node news k n at = ap (λ ns. slice_get ns k) news ∙ get-append old (node ∷ []) k n at

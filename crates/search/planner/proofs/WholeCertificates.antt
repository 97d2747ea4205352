-- Certificates with all lines of a log that begins with a query's frame, and a plan that is offered for its goal: they replay, and where the plan is the cheapest, the
-- canonical one costs no less.
use Rattle.std.proofs.Common.{◌≡◌, refl, ap, sym, ◌∙◌, subst, ℕ, ◌≤◌, Bool, true, not, ◌&&◌, List, [], ◌∷◌, ◌++◌, length, map, reverse, Result, Ok}
use Rattle.std.proofs.lemmas.Bool.{and_from}
use Rattle.std.proofs.lemmas.List.{reverse-reverse}
use Rattle.values.specs.Faults.{◌>>=◌}
use Rattle.query.specs.declared.query.Query.{Query}
use Rattle.query.specs.Bound.{is_bound}
use Rattle.frame.specs.Frames.{query_frame}
use Rattle.frame.specs.FormedFrames.{own_aggregates}
use Rattle.derivation.specs.declared.line.Line.{Line}
use Rattle.derivation.specs.Logs.{Log, least, line_at}
use Rattle.derivation.specs.Replay.{Replays}
use Rattle.statistics.specs.declared.counts.Statistics.{Statistics}
use Rattle.physical.specs.declared.plan.OrderKey.{OrderKey}
use Rattle.physical.specs.declared.plan.Node.TheVariants.{Sort}
use Rattle.physical.specs.declared.plan.Plan.{Plan, fold-roll-Plan}
use Rattle.costs.specs.Costs.{plan_cost}
use Rattle.certificate.specs.declared.certificate.Certificate.{Certificate}
use Rattle.certificate.specs.QueryOrders.{query_order}
use Rattle.certificate.specs.Replay.{lines_replay, replayed, root}
use Rattle.labels.specs.declared.goal.Goal.{Goal}
use Rattle.labels.specs.declared.goal.Label.{Label}
use Rattle.labels.specs.Labels.{Labelled}
use Rattle.labels.specs.Offers.{goal_of}
use Rattle.labels.specs.Plans.{Plans, columns_in, is_offered, offered_layer}
use Rattle.labels.proofs.FittingPlans.{is-begun, plans-serve}
use Rattle.labels.proofs.Least.{labels_show_least}
use Rattle.labels.proofs.Shaped.{are-shaped, least-again}
use Rattle.planner.specs.Canonical.{IsCanonical, top}
use Rattle.planner.specs.NotDearer.{IsNotDearer}
use Rattle.planner.specs.Searched.{frame_lines, root_goal}
use Rattle.planner.proofs.BegunLogs.{begun-replay}
use Rattle.planner.proofs.FrameLogs.{least-founded}
use Rattle.planner.proofs.OfferedPlans.{basic-offered}
use Rattle.planner.proofs.OneCertificate.{fits-of}
use Rattle.planner.proofs.OrderedPlans.{same-order}
use Rattle.planner.proofs.RootGoals.{behind-member, log-begins, root-is}

module _ (q : Query) (bound : is_bound q ≡ true) (rest : List Line) where
  abbrev E : Log
  E = rest ++ frame_lines q

  abbrev cols : ℕ → List ℕ
  cols = columns_in q.tables E

  abbrev goal : Goal
  goal = goal_of E (root q) (query_order q)

  -- ---- the canonical plan

  apart : (g h : ℕ) → least (frame_lines q) g ≡ least (frame_lines q) h → g ≡ h
  apart g h is = sym (least-founded (reverse (query_frame q)) g) ∙ is ∙ least-founded (reverse (query_frame q)) h

  -- a sort on top of a plan without an order is offered in its own
  top-offered : (g : ℕ) (keys : List OrderKey) (p : Plan) → is_offered q.tables E cols p (goal_of E g []) ≡ true → is_offered q.tables E cols (top keys p) (goal_of E g keys) ≡ true
  unfolding is_offered
  top-offered g [] p offered = offered
  top-offered g (k ∷ keys) p offered =
      let input : is_offered q.tables E cols p (goal_of E (least E g) []) ≡ true = ap (λ c. is_offered q.tables E cols p (record { class = c; order = [] })) (least-again E g) ∙ offered in
      ap (λ f. f (goal_of E g (k ∷ keys))) (fold-roll-Plan (Goal → Bool) (offered_layer q.tables E cols) (record { node = Sort (k ∷ keys); inputs = p ∷ [] })) ∙ rw (same-order (k ∷ keys)) (and_from _ true input refl)

  pub canonical-offered : (W : Certificate) → IsCanonical q W → replayed q W ≡ Ok W → Plans q.tables E goal W.plan
  canonical-offered W is replays =
      let f = fits-of q W is replays in
      let below = basic-offered q.tables (frame_lines q) E f.cols cols (behind-member rest (frame_lines q)) apart is.below is.basic f.ordered (root q) f.number f.after f.fits in
      subst (λ p. is_offered q.tables E cols p goal ≡ true) (sym is.plan) (top-offered (root q) (query_order q) is.below below)

  -- ---- all lines

  whole : Plan → Certificate
  whole p = record { lines = reverse E; plan = p }

  pub lines-replay : Replays q.tables (own_aggregates q) E → lines_replay q [] (reverse E) ≡ Ok E
  lines-replay replays =
      let again : reverse (reverse E) ≡ E = reverse-reverse E in
      begun-replay q (reverse E) [] (subst (Replays q.tables (own_aggregates q)) (sym again) replays) (λ n x at. ap (λ L. line_at L n) again ∙ log-begins q rest n x at) ∙ ap (λ L. Ok L) again

  pub whole-replays : (p : Plan) → Replays q.tables (own_aggregates q) E → Plans q.tables E goal p → replayed q (record { lines = reverse E; plan = p }) ≡ Ok (record { lines = reverse E; plan = p })
  unfolding replayed
  whole-replays p replays offered =
      let is = root-is q bound rest in
      let serves = plans-serve q.tables (own_aggregates q) E (are-shaped q.tables (own_aggregates q) E replays) p (root q) (query_order q) is.founded is.ordered offered in
      let fits = serves.0 (length E) in
      rw (lines-replay replays, is-begun _ (query_order q) serves.1, fits.1) refl

  pub whole-not-dearer : (S : Statistics) (p : Plan) (labels : List Label) → Labelled S q.tables E (root_goal q) p labels → IsNotDearer S q (record { lines = reverse E; plan = p })
  whole-not-dearer S p labels labelled W is replays =
      let least_ = labels_show_least S q.tables E (root_goal q) p labels labelled W.plan (canonical-offered W is replays) in
      subst (λ L. plan_cost S q.tables L p ≤ plan_cost S q.tables L W.plan) (sym (reverse-reverse E)) least_

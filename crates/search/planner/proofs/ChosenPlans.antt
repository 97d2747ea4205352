-- What a search found serves: all its lines with its plan are a certificate that replays, whose plan costs as much and no more than the canonical one.
use Rattle.std.proofs.Common.{◌≡◌, refl, ap, sym, ◌∙◌, subst, inl, inr, ◌⊎◌, ℕ, ◌≤◌, Bool, true, false, List, [], ◌++◌, length, max, reverse, Result, Ok, Err}
use Rattle.std.specs.Result.{IfOk}
use Rattle.std.proofs.lemmas.List.{length-reverse, reverse-reverse}
use Rattle.query.specs.declared.query.Query.{Query}
use Rattle.query.specs.Bound.{is_bound}
use Rattle.frame.specs.Frames.{query_frame}
use Rattle.frame.specs.FormedFrames.{own_aggregates}
use Rattle.derivation.specs.declared.line.Line.{Line}
use Rattle.derivation.specs.Logs.{Log}
use Rattle.derivation.specs.Replay.{Replays}
use Rattle.logs.specs.Logged.{Logged}
use Rattle.statistics.specs.declared.counts.Statistics.{Statistics}
use Rattle.costs.specs.Costs.{plan_cost}
use Rattle.closure.specs.Closed.{IsClosed}
use Rattle.certificate.specs.declared.certificate.Certificate.{Certificate}
use Rattle.certificate.specs.Replay.{lines_replay, replayed}
use Rattle.trimming.specs.Part.{IsPart}
use Rattle.labels.specs.Labels.{Labelled}
use Rattle.winners.specs.declared.least.BestPlan.{BestPlan}
use Rattle.planner.specs.declared.planned.Exploration.{Exploration}
use Rattle.planner.specs.declared.planned.Exploration.TheVariants.{ToLimit, WhileWorthwhile}
use Rattle.planner.specs.declared.searching.Searched.{Searched}
use Rattle.planner.specs.NotDearer.{IsNotDearer, certificate_cost}
use Rattle.planner.specs.Searched.{IsBest, IsLogOf, IsLeanBehind, IsPlanned, IsSearched, IsToldOf, IsWithinLimit, frame_lines, root_goal}
use Rattle.planner.proofs.WholeCertificates.{lines-replay, whole-not-dearer, whole-replays}

pub when_both : {T R : Type 0} (r : Result T R) (P Q B : T → Type 0) → ((x : T) → P x → Q x → B x) → IfOk r P → IfOk r Q → IfOk r B
when_both (Ok x) P Q B both p q = both x p q
when_both (Err e) P Q B both p q = tt

pub searched : (S : Statistics) (q : Query) (limit : ℕ) (l found : Logged) → IsLogOf q l → IsWithinLimit q limit l.log → IsLeanBehind q l.log → found ≡ l → (best : BestPlan) → IsBest S q l.log best
    → (is_complete : Bool) → (is_complete ≡ true → IsClosed l.instances l.log) → IsSearched S q limit (record { log = found; best = best; is_complete = is_complete })
searched S q limit l found is within lean same best is_best is_complete closed =
    subst (λ f. IsSearched S q limit (record { log = f; best = best; is_complete = is_complete })) (sym same)
    (record { log = is; within = within; lean = lean; best = is_best; closed = λ so. subst (λ I. IsClosed I l.log) is.instances (closed so) })

module _ (S : Statistics) (q : Query) (bound : is_bound q ≡ true) (limit : ℕ) (found : Searched) (is : IsSearched S q limit found) (replays : Replays found.log.instances found.log.own found.log.log) where
  abbrev E : Log
  E = found.log.log

  abbrev whole : Certificate
  whole = record { lines = reverse E; plan = found.best.plan }

  here : Replays q.tables (own_aggregates q) (is.log.rest ++ frame_lines q)
  here = subst (λ L. Replays q.tables (own_aggregates q) L) is.log.log_is (subst (λ O. Replays q.tables O E) is.log.own (subst (λ I. Replays I found.log.own E) is.log.instances replays))

  labelled : Labelled S q.tables (is.log.rest ++ frame_lines q) (root_goal q) found.best.plan found.best.labels
  labelled = subst (λ L. Labelled S q.tables L (root_goal q) found.best.plan found.best.labels) is.log.log_is is.best.labelled

  all-replay : lines_replay q [] (reverse E) ≡ Ok E
  all-replay = subst (λ L. lines_replay q [] (reverse L) ≡ Ok L) (sym is.log.log_is) (lines-replay q bound is.log.rest here)

  whole-serves : replayed q whole ≡ Ok whole
  whole-serves = subst (λ L. replayed q (record { lines = reverse L; plan = found.best.plan }) ≡ Ok (record { lines = reverse L; plan = found.best.plan })) (sym is.log.log_is)
      (whole-replays q bound is.log.rest found.best.plan here labelled.offered)

  whole-cheap : IsNotDearer S q whole
  whole-cheap = subst (λ L. IsNotDearer S q (record { lines = reverse L; plan = found.best.plan })) (sym is.log.log_is)
      (whole-not-dearer q bound is.log.rest S found.best.plan found.best.labels labelled)

  whole-cost : found.best.cost ≡ certificate_cost S q whole
  whole-cost = is.best.cost ∙ ap (λ L. plan_cost S q.tables L found.best.plan) (sym (reverse-reverse E))

  pub record Serves (c : Certificate) : Type 0 where
    pub part : IsPart E found.best.plan c ⊎ (c ≡ whole)
    pub replayed_is : replayed q c ≡ Ok c
    pub cost : found.best.cost ≡ certificate_cost S q c
    pub cheap : IsNotDearer S q c

  pub all-serve : (c : Certificate) → c.lines ≡ reverse E → c.plan ≡ found.best.plan → Serves c
  all-serve c lines plan =
      let same : c ≡ whole = ap (λ L. record { lines = L; plan = c.plan }) lines ∙ ap (λ p. record { lines = reverse E; plan = p }) plan in
      subst Serves (sym same) (record { part = inr refl; replayed_is = whole-serves; cost = whole-cost; cheap = whole-cheap })

  pub planned : (exploration : Exploration) → (found.is_complete ≡ false → IsToldOf exploration limit E) → (lines : List Line) → reverse lines ≡ E → (c : Certificate) → Serves c
      → IsPlanned S q limit exploration (record { log = lines; plan = found.best.plan; labels = found.best.labels; is_complete = found.is_complete; certificate = c; cost = found.best.cost })
  planned exploration told lines back c serves =
      let turned : lines ≡ reverse E = sym (reverse-reverse lines) ∙ ap reverse back in
      let count : length E ≡ length lines = ap length (sym back) ∙ length-reverse lines in
      record {
        lines = subst (λ L. lines_replay q [] L ≡ Ok (reverse L)) (sym turned) (all-replay ∙ ap (λ L. Ok L) (sym (reverse-reverse E)));
        within = subst (λ n. n ≤ max limit (length (query_frame q))) count is.within;
        lean = subst (IsLeanBehind q) (sym back) is.lean;
        labelled = subst (λ L. Labelled S q.tables L (root_goal q) found.best.plan found.best.labels) (sym back) is.best.labelled;
        least = subst (λ L. found.best.cost ≡ plan_cost S q.tables L found.best.plan) (sym back) is.best.cost;
        whole = subst (λ L. replayed q (record { lines = L; plan = found.best.plan }) ≡ Ok (record { lines = L; plan = found.best.plan })) (sym turned) whole-serves;
        closed = λ so. subst (IsClosed q.tables) (sym back) (is.closed so);
        told = λ so. of exploration count (told so);
        part = elim serves.part [
          | inl trimmed ↦ inl (subst (λ L. IsPart L found.best.plan c) (sym back) trimmed)
          | inr all ↦ inr (all ∙ ap (λ L. record { lines = L; plan = found.best.plan }) (sym turned))
        ];
        replays = serves.replayed_is;
        cost = serves.cost;
        cheap = serves.cheap;
      }
    where
      of : (e : Exploration) → length E ≡ length lines → IsToldOf e limit E → IsToldOf e limit lines
      of ToLimit count so = subst (λ n. limit ≤ n) count so
      of WhileWorthwhile count so = so

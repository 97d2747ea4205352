-- The goal of a query's plans over a log that begins with its frame: it is one, the canonical plan is offered for it, and each plan that is makes a certificate with
-- the log's lines that replays.
use Rattle.std.proofs.Common.{◌≡◌, refl, ap, sym, ◌∙◌, subst, inl, inr, ℕ, zero, suc, ◌+◌, ◌-◌, ◌<◌, ◌≤◌, Bool, true, false, not, ◌&&◌, ◌==◌, if◌then◌else◌, List, [], ◌∷◌, ◌++◌, filter, length, map, reverse, slice_get, option_map, append_assoc, Option, Some, None, Result, Ok, arith}
use Rattle.std.specs.List.{list_all, list_any}
use Rattle.std.proofs.lemmas.Bool.{and_from, and_parts, eq-eqb, eqb-true, or_parts}
use Rattle.std.proofs.lemmas.List.{length-append, length-map, length-reverse}
use Rattle.std.proofs.lemmas.Option.{slice_get-map}
use Rattle.values.specs.Faults.{◌>>=◌}
use Rattle.query.specs.declared.query.Query.{Query}
use Rattle.query.specs.declared.query.TableInstance.{TableInstance}
use Rattle.query.specs.Bound.{is_bound}
use Rattle.algebra.specs.declared.expr.Expr.{Expr}
use Rattle.algebra.specs.Classes.{class_columns}
use Rattle.algebra.specs.Columns.{has, is_subset}
use Rattle.frame.specs.Frames.{query_frame, query_numbers}
use Rattle.frame.specs.FormedFrames.{own_aggregates}
use Rattle.frame.proofs.FormedQueries.{frames_formed}
use Rattle.rules.specs.Matches as matches
use Rattle.derivation.specs.declared.line.Line.{Line}
use Rattle.derivation.specs.declared.line.Line.TheVariants.{Founds}
use Rattle.derivation.specs.Logs.{Log, entries, founds, is_founding, least, line_at, member}
use Rattle.derivation.specs.Replay.{Replays}
use Rattle.derivation.proofs.Lookups.{columns-stay, earlier, member-stays, within}
use Rattle.logs.specs.Logged.{Logged}
use Rattle.lean_logs.specs.Growth.{Grows}
use Rattle.logs.proofs.LogLines.{line-at}
use Rattle.physical.specs.declared.plan.OrderKey.{OrderKey}
use Rattle.certificate.specs.QueryOrders.{first_keys, ordered_columns, query_order}
use Rattle.certificate.specs.Replay.{root}
use Rattle.certificate.proofs.Founded.{map-reverse}
use Rattle.certificate.proofs.FrameLines.{founded-entries}
use Rattle.labels.specs.declared.goal.Goal.{Goal}
use Rattle.labels.specs.Offers.{are_different, goal_of, is_goal}
use Rattle.labels.specs.Plans.{columns_in}
use Rattle.labels.proofs.ClosedGoals.{goal-is}
use Rattle.labels.proofs.GoalsBelow.{IsOrder}
use Rattle.labels.proofs.Shaped.{AreShaped, are-shaped}
use Rattle.planner.specs.Searched.{IsLogOf, frame_lines, root_goal}
use Rattle.planner.proofs.BegunLogs.{Begins, last-some}
use Rattle.planner.proofs.OrderedPlans.{order_subset}

-- ---- lines behind others

behind-line : (rest : List Line) (F : Log) (n : ℕ) (l : Line) → line_at F n ≡ Some l → line_at (rest ++ F) n ≡ Some l
behind-line [] F n l at = at
behind-line (k ∷ rest) F n l at = let before = behind-line rest F n l at in earlier k (rest ++ F) n (within (rest ++ F) n l before) ∙ before

pub behind-member : (rest : List Line) (F : Log) (i : ℕ) (l : matches.Line) → member F i ≡ Some l → member (rest ++ F) i ≡ Some l
behind-member [] F i l at = at
behind-member (k ∷ rest) F i l at = member-stays k (rest ++ F) i l (behind-member rest F i l at)

behind-columns : (instances : List TableInstance) (rest : List Line) (F : Log) (g : ℕ) → g < length F → columns_in instances (rest ++ F) g ≡ columns_in instances F g
behind-columns instances [] F g lt = refl
behind-columns instances (k ∷ rest) F g lt =
    let count : length (rest ++ F) ≡ length rest + length F = length-append rest F in
    columns-stay instances k (rest ++ F) g (omega (arith, count, lt)) ∙ behind-columns instances rest F g lt

-- ---- the frame

frame-line : (q : Query) (n : ℕ) (x : Expr) → slice_get (query_frame q) n ≡ Some x → line_at (frame_lines q) n ≡ Some (Founds x)
frame-line q n x at =
    ap (λ E. line_at E n) (map-reverse Founds (query_frame q)) ∙ line-at (map Founds (query_frame q)) n ∙ slice_get-map Founds (query_frame q) n ∙ ap (option_map Founds) at

pub log-begins : (q : Query) (rest : List Line) → Begins (query_frame q) (rest ++ frame_lines q)
log-begins q rest n x at = behind-line rest (frame_lines q) n (Founds x) (frame-line q n x at)

frame-length : (q : Query) → length (frame_lines q) ≡ length (query_frame q)
frame-length q = length-map (reverse (query_frame q)) Founds ∙ length-reverse (query_frame q)

-- ---- the order

abbrev has_key : ℕ → List OrderKey → Bool
has_key c keys = list_any (λ k. k.column == c) keys

none-left : (p : OrderKey → Bool) (c : ℕ) (keys : List OrderKey) → has_key c keys ≡ false → has_key c (filter p keys) ≡ false
none-left p c [] h = refl
none-left p c (k ∷ keys) h =
    let parts = or_parts (k.column == c) (has_key c keys) h in
    by parts.0 (none-left p c keys parts.1) (p k)
  where
    by : (k.column == c) ≡ false → has_key c (filter p keys) ≡ false → (t : Bool) → has_key c (if t then k ∷ filter p keys else filter p keys) ≡ false
    by own rest true = rw own rest
    by own rest false = rest

none-kept : (c : ℕ) (keys : List OrderKey) → has_key c (filter (λ j. not (c == j.column)) keys) ≡ false
none-kept c [] = refl
none-kept c (k ∷ keys) = by (none-kept c keys) (c == k.column) refl (k.column == c) refl
  where
    by : has_key c (filter (λ j. not (c == j.column)) keys) ≡ false → (t : Bool) → (c == k.column) ≡ t → (u : Bool) → (k.column == c) ≡ u
        → has_key c (if not t then k ∷ filter (λ j. not (c == j.column)) keys else filter (λ j. not (c == j.column)) keys) ≡ false
    by rest true is u other = rest
    by rest false is true other = absurd (let e : false ≡ true = sym is ∙ eq-eqb c k.column (sym (eqb-true k.column c other)) in cc)
    by rest false is false other = rw other rest

different-kept : (p : OrderKey → Bool) (keys : List OrderKey) → are_different keys ≡ true → are_different (filter p keys) ≡ true
different-kept p [] h = refl
different-kept p (k ∷ keys) h =
    let parts = and_parts (not (has_key k.column keys)) (are_different keys) h in
    by (ap not (none-left p k.column keys (not-true (has_key k.column keys) parts.0))) (different-kept p keys parts.1) (p k)
  where
    not-true : (t : Bool) → not t ≡ true → t ≡ false
    not-true true h = cc
    not-true false h = refl

    by : not (has_key k.column (filter p keys)) ≡ true → are_different (filter p keys) ≡ true → (t : Bool) → are_different (if t then k ∷ filter p keys else filter p keys) ≡ true
    by own rest true = and_from _ _ own rest
    by own rest false = rest

first-different : (keys : List OrderKey) → are_different (first_keys keys) ≡ true
first-different [] = refl
first-different (k ∷ keys) =
    and_from _ _ (ap not (none-kept k.column (first_keys keys))) (different-kept (λ j. not (k.column == j.column)) (first_keys keys) (first-different keys))

-- ---- the goal

-- the query's class, its columns, and its order
pub record IsRoot (q : Query) (E : Log) : Type 0 where
  pub founded : founds E (root q) ≡ true
  pub ordered : IsOrder (columns_in q.tables E (root q)) (query_order q)

pub root-is : (q : Query) → is_bound q ≡ true → (rest : List Line) → IsRoot q (rest ++ frame_lines q)
root-is q bound rest =
    let formed = frames_formed q bound in
    let F : Log = frame_lines q in
    let some : 0 < length (query_frame q) = formed.some in
    let last : root q < length F = let count : length F ≡ length (query_frame q) = frame-length q in omega (arith, some, count) in
    let columns : columns_in q.tables (rest ++ F) (root q) ≡ columns_in q.tables F (root q) = behind-columns q.tables rest F (root q) last in
    let shown = subst (λ L. is_subset (query_numbers q) (class_columns q.tables L (root q)) ≡ true) (sym (founded-entries (reverse (query_frame q)))) formed.shown in
    record {
      founded = elim (last-some (query_frame q)) [
        | inl none ↦ absurd (omega (arith, some, none))
        | inr is ↦ ap is_founding (ap (line_at (rest ++ F)) (let e : length (query_frame q) - 1 ≡ is.0 = omega (arith, is.2) in e) ∙ log-begins q rest is.0 is.1 is.3)
      ];
      ordered = (subst (λ K. list_all (λ k. has K k.column) (query_order q) ≡ true) (sym columns) (order_subset q (columns_in q.tables F (root q)) shown), first-different (ordered_columns (query_numbers q) q.order));
    }

pub root-goal : (q : Query) → is_bound q ≡ true → (rest : List Line) → Replays q.tables (own_aggregates q) (rest ++ frame_lines q)
    → is_goal (rest ++ frame_lines q) (columns_in q.tables (rest ++ frame_lines q)) (goal_of (rest ++ frame_lines q) (root q) (query_order q)) ≡ true
root-goal q bound rest replays =
    let E : Log = rest ++ frame_lines q in
    let shaped = are-shaped q.tables (own_aggregates q) E replays in
    let is = root-is q bound rest in
    goal-is q.tables (own_aggregates q) E shaped (root q) (query_order q) is.founded is.ordered

-- nothing is found only where the root is no goal, and it is one
pub found_some : (q : Query) → is_bound q ≡ true → (l : Logged) → IsLogOf q l → Replays l.instances l.own l.log → (goal : Goal) → goal ≡ root_goal q
    → is_goal l.log (columns_in l.instances l.log) (goal_of l.log goal.class goal.order) ≡ false → ⊥
found_some q bound l is replays goal same none =
    let here : Replays q.tables (own_aggregates q) (is.rest ++ frame_lines q)
    = subst (λ L. Replays q.tables (own_aggregates q) L) is.log_is (subst (λ O. Replays q.tables O l.log) is.own (subst (λ I. Replays I l.own l.log) is.instances replays)) in
    let yes_ = root-goal q bound is.rest here in
    let no_ : is_goal (is.rest ++ frame_lines q) (columns_in q.tables (is.rest ++ frame_lines q)) (goal_of (is.rest ++ frame_lines q) (root q) (query_order q)) ≡ false
    = subst (λ L. is_goal L (columns_in q.tables L) (goal_of L (root q) (query_order q)) ≡ false) is.log_is
    (subst (λ I. is_goal l.log (columns_in I l.log) (goal_of l.log (root q) (query_order q)) ≡ false) is.instances
    (subst (λ (g : Goal). is_goal l.log (columns_in l.instances l.log) (goal_of l.log g.class g.order) ≡ false) same none)) in
    let e : true ≡ false = sym yes_ ∙ no_ in cc

-- lines behind those of a query are lines of it
pub log_grows : (q : Query) (a b : Logged) → IsLogOf q a → Grows a b → IsLogOf q b
log_grows q a b is grows = record {
  instances = grows.instances ∙ is.instances;
  own = grows.own ∙ is.own;
  rest = grows.more ++ is.rest;
  log_is = grows.log ∙ ap (λ L. grows.more ++ L) is.log_is ∙ sym (append_assoc grows.more is.rest (frame_lines q));
}

-- The plan with the sort on top is of the same class, and delivers the ORDER BY.
use Rattle.std.proofs.Common.{◌≡◌, refl, sym, ◌∙◌, ℕ, ◌+◌, Bool, true, false, not, ◌==◌, if◌then◌else◌, List, [], ◌∷◌, filter, length, take, Option, Some, None, Ok}
use Rattle.std.specs.List.{slice_get, list_all}
use Rattle.std.specs.Coded.{coded_list}
use Rattle.std.proofs.lemmas.Bool.{and_from, and_parts}
use Rattle.std.proofs.Math.Seq.{take-length}
use Rattle.values.proofs.Lists.{passes_at}
use Rattle.query.specs.declared.query.SortKey as order_by
use Rattle.query.specs.declared.query.Query.{Query}
use Rattle.query.specs.declared.query.TableInstance.{TableInstance}
use Rattle.algebra.specs.declared.expr.Expr.{Expr}
use Rattle.algebra.specs.Columns.{has, is_subset}
use Rattle.frame.specs.Frames.{query_numbers}
use Rattle.algebra.proofs.Same.{tested}
use Rattle.physical.specs.declared.plan.OrderKey.{OrderKey}
use Rattle.physical.specs.contracts.plan.OrderKey as order_key
use Rattle.physical.specs.declared.plan.Node.TheVariants.{Sort}
use Rattle.physical.specs.declared.plan.Plan.{Plan, out-roll-Plan, fold-roll-Plan}
use Rattle.physical.specs.Orders.{order_layer, plan_order}
use Rattle.certificate.specs.QueryOrders.{first_keys, ordered_column, ordered_columns, query_order}
use Rattle.certificate.specs.Replay.{plan_fits, is_delivered}
use Rattle.physical.specs.RequiredOrders.{same_order}
use Rattle.certificate.proofs.Fits.{plan_fits_out}
use Rattle.planner.specs.Canonical.{log_of, top, IsPlanOf}

-- the columns of the keys are among these
abbrev pub AreColumns : List ℕ → List OrderKey → Type 0
AreColumns columns keys = list_all (λ k. has columns k.column) keys ≡ true

-- keys of an ORDER BY name columns of the items
key-subset : (numbers columns : List ℕ) (k : order_by.SortKey) (keys : List OrderKey) → is_subset numbers columns ≡ true → AreColumns columns keys
    → AreColumns columns (ordered_column (slice_get numbers k.item) k keys)
key-subset numbers columns k keys shown rest = by (slice_get numbers k.item) refl
  where
    by : (o : Option ℕ) → slice_get numbers k.item ≡ o → AreColumns columns (ordered_column o k keys)
    by None at = rest
    by (Some c) at = and_from _ _ (passes_at (has columns) numbers k.item c shown at) rest

keys-subset : (numbers columns : List ℕ) (keys : List order_by.SortKey) → is_subset numbers columns ≡ true → AreColumns columns (ordered_columns numbers keys)
keys-subset numbers columns [] shown = refl
keys-subset numbers columns (k ∷ keys) shown = key-subset numbers columns k (ordered_columns numbers keys) shown (keys-subset numbers columns keys shown)

pub same-order : (keys : List OrderKey) → same_order keys keys ≡ true
unfolding same_order
same-order keys = sym (tested (coded_list order_key.the_row.coded) true keys keys (λ _. refl, λ _. refl))

-- a sort delivers its keys
sort_delivers : (instances : List TableInstance) (k : OrderKey) (keys : List OrderKey) (plan : Plan) → plan_order instances (top (k ∷ keys) plan) ≡ k ∷ keys
unfolding plan_order
sort_delivers instances k keys plan = fold-roll-Plan (List OrderKey) (order_layer instances) (record { node = Sort (k ∷ keys); inputs = plan ∷ [] })

-- no keys are delivered by any plan
pub top_delivered : (q : Query) (plan : Plan) → is_delivered q (top (query_order q) plan) ≡ true
top_delivered q plan = by (query_order q)
  where
    by : (keys : List OrderKey) → same_order (take (length keys) (plan_order q.tables (top keys plan))) keys ≡ true
    by [] = same-order []
    by (k ∷ keys) = rw (sort_delivers q.tables k keys plan, take-length (k ∷ keys)) (same-order (k ∷ keys))

-- the sort is of the class of the plan below
pub top_fits : (instances : List TableInstance) (lines : List Expr) (cols : ℕ → List ℕ) (keys : List OrderKey) (plan : Plan) (g n : ℕ) → IsPlanOf lines g plan → AreColumns (cols g) keys
    → (m : ℕ) × (plan_fits instances (log_of lines) cols (top keys plan) true g n ≡ Ok m)
top_fits instances lines cols [] plan g n is columns = is.fits instances cols n
top_fits instances lines cols (k ∷ keys) plan g n is columns =
    let input = is.fits instances cols (n + 1) in
    (input.0, plan_fits_out instances (log_of lines) cols (top (k ∷ keys) plan) true g n ∙ rw (out-roll-Plan (record { node = Sort (k ∷ keys); inputs = plan ∷ [] }), columns, input.1) refl)

others-subset : (columns : List ℕ) (p : OrderKey → Bool) (keys : List OrderKey) → AreColumns columns keys → AreColumns columns (filter p keys)
others-subset columns p [] are = refl
others-subset columns p (k ∷ keys) are =
    let parts = and_parts (has columns k.column) (list_all (λ k. has columns k.column) keys) are in
    by parts.0 (others-subset columns p keys parts.1) (p k)
  where
    by : has columns k.column ≡ true → AreColumns columns (filter p keys) → (t : Bool) → AreColumns columns (if t then k ∷ filter p keys else filter p keys)
    by own rest true = and_from _ _ own rest
    by own rest false = rest

first-subset : (columns : List ℕ) (keys : List OrderKey) → AreColumns columns keys → AreColumns columns (first_keys keys)
first-subset columns [] are = refl
first-subset columns (k ∷ keys) are =
    let parts = and_parts (has columns k.column) (list_all (λ k. has columns k.column) keys) are in
    and_from _ _ parts.0 (others-subset columns (λ j. not (k.column == j.column)) (first_keys keys) (first-subset columns keys parts.1))

-- the ORDER BY is by columns of the class that shows the items
pub order_subset : (q : Query) (columns : List ℕ) → is_subset (query_numbers q) columns ≡ true → AreColumns columns (query_order q)
order_subset q columns shown = first-subset columns (ordered_columns (query_numbers q) q.order) (keys-subset (query_numbers q) columns q.order shown)

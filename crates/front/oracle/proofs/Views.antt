-- What a block shows of rows or of groups, at those where its HAVING holds.
use Rattle.std.proofs.Common.{◌≡◌, refl, ap, sym, ◌∙◌, Bool, true, false, if◌then◌else◌, option_map, List, [], ◌∷◌, ◌++◌, map, filter}
use Rattle.std.proofs.lemmas.List.{map_push}
use mathlib.Core.List.{map-map}
use Rattle.values.proofs.Lists.{filter-map, filter_kept, filter_left}
use Rattle.schema.specs.Databases.{Row}
use Rattle.query.specs.declared.query.Block.{Block}
use Rattle.query.specs.Rows.{Env, Tables, distinct}
use Rattle.query.specs.Aggregates.{groups}
use Rattle.query.specs.Meaning as meaning
use Rattle.query.specs.Meaning.{row_of_row, row_of_group, all_shown, passes_filter, truth, source, rows}
use Rattle.query.proofs.Equations.{rows-Block}
use Rattle.oracle.specs.declared.blocks.View.{View}
use Rattle.oracle.specs.Views.{view_of_row, view_of_group, views, views_by, shown_at}

-- that is what the block's meaning has
pub shown-is : (is_grouped : Bool) (q : Block) (keeps : Row → Bool) (e : Env) (L : List Row) → shown_at keeps (views_by is_grouped q e L) ≡ all_shown is_grouped q.keys q.having_items keeps q.items e L
shown-is false q keeps e L =
    ap (map (λ v. v.shown)) (filter-map (λ v. keeps v.asked) (view_of_row q e) L) ∙ map-map (λ v. v.shown) (view_of_row q e) (filter (λ s. keeps (row_of_row e q.having_items s)) L)
shown-is true q keeps e L =
    ap (map (λ v. v.shown)) (filter-map (λ v. keeps v.asked) (view_of_group q e) (groups q.keys L))
    ∙ map-map (λ v. v.shown) (view_of_group q e) (filter (λ g. keeps (row_of_group q.keys e q.having_items g)) (groups q.keys L))

-- the next view is shown, or not
pub shown-next : (keeps : Row → Bool) (all : List View) (v : View) → keeps v.asked ≡ true → shown_at keeps (all ++ v ∷ []) ≡ shown_at keeps all ++ v.shown ∷ []
shown-next keeps all v passes = ap (map (λ w. w.shown)) (filter_kept (λ w. keeps w.asked) all v passes) ∙ map_push (λ w. w.shown) (filter (λ w. keeps w.asked) all) v

pub left-out : (keeps : Row → Bool) (all : List View) (v : View) → keeps v.asked ≡ false → shown_at keeps (all ++ v ∷ []) ≡ shown_at keeps all
left-out keeps all v fails = ap (map (λ w. w.shown)) (filter_left (λ w. keeps w.asked) all v fails)

-- a block's rows, by the steps that compute them
pub rows-are : (q : Block) (D : Tables) (e : Env) (passing shown : List Row) (all : List View) (twice : Bool) → passing ≡ filter (passes_filter (option_map truth q.filter) D e) (source q.from D e) → all ≡ views q e passing
    → shown ≡ shown_at (passes_filter (option_map truth q.having) D []) all → q.distinct ≡ twice → (if twice then distinct shown else shown) ≡ rows q D e
rows-are q D e passing shown all twice at views_are shown_are is =
    let keeps : Row → Bool = passes_filter (option_map truth q.having) D [] in
    let L : List Row = filter (passes_filter (option_map truth q.filter) D e) (source q.from D e) in
    let same : shown ≡ all_shown q.grouped q.keys q.having_items keeps q.items e L = shown_are ∙ ap (shown_at keeps) views_are ∙ ap (λ (M : List Row). shown_at keeps (views q e M)) at ∙ shown-is q.grouped q keeps e L in
    ap (λ (M : List Row). if twice then distinct M else M) same ∙ by twice ∙ ap (λ b. meaning.shown b q.grouped q.keys q.having_items keeps q.items e L) (sym is) ∙ sym (rows-Block q D e)
  where
    by : (b : Bool) → (if b then distinct (all_shown q.grouped q.keys q.having_items (passes_filter (option_map truth q.having) D []) q.items e (filter (passes_filter (option_map truth q.filter) D e) (source q.from D e)))
        else all_shown q.grouped q.keys q.having_items (passes_filter (option_map truth q.having) D []) q.items e (filter (passes_filter (option_map truth q.filter) D e) (source q.from D e)))
        ≡ meaning.shown b q.grouped q.keys q.having_items (passes_filter (option_map truth q.having) D []) q.items e (filter (passes_filter (option_map truth q.filter) D e) (source q.from D e))
    by true = refl
    by false = refl

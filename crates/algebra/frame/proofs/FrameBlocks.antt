-- What the frame makes of a block means it, if it does so of the parts.
use Rattle.std.proofs.Common.{◌≡◌, refl, ap, sym, ◌∙◌, subst, ℕ, ◌<◌, Bool, true, false, nat_lt, if◌then◌else◌, List, [], ◌∷◌, ◌++◌, map, filter, length, Option, Some, None, option_map}
use Rattle.std.specs.List.{list_all, AllByRecursion}
use Rattle.std.proofs.lemmas.Bool.{and_parts}
use Rattle.values.specs.declared.value.Value.{Value}
use Rattle.values.proofs.Lists.{filter_all, filter-map}
use Rattle.schema.specs.Databases.{Row, HaveWidth, values_at}
use Rattle.query.specs.declared.query.Item.{Item}
use Rattle.query.specs.declared.query.TableInstance.{TableInstance}
use Rattle.query.specs.declared.query.Cond.{Cond}
use Rattle.query.specs.declared.query.Block.{Block}
use Rattle.query.specs.Rows as query_rows
use Rattle.query.specs.Rows.{Tables, IsFitting}
use Rattle.values.specs.Truth.{is_true}
use Rattle.query.specs.Meaning as query
use Rattle.query.specs.Aggregates as query_groups
use Rattle.query.specs.Aggregates.{groups}
use Rattle.query.specs.Meaning.{item_of_row, item_of_group, row_of_group, all_shown, passes_filter, source}
use Rattle.query.specs.Bound.{Scope, having_scope, bound_filter, bound_items, aggregate_numbers, all_differ, number_at, cond_scope, from_scope, item_number}
use Rattle.query.proofs.Equations as meaning
use Rattle.query.proofs.ScopeEquations.{scope-Block}
use Rattle.query.proofs.Widths.{source_fits, length-nulls}
use Rattle.algebra.specs.declared.expr.Expr.{Expr}
use Rattle.algebra.specs.declared.expr.Expr.TheVariants.{Select, Group, Keep, Distinct}
use Rattle.algebra.specs.AggregateOrder.{by_column}
use Rattle.algebra.specs.Columns.{has, rising}
use Rattle.algebra.specs.Bags.{Env, lay, group, distinct_on}
use Rattle.algebra.specs.Conditions.{holds}
use Rattle.algebra.specs.Expressions.{with_aggregates}
use Rattle.algebra.specs.Classes.{class_rows, class_columns}
use Rattle.frame.specs.Frames.{conjuncts_of, CondLines, cond_frame, from_frame, select_lines, group_lines, keep_lines, distinct_lines, aggregations, own_numbers, last}
use Rattle.frame.proofs.FrameEquations.{frame-Block}
use Rattle.frame.proofs.FrameGroups.{plain-items, group-items, group-keyed, groups-keyed, with_key, first_rows}
use Rattle.frame.proofs.FrameRight.{CondRight, FromRight, CondMeans, FromMeans, BlockMeans, block-right, last_rows}
use Rattle.frame.proofs.FrameShapes.{BoundParts, Stages, cond-shape, bound-parts, filtered, stages-of}
use Rattle.frame.proofs.Growth.{grows-none, kept-rows, top-rows, top-columns, last-below}
use Rattle.frame.proofs.Induction.{OfFilter}
use Rattle.values.proofs.Each.{all_filter}
use mathlib.Core.List.{map-map}
use Rattle.algebra.proofs.Lists.{through, all-distinct}
use Rattle.algebra.proofs.AggregateLists.{with-ordered}
use Rattle.algebra.proofs.ConnectiveParts.{conjuncts-hold}
use Rattle.algebra.proofs.Puts.{put, Agrees, IsNew, agrees-put, new-right}
use Rattle.frame.proofs.Shown.{Reads, reads-row, shows, shows-once, all_parts}

module _ (instances : List TableInstance) (D : Tables) (fits : IsFitting D) where
  -- ---- WHERE and HAVING

  -- Behind the lines of a condition the last class has those rows at which it holds. What the condition sees of each is a row
  -- beside others.
  abbrev SelectRight : Option Cond → Scope → List Expr → Type 1
  SelectRight o inner A = (ρ : List Row) (e : Env) (P : Row → Type 0) (g : Row → Env) (sees : Row → Row) (L : List Row) → last_rows instances D A e ≡ map g L → bound_filter (option_map (cond_scope instances) o) inner ≡ true
      → ((s : Row) → P s → Agrees inner (sees s ∷ ρ) (g s)) → AllByRecursion P L
      → last_rows instances D (select_lines (option_map (cond_frame instances) o) inner A) e ≡ map g (filter (λ s. passes_filter (option_map query.truth o) D ρ (sees s)) L)

  select-right : (o : Option Cond) → OfFilter (CondMeans instances D) (FromMeans instances D) (BlockMeans instances D) o → (inner : Scope) (A : List Expr) → 0 < length A → SelectRight o inner A
  select-right None means inner A some ρ e P g sees L is bound agrees all = is ∙ ap (map g) (sym (filter_all L))
  select-right (Some c) means inner A some ρ e P g sees L is bound agrees all =
      let framed : CondLines = cond_frame instances c inner A in
      let right : CondRight instances D framed (cond_scope instances c) (λ ρ. query.truth c D ρ) inner = means inner A in
      let test : Env → Bool = holds (class_rows instances D framed.lines) (conjuncts_of framed) in
      top-rows instances D (Select (conjuncts_of framed) (last A)) framed.lines e
      ∙ ap (filter test) (kept-rows instances D framed.lines A (last A) e (cond-shape instances c inner A).grows (last-below A some) ∙ is)
      ∙ through P g test (λ s. passes_filter (Some (query.truth c)) D ρ (sees s)) L
      (λ s p. conjuncts-hold framed.condition _ _ ∙ ap is_true (right.truth framed.lines (sees s ∷ ρ) (g s) (grows-none framed.lines) bound (agrees s p))) all

  -- ---- the last lines, over rows that read as they show

  keep-rows : (scope : Scope) (items : List Item) (A : List Expr) (e : Env) → last_rows instances D (keep_lines scope items A) e ≡ map (λ r. lay (has (rising (own_numbers scope items))) r e) (last_rows instances D A e)
  keep-rows scope items A e = top-rows instances D (Keep (rising (own_numbers scope items)) (last A)) A e

  end-rows : (twice : Bool) (scope : Scope) (items : List Item) (A : List Expr) (e : Env) (h : Row → Env) (sh : Row → Item → Value) (P : Row → Type 0) (xs : List Row)
      → last_rows instances D A e ≡ map h xs → AllByRecursion P xs → AllByRecursion (Reads scope e h sh P) items
      → map (λ r. map r (map (item_number scope) items)) (last_rows instances D (distinct_lines twice (keep_lines scope items A)) e) ≡ (if twice then query_rows.distinct (map (λ x. map (sh x) items) xs) else map (λ x. map (sh x) items) xs)
  end-rows false scope items A e h sh P xs is px all =
      let projected : List Env → List Env = map (λ r. lay (has (rising (own_numbers scope items))) r e) in
      ap (map (λ r. map r (map (item_number scope) items))) (keep-rows scope items A e ∙ ap projected is) ∙ shows scope e h sh P items xs px all
  end-rows true scope items A e h sh P xs is px all =
      let K : List ℕ = rising (own_numbers scope items) in
      let kept : List Expr = keep_lines scope items A in
      let projected : List Env → List Env = map (λ r. lay (has K) r e) in
      let columns : class_columns instances kept (last kept) ≡ K = top-columns instances (Keep K (last A)) A in
      ap (map (λ r. map r (map (item_number scope) items)))
      (top-rows instances D (Distinct (last kept)) kept e ∙ ap (λ C. map (λ r. lay (has C) r e) (distinct_on C (last_rows instances D kept e))) columns ∙ ap (λ L. projected (distinct_on K L)) (keep-rows scope items A e ∙ ap projected is))
      ∙ shows-once scope e h sh P items xs px all

  -- ---- the rows of groups and of rows alone

  module _ (numbers : List ℕ) (scope : Scope) (ρ : List Row) (e : Env) (agree : Agrees scope ρ e) (new : IsNew numbers scope) where
    abbrev Wide : Row → Type 0
    Wide s = length s ≡ length numbers

    -- what a block shows of the rows that it keeps, once each or as often as they come
    abbrev once : Bool → List Row → List Row
    once twice rows = if twice then query_rows.distinct rows else rows

    -- behind the lines of HAVING, Keep and Distinct stands what the items show of the rows at which HAVING holds
    asked-shown : (o : Option Cond) → OfFilter (CondMeans instances D) (FromMeans instances D) (BlockMeans instances D) o → (twice : Bool) (items asked : List Item) (A : List Expr) → 0 < length A → (h : Row → Env) (sh : Row → Item → Value) (xs : List Row)
        → last_rows instances D A e ≡ map h xs → AllByRecursion Wide xs → AllByRecursion (Reads (numbers ∷ scope) e h sh Wide) (items ++ asked) → bound_filter (option_map (cond_scope instances) o) (having_scope (numbers ∷ scope) asked) ≡ true
        → map (λ r. map r (map (item_number (numbers ∷ scope)) items)) (last_rows instances D (distinct_lines twice (keep_lines (numbers ∷ scope) items (select_lines (option_map (cond_frame instances) o) (having_scope (numbers ∷ scope) asked) A))) e)
        ≡ once twice (map (λ x. map (sh x) items) (filter (λ x. passes_filter (option_map query.truth o) D [] (map (sh x) asked)) xs))
    asked-shown o means twice items asked A some h sh xs is wide all bound =
        let keeps : Row → Bool = λ x. passes_filter (option_map query.truth o) D [] (map (sh x) asked) in
        let parts = all_parts (Reads (numbers ∷ scope) e h sh Wide) items asked all in
        end-rows twice (numbers ∷ scope) items (select_lines (option_map (cond_frame instances) o) (having_scope (numbers ∷ scope) asked) A) e h sh Wide (filter keeps xs)
        (select-right o means (having_scope (numbers ∷ scope) asked) A some [] e Wide h (λ x. map (sh x) asked) xs is bound (λ x w. ap (λ (r : Row). r ∷ []) (reads-row (numbers ∷ scope) e h sh Wide asked x w parts.1)) wide)
        (all_filter Wide keeps xs wide) parts.0

    -- the rows of a Group, by a row and the rows with its key for each group
    record GroupRows (keys : List ℕ) (items : List Item) (A : List Expr) (L : List Row) : Type 0 where
      firsts : List Row
      members : Row → List Row
      wide : AllByRecursion Wide firsts
      members_wide : (s : Row) → AllByRecursion Wide (members s)
      rows : last_rows instances D (group_lines true numbers keys items A) e
          ≡ map (λ s. with_aggregates (aggregations numbers items) (map (λ t. put numbers t e) (members s)) (lay (has (rising (map (number_at numbers) keys))) (put numbers s e) e)) firsts
      are_groups : groups keys L ≡ map (λ s. record { key = values_at keys s; rows = members s }) firsts

    group-rows : (keys : List ℕ) (items : List Item) (A : List Expr) (L : List Row) → last_rows instances D A e ≡ map (λ s. put numbers s e) L → AllByRecursion Wide L → list_all (λ k. nat_lt k (length numbers)) keys ≡ true → GroupRows keys items A L
    group-rows [] items A L is wide within = record {
      firsts = query_rows.nulls (length numbers) ∷ [];
      members = λ s. L;
      wide = (length-nulls (length numbers), tt);
      members_wide = λ s. wide;
      rows = top-rows instances D (Group [] (by_column (aggregations numbers items)) (last A)) A e ∙ ap (λ w. group [] w (class_rows instances D A (last A)) e) (with-ordered (aggregations numbers items)) ∙ ap (λ X. with_aggregates (aggregations numbers items) X e ∷ []) is;
      are_groups = refl;
    }
    group-rows (k ∷ keys) items A L is wide within = record {
      firsts = first_rows (k ∷ keys) L;
      members = with_key (k ∷ keys) L;
      wide = all-distinct Wide _ L wide;
      members_wide = λ s. all_filter Wide _ L wide;
      rows = top-rows instances D (Group (rising (map (number_at numbers) (k ∷ keys))) (by_column (aggregations numbers items)) (last A)) A e
          ∙ ap (λ w. group (rising (map (number_at numbers) (k ∷ keys))) w (class_rows instances D A (last A)) e) (with-ordered (aggregations numbers items))
          ∙ group-keyed numbers scope ρ e agree new items k keys (class_rows instances D A (last A)) L is wide within;
      are_groups = groups-keyed k keys L;
    }

    -- the lines behind FROM and WHERE, whose last class has the rows L, show what the block shows of L
    module _ (o : Option Cond) (means : OfFilter (CondMeans instances D) (FromMeans instances D) (BlockMeans instances D) o) (twice : Bool) (keys : List ℕ) (items asked : List Item) (A : List Expr) (L : List Row) where
      abbrev all : List Item
      all = items ++ asked

      abbrev keeps : Row → Bool
      keeps = passes_filter (option_map query.truth o) D []

      shown-is : (is_grouped : Bool) → once twice (all_shown is_grouped keys asked keeps items ρ L) ≡ query.shown twice is_grouped keys asked keeps items ρ L
      shown-is is_grouped = by twice
        where
          by : (b : Bool) → (if b then query_rows.distinct (all_shown is_grouped keys asked keeps items ρ L) else all_shown is_grouped keys asked keeps items ρ L) ≡ query.shown b is_grouped keys asked keeps items ρ L
          by true = refl
          by false = refl

      shown-rows : (is_grouped : Bool) → 0 < length (group_lines is_grouped numbers keys all A) → last_rows instances D A e ≡ map (λ s. put numbers s e) L → AllByRecursion Wide L
          → IsNew (aggregate_numbers all ++ numbers) scope → bound_items is_grouped (length numbers) keys all (numbers ∷ scope) ≡ true → bound_filter (option_map (cond_scope instances) o) (having_scope (numbers ∷ scope) asked) ≡ true
          → map (λ r. map r (map (item_number (numbers ∷ scope)) items)) (last_rows instances D (distinct_lines twice (keep_lines (numbers ∷ scope) items (select_lines (option_map (cond_frame instances) o) (having_scope (numbers ∷ scope) asked) (group_lines is_grouped numbers keys all A)))) e)
          ≡ query.shown twice is_grouped keys asked keeps items ρ L
      shown-rows false some is wide apart bound having =
          asked-shown o means twice items asked A some (λ s. put numbers s e) (item_of_row ρ) L is wide (plain-items numbers scope ρ e agree new all bound) having ∙ shown-is false
      shown-rows true some is wide apart bound having =
          let parts = and_parts (list_all (λ k. nat_lt k (length numbers)) keys) _ bound in
          let G : GroupRows keys all A L = group-rows keys all A L is wide parts.0 in
          let group_at : Row → query_groups.Group = λ s. record { key = values_at keys s; rows = G.members s } in
          let passing : query_groups.Group → Bool = λ g. keeps (row_of_group keys ρ asked g) in
          let grouped : map (row_of_group keys ρ items) (filter passing (groups keys L)) ≡ map (λ s. row_of_group keys ρ items (group_at s)) (filter (λ s. passing (group_at s)) G.firsts) =
          ap (λ gs. map (row_of_group keys ρ items) (filter passing gs)) G.are_groups ∙ ap (map (row_of_group keys ρ items)) (filter-map passing group_at G.firsts) ∙ map-map (row_of_group keys ρ items) group_at (filter (λ s. passing (group_at s)) G.firsts) in
          asked-shown o means twice items asked (group_lines true numbers keys all A) some _ (λ s. item_of_group keys ρ (group_at s)) G.firsts G.rows G.wide
          (group-items numbers scope ρ e agree new all keys apart parts.0 G.members G.members_wide parts.1) having
          ∙ ap (once twice) (sym grouped) ∙ shown-is true

  -- ---- blocks

  pub means-Block : (q : Block) → FromMeans instances D q.from → OfFilter (CondMeans instances D) (FromMeans instances D) (BlockMeans instances D) q.filter → OfFilter (CondMeans instances D) (FromMeans instances D) (BlockMeans instances D) q.having → BlockMeans instances D q
  means-Block q from where_ having_ scope E =
      let numbers : List ℕ = (from_frame instances q.from).numbers in
      let all : List Item = q.items ++ q.having_items in
      let A : List Expr = (from_frame instances q.from).lines scope E in
      let first : FromRight instances D (from_frame instances q.from) (from_scope instances q.from) (λ ρ. source q.from D ρ) (query.from_width q.from D) scope E = from scope E in
      let stages : Stages instances q scope E = stages-of instances q scope E in
      let passes : List Row → Row → Bool = λ ρ s. passes_filter (option_map query.truth q.filter) D ρ s in
      block-right instances D _ _ _ _ _ _ scope E (frame-Block instances q) (scope-Block instances q) (λ ρ. meaning.rows-Block q D ρ) (λ ρ e h agree.
      let parts : BoundParts instances q scope = bound-parts instances q scope h in
      let apart : IsNew (aggregate_numbers all ++ numbers) scope = and_parts (all_differ (aggregate_numbers all ++ numbers)) _ parts.new in
      let new : IsNew numbers scope = new-right (aggregate_numbers all) numbers scope apart in
      let wide : HaveWidth (length numbers) (source q.from D ρ) = subst (λ w. HaveWidth w (source q.from D ρ)) (first.width parts.from) (source_fits q.from D ρ fits) in
      shown-rows numbers scope ρ e agree new q.having having_ q.distinct q.keys q.items q.having_items (filtered instances q scope E) (filter (passes ρ) (source q.from D ρ)) q.grouped stages.grouped_some
      (select-right q.filter where_ (numbers ∷ scope) A stages.from.some ρ e (λ s. length s ≡ length numbers) (λ s. put numbers s e) (λ s. s) (source q.from D ρ) (first.rows ρ e parts.from new agree) parts.filter (λ s w. agrees-put numbers s e scope ρ new w agree) wide)
      (all_filter (λ s. length s ≡ length numbers) (passes ρ) (source q.from D ρ) wide) apart parts.items parts.having)

-- The aggregates of a bound query's frame read columns of table instances alone, and stand in none.
use Rattle.std.proofs.Common.{◌≡◌, refl, ap, ◌∙◌, ℕ, Bool, true, false, not, nat_lt, List, [], ◌∷◌, ◌++◌, map, flat_map, length, Option, Some, None, option_map}
use Rattle.std.specs.List.{list_all, AllByRecursion}
use Rattle.std.proofs.lemmas.Bool.{and_parts, and_from, ltb-true}
use Rattle.query.specs.declared.query.Aggregate.{Aggregate}
use Rattle.query.specs.declared.query.Aggregate.TheVariants as by
use Rattle.query.specs.declared.query.Item.{Item}
use Rattle.query.specs.declared.query.Item.TheVariants as item
use Rattle.query.specs.declared.query.TableInstance.{TableInstance}
use Rattle.query.specs.declared.query.TableReference.{TableReference}
use Rattle.query.specs.declared.query.Cond.{Cond}
use Rattle.query.specs.declared.query.From.{From}
use Rattle.query.specs.declared.query.Block.{Block}
use Rattle.query.specs.Bound.{Scope, having_scope, CondScope, FromScope, BlockScope, cond_scope, from_scope, block_scope, join_scope, bound_term, bound_aggregate, bound_group_item, bound_items, bound_filter, aggregate_numbers, all_differ, none_of_tables, is_of_tables, instance_numbers}
use Rattle.query.proofs.ScopeEquations.{scope-Compare, scope-IsNull, scope-Not, scope-And, scope-Or, scope-Exists, scope-In, scope-Table, scope-Join, scope-LeftJoin, scope-Comma, scope-Block}
use Rattle.algebra.specs.declared.condition.Condition.{Condition}
use Rattle.algebra.specs.declared.expr.Aggregation.{Aggregation}
use Rattle.algebra.specs.declared.expr.Expr.{Expr}
use Rattle.algebra.specs.declared.expr.Expr.TheVariants.{Get, Join, LeftJoin}
use Rattle.algebra.specs.AggregateOrder.{by_column}
use Rattle.algebra.specs.Columns.{ColumnSet, has}
use Rattle.algebra.specs.Expressions.{aggregate_reads}
use Rattle.algebra.specs.TableColumns.{is_table_column, is_apart, are_apart}
use Rattle.algebra.proofs.AggregateLists.{each-ordered}
use Rattle.frame.specs.FormedFrames.{group_aggregates}
use Rattle.frame.specs.Frames.{CondLines, FromFrame, BlockFrame, cond_frame, from_frame, block_frame, join_frame, all_frames, select_lines, group_lines, keep_lines, distinct_lines, aggregations, numbered_aggregate}
use Rattle.frame.proofs.FormedBlocks.{apart}
use Rattle.frame.proofs.FrameEquations.{frame-Compare, frame-IsNull, frame-Not, frame-And, frame-Or, frame-Exists, frame-In, frame-Table, frame-Join, frame-LeftJoin, frame-Comma, frame-Block}
use Rattle.frame.proofs.FrameGroups.{place-has}
use Rattle.frame.proofs.FrameShapes.{FromShape, BoundParts, JoinParts, from-shape, bound-parts, join-parts, filtered, grouped, asked}
use Rattle.frame.proofs.Induction.{Steps, OfFilter, each-block}

module _ (instances : List TableInstance) where
  abbrev T : ColumnSet
  T = is_table_column instances

  -- the aggregates of the lines' groups are apart
  abbrev pub LinesApart : List Expr → Type 0
  LinesApart lines = AllByRecursion (λ x. are_apart T (group_aggregates x) ≡ true) lines

  abbrev CondApart : Cond → Type 0
  CondApart c = (scope : Scope) (E : List Expr) → LinesApart E → (cond_scope instances c).bound scope ≡ true → LinesApart (cond_frame instances c scope E).lines

  abbrev FromApart : From → Type 0
  FromApart f = (scope : Scope) (E : List Expr) → LinesApart E → (from_scope instances f).bound scope ≡ true → LinesApart ((from_frame instances f).lines scope E)

  abbrev BlockApart : Block → Type 0
  BlockApart q = (scope : Scope) (E : List Expr) → LinesApart E → (block_scope instances q).bound scope ≡ true → LinesApart ((block_frame instances q).lines scope E)

  cond-as : (f g : CondLines) (s t : CondScope) (scope : Scope) → f ≡ g → s ≡ t → (t.bound scope ≡ true → LinesApart g.lines) → s.bound scope ≡ true → LinesApart f.lines
  cond-as f g s t scope is as_ h = rw (is, as_) h

  from-as : (f g : FromFrame) (s t : FromScope) (scope : Scope) (E : List Expr) → f ≡ g → s ≡ t → (t.bound scope ≡ true → LinesApart (g.lines scope E)) → s.bound scope ≡ true → LinesApart (f.lines scope E)
  from-as f g s t scope E is as_ h = rw (is, as_) h

  block-as : (f g : BlockFrame) (s t : BlockScope) (scope : Scope) (E : List Expr) → f ≡ g → s ≡ t → (t.bound scope ≡ true → LinesApart (g.lines scope E)) → s.bound scope ≡ true → LinesApart (f.lines scope E)
  block-as f g s t scope E is as_ h = rw (is, as_) h

  all-apart : (cs : List Cond) → AllByRecursion CondApart cs → (scope : Scope) (E : List Expr) → LinesApart E → list_all (λ s. s.bound scope) (map (cond_scope instances) cs) ≡ true → LinesApart (all_frames (map (cond_frame instances) cs) scope E).lines
  all-apart [] each scope E all bound = all
  all-apart (c ∷ cs) each scope E all bound =
      let parts = and_parts ((cond_scope instances c).bound scope) _ bound in
      all-apart cs each.1 scope (cond_frame instances c scope E).lines (each.0 scope E all parts.0) parts.1

  -- a join of either kind
  joined : (join : List Condition → ℕ → ℕ → Expr) → ((C : List Condition) (a b : ℕ) → group_aggregates (join C a b) ≡ []) → (f : From) (o : TableReference) (on : Cond) → FromApart f → CondApart on → (scope : Scope) (E : List Expr) → LinesApart E
      → (join_scope instances (from_scope instances f) o (cond_scope instances on)).bound scope ≡ true → LinesApart ((join_frame join instances (from_frame instances f) o (cond_frame instances on)).lines scope E)
  joined join none f o on left test scope E all bound =
      let parts : JoinParts instances f o on scope = join-parts instances f o on scope bound in
      let A : List Expr = (from_frame instances f).lines scope E in (
        ap (are_apart T) (none _ _ _),
        test (((from_frame instances f).numbers ++ instance_numbers instances o) ∷ scope) (Get o.number ∷ A) (refl, left scope E all parts.left) parts.test,
      )

  -- ---- blocks

  where-apart : (o : Option Cond) → OfFilter CondApart FromApart BlockApart o → (inner : Scope) (A : List Expr) → LinesApart A → bound_filter (option_map (cond_scope instances) o) inner ≡ true → LinesApart (select_lines (option_map (cond_frame instances) o) inner A)
  where-apart None test inner A all bound = all
  where-apart (Some c) test inner A all bound = (refl, test inner A all bound)

  module _ (numbers : List ℕ) (used : (c : ℕ) → has numbers c ≡ true → T c ≡ true) where
    reads-tables : (a : Aggregate) → bound_aggregate (length numbers) a ≡ true → list_all T (aggregate_reads (numbered_aggregate numbers a)) ≡ true
    reads-tables by.CountRows there = refl
    reads-tables (by.Count k) there = and_from _ _ (used _ (place-has numbers k (ltb-true _ _ there))) refl
    reads-tables (by.Sum k) there = and_from _ _ (used _ (place-has numbers k (ltb-true _ _ there))) refl
    reads-tables (by.Min k) there = and_from _ _ (used _ (place-has numbers k (ltb-true _ _ there))) refl
    reads-tables (by.Max k) there = and_from _ _ (used _ (place-has numbers k (ltb-true _ _ there))) refl

    items-apart : (keys : List ℕ) (scope : Scope) (items : List Item) → list_all (bound_group_item (length numbers) keys (numbers ∷ scope)) items ≡ true → none_of_tables instances (aggregate_numbers items) ≡ true → are_apart T (aggregations numbers items) ≡ true
    items-apart keys scope [] bound others = refl
    items-apart keys scope (item.Column c ∷ items) bound others = items-apart keys scope items (and_parts (bound_group_item (length numbers) keys (numbers ∷ scope) (item.Column c)) _ bound).1 others
    items-apart keys scope (item.Aggregate n a ∷ items) bound others =
        let parts = and_parts (bound_aggregate (length numbers) a) _ bound in
        let apart = and_parts (not (is_of_tables instances n)) _ others in
        and_from _ _ (and_from _ _ (reads-tables a parts.0) apart.0) (items-apart keys scope items parts.1 apart.1)

    group-apart : (keys : List ℕ) (scope : Scope) (items : List Item) → all_differ (aggregate_numbers items ++ numbers) ≡ true → none_of_tables instances (aggregate_numbers items) ≡ true
        → bound_items true (length numbers) keys items (numbers ∷ scope) ≡ true → are_apart T (by_column (aggregations numbers items)) ≡ true
    group-apart keys scope items differ others bound =
        each-ordered (is_apart T) (aggregations numbers items) (apart numbers items numbers differ) ∙ items-apart keys scope items (and_parts (list_all (λ k. nat_lt k (length numbers)) keys) _ bound).1 others

    groups-apart : (is_grouped : Bool) (keys : List ℕ) (scope : Scope) (items : List Item) (B : List Expr) → all_differ (aggregate_numbers items ++ numbers) ≡ true → none_of_tables instances (aggregate_numbers items) ≡ true
        → bound_items is_grouped (length numbers) keys items (numbers ∷ scope) ≡ true → LinesApart B → LinesApart (group_lines is_grouped numbers keys items B)
    groups-apart false keys scope items B differ others bound all = all
    groups-apart true keys scope items B differ others bound all = (group-apart keys scope items differ others bound, all)

  end-apart : (twice : Bool) (scope : Scope) (items : List Item) (B : List Expr) → LinesApart B → LinesApart (distinct_lines twice (keep_lines scope items B))
  end-apart false scope items B all = (refl, all)
  end-apart true scope items B all = (refl, (refl, all))

  steps : Steps CondApart FromApart BlockApart
  steps = record {
    compare = λ op a b scope E all. cond-as _ _ _ _ scope (ap (λ f. f scope E) (frame-Compare instances op a b)) (scope-Compare instances op a b) (λ bound. all);
    is_null = λ a scope E all. cond-as _ _ _ _ scope (ap (λ f. f scope E) (frame-IsNull instances a)) (scope-IsNull instances a) (λ bound. all);
    not = λ c test scope E all. cond-as _ _ _ _ scope (ap (λ f. f scope E) (frame-Not instances c)) (scope-Not instances c) (λ bound. test scope E all bound);
    and = λ cs each scope E all. cond-as _ _ _ _ scope (ap (λ f. f scope E) (frame-And instances cs)) (scope-And instances cs) (λ bound. all-apart cs each scope E all bound);
    or = λ cs each scope E all. cond-as _ _ _ _ scope (ap (λ f. f scope E) (frame-Or instances cs)) (scope-Or instances cs) (λ bound. all-apart cs each scope E all bound);
    exists = λ q test scope E all. cond-as _ _ _ _ scope (ap (λ f. f scope E) (frame-Exists instances q)) (scope-Exists instances q) (λ bound. test scope E all bound);
    in_ = λ a q test scope E all. cond-as _ _ _ _ scope (ap (λ f. f scope E) (frame-In instances a q)) (scope-In instances a q) (λ bound.
        test scope E all (and_parts (block_scope instances q).single _ (and_parts (bound_term scope a) _ bound).1).1);
    table = λ o scope E all. from-as _ _ _ _ scope E (frame-Table instances o) (scope-Table instances o) (λ bound. (refl, all));
    join = λ f o on left test scope E all. from-as _ _ _ _ scope E (frame-Join instances f o on) (scope-Join instances f o on) (joined Join (λ C a b. refl) f o on left test scope E all);
    left_join = λ f o on left test scope E all. from-as _ _ _ _ scope E (frame-LeftJoin instances f o on) (scope-LeftJoin instances f o on) (joined LeftJoin (λ C a b. refl) f o on left test scope E all);
    comma = λ f g left right scope E all. from-as _ _ _ _ scope E (frame-Comma instances f g) (scope-Comma instances f g) (λ bound.
        let parts = and_parts ((from_scope instances f).bound scope) _ bound in
        (refl, right scope ((from_frame instances f).lines scope E) (left scope E all parts.0) parts.1));
    block = λ q from filter having scope E all. block-as _ _ _ _ scope E (frame-Block instances q) (scope-Block instances q) (λ bound.
        let numbers : List ℕ = (from_frame instances q.from).numbers in
        let A : List Expr = (from_frame instances q.from).lines scope E in
        let shape : FromShape instances (from_frame instances q.from) (from_scope instances q.from) scope E = from-shape instances q.from scope E in
        let parts : BoundParts instances q scope = bound-parts instances q scope bound in
        end-apart q.distinct (numbers ∷ scope) q.items (asked instances q scope E)
        (where-apart q.having having (having_scope (numbers ∷ scope) q.having_items) (grouped instances q scope E)
        (groups-apart numbers shape.used q.grouped q.keys scope (q.items ++ q.having_items) (filtered instances q scope E) (and_parts _ _ parts.new).0 parts.apart parts.items
        (where-apart q.filter filter (numbers ∷ scope) A (from scope E all parts.from) parts.filter)) parts.having));
  }

  -- the groups of a bound block's lines
  pub lines-apart : (q : Block) → BlockApart q
  lines-apart = each-block CondApart FromApart BlockApart steps

  both-apart : (G H : List Aggregation) → are_apart T G ≡ true → are_apart T H ≡ true → are_apart T (G ++ H) ≡ true
  both-apart [] H first second = second
  both-apart (a ∷ G) H first second = let parts = and_parts (is_apart T a) _ first in and_from _ _ parts.0 (both-apart G H parts.1 second)

  pub flat-apart : (lines : List Expr) → LinesApart lines → are_apart T (flat_map group_aggregates lines) ≡ true
  flat-apart [] all = refl
  flat-apart (x ∷ lines) all = both-apart (group_aggregates x) (flat_map group_aggregates lines) all.0 (flat-apart lines all.1)

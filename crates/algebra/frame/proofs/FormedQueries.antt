-- The frame of a bound query is well formed.
use Rattle.std.proofs.Common.{◌≡◌, refl, ap, sym, ◌∙◌, subst, ℕ, zero, suc, ◌-◌, ◌<◌, Bool, true, false, ◌==◌, nat_lt, if◌then◌else◌, List, [], ◌∷◌, ◌++◌, map, flat_map, length, reverse, option_map, arith}
use Rattle.std.specs.Prelude.{slice_index_or}
use Rattle.std.specs.List.{list_all, list_any, AllByRecursion}
use Rattle.std.proofs.lemmas.Bool.{and_parts, and_from, or_left, or_right, cond-true, ltb-true, false≢true}
use Rattle.std.proofs.lemmas.List.{length-reverse, reverse-append, reverse-reverse}
use Rattle.std.proofs.lemmas.List.Folds.{list_any-append}
use Rattle.values.proofs.Lists.{all_append}
use Rattle.query.specs.declared.query.Column.{Column}
use Rattle.query.specs.declared.query.Item.{Item}
use Rattle.query.specs.declared.query.Item.TheVariants as item
use Rattle.query.specs.declared.query.TableInstance.{TableInstance}
use Rattle.query.specs.declared.query.Block.{Block}
use Rattle.query.specs.Bound.{Scope, names, is_among, bound_aggregate, bound_item, bound_group_item, bound_items, block_scope, item_number}
use Rattle.query.proofs.ScopeEquations.{scope-Block}
use Rattle.algebra.specs.declared.expr.Aggregation.{Aggregation}
use Rattle.algebra.specs.declared.expr.Expr.{Expr}
use Rattle.algebra.specs.declared.expr.Expr.TheVariants.{Keep, Distinct}
use Rattle.algebra.specs.Columns.{has, is_subset, rising}
use Rattle.algebra.specs.Equality.{same_aggregation}
use Rattle.algebra.specs.Classes.{class_columns, AreFormed}
use Rattle.frame.specs.FormedFrames.{group_aggregates, own_aggregates, FramesAreFormed}
use Rattle.frame.specs.Frames as frame
use Rattle.frame.specs.Frames.{cond_frame, from_frame, block_frame, select_lines, group_lines, keep_lines, distinct_lines, own_numbers, kept, last, query_frame, query_numbers}
use Rattle.frame.proofs.FormedBlocks.{formed-Block}
use Rattle.frame.proofs.FormedConds.{formed-Compare, formed-IsNull, formed-Not, formed-And, formed-Or, formed-Exists, formed-In}
use Rattle.frame.proofs.FormedFroms.{formed-Table, formed-Join, formed-LeftJoin, formed-Comma}
use Rattle.frame.proofs.FormedParts.{among_own, GroupsOwn, FormedBlock, CondFormed, FromFormed, BlockFormed}
use Rattle.frame.proofs.FrameEquations.{frame-Block}
use Rattle.frame.proofs.FrameShapes.{BoundParts, block-shape, bound-parts, bound-left, asked}
use Rattle.frame.proofs.Growth.{top-columns, last-is}
use Rattle.frame.proofs.Induction.{Steps, each-block}
use Rattle.frame.proofs.OwnAggregates.{flat-apart, lines-apart}
use Rattle.algebra.proofs.Same.{same_aggregation-refl}
use Rattle.algebra.proofs.Sets.{has-rising}
use Rattle.algebra.proofs.MentionedColumns.{all_has}

-- ---- blocks

module _ (instances : List TableInstance) (own : List Aggregation) where
  steps : Steps (CondFormed instances own) (FromFormed instances own) (BlockFormed instances own)
  steps = record {
    compare = formed-Compare instances own;
    is_null = formed-IsNull instances own;
    not = formed-Not instances own;
    and = formed-And instances own;
    or = formed-Or instances own;
    exists = formed-Exists instances own;
    in_ = formed-In instances own;
    table = formed-Table instances own;
    join = formed-Join instances own;
    left_join = formed-LeftJoin instances own;
    comma = formed-Comma instances own;
    block = formed-Block instances own;
  }

  -- the lines of a bound block are well formed, in a query that has their aggregates
  pub block-formed : (q : Block) → BlockFormed instances own q
  block-formed = each-block (CondFormed instances own) (FromFormed instances own) (BlockFormed instances own) steps

-- ---- the query's own aggregates

-- aggregates that are among some are among more
among-more : (instances : List TableInstance) (own more added : List Aggregation) → among_own instances own added ≡ true → among_own instances (more ++ own) added ≡ true
among-more instances own more [] h = refl
among-more instances own more (a ∷ added) h =
    let parts = and_parts (list_any (same_aggregation a) own) _ h in
    and_from _ _ (list_any-append (same_aggregation a) more own ∙ or_right _ _ parts.0) (among-more instances own more added parts.1)

among-itself : (instances : List TableInstance) (added own : List Aggregation) → among_own instances (added ++ own) added ≡ true
among-itself instances [] own = refl
among-itself instances (a ∷ added) own = and_from _ _ (or_left _ _ (same_aggregation-refl a)) (among-more instances (added ++ own) (a ∷ []) added (among-itself instances added own))

groups-more : (instances : List TableInstance) (own more : List Aggregation) (lines : List Expr) → GroupsOwn instances own lines → GroupsOwn instances (more ++ own) lines
groups-more instances own more [] h = tt
groups-more instances own more (x ∷ lines) h = (among-more instances own more (group_aggregates x) h.0, groups-more instances own more lines h.1)

-- the aggregates of lines are among those of all of them
groups-own : (instances : List TableInstance) (lines : List Expr) → GroupsOwn instances (flat_map group_aggregates lines) lines
groups-own instances [] = tt
groups-own instances (x ∷ lines) =
    (among-itself instances (group_aggregates x) (flat_map group_aggregates lines), groups-more instances (flat_map group_aggregates lines) (group_aggregates x) lines (groups-own instances lines))

all-reverse : {X : Type 0} (P : X → Type 0) (xs : List X) → AllByRecursion P xs → AllByRecursion P (reverse xs)
all-reverse P [] all = tt
all-reverse P (x ∷ xs) all = subst (AllByRecursion P) (sym (reverse-append (x ∷ []) xs)) (all_append P (reverse xs) (x ∷ []) (all-reverse P xs all.1) (all.0, tt))

-- ---- what a query shows

-- no row stands around a query
names-own : (numbers : List ℕ) (c : Column) → names (numbers ∷ []) c ≡ true → (c.level == 0) ≡ true
names-own numbers c there = by c.level there
  where
    by : (l : ℕ) → nat_lt c.place (length (slice_index_or (numbers ∷ []) l [])) ≡ true → (l == 0) ≡ true
    by zero there = refl
    by (suc l) there = absurd (let below : c.place < 0 = ltb-true _ _ there in omega (arith, below))

plain-own : (numbers : List ℕ) (items : List Item) → list_all (bound_item (numbers ∷ [])) items ≡ true → AllByRecursion (λ i. frame.is_block_item i ≡ true) items
plain-own numbers [] bound = tt
plain-own numbers (item.Column c ∷ items) bound = let parts = and_parts (names (numbers ∷ []) c) _ bound in (names-own numbers c parts.0, plain-own numbers items parts.1)
plain-own numbers (item.Aggregate n a ∷ items) bound = absurd (false≢true bound)

group-own : (numbers keys : List ℕ) (items : List Item) → list_all (bound_group_item (length numbers) keys (numbers ∷ [])) items ≡ true → AllByRecursion (λ i. frame.is_block_item i ≡ true) items
group-own numbers keys [] bound = tt
group-own numbers keys (item.Column c ∷ items) bound =
    let parts = and_parts (bound_group_item (length numbers) keys (numbers ∷ []) (item.Column c)) _ bound in
    (from (c.level == 0) refl parts.0, group-own numbers keys items parts.1)
  where
    from : (b : Bool) → (c.level == 0) ≡ b → (if b then is_among c.place keys else names (numbers ∷ []) c) ≡ true → (c.level == 0) ≡ true
    from true is h = is
    from false is h = names-own numbers c h
group-own numbers keys (item.Aggregate n a ∷ items) bound = (refl, group-own numbers keys items (and_parts (bound_aggregate (length numbers) a) _ bound).1)

items-own : (is_grouped : Bool) (numbers keys : List ℕ) (items : List Item) → bound_items is_grouped (length numbers) keys items (numbers ∷ []) ≡ true → AllByRecursion (λ i. frame.is_block_item i ≡ true) items
items-own false numbers keys items bound = plain-own numbers items bound
items-own true numbers keys items bound = group-own numbers keys items (and_parts (list_all (λ k. nat_lt k (length numbers)) keys) _ bound).1

own-all : (scope : Scope) (items : List Item) → AllByRecursion (λ i. frame.is_block_item i ≡ true) items → own_numbers scope items ≡ map (item_number scope) items
own-all scope [] all = refl
own-all scope (i ∷ items) all = cond-true _ _ _ all.0 ∙ ap (λ ks. item_number scope i ∷ ks) (own-all scope items all.1)

module _ (instances : List TableInstance) where
  -- a block's last class has the columns that it keeps
  end-columns : (twice : Bool) (scope : Scope) (items : List Item) (G : List Expr)
      → class_columns instances (distinct_lines twice (keep_lines scope items G)) (last (distinct_lines twice (keep_lines scope items G))) ≡ kept scope items
  end-columns false scope items G = top-columns instances (Keep (kept scope items) (last G)) G
  end-columns true scope items G = top-columns instances (Distinct (length G)) (keep_lines scope items G) ∙ top-columns instances (Keep (kept scope items) (last G)) G

  shown-in : (twice : Bool) (scope : Scope) (items : List Item) (G : List Expr) → AllByRecursion (λ i. frame.is_block_item i ≡ true) items
      → is_subset (map (item_number scope) items) (class_columns instances (distinct_lines twice (keep_lines scope items G)) (last (distinct_lines twice (keep_lines scope items G)))) ≡ true
  shown-in twice scope items G all =
      let ns : List ℕ = map (item_number scope) items in
      ap (is_subset ns) (end-columns twice scope items G ∙ ap rising (own-all scope items all)) ∙ all_has (has (rising ns)) ns (λ c in_. has-rising c ns ∙ in_)

  -- all that a query's block shows is among the columns of its last class
  block-shown : (q : Block) → (block_scope instances q).bound [] ≡ true → is_subset ((block_frame instances q).shown []) (class_columns instances ((block_frame instances q).lines [] []) (last ((block_frame instances q).lines [] []))) ≡ true
  block-shown q bound =
      let numbers : List ℕ = (from_frame instances q.from).numbers in
      let parts : BoundParts instances q [] = bound-parts instances q [] (sym (ap (λ s. s.bound []) (scope-Block instances q)) ∙ bound) in
      rw (frame-Block instances q) (shown-in q.distinct (numbers ∷ []) q.items (asked instances q [] []) (items-own q.grouped numbers q.keys q.items (bound-left q.grouped (length numbers) q.keys q.items q.having_items (numbers ∷ []) parts.items)))

-- ---- queries

-- the frame of each bound query is well formed
pub frames_formed : FramesAreFormed
unfolding query_frame query_numbers
frames_formed q bound =
    let instances : List TableInstance = q.tables in
    let own : List Aggregation = own_aggregates q in
    let lines : List Expr = (block_frame instances q.block).lines [] [] in
    let turned : reverse (reverse lines) ≡ lines = reverse-reverse lines in
    let long : length (reverse lines) ≡ length lines = length-reverse lines in
    let last_is : length (reverse lines) - 1 ≡ last lines = ap (λ n. n - 1) long ∙ sym (last-is lines) in
    let groups : GroupsOwn instances own lines = subst (GroupsOwn instances own) turned (all-reverse _ (reverse lines) (groups-own instances (reverse lines))) in
    let formed : FormedBlock instances own (block_frame instances q.block) [] [] = block-formed instances own q.block [] [] tt tt bound groups in
    let adds : 0 < length lines = (block-shape instances q.block [] []).adds in
    record {
      lines = subst (AreFormed instances own) (sym turned) formed.lines;
      shown = ap (λ L. is_subset ((block_frame instances q.block).shown []) (class_columns instances L (length (reverse lines) - 1))) turned ∙ ap (λ n. is_subset ((block_frame instances q.block).shown []) (class_columns instances lines n)) last_is
          ∙ block-shown instances q.block bound;
      some = omega (arith, long, adds);
      apart = flat-apart instances (reverse lines) (all-reverse _ lines (lines-apart instances q.block [] [] tt bound));
    }

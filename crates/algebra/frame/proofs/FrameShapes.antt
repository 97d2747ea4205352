-- The shape of a frame, whatever it means: the lines that it adds, the classes that its conditions name, and the columns
-- of its last class.
use Rattle.std.proofs.Common.{◌≡◌, refl, ap, sym, ◌∙◌, subst, inl, inr, ℕ, zero, suc, ◌-◌, ◌<◌, ◌≤◌, Bool, true, false, ◌||◌, ◌&&◌, ◌==◌, nat_lt, List, [], ◌∷◌, ◌++◌, map, length, Option, Some, None, option_map, arith}
use Rattle.std.specs.List.{list_all, list_any, slice_get, AllByRecursion}
use Rattle.std.proofs.lemmas.Bool.{eqb-true, and_parts, and_from, or_cases, or_left, or_right, false≢true}
use Rattle.std.proofs.lemmas.List.Folds.{list_all-append, list_any-append}
use Rattle.values.specs.declared.truth.Comparison.{Comparison}
use Rattle.query.specs.declared.query.Term.{Term}
use Rattle.query.specs.declared.query.Item.{Item}
use Rattle.query.specs.declared.query.TableReference.{TableReference}
use Rattle.query.specs.declared.query.TableInstance.{TableInstance}
use Rattle.query.specs.declared.query.Cond.{Cond}
use Rattle.query.specs.declared.query.Cond.TheVariants as cond
use Rattle.query.specs.declared.query.From.{From}
use Rattle.query.specs.declared.query.From.TheVariants as from
use Rattle.query.specs.declared.query.Block.{Block}
use Rattle.query.specs.Bound.{Scope, CondScope, FromScope, BlockScope, cond_scope, from_scope, block_scope, join_scope, names_instance, numbers_of_instance, instance_numbers, is_single, are_new, aggregate_numbers, bound_filter, bound_item, bound_group_item, bound_items, having_scope, block_scope_layer, none_of_tables, item_number}
use Rattle.query.proofs.ScopeEquations.{scope-Compare, scope-IsNull, scope-Not, scope-And, scope-Or, scope-Exists, scope-In, scope-Table, scope-Join, scope-LeftJoin, scope-Comma, scope-Block, scoped}
use Rattle.algebra.specs.declared.condition.Condition.{Condition}
use Rattle.algebra.specs.declared.expr.Expr.{Expr}
use Rattle.algebra.specs.declared.expr.Expr.TheVariants.{Get, Select, Join, LeftJoin}
use Rattle.algebra.specs.Columns.{has, rising}
use Rattle.algebra.specs.Conditions.{all_classes}
use Rattle.algebra.specs.Expressions.{columns_of, instance_columns, get_columns, subqueries_pass}
use Rattle.algebra.specs.Classes.{class_columns}
use Rattle.frame.specs.Frames.{CondLines, AllLines, conjuncts_of, FromFrame, BlockFrame, cond_frame, from_frame, block_frame, join_frame, on_lines, all_frames, framed_as, numbered, select_lines, group_lines, keep_lines, distinct_lines, last}
use Rattle.algebra.proofs.ConditionNames.{classes-Compare, classes-IsNull, classes-Not, classes-Exists, classes-In}
use Rattle.algebra.proofs.ConnectiveParts.{classes-and_of, classes-or_of}
use Rattle.frame.proofs.FrameEquations.{frame-Compare, frame-IsNull, frame-Not, frame-And, frame-Or, frame-Exists, frame-In, frame-Table, frame-Join, frame-LeftJoin, frame-Comma, frame-Block}
use Rattle.frame.proofs.Growth.{Grows, grows-none, grows-one, grows-more, grows-longer, grows-some, kept-columns, top-columns, last-below, last-is}
use Rattle.frame.proofs.Induction.{Steps, OfFilter, each-cond, each-from, each-block}
use Rattle.algebra.proofs.Lists.{two, all-each}
use Rattle.algebra.proofs.Sets.{has-rising}

-- the test passes each class that the lines F add to E
abbrev pub PassesAdded : (ℕ → Bool) → List Expr → List Expr → Type 0
PassesAdded p E F = (g : ℕ) → length E ≤ g → g < length F → p g ≡ true

-- the columns of a join's two sides
pub joined-columns : (ks ls ms ns : List ℕ) → ((c : ℕ) → has ks c ≡ has ms c) → ((c : ℕ) → has ls c ≡ has ns c) → (c : ℕ) → has (rising (ks ++ ls)) c ≡ has (ms ++ ns) c
joined-columns ks ls ms ns e f c = has-rising c (ks ++ ls) ∙ list_any-append (λ k. k == c) ks ls ∙ two (λ a b. a || b) (e c) (f c) ∙ sym (list_any-append (λ k. k == c) ms ns)

pub table-columns : (x : Option TableInstance) (c : ℕ) → has (get_columns x) c ≡ has (numbers_of_instance x) c
table-columns None c = refl
table-columns (Some t) c = refl

-- a column of a table instance is one of the query's
table-used : (instances : List TableInstance) (n c : ℕ) → has (numbers_of_instance (slice_get instances n)) c ≡ true → list_any (λ t. has (instance_columns t) c) instances ≡ true
table-used [] n c h = h
table-used (t ∷ instances) zero c h = or_left _ _ h
table-used (t ∷ instances) (suc n) c h = or_right _ _ (table-used instances n c h)

-- a Group adds a line, where there is one
pub group-grows : (grouped : Bool) (numbers keys : List ℕ) (items : List Item) (A : List Expr) → Grows (group_lines grouped numbers keys items A) A
group-grows false numbers keys items A = grows-none A
group-grows true numbers keys items A = grows-one _ A

-- what stands behind a block's HAVING adds lines
pub end-grows : (twice : Bool) (scope : Scope) (items : List Item) (A E : List Expr) → Grows A E → Grows (distinct_lines twice (keep_lines scope items A)) E
end-grows false scope items A E g = grows-more _ A E (grows-one _ A) g
end-grows true scope items A E g = grows-more _ _ E (grows-one _ _) (grows-more _ A E (grows-one _ A) g)

end-adds : (twice : Bool) (scope : Scope) (items : List Item) (A : List Expr) → length A < length (distinct_lines twice (keep_lines scope items A))
end-adds false scope items A = omega arith
end-adds true scope items A = omega arith

-- items that are bound beside others are bound
pub bound-left : (is_grouped : Bool) (width : ℕ) (keys : List ℕ) (items others : List Item) (scope : Scope) → bound_items is_grouped width keys (items ++ others) scope ≡ true → bound_items is_grouped width keys items scope ≡ true
bound-left false width keys items others scope bound = (and_parts (list_all (bound_item scope) items) _ (sym (list_all-append (bound_item scope) items others) ∙ bound)).0
bound-left true width keys items others scope bound =
    let parts = and_parts (list_all (λ k. nat_lt k width) keys) _ bound in
    and_from _ _ parts.0 (and_parts (list_all (bound_group_item width keys scope) items) _ (sym (list_all-append (bound_group_item width keys scope) items others) ∙ parts.1)).0

one-shown : (f : Item → ℕ) (items : List Item) → is_single items ≡ true → (k : ℕ) × (map f items ≡ k ∷ [])
one-shown f [] single = absurd (false≢true single)
one-shown f (i ∷ []) single = (f i, refl)
one-shown f (i ∷ j ∷ items) single = absurd (omega (arith, eqb-true (length (i ∷ j ∷ items)) 1 single))

module _ (instances : List TableInstance) where
  -- ---- what is known of each

  -- of a condition: without a subquery it adds no line, and the classes that it names are those of its lines
  pub record CondShape (f : CondLines) (s : CondScope) (E : List Expr) : Type 0 where
    pub grows : Grows f.lines E
    pub plain : s.plain ≡ true → f.lines ≡ E
    pub named : (p : ℕ → Bool) → PassesAdded p E f.lines → all_classes f.condition p ≡ true

  -- the same of a list of conditions
  pub record AllShape (f : AllLines) (cs : List Cond) (E : List Expr) : Type 0 where
    pub grows : Grows f.lines E
    pub plain : list_all (λ s. s.plain) (map (cond_scope instances) cs) ≡ true → f.lines ≡ E
    pub named : (p : ℕ → Bool) → PassesAdded p E f.lines → subqueries_pass p f.conditions ≡ true

  -- of a FROM: its last class has its columns, each of a table instance
  pub record FromShape (f : FromFrame) (s : FromScope) (scope : Scope) (E : List Expr) : Type 0 where
    pub numbers : s.numbers ≡ f.numbers
    pub grows : Grows (f.lines scope E) E
    pub some : 0 < length (f.lines scope E)
    pub columns : (c : ℕ) → has (class_columns instances (f.lines scope E) (last (f.lines scope E))) c ≡ has f.numbers c
    pub used : (c : ℕ) → has f.numbers c ≡ true → list_any (λ t. has (instance_columns t) c) instances ≡ true

  -- of a block: it adds a line
  pub record BlockShape (f : BlockFrame) (s : BlockScope) (scope : Scope) (E : List Expr) : Type 0 where
    pub grows : Grows (f.lines scope E) E
    pub adds : length E < length (f.lines scope E)
    pub single : s.single ≡ true → (k : ℕ) × (f.shown scope ≡ k ∷ [])

  abbrev pub CondShaped : Cond → Type 0
  CondShaped c = (scope : Scope) (E : List Expr) → CondShape (cond_frame instances c scope E) (cond_scope instances c) E

  abbrev pub FromShaped : From → Type 0
  FromShaped f = (scope : Scope) (E : List Expr) → FromShape (from_frame instances f) (from_scope instances f) scope E

  abbrev pub BlockShaped : Block → Type 0
  BlockShaped q = (scope : Scope) (E : List Expr) → BlockShape (block_frame instances q) (block_scope instances q) scope E

  -- ---- conditions

  cond-as : (f g : CondLines) (s t : CondScope) (E : List Expr) → f ≡ g → s ≡ t → CondShape g t E → CondShape f s E
  cond-as f g s t E is as_ shape = rw (is, as_) shape

  framed-shape : (c : Condition) (lines : List Expr) (s : CondScope) (E : List Expr) → Grows lines E → (s.plain ≡ true → lines ≡ E) → ((p : ℕ → Bool) → PassesAdded p E lines → all_classes c p ≡ true) → CondShape (framed_as c lines) s E
  framed-shape c lines s E grows plain named = record { grows = grows; plain = plain; named = named }

  shape-Compare : (op : Comparison) (a b : Term) → CondShaped (cond.Compare op a b)
  shape-Compare op a b scope E =
      cond-as _ _ _ _ E (ap (λ f. f scope E) (frame-Compare instances op a b)) (scope-Compare instances op a b)
      (framed-shape _ E _ E (grows-none E) (λ h. refl) (λ p pass. classes-Compare op (numbered scope a) (numbered scope b) p))

  shape-IsNull : (a : Term) → CondShaped (cond.IsNull a)
  shape-IsNull a scope E =
      cond-as _ _ _ _ E (ap (λ f. f scope E) (frame-IsNull instances a)) (scope-IsNull instances a)
      (framed-shape _ E _ E (grows-none E) (λ h. refl) (λ p pass. classes-IsNull (numbered scope a) p))

  shape-Not : (c : Cond) → CondShaped c → CondShaped (cond.Not c)
  shape-Not c has_shape scope E =
      let part = has_shape scope E in
      cond-as _ _ _ _ E (ap (λ f. f scope E) (frame-Not instances c)) (scope-Not instances c)
      (framed-shape _ _ _ E part.grows part.plain (λ p pass. classes-Not (cond_frame instances c scope E).condition p ∙ part.named p pass))

  all-shape : (cs : List Cond) → AllByRecursion CondShaped cs → (scope : Scope) (E : List Expr) → AllShape (all_frames (map (cond_frame instances) cs) scope E) cs E
  all-shape [] have scope E = record { grows = grows-none E; plain = λ h. refl; named = λ p pass. refl }
  all-shape (c ∷ cs) have scope E =
      let framed : CondLines = cond_frame instances c scope E in
      let others : AllLines = all_frames (map (cond_frame instances) cs) scope framed.lines in
      let first : CondShape framed (cond_scope instances c) E = have.0 scope E in
      let rest : AllShape others cs framed.lines = all-shape cs have.1 scope framed.lines in
      let low : length E ≤ length framed.lines = grows-longer framed.lines E first.grows in
      let high : length framed.lines ≤ length others.lines = grows-longer others.lines framed.lines rest.grows in
      record {
        grows = grows-more _ framed.lines E rest.grows first.grows;
        plain = λ h. let parts = and_parts (cond_scope instances c).plain _ h in rest.plain parts.1 ∙ first.plain parts.0;
        named = λ p pass. and_from _ _ (first.named p (λ g le lt. pass g le (omega (arith, lt, high)))) (rest.named p (λ g le lt. pass g (omega (arith, le, low)) lt));
      }

  shape-And : (cs : List Cond) → AllByRecursion CondShaped cs → CondShaped (cond.And cs)
  shape-And cs have scope E =
      let all = all-shape cs have scope E in
      cond-as _ _ _ _ E (ap (λ f. f scope E) (frame-And instances cs)) (scope-And instances cs)
      (framed-shape _ _ _ E all.grows all.plain (λ p pass. classes-and_of _ p ∙ all.named p pass))

  shape-Or : (cs : List Cond) → AllByRecursion CondShaped cs → CondShaped (cond.Or cs)
  shape-Or cs have scope E =
      let all = all-shape cs have scope E in
      cond-as _ _ _ _ E (ap (λ f. f scope E) (frame-Or instances cs)) (scope-Or instances cs) (framed-shape _ _ _ E all.grows all.plain (λ p pass. classes-or_of _ p ∙ all.named p pass))

  -- the last class of lines that were added is one of theirs
  last-passes : (p : ℕ → Bool) (E F : List Expr) → length E < length F → PassesAdded p E F → p (last F) ≡ true
  last-passes p E F adds pass = let at : last F ≡ length F - 1 = last-is F in pass (last F) (omega (arith, at, adds)) (omega (arith, at, adds))

  shape-Exists : (q : Block) → BlockShaped q → CondShaped (cond.Exists q)
  shape-Exists q has_shape scope E =
      let block = has_shape scope E in
      cond-as _ _ _ _ E (ap (λ f. f scope E) (frame-Exists instances q)) (scope-Exists instances q)
      (framed-shape _ _ _ E block.grows (λ h. cc) (λ p pass. classes-Exists (last ((block_frame instances q).lines scope E)) p ∙ last-passes p E ((block_frame instances q).lines scope E) block.adds pass))

  shape-In : (a : Term) (q : Block) → BlockShaped q → CondShaped (cond.In a q)
  shape-In a q has_shape scope E =
      let block = has_shape scope E in
      cond-as _ _ _ _ E (ap (λ f. f scope E) (frame-In instances a q)) (scope-In instances a q)
      (framed-shape _ _ _ E block.grows (λ h. cc) (λ p pass. classes-In (numbered scope a) (last ((block_frame instances q).lines scope E)) _ p ∙ last-passes p E ((block_frame instances q).lines scope E) block.adds pass))

  -- ---- FROMs

  from-as : (f g : FromFrame) (s t : FromScope) (scope : Scope) (E : List Expr) → f ≡ g → s ≡ t → FromShape g t scope E → FromShape f s scope E
  from-as f g s t scope E is as_ shape = rw (is, as_) shape

  either-used : (ks ls : List ℕ) → ((c : ℕ) → has ks c ≡ true → list_any (λ t. has (instance_columns t) c) instances ≡ true) → ((c : ℕ) → has ls c ≡ true → list_any (λ t. has (instance_columns t) c) instances ≡ true)
      → (c : ℕ) → has (ks ++ ls) c ≡ true → list_any (λ t. has (instance_columns t) c) instances ≡ true
  either-used ks ls left right c h = elim (or_cases (has ks c) (has ls c) (sym (list_any-append (λ k. k == c) ks ls) ∙ h)) [
    | inl is ↦ left c is
    | inr is ↦ right c is
  ]

  shape-Table : (o : TableReference) → FromShaped (from.Table o)
  shape-Table o scope E =
      from-as _ _ _ _ scope E (frame-Table instances o) (scope-Table instances o)
      (record {
        numbers = refl;
        grows = grows-one (Get o.number) E;
        some = omega arith;
        columns = λ c. ap (λ ks. has ks c) (top-columns instances (Get o.number) E) ∙ table-columns (slice_get instances o.number) c;
        used = λ c h. table-used instances o.number c h;
      })

  -- the lines of a join's left side, of its table behind them, and what its ON becomes
  abbrev pub left_of : From → Scope → List Expr → List Expr
  left_of f scope E = (from_frame instances f).lines scope E

  abbrev pub on_of : From → TableReference → Cond → Scope → List Expr → CondLines
  on_of f o on scope E = on_lines instances (from_frame instances f).numbers o on scope (left_of f scope E)

  -- what is known of a join's sides
  pub record Sides (f : From) (o : TableReference) (on : Cond) (scope : Scope) (E : List Expr) : Type 0 where
    pub left : FromShape (from_frame instances f) (from_scope instances f) scope E
    pub test : CondShape (on_of f o on scope E) (cond_scope instances on) (Get o.number ∷ left_of f scope E)
    pub left_columns : (c : ℕ) → has (class_columns instances (on_of f o on scope E).lines (last (left_of f scope E))) c ≡ has (from_frame instances f).numbers c
    pub right_columns : (c : ℕ) → has (class_columns instances (on_of f o on scope E).lines (length (left_of f scope E))) c ≡ has (instance_numbers instances o) c
    pub used : (c : ℕ) → has ((from_frame instances f).numbers ++ instance_numbers instances o) c ≡ true → list_any (λ t. has (instance_columns t) c) instances ≡ true

  sides : (f : From) (o : TableReference) (on : Cond) → FromShaped f → CondShaped on → (scope : Scope) (E : List Expr) → Sides f o on scope E
  sides f o on left_has on_has scope E =
      let ks : List ℕ = (from_frame instances f).numbers in
      let ls : List ℕ = instance_numbers instances o in
      let A : List Expr = left_of f scope E in
      let lines : List Expr = Get o.number ∷ A in
      let framed : CondLines = on_of f o on scope E in
      let left : FromShape (from_frame instances f) (from_scope instances f) scope E = left_has scope E in
      let test : CondShape framed (cond_scope instances on) lines = on_has ((ks ++ ls) ∷ scope) lines in
      let below : last A < length A = last-below A left.some in
      record {
        left = left;
        test = test;
        left_columns = λ c. ap (λ ns. has ns c) (kept-columns instances framed.lines A (last A) (grows-more framed.lines lines A test.grows (grows-one _ A)) below) ∙ left.columns c;
        right_columns = λ c. ap (λ ns. has ns c) (kept-columns instances framed.lines lines (length A) test.grows (omega arith) ∙ top-columns instances (Get o.number) A) ∙ table-columns (slice_get instances o.number) c;
        used = either-used ks ls left.used (table-used instances o.number);
      }

  -- a join of either kind
  joined-shape : (join : List Condition → ℕ → ℕ → Expr) → ((cols : ℕ → List ℕ) (C : List Condition) (a b : ℕ) → columns_of instances cols (join C a b) ≡ rising (cols a ++ cols b)) → (f : From) (o : TableReference) (on : Cond) → FromShaped f → CondShaped on
      → (scope : Scope) (E : List Expr) → FromShape (join_frame join instances (from_frame instances f) o (cond_frame instances on)) (join_scope instances (from_scope instances f) o (cond_scope instances on)) scope E
  joined-shape join columns f o on left_has on_has scope E =
      let A : List Expr = left_of f scope E in
      let lines : List Expr = Get o.number ∷ A in
      let framed : CondLines = on_of f o on scope E in
      let top : Expr = join (conjuncts_of framed) (last A) (length A) in
      let both : Sides f o on scope E = sides f o on left_has on_has scope E in
      record {
        numbers = ap (λ ns. ns ++ instance_numbers instances o) both.left.numbers;
        grows = grows-more (top ∷ framed.lines) framed.lines E (grows-one top framed.lines) (grows-more framed.lines lines E both.test.grows (grows-more lines A E (grows-one _ A) both.left.grows));
        some = omega arith;
        columns = λ c. ap (λ ns. has ns c) (top-columns instances top framed.lines ∙ columns _ _ _ _) ∙ joined-columns _ _ (from_frame instances f).numbers (instance_numbers instances o) both.left_columns both.right_columns c;
        used = both.used;
      }

  shape-Join : (f : From) (o : TableReference) (on : Cond) → FromShaped f → CondShaped on → FromShaped (from.Join f o on)
  shape-Join f o on left test scope E = from-as _ _ _ _ scope E (frame-Join instances f o on) (scope-Join instances f o on) (joined-shape Join (λ cols C a b. refl) f o on left test scope E)

  shape-LeftJoin : (f : From) (o : TableReference) (on : Cond) → FromShaped f → CondShaped on → FromShaped (from.LeftJoin f o on)
  shape-LeftJoin f o on left test scope E = from-as _ _ _ _ scope E (frame-LeftJoin instances f o on) (scope-LeftJoin instances f o on) (joined-shape LeftJoin (λ cols C a b. refl) f o on left test scope E)

  shape-Comma : (f g : From) → FromShaped f → FromShaped g → FromShaped (from.Comma f g)
  shape-Comma f g first second scope E =
      let ks : List ℕ = (from_frame instances f).numbers in
      let ls : List ℕ = (from_frame instances g).numbers in
      let A : List Expr = (from_frame instances f).lines scope E in
      let B : List Expr = (from_frame instances g).lines scope A in
      let top : Expr = Join [] (last A) (last B) in
      let left = first scope E in
      let right = second scope A in
      let below : last A < length A = last-below A left.some in
      let left_columns : (c : ℕ) → has (class_columns instances B (last A)) c ≡ has ks c = λ c. ap (λ ns. has ns c) (kept-columns instances B A (last A) right.grows below) ∙ left.columns c in
      from-as _ _ _ _ scope E (frame-Comma instances f g) (scope-Comma instances f g)
      (record {
        numbers = two (λ a b. a ++ b) left.numbers right.numbers;
        grows = grows-more (top ∷ B) B E (grows-one top B) (grows-more B A E right.grows left.grows);
        some = omega arith;
        columns = λ c. ap (λ ns. has ns c) (top-columns instances top B) ∙ joined-columns _ _ ks ls left_columns right.columns c;
        used = either-used ks ls left.used right.used;
      })

  -- ---- blocks

  -- the last class of a WHERE or a HAVING has the columns of its input
  pub record WhereShape (o : Option Cond) (inner : Scope) (A : List Expr) : Type 0 where
    pub grows : Grows (select_lines (option_map (cond_frame instances) o) inner A) A
    pub columns : class_columns instances (select_lines (option_map (cond_frame instances) o) inner A) (last (select_lines (option_map (cond_frame instances) o) inner A)) ≡ class_columns instances A (last A)

  filter-shape : (o : Option Cond) → OfFilter CondShaped FromShaped BlockShaped o → (inner : Scope) (A : List Expr) → 0 < length A → WhereShape o inner A
  filter-shape None has_shape inner A some = record { grows = grows-none A; columns = refl }
  filter-shape (Some c) has_shape inner A some =
      let framed : CondLines = cond_frame instances c inner A in
      let test : CondShape framed (cond_scope instances c) A = has_shape inner A in
      let top : Expr = Select (conjuncts_of framed) (last A) in
      record {
        grows = grows-more (top ∷ framed.lines) framed.lines A (grows-one top framed.lines) test.grows;
        columns = top-columns instances top framed.lines ∙ kept-columns instances framed.lines A (last A) test.grows (last-below A some);
      }

  block-as : (f g : BlockFrame) (s t : BlockScope) (scope : Scope) (E : List Expr) → f ≡ g → s ≡ t → BlockShape g t scope E → BlockShape f s scope E
  block-as f g s t scope E is as_ shape = rw (is, as_) shape

  -- the lines of a block behind its WHERE, its Group and its HAVING
  module _ (q : Block) (scope : Scope) (E : List Expr) where
    abbrev pub own_scope : Scope
    own_scope = (from_frame instances q.from).numbers ∷ scope

    abbrev pub filtered : List Expr
    filtered = select_lines (option_map (cond_frame instances) q.filter) own_scope ((from_frame instances q.from).lines scope E)

    abbrev pub grouped : List Expr
    grouped = group_lines q.grouped (from_frame instances q.from).numbers q.keys (q.items ++ q.having_items) filtered

    abbrev pub asked : List Expr
    asked = select_lines (option_map (cond_frame instances) q.having) (having_scope own_scope q.having_items) grouped

  -- what is known of them
  pub record Stages (q : Block) (scope : Scope) (E : List Expr) : Type 0 where
    pub from : FromShape (from_frame instances q.from) (from_scope instances q.from) scope E
    pub where_ : WhereShape q.filter (own_scope q scope E) ((from_frame instances q.from).lines scope E)
    pub filtered_some : 0 < length (filtered q scope E)
    pub grouped_some : 0 < length (grouped q scope E)
    pub having : WhereShape q.having (having_scope (own_scope q scope E) q.having_items) (grouped q scope E)
    pub behind : Grows (asked q scope E) (filtered q scope E)

  all-stages : (q : Block) → FromShaped q.from → OfFilter CondShaped FromShaped BlockShaped q.filter → OfFilter CondShaped FromShaped BlockShaped q.having → (scope : Scope) (E : List Expr) → Stages q scope E
  all-stages q from_has filter_has having_has scope E =
      let inner : Scope = own_scope q scope E in
      let A : List Expr = (from_frame instances q.from).lines scope E in
      let B : List Expr = filtered q scope E in
      let G : List Expr = grouped q scope E in
      let first : FromShape (from_frame instances q.from) (from_scope instances q.from) scope E = from_has scope E in
      let second : WhereShape q.filter inner A = filter-shape q.filter filter_has inner A first.some in
      let some : 0 < length B = grows-some B A second.grows first.some in
      let more : Grows G B = group-grows q.grouped (from_frame instances q.from).numbers q.keys (q.items ++ q.having_items) B in
      let some_too : 0 < length G = grows-some G B more some in
      let third : WhereShape q.having (having_scope inner q.having_items) G = filter-shape q.having having_has (having_scope inner q.having_items) G some_too in
      record { from = first; where_ = second; filtered_some = some; grouped_some = some_too; having = third; behind = grows-more (asked q scope E) G B third.grows more }

  shape-Block : (q : Block) → FromShaped q.from → OfFilter CondShaped FromShaped BlockShaped q.filter → OfFilter CondShaped FromShaped BlockShaped q.having → BlockShaped q
  shape-Block q from_has filter_has having_has scope E =
      let stages : Stages q scope E = all-stages q from_has filter_has having_has scope E in
      let inner : Scope = own_scope q scope E in
      let A : List Expr = (from_frame instances q.from).lines scope E in
      let H : List Expr = asked q scope E in
      let more : Grows H E = grows-more H (filtered q scope E) E stages.behind (grows-more (filtered q scope E) A E stages.where_.grows stages.from.grows) in
      block-as _ _ _ _ scope E (frame-Block instances q) (scope-Block instances q)
      (record {
        grows = end-grows q.distinct inner q.items H E more;
        adds = let low : length E ≤ length H = grows-longer H E more in let high = end-adds q.distinct inner q.items H in omega (arith, low, high);
        single = λ h. one-shown (item_number inner) q.items h;
      })

  -- ---- all of them

  steps : Steps CondShaped FromShaped BlockShaped
  steps = record {
    compare = shape-Compare;
    is_null = shape-IsNull;
    not = shape-Not;
    and = shape-And;
    or = shape-Or;
    exists = shape-Exists;
    in_ = shape-In;
    table = shape-Table;
    join = shape-Join;
    left_join = shape-LeftJoin;
    comma = shape-Comma;
    block = shape-Block;
  }

  pub cond-shape : (c : Cond) → CondShaped c
  cond-shape = each-cond CondShaped FromShaped BlockShaped steps

  pub from-shape : (f : From) → FromShaped f
  from-shape = each-from CondShaped FromShaped BlockShaped steps

  pub block-shape : (q : Block) → BlockShaped q
  block-shape = each-block CondShaped FromShaped BlockShaped steps

  pub block-below : (q : Block) (scope : Scope) (E : List Expr) → last ((block_frame instances q).lines scope E) < length ((block_frame instances q).lines scope E)
  block-below q scope E = let adds : length E < length ((block_frame instances q).lines scope E) = (block-shape q scope E).adds in last-below ((block_frame instances q).lines scope E) (omega (arith, adds))

  each-filter : (o : Option Cond) → OfFilter CondShaped FromShaped BlockShaped o
  each-filter None = tt
  each-filter (Some c) = cond-shape c

  pub stages-of : (q : Block) (scope : Scope) (E : List Expr) → Stages q scope E
  stages-of q = all-stages q (from-shape q.from) (each-filter q.filter) (each-filter q.having)

  pub join-sides : (f : From) (o : TableReference) (on : Cond) (scope : Scope) (E : List Expr) → Sides f o on scope E
  join-sides f o on = sides f o on (from-shape f) (cond-shape on)

  pub shape-all : (cs : List Cond) (scope : Scope) (E : List Expr) → AllShape (all_frames (map (cond_frame instances) cs) scope E) cs E
  shape-all cs = all-shape cs (all-each CondShaped cond-shape cs)

  -- what is known of a bound block, over the column numbers of its FROM's frame
  pub record BoundParts (q : Block) (scope : Scope) : Type 0 where
    pub new : are_new (aggregate_numbers (q.items ++ q.having_items) ++ (from_frame instances q.from).numbers) scope ≡ true
    pub apart : none_of_tables instances (aggregate_numbers (q.items ++ q.having_items)) ≡ true
    pub from : (from_scope instances q.from).bound scope ≡ true
    pub filter : bound_filter (option_map (cond_scope instances) q.filter) ((from_frame instances q.from).numbers ∷ scope) ≡ true
    pub items : bound_items q.grouped (length (from_frame instances q.from).numbers) q.keys (q.items ++ q.having_items) ((from_frame instances q.from).numbers ∷ scope) ≡ true
    pub having : bound_filter (option_map (cond_scope instances) q.having) (having_scope ((from_frame instances q.from).numbers ∷ scope) q.having_items) ≡ true

  pub bound-parts : (q : Block) (scope : Scope) → (block_scope_layer instances (scoped instances q)).bound scope ≡ true → BoundParts q scope
  bound-parts q scope bound =
      let all : List Item = q.items ++ q.having_items in
      let moved = subst (λ ns. (are_new (aggregate_numbers all ++ ns) scope && (none_of_tables instances (aggregate_numbers all) && ((from_scope instances q.from).bound scope && (bound_filter (option_map (cond_scope instances) q.filter) (ns ∷ scope)
      && (bound_items q.grouped (length ns) q.keys all (ns ∷ scope) && bound_filter (option_map (cond_scope instances) q.having) (having_scope (ns ∷ scope) q.having_items)))))) ≡ true)
      (from-shape q.from scope []).numbers bound in
      let numbers : List ℕ = (from_frame instances q.from).numbers in
      let a = and_parts (are_new (aggregate_numbers all ++ numbers) scope) _ moved in
      let others = and_parts (none_of_tables instances (aggregate_numbers all)) _ a.1 in
      let b = and_parts ((from_scope instances q.from).bound scope) _ others.1 in
      let c = and_parts (bound_filter (option_map (cond_scope instances) q.filter) (numbers ∷ scope)) _ b.1 in
      let d = and_parts (bound_items q.grouped (length numbers) q.keys all (numbers ∷ scope)) _ c.1 in
      record { new = a.0; apart = others.0; from = b.0; filter = c.0; items = d.0; having = d.1 }

  -- what is known of a bound join, over the column numbers of its left side's frame
  pub record JoinParts (f : From) (o : TableReference) (on : Cond) (scope : Scope) : Type 0 where
    pub left : (from_scope instances f).bound scope ≡ true
    pub used : names_instance instances o ≡ true
    pub plain : (cond_scope instances on).plain ≡ true
    pub test : (cond_scope instances on).bound (((from_frame instances f).numbers ++ instance_numbers instances o) ∷ scope) ≡ true

  pub join-parts : (f : From) (o : TableReference) (on : Cond) (scope : Scope) → (join_scope instances (from_scope instances f) o (cond_scope instances on)).bound scope ≡ true → JoinParts f o on scope
  join-parts f o on scope bound =
      let a = and_parts ((from_scope instances f).bound scope) _ bound in
      let b = and_parts (names_instance instances o) _ a.1 in
      let c = and_parts (cond_scope instances on).plain _ b.1 in
      record { left = a.0; used = b.0; plain = c.0; test = ap (λ ns. (cond_scope instances on).bound ((ns ++ instance_numbers instances o) ∷ scope)) (sym (from-shape f scope []).numbers) ∙ c.1 }

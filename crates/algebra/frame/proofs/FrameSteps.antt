-- The frame of each form of condition, FROM and block, by the steps that compute it.
use Rattle.std.proofs.Common.{◌≡◌, refl, ap, ◌∙◌, ℕ, Bool, true, List, [], ◌∷◌, ◌++◌, length, map, reverse, option_map, Result, Ok, Err, IfOk, OnOk}
use Rattle.values.specs.declared.truth.Comparison.{Comparison}
use Rattle.query.specs.declared.query.Term as named
use Rattle.query.specs.declared.query.TableReference.{TableReference}
use Rattle.query.specs.declared.query.TableInstance.{TableInstance}
use Rattle.query.specs.declared.query.Cond.{Cond}
use Rattle.query.specs.declared.query.Cond.TheVariants as cond
use Rattle.query.specs.declared.query.From.{From}
use Rattle.query.specs.declared.query.From.TheVariants as from
use Rattle.query.specs.declared.query.Block.{Block, out-Block}
use Rattle.query.specs.declared.query.Item.{Item}
use Rattle.query.specs.declared.query.Item.TheVariants as item
use Rattle.query.specs.declared.query.Query.{Query}
use Rattle.query.specs.Bound.{Scope, instance_numbers, item_number}
use Rattle.algebra.specs.declared.condition.Term.{Term}
use Rattle.algebra.specs.declared.condition.Condition.{Condition}
use Rattle.algebra.specs.declared.condition.Condition.TheVariants.{Compare, IsNull, Not, Exists, In}
use Rattle.algebra.specs.declared.expr.Aggregation.{Aggregation}
use Rattle.algebra.specs.declared.expr.Expr.{Expr}
use Rattle.algebra.specs.declared.expr.Expr.TheVariants.{Get, Join, LeftJoin, Group}
use Rattle.algebra.specs.AggregateOrder.{by_column}
use Rattle.algebra.specs.Connectives.{and_of, or_of}
use Rattle.frame.specs.Frames.{CondLines, AllLines, FromFrame, cond_frame, from_frame, block_frame, all_frames, framed_as, numbered, last, first_shown, conjuncts_of, on_lines, join_frame, select_lines, group_lines, key_columns, aggregations, numbered_aggregate, keep_lines, distinct_lines, query_frame}
use Rattle.frame.proofs.FrameEquations.{frame-Compare, frame-IsNull, frame-Not, frame-And, frame-Or, frame-Exists, frame-In, frame-Table, frame-Join, frame-LeftJoin, frame-Comma, frame-Block}

-- ---- conditions

-- what became of a condition, and the lines then
abbrev pub IsFramed : Condition → List Expr → CondLines → Type 0
IsFramed x lines framed = record { condition : x ≡ framed.condition; lines : lines ≡ framed.lines }

reported : (x y : Condition) (lines more : List Expr) (framed : CondLines) → framed ≡ framed_as y more → x ≡ y → lines ≡ more → IsFramed x lines framed
reported x y lines more framed is same behind = rw is (record { condition = same; lines = behind })

-- the same, where it is made if memory is there
abbrev pub IsMade : {E : Type 0} → Result Condition E → List Expr → CondLines → Type 0
IsMade r lines framed = record { condition : IfOk r (λ x. x ≡ framed.condition); lines : OnOk r (lines ≡ framed.lines) }

when_made : {E : Type 0} (r : Result Condition E) (x : Condition) (lines : List Expr) (framed : CondLines) → IfOk r (λ y. y ≡ x) → IsFramed x lines framed → IsMade r lines framed
when_made (Ok y) x lines framed is same = record { condition = is ∙ same.condition; lines = same.lines }
when_made (Err e) x lines framed is same = record { condition = tt; lines = tt }

module _ (instances : List TableInstance) (scope : Scope) (lines : List Expr) (c : Cond) where
  pub compare_is : (op : Comparison) (a b : named.Term) (left right : Term) → c ≡ cond.Compare op a b → left ≡ numbered scope a → right ≡ numbered scope b → IsFramed (Compare op left right) lines (cond_frame instances c scope lines)
  compare_is op a b left right is l r = reported _ (Compare op (numbered scope a) (numbered scope b)) _ lines _ (ap (λ d. cond_frame instances d scope lines) is ∙ ap (λ m. m scope lines) (frame-Compare instances op a b)) (rw (l, r) refl) refl

  pub null_is : (a : named.Term) (tested : Term) → c ≡ cond.IsNull a → tested ≡ numbered scope a → IsFramed (IsNull tested) lines (cond_frame instances c scope lines)
  null_is a tested is t = reported _ (IsNull (numbered scope a)) _ lines _ (ap (λ d. cond_frame instances d scope lines) is ∙ ap (λ m. m scope lines) (frame-IsNull instances a)) (rw t refl) refl

  pub not_is : (part lent : Cond) (x y : Condition) (more : List Expr) → c ≡ cond.Not part → lent ≡ part → x ≡ (cond_frame instances lent scope lines).condition → more ≡ (cond_frame instances lent scope lines).lines → y ≡ x
      → IsFramed (Not y) more (cond_frame instances c scope lines)
  not_is part lent x y more is at framed behind same =
      reported _ (Not (cond_frame instances lent scope lines).condition) _ (cond_frame instances lent scope lines).lines (cond_frame instances c scope lines)
      (rw at (ap (λ d. cond_frame instances d scope lines) is ∙ ap (λ m. m scope lines) (frame-Not instances part))) (ap Not (same ∙ framed)) behind

  pub and_is : (parts lent : List Cond) {E : Type 0} (r : Result Condition E) (xs : List Condition) (more : List Expr) → c ≡ cond.And parts → lent ≡ parts → xs ≡ (all_frames (map (cond_frame instances) lent) scope lines).conditions
      → more ≡ (all_frames (map (cond_frame instances) lent) scope lines).lines → IfOk r (λ x. x ≡ and_of xs) → IsMade r more (cond_frame instances c scope lines)
  and_is parts lent r xs more is at framed behind made =
      let all : AllLines = all_frames (map (cond_frame instances) lent) scope lines in
      when_made r (and_of xs) more _ made (reported (and_of xs) (and_of all.conditions) _ all.lines (cond_frame instances c scope lines)
      (rw at (ap (λ d. cond_frame instances d scope lines) is ∙ ap (λ m. m scope lines) (frame-And instances parts))) (ap and_of framed) behind)

  pub or_is : (parts lent : List Cond) {E : Type 0} (r : Result Condition E) (xs : List Condition) (more : List Expr) → c ≡ cond.Or parts → lent ≡ parts → xs ≡ (all_frames (map (cond_frame instances) lent) scope lines).conditions
      → more ≡ (all_frames (map (cond_frame instances) lent) scope lines).lines → IfOk r (λ x. x ≡ or_of xs) → IsMade r more (cond_frame instances c scope lines)
  or_is parts lent r xs more is at framed behind made =
      let all : AllLines = all_frames (map (cond_frame instances) lent) scope lines in
      when_made r (or_of xs) more _ made (reported (or_of xs) (or_of all.conditions) _ all.lines (cond_frame instances c scope lines)
      (rw at (ap (λ d. cond_frame instances d scope lines) is ∙ ap (λ m. m scope lines) (frame-Or instances parts))) (ap or_of framed) behind)

  pub exists_is : (q lent : Block) (more : List Expr) (n : ℕ) → c ≡ cond.Exists q → lent ≡ q → more ≡ (block_frame instances lent).lines scope lines → n ≡ last more → IsFramed (Exists n) more (cond_frame instances c scope lines)
  exists_is q lent more n is at behind n_is =
      let all : List Expr = (block_frame instances lent).lines scope lines in
      reported _ (Exists (last all)) _ all (cond_frame instances c scope lines) (rw at (ap (λ d. cond_frame instances d scope lines) is ∙ ap (λ m. m scope lines) (frame-Exists instances q))) (ap Exists (n_is ∙ ap last behind)) behind

  pub in_is : (a : named.Term) (q lent : Block) (more : List Expr) (left : Term) (n k : ℕ) → c ≡ cond.In a q → lent ≡ q → more ≡ (block_frame instances lent).lines scope lines → left ≡ numbered scope a → n ≡ last more
      → k ≡ first_shown ((block_frame instances lent).shown scope) → IsFramed (In left n k) more (cond_frame instances c scope lines)
  in_is a q lent more left n k is at behind l n_is k_is =
      let all : List Expr = (block_frame instances lent).lines scope lines in
      let shown : ℕ = first_shown ((block_frame instances lent).shown scope) in
      reported _ (In (numbered scope a) (last all) shown) _ all (cond_frame instances c scope lines) (rw at (ap (λ d. cond_frame instances d scope lines) is ∙ ap (λ m. m scope lines) (frame-In instances a q)))
      (ap (λ t. In t n k) l ∙ ap (λ m. In (numbered scope a) m k) (n_is ∙ ap last behind) ∙ ap (In (numbered scope a) (last all)) k_is) behind

-- ---- FROM

-- the numbers of a FROM's columns, and the lines then
abbrev pub IsSourced : List ℕ → List Expr → Scope → List Expr → FromFrame → Type 0
IsSourced numbers more scope lines framed = record { numbers : numbers ≡ framed.numbers; lines : more ≡ framed.lines scope lines }

module _ (instances : List TableInstance) (scope : Scope) (lines : List Expr) (f : From) where
  pub table_is : (o : TableReference) (numbers : List ℕ) (more : List Expr) → f ≡ from.Table o → numbers ≡ instance_numbers instances o → more ≡ Get o.number ∷ lines → IsSourced numbers more scope lines (from_frame instances f)
  table_is o numbers more is n l = rw (is, frame-Table instances o) (record { numbers = n; lines = l })

  pub comma_is : (left lent_left right lent_right : From) (numbers more lent all : List ℕ) (behind_left behind ended : List Expr) (none : List Condition) (a b : ℕ) → f ≡ from.Comma left right → lent_left ≡ left
      → lent_right ≡ right → numbers ≡ (from_frame instances lent_left).numbers → behind_left ≡ (from_frame instances lent_left).lines scope lines → more ≡ (from_frame instances lent_right).numbers
      → behind ≡ (from_frame instances lent_right).lines scope behind_left → lent ≡ more → all ≡ numbers ++ lent → a ≡ last behind_left → b ≡ last behind → none ≡ [] → ended ≡ Join none a b ∷ behind
      → IsSourced all ended scope lines (from_frame instances f)
  comma_is left lent_left right lent_right numbers more lent all behind_left behind ended none a b is at_left at_right n l m r lent_is all_is a_is b_is none_is ended_is =
      rw (is, frame-Comma instances left right, ← at_left, ← at_right) (record {
        numbers = rw (all_is, lent_is, n, m) refl;
        lines = rw (ended_is, none_is, a_is, b_is, r, l) refl;
      })

  -- a join, by its left side, its table and its ON
  module _ (left lent : From) (o : TableReference) (on lent_on : Cond) (at : lent ≡ left) (at_on : lent_on ≡ on) (numbers all : List ℕ) (behind_left behind : List Expr) (conjuncts : List Condition) (a b : ℕ) where
    sides_are : (join : List Condition → ℕ → ℕ → Expr) → numbers ≡ (from_frame instances lent).numbers → behind_left ≡ (from_frame instances lent).lines scope lines → all ≡ numbers ++ instance_numbers instances o
        → conjuncts ≡ conjuncts_of (on_lines instances numbers o lent_on scope behind_left) → a ≡ last behind_left → b ≡ length behind_left → behind ≡ (on_lines instances numbers o lent_on scope behind_left).lines
        → IsSourced all (join conjuncts a b ∷ behind) scope lines (join_frame join instances (from_frame instances left) o (cond_frame instances on))
    sides_are join n l all_is c_is a_is b_is r = rw (← at, ← at_on) (record {
      numbers = rw (all_is, n) refl;
      lines = rw (c_is, a_is, b_is, r, l, n) refl;
    })

    pub join_is : f ≡ from.Join left o on → numbers ≡ (from_frame instances lent).numbers → behind_left ≡ (from_frame instances lent).lines scope lines → all ≡ numbers ++ instance_numbers instances o
        → conjuncts ≡ conjuncts_of (on_lines instances numbers o lent_on scope behind_left) → a ≡ last behind_left → b ≡ length behind_left → behind ≡ (on_lines instances numbers o lent_on scope behind_left).lines
        → IsSourced all (Join conjuncts a b ∷ behind) scope lines (from_frame instances f)
    join_is is n l all_is c_is a_is b_is r = rw (is, frame-Join instances left o on) (sides_are Join n l all_is c_is a_is b_is r)

    pub left_join_is : f ≡ from.LeftJoin left o on → numbers ≡ (from_frame instances lent).numbers → behind_left ≡ (from_frame instances lent).lines scope lines → all ≡ numbers ++ instance_numbers instances o
        → conjuncts ≡ conjuncts_of (on_lines instances numbers o lent_on scope behind_left) → a ≡ last behind_left → b ≡ length behind_left → behind ≡ (on_lines instances numbers o lent_on scope behind_left).lines
        → IsSourced all (LeftJoin conjuncts a b ∷ behind) scope lines (from_frame instances f)
    left_join_is is n l all_is c_is a_is b_is r = rw (is, frame-LeftJoin instances left o on) (sides_are LeftJoin n l all_is c_is a_is b_is r)

-- ---- blocks

aggregations-append : (numbers : List ℕ) (items others : List Item) → aggregations numbers (items ++ others) ≡ aggregations numbers items ++ aggregations numbers others
aggregations-append numbers [] others = refl
aggregations-append numbers (item.Column c ∷ items) others = aggregations-append numbers items others
aggregations-append numbers (item.Aggregate n a ∷ items) others = ap (λ G. record { column = n; aggregate = numbered_aggregate numbers a } ∷ G) (aggregations-append numbers items others)

-- a Group, by the aggregates of the items and of those that HAVING reads
pub group_is : (is_grouped : Bool) (numbers keys lent_keys : List ℕ) (items lent asked lent_asked : List Item) (K : List ℕ) (none first both view G : List Aggregation) (input : ℕ) (lines : List Expr) → is_grouped ≡ true → lent_keys ≡ keys → K ≡ key_columns numbers lent_keys
    → none ≡ [] → lent ≡ items → first ≡ none ++ aggregations numbers lent → lent_asked ≡ asked → both ≡ first ++ aggregations numbers lent_asked → view ≡ both → G ≡ by_column view → input ≡ last lines
    → Group K G input ∷ lines ≡ group_lines is_grouped numbers keys (items ++ asked) lines
group_is is_grouped numbers keys lent_keys items lent asked lent_asked K none first both view G input lines grouped at_keys k empty at_items f at_asked b v g i =
    rw (grouped, k, at_keys, g, v, b, f, empty, at_items, at_asked, i, aggregations-append numbers items asked) refl

module _ (instances : List TableInstance) (scope : Scope) (lines : List Expr) (q : Block) where
  pub first_shown_is : (numbers lent : List ℕ) (items : List Item) (k : ℕ) → numbers ≡ (from_frame instances (out-Block q).from).numbers → lent ≡ numbers → items ≡ (out-Block q).items
      → k ≡ first_shown (map (item_number (lent ∷ scope)) items) → k ≡ first_shown ((block_frame instances q).shown scope)
  first_shown_is numbers lent items k n at items_are is = is ∙ rw (items_are, at, n, frame-Block instances q) refl

  pub block_lines_are : (numbers lent grouped asked lent_asked : List ℕ) (having_items : List Item) (sourced filtered added selected ended : List Expr) → numbers ≡ (from_frame instances (out-Block q).from).numbers → lent ≡ numbers → grouped ≡ numbers
      → sourced ≡ (from_frame instances (out-Block q).from).lines scope lines → filtered ≡ select_lines (option_map (cond_frame instances) (out-Block q).filter) (lent ∷ scope) sourced
      → added ≡ group_lines (out-Block q).grouped grouped (out-Block q).keys ((out-Block q).items ++ (out-Block q).having_items) filtered
      → having_items ≡ (out-Block q).having_items → asked ≡ map (item_number (lent ∷ scope)) having_items → lent_asked ≡ asked
      → selected ≡ select_lines (option_map (cond_frame instances) (out-Block q).having) (lent_asked ∷ []) added
      → ended ≡ distinct_lines (out-Block q).distinct (keep_lines (lent ∷ scope) (out-Block q).items selected) → ended ≡ (block_frame instances q).lines scope lines
  block_lines_are numbers lent grouped asked lent_asked having_items sourced filtered added selected ended n at by s f a items_are asked_is at_asked h e = rw (e, h, at_asked, asked_is, items_are, a, f, s, by, at, n, frame-Block instances q) refl

-- ---- queries

pub query_is : (q : Query) (instances : List TableInstance) (none lines all : List Expr) → instances ≡ q.tables → none ≡ [] → lines ≡ (block_frame instances q.block).lines [] none → all ≡ reverse lines → all ≡ query_frame q
unfolding query_frame
query_is q instances none lines all at empty is turned = rw (turned, is, empty, at) refl

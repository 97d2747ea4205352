-- The lines of a FROM are well formed: a join names its sides' classes, which share no column, and its ON names no class.
use Rattle.std.proofs.Common.{◌≡◌, refl, ap, sym, ◌∙◌, ℕ, ◌<◌, ◌≤◌, Bool, true, false, ◌&&◌, ◌==◌, nat_lt, List, [], ◌∷◌, ◌++◌, length, Option, Some, None, arith}
use Rattle.std.specs.List.{list_all, slice_get}
use Rattle.std.proofs.lemmas.Bool.{and_parts, and_from, eq-eqb, or_left, or_right, lt-ltb, not_from_false, false_from_ne_true}
use Rattle.std.proofs.lemmas.Option.{slice_get_within}
use Rattle.query.specs.declared.query.TableReference.{TableReference}
use Rattle.query.specs.declared.query.TableInstance.{TableInstance}
use Rattle.query.specs.declared.query.Cond.{Cond}
use Rattle.query.specs.declared.query.From.{From}
use Rattle.query.specs.declared.query.From.TheVariants as from
use Rattle.query.specs.Bound.{Scope, FromScope, all_differ, is_named_by, names_instance, instance_numbers, cond_scope, from_scope, join_scope}
use Rattle.query.proofs.ScopeEquations.{scope-Table, scope-Join, scope-LeftJoin, scope-Comma}
use Rattle.algebra.specs.declared.condition.Condition.{Condition}
use Rattle.algebra.specs.declared.expr.Aggregation.{Aggregation}
use Rattle.algebra.specs.declared.expr.Expr.{Expr}
use Rattle.algebra.specs.declared.expr.Expr.TheVariants.{Get, Join, LeftJoin}
use Rattle.algebra.specs.Columns.{has, are_disjoint}
use Rattle.algebra.specs.Expressions.{classes_pass, is_formed, is_query_column, is_plain, sides_formed, names_own, subqueries_pass}
use Rattle.algebra.specs.Classes.{class_columns, AreFormed}
use Rattle.frame.specs.Frames.{conjuncts_of, CondLines, FromFrame, cond_frame, from_frame, join_frame, last}
use Rattle.frame.proofs.FormedParts.{AreOwn, AllOwn, GroupsOwn, groups-before, FormedCond, CondFormed, FromFormed}
use Rattle.frame.proofs.FrameEquations.{frame-Table, frame-Join, frame-LeftJoin, frame-Comma}
use Rattle.frame.proofs.FrameShapes.{FromShape, Sides, JoinParts, left_of, on_of, from-shape, join-sides, join-parts}
use Rattle.frame.proofs.Growth.{grows-longer, kept-columns, last-below}
use Rattle.algebra.proofs.ConnectiveParts.{conjuncts-columns, conjuncts-classes}
use Rattle.algebra.proofs.Puts.{AreDisjoint, differ-left, differ-right, differ-disjoint}
use Rattle.algebra.proofs.MentionedColumns.{all_has}

-- lists with the columns of lists that share none share none
sides-disjoint : (xs ys ks ls : List ℕ) → ((c : ℕ) → has xs c ≡ has ks c) → ((c : ℕ) → has ys c ≡ has ls c) → AreDisjoint ls ks → are_disjoint xs ys ≡ true
sides-disjoint xs ys ks ls left right disjoint_are = all_has _ xs (λ c in_. not_from_false _ (false_from_ne_true (has ys c) (λ both. cc (left c, in_, disjoint_are c (sym (right c) ∙ both)))))

-- an instance of the query's is one of its tables
used-below : (instances : List TableInstance) (o : TableReference) → names_instance instances o ≡ true → o.number < length instances
used-below instances o used = by (slice_get instances o.number) refl used
  where
    by : (x : Option TableInstance) → slice_get instances o.number ≡ x → is_named_by x o ≡ true → o.number < length instances
    by None is used = cc
    by (Some t) is used = slice_get_within instances o.number t is

module _ (instances : List TableInstance) (own : List Aggregation) where
  from-as : (f g : FromFrame) (s t : FromScope) (scope : Scope) (E : List Expr) → f ≡ g → s ≡ t → (t.bound scope ≡ true → all_differ g.numbers ≡ true → GroupsOwn instances own (g.lines scope E) → AreFormed instances own (g.lines scope E))
      → s.bound scope ≡ true → all_differ f.numbers ≡ true → GroupsOwn instances own (f.lines scope E) → AreFormed instances own (f.lines scope E)
  from-as f g s t scope E is as_ h = rw (is, as_) h

  pub formed-Table : (o : TableReference) → FromFormed instances own (from.Table o)
  formed-Table o scope E all formed =
      from-as _ _ _ _ scope E (frame-Table instances o) (scope-Table instances o) (λ used differ groups. (refl, lt-ltb _ _ (used-below instances o used), formed))

  -- a join of either kind
  module _ (join : List Condition → ℕ → ℕ → Expr) (names : (p : ℕ → Bool) (C : List Condition) (a b : ℕ) → classes_pass p (join C a b) ≡ (list_all p (a ∷ b ∷ []) && subqueries_pass p C))
      (needs : (cols : ℕ → List ℕ) (C : List Condition) (a b : ℕ) → is_formed instances own cols (join C a b) ≡ (names_own instances own C && sides_formed C (cols a) (cols b))) where
    joined-formed : (f : From) (o : TableReference) (on : Cond) → FromFormed instances own f → CondFormed instances own on → (scope : Scope) (E : List Expr) → AllOwn instances own scope → AreFormed instances own E
        → (join_scope instances (from_scope instances f) o (cond_scope instances on)).bound scope ≡ true → all_differ ((from_frame instances f).numbers ++ instance_numbers instances o) ≡ true
        → GroupsOwn instances own ((join_frame join instances (from_frame instances f) o (cond_frame instances on)).lines scope E) → AreFormed instances own ((join_frame join instances (from_frame instances f) o (cond_frame instances on)).lines scope E)
    joined-formed f o on left_formed on_formed scope E all formed bound differ groups =
        let ks : List ℕ = (from_frame instances f).numbers in
        let ls : List ℕ = instance_numbers instances o in
        let A : List Expr = left_of instances f scope E in
        let lines : List Expr = Get o.number ∷ A in
        let framed : CondLines = on_of instances f o on scope E in
        let cols : ℕ → List ℕ = class_columns instances framed.lines in
        let sides : Sides instances f o on scope E = join-sides instances f o on scope E in
        let parts : JoinParts instances f o on scope = join-parts instances f o on scope bound in
        let before : GroupsOwn instances own lines = groups-before instances own framed.lines lines sides.test.grows groups.1 in
        let left : AreFormed instances own A = left_formed scope E all formed parts.left (differ-left ks ls differ) before.1 in
        let table : AreFormed instances own lines = (refl, lt-ltb _ _ (used-below instances o parts.used), left) in
        let inner : AreOwn instances own (ks ++ ls) = λ k in_. or_left _ _ (sides.used k in_) in
        let test : FormedCond instances own framed = on_formed ((ks ++ ls) ∷ scope) lines (inner, all) table parts.test groups.1 in
        let longer : length lines ≤ length framed.lines = grows-longer framed.lines lines sides.test.grows in
        let below : last A < length A = last-below A sides.left.some in
        let same : framed.lines ≡ lines = sides.test.plain parts.plain in
        let C : List Condition = conjuncts_of framed in
        let earlier : subqueries_pass (λ g. nat_lt g (length framed.lines)) C ≡ true =
        conjuncts-classes framed.condition (λ g. nat_lt g (length framed.lines)) ∙ sides.test.named (λ g. nat_lt g (length framed.lines)) (λ g low lt. lt-ltb _ _ lt) in
        let plain : is_plain C ≡ true =
        conjuncts-classes framed.condition (λ g. false) ∙ sides.test.named (λ g. false) (λ g low lt. absurd (let none : length framed.lines ≡ length lines = ap length same in omega (arith, low, lt, none))) in
        let own_columns : names_own instances own C ≡ true = conjuncts-columns framed.condition (is_query_column instances own) ∙ test.named in (
          names (λ g. nat_lt g (length framed.lines)) C (last A) (length A) ∙ rw (lt-ltb (last A) (length framed.lines) (omega (arith, below, longer)), lt-ltb (length A) (length framed.lines) (omega (arith, longer)), earlier) refl,
          needs cols C (last A) (length A) ∙ and_from _ _ own_columns (and_from _ _ plain (sides-disjoint (cols (last A)) (cols (length A)) ks ls sides.left_columns sides.right_columns (differ-disjoint ks ls differ))),
          test.lines,
        )

  pub formed-Join : (f : From) (o : TableReference) (on : Cond) → FromFormed instances own f → CondFormed instances own on → FromFormed instances own (from.Join f o on)
  formed-Join f o on left test scope E all formed =
      from-as _ _ _ _ scope E (frame-Join instances f o on) (scope-Join instances f o on) (joined-formed Join (λ p C a b. refl) (λ cols C a b. refl) f o on left test scope E all formed)

  pub formed-LeftJoin : (f : From) (o : TableReference) (on : Cond) → FromFormed instances own f → CondFormed instances own on → FromFormed instances own (from.LeftJoin f o on)
  formed-LeftJoin f o on left test scope E all formed =
      from-as _ _ _ _ scope E (frame-LeftJoin instances f o on) (scope-LeftJoin instances f o on) (joined-formed LeftJoin (λ p C a b. refl) (λ cols C a b. refl) f o on left test scope E all formed)

  pub formed-Comma : (f g : From) → FromFormed instances own f → FromFormed instances own g → FromFormed instances own (from.Comma f g)
  formed-Comma f g first second scope E all formed =
      let ks : List ℕ = (from_frame instances f).numbers in
      let ls : List ℕ = (from_frame instances g).numbers in
      let A : List Expr = (from_frame instances f).lines scope E in
      let B : List Expr = (from_frame instances g).lines scope A in
      let left : FromShape instances (from_frame instances f) (from_scope instances f) scope E = from-shape instances f scope E in
      let right : FromShape instances (from_frame instances g) (from_scope instances g) scope A = from-shape instances g scope A in
      let low : last A < length A = last-below A left.some in
      let high : last B < length B = last-below B right.some in
      let longer : length A ≤ length B = grows-longer B A right.grows in
      let left_columns : (c : ℕ) → has (class_columns instances B (last A)) c ≡ has ks c = λ c. ap (λ ns. has ns c) (kept-columns instances B A (last A) right.grows low) ∙ left.columns c in
      from-as _ _ _ _ scope E (frame-Comma instances f g) (scope-Comma instances f g) (λ bound differ groups.
      let parts = and_parts ((from_scope instances f).bound scope) ((from_scope instances g).bound scope) bound in
      let formed_left : AreFormed instances own A = first scope E all formed parts.0 (differ-left ks ls differ) (groups-before instances own B A right.grows groups.1) in
      let formed_right : AreFormed instances own B = second scope A all formed_left parts.1 (differ-right ks ls differ) groups.1 in (
        rw (lt-ltb (last A) (length B) (omega (arith, low, longer)), lt-ltb (last B) (length B) high) refl,
        sides-disjoint (class_columns instances B (last A)) (class_columns instances B (last B)) ks ls left_columns right.columns (differ-disjoint ks ls differ),
        formed_right,
      ))

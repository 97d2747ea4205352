-- What the frame makes of a FROM means it, if it does so of the parts.
use Rattle.std.proofs.Common.{◌≡◌, refl, ap, sym, ◌∙◌, subst, ℕ, zero, suc, ◌+◌, Bool, true, List, [], ◌∷◌, ◌++◌, map, filter, flat_map, length, length-append, Option, Some, None, arith}
use Rattle.std.specs.List.{slice_get, AllByRecursion}
use Rattle.std.proofs.lemmas.Bool.{and_parts, eqb-true}
use Rattle.std.proofs.lemmas.List.FromFn.{length-range_with_len}
use Rattle.std.proofs.lemmas.Option.{same_Some}
use mathlib.Core.List.{map-map}
use Rattle.values.proofs.Lists.{filter_all}
use Rattle.schema.specs.Databases.{Row, HaveWidth}
use Rattle.query.specs.declared.query.TableReference.{TableReference}
use Rattle.query.specs.declared.query.TableInstance.{TableInstance}
use Rattle.query.specs.declared.query.Cond.{Cond}
use Rattle.query.specs.declared.query.From.{From}
use Rattle.query.specs.declared.query.From.TheVariants as from
use Rattle.query.specs.Rows as rows
use Rattle.query.specs.Rows.{Tables, IsFitting}
use Rattle.values.specs.Truth.{is_true}
use Rattle.query.specs.Meaning as query
use Rattle.query.specs.Meaning.{from_width, pairs_of, passes, source, or_else_row}
use Rattle.query.specs.Bound.{Scope, is_named_by, names_instance, numbers_of_instance, instance_numbers, cond_scope, from_scope, join_scope}
use Rattle.query.proofs.Equations as meaning
use Rattle.query.proofs.ScopeEquations.{scope-Table, scope-Join, scope-LeftJoin, scope-Comma}
use Rattle.query.proofs.Widths.{source_fits}
use Rattle.algebra.specs.declared.condition.Condition.{Condition}
use Rattle.algebra.specs.declared.expr.Expr.{Expr}
use Rattle.algebra.specs.declared.expr.Expr.TheVariants.{Get, Join, LeftJoin}
use Rattle.algebra.specs.Columns.{has}
use Rattle.algebra.specs.Bags.{Env, lay, nulls, matches}
use Rattle.algebra.specs.Conditions.{holds}
use Rattle.algebra.specs.Expressions.{means, instance_columns, instance_row, get_rows}
use Rattle.algebra.specs.Classes.{class_rows, class_columns, classes}
use Rattle.frame.specs.Frames.{conjuncts_of, AreOver, cond_frame, from_frame, join_frame, last}
use Rattle.frame.proofs.FrameEquations.{frame-Table, frame-Join, frame-LeftJoin, frame-Comma}
use Rattle.frame.proofs.FrameRight.{FromRight, CondMeans, FromMeans, from-right}
use Rattle.frame.proofs.FrameShapes.{FromShape, Sides, JoinParts, from-shape, join-sides, join-parts, table-columns}
use Rattle.frame.proofs.Growth.{Grows, grows-none, grows-one, kept-rows, top-rows, top-columns, last-below}
use Rattle.algebra.proofs.Lists.{two, map-same, through, loops, all-map}
use Rattle.algebra.proofs.ConnectiveParts.{conjuncts-hold}
use Rattle.algebra.proofs.Puts.{put, pointwise, AreDisjoint, Agrees, IsNew, lay-put, lay-nulls, use-put, agrees-put, differ-disjoint, new-left, new-right}

-- ---- pairs of rows

or_else-map : (g : Row → Env) (z : Row) (xs : List Row) → or_else_row (g z) (map g xs) ≡ map g (query.or_else_row z xs)
or_else-map g z [] = refl
or_else-map g z (x ∷ xs) = refl

-- the rows that a left row makes with right ones
pairs-put : (ks ls : List ℕ) (e : Env) (p : Env → Bool) (q : Row → Bool) (R : List Row) (l : Row) → AreDisjoint ls ks → length l ≡ length ks → HaveWidth (length ls) R
    → ((z : Row) → length z ≡ length ks + length ls → p (put (ks ++ ls) z e) ≡ q z)
    → matches p (has ls) (map (λ s. put ls s e) R) (put ks l e) ≡ map (λ s. put (ks ++ ls) s e) (filter q (pairs_of l R))
pairs-put ks ls e p q R l apart wide all same =
    ap (filter p) (map-map (λ s. lay (has ls) s (put ks l e)) (λ s. put ls s e) R
    ∙ map-same (λ r. length r ≡ length ls) (λ r. lay (has ls) (put ls r e) (put ks l e)) (λ r. put (ks ++ ls) (l ++ r) e) R (λ r w. lay-put ks ls l r e apart wide) all
    ∙ sym (map-map (λ s. put (ks ++ ls) s e) (λ r. l ++ r) R))
    ∙ through (λ z. length z ≡ length ks + length ls) (λ s. put (ks ++ ls) s e) p q (pairs_of l R) same
    (all-map (λ r. length r ≡ length ls) (λ z. length z ≡ length ks + length ls) (λ r. l ++ r) R (λ r w. omega (arith, length-append l r, wide, w)) all)

-- ---- tables

all-at : (P : TableInstance → Type 0) (instances : List TableInstance) (n : ℕ) (t : TableInstance) → slice_get instances n ≡ Some t → AllByRecursion P instances → P t
all-at P [] n t is all = absurd (none is)
  where
    none : None ≡ Some t → ⊥
    none is = cc
all-at P (u ∷ instances) zero t is all = subst P (same_Some u t is) all.0
all-at P (u ∷ instances) (suc n) t is all = all-at P instances n t is all.1

module _ (instances : List TableInstance) (D : Tables) (fits : IsFitting D) (over : AreOver D instances) where
  table-width : (o : TableReference) → names_instance instances o ≡ true → D.width o.table ≡ length (instance_numbers instances o)
  table-width o used = by (slice_get instances o.number) refl used
    where
      by : (x : Option TableInstance) → slice_get instances o.number ≡ x → is_named_by x o ≡ true → D.width o.table ≡ length (numbers_of_instance x)
      by None is used = cc
      by (Some t) is used =
          let same : t.table ≡ o.table = eqb-true _ _ used in
          ap D.width (sym same) ∙ sym (all-at (λ t. length t.entry.columns ≡ D.width t.table) instances o.number t is over) ∙ sym (length-range_with_len t.first_column (length t.entry.columns))

  table-rows : (o : TableReference) → names_instance instances o ≡ true → (e : Env) → get_rows (slice_get instances o.number) D e ≡ map (λ s. put (instance_numbers instances o) s e) (D.rows o.table)
  table-rows o used e = by (slice_get instances o.number) refl used
    where
      by : (x : Option TableInstance) → slice_get instances o.number ≡ x → is_named_by x o ≡ true → get_rows x D e ≡ map (λ s. put (numbers_of_instance x) s e) (D.rows o.table)
      by None is used = cc
      by (Some t) is used =
          let same : t.table ≡ o.table = eqb-true _ _ used in
          let wide : length t.entry.columns ≡ D.width t.table = all-at (λ t. length t.entry.columns ≡ D.width t.table) instances o.number t is over in
          map-same (λ r. length r ≡ D.width t.table) (λ row. instance_row t row e) (λ s. put (instance_columns t) s e) (D.rows t.table) (λ r w. use-put t r e (w ∙ sym wide)) (fits t.table)
          ∙ ap (λ n. map (λ s. put (instance_columns t) s e) (D.rows n)) same

  table-fits : (o : TableReference) → names_instance instances o ≡ true → HaveWidth (length (instance_numbers instances o)) (D.rows o.table)
  table-fits o used = subst (λ w. HaveWidth w (D.rows o.table)) (table-width o used) (fits o.table)

  pub means-Table : (o : TableReference) → FromMeans instances D (from.Table o)
  means-Table o scope E =
      from-right instances D _ _ _ _ _ _ _ _ scope E (frame-Table instances o) (scope-Table instances o) (λ ρ. meaning.source-Table o D ρ) (meaning.width-Table o D)
      (record {
        width = λ bound. table-width o bound;
        rows = λ ρ e bound new agree. top-rows instances D (Get o.number) E e ∙ table-rows o bound e;
      })

  -- ---- joins with ON

  module _ (f : From) (o : TableReference) (on : Cond) (scope : Scope) (E : List Expr) (from_means : FromMeans instances D f) (on_means : CondMeans instances D on) where
    abbrev ks : List ℕ
    ks = (from_frame instances f).numbers

    abbrev ls : List ℕ
    ls = instance_numbers instances o

    shape : Sides instances f o on scope E
    shape = join-sides instances f o on scope E

    left : FromRight instances D (from_frame instances f) (from_scope instances f) (λ ρ. source f D ρ) (from_width f D) scope E
    left = from_means scope E

    abbrev left_lines : List Expr
    left_lines = (from_frame instances f).lines scope E

    abbrev lines : List Expr
    lines = Get o.number ∷ left_lines

    abbrev inner : Scope
    inner = (ks ++ ls) ∷ scope

    abbrev conjuncts : List Condition
    conjuncts = conjuncts_of (cond_frame instances on inner lines)

    abbrev Bound : Type 0
    Bound = JoinParts instances f o on scope

    on-passes : (ρ : List Row) (e : Env) → Bound → IsNew (ks ++ ls) scope → Agrees scope ρ e → (z : Row) → length z ≡ length ks + length ls
        → holds (class_rows instances D lines) conjuncts (put (ks ++ ls) z e) ≡ passes (query.truth on) D ρ z
    on-passes ρ e bound new agree z wide =
        conjuncts-hold (cond_frame instances on inner lines).condition _ _
        ∙ ap is_true ((on_means inner lines).truth lines (z ∷ ρ) (put (ks ++ ls) z e) (subst (λ L. Grows lines L) (sym (shape.test.plain bound.plain)) (grows-none lines)) bound.test (agrees-put (ks ++ ls) z e scope ρ new (wide ∙ sym (length-append ks ls)) agree))

    left-rows : (ρ : List Row) (e : Env) → Bound → IsNew (ks ++ ls) scope → Agrees scope ρ e → class_rows instances D lines (last left_lines) e ≡ map (λ s. put ks s e) (source f D ρ)
    left-rows ρ e bound new agree = kept-rows instances D lines left_lines _ e (grows-one _ left_lines) (last-below left_lines shape.left.some) ∙ left.rows ρ e bound.left (new-left ks ls scope new) agree

    right-rows : (e : Env) → Bound → class_rows instances D lines (length left_lines) e ≡ map (λ s. put ls s e) (D.rows o.table)
    right-rows e bound = top-rows instances D (Get o.number) left_lines e ∙ table-rows o bound.used e

    right-columns : (c : ℕ) → has (class_columns instances lines (length left_lines)) c ≡ has ls c
    right-columns c = ap (λ ns. has ns c) (top-columns instances (Get o.number) left_lines) ∙ table-columns (slice_get instances o.number) c

    source-wide : Bound → (ρ : List Row) → HaveWidth (length ks) (source f D ρ)
    source-wide bound ρ = subst (λ w. HaveWidth w (source f D ρ)) (left.width bound.left) (source_fits f D ρ fits)

    pairs : (ρ : List Row) (e : Env) → Bound → IsNew (ks ++ ls) scope → Agrees scope ρ e → (l : Row) → length l ≡ length ks
        → matches (holds (class_rows instances D lines) conjuncts) (has ls) (map (λ s. put ls s e) (D.rows o.table)) (put ks l e) ≡ map (λ s. put (ks ++ ls) s e) (query.matches (query.truth on) o.table D ρ l)
    pairs ρ e bound new agree l wide = pairs-put ks ls e _ (passes (query.truth on) D ρ) (D.rows o.table) l (differ-disjoint ks ls new.0) wide (table-fits o bound.used) (on-passes ρ e bound new agree)

    join-rows : (ρ : List Row) (e : Env) → Bound → IsNew (ks ++ ls) scope → Agrees scope ρ e
        → means instances D (classes instances D lines) (Join conjuncts (last left_lines) (length left_lines)) e ≡ map (λ s. put (ks ++ ls) s e) (flat_map (query.matches (query.truth on) o.table D ρ) (source f D ρ))
    join-rows ρ e bound new agree =
        let p : Env → Bool = holds (class_rows instances D lines) conjuncts in
        ap (λ K. flat_map (matches p K (class_rows instances D lines (length left_lines) e)) (class_rows instances D lines (last left_lines) e)) (pointwise right-columns)
        ∙ two (λ R L. flat_map (matches p (has ls) R) L) (right-rows e bound) (left-rows ρ e bound new agree)
        ∙ loops (λ l. length l ≡ length ks) _ (λ s. put ks s e) (λ s. put (ks ++ ls) s e) _ (source f D ρ) (pairs ρ e bound new agree) (source-wide bound ρ)

    left-join-rows : (ρ : List Row) (e : Env) → Bound → IsNew (ks ++ ls) scope → Agrees scope ρ e
        → means instances D (classes instances D lines) (LeftJoin conjuncts (last left_lines) (length left_lines)) e ≡ map (λ s. put (ks ++ ls) s e) (flat_map (query.padded (query.truth on) o.table D ρ) (source f D ρ))
    left-join-rows ρ e bound new agree =
        let p : Env → Bool = holds (class_rows instances D lines) conjuncts in
        let pad : (l : Row) → length l ≡ length ks → lay (has ls) nulls (put ks l e) ≡ put (ks ++ ls) (l ++ rows.nulls (D.width o.table)) e =
        λ l wide. lay-nulls ls (put ks l e) e ∙ lay-put ks ls l (rows.nulls (length ls)) e (differ-disjoint ks ls new.0) wide ∙ ap (λ w. put (ks ++ ls) (l ++ rows.nulls w) e) (sym (table-width o bound.used)) in
        ap (λ K. flat_map (λ r. or_else_row (lay K nulls r) (matches p K (class_rows instances D lines (length left_lines) e) r)) (class_rows instances D lines (last left_lines) e)) (pointwise right-columns)
        ∙ two (λ R L. flat_map (λ r. or_else_row (lay (has ls) nulls r) (matches p (has ls) R r)) L) (right-rows e bound) (left-rows ρ e bound new agree)
        ∙ loops (λ l. length l ≡ length ks) _ (λ s. put ks s e) (λ s. put (ks ++ ls) s e) _ (source f D ρ)
        (λ l wide. two or_else_row (pad l wide) (pairs ρ e bound new agree l wide) ∙ or_else-map (λ s. put (ks ++ ls) s e) (l ++ rows.nulls (D.width o.table)) _) (source-wide bound ρ)

    abbrev framed_lines : List Expr
    framed_lines = (cond_frame instances on inner lines).lines

    -- a join of either kind, whose rows these are
    joined-right : (join : List Condition → ℕ → ℕ → Expr) (m : List Row → List Row)
        → ((ρ : List Row) (e : Env) → Bound → IsNew (ks ++ ls) scope → Agrees scope ρ e → means instances D (classes instances D lines) (join conjuncts (last left_lines) (length left_lines)) e ≡ map (λ s. put (ks ++ ls) s e) (m ρ))
        → FromRight instances D (join_frame join instances (from_frame instances f) o (cond_frame instances on)) (join_scope instances (from_scope instances f) o (cond_scope instances on)) m (from_width f D + D.width o.table) scope E
    joined-right join m is =
        let top : Expr = join conjuncts (last left_lines) (length left_lines) in
        record {
          width = λ h. let b = join-parts instances f o on scope h in let w : from_width f D ≡ length ks = left.width b.left in let v : D.width o.table ≡ length ls = table-width o b.used in omega (arith, w, v, length-append ks ls);
          rows = λ ρ e h new agree. let b = join-parts instances f o on scope h in
              top-rows instances D top framed_lines e ∙ ap (λ L. means instances D (classes instances D L) top e) (shape.test.plain b.plain) ∙ is ρ e b new agree;
        }

  pub means-Join : (f : From) (o : TableReference) (on : Cond) → FromMeans instances D f → CondMeans instances D on → FromMeans instances D (from.Join f o on)
  means-Join f o on left test scope E =
      from-right instances D _ _ _ _ _ _ _ _ scope E (frame-Join instances f o on) (scope-Join instances f o on) (λ ρ. meaning.source-Join f o on D ρ) (meaning.width-Join f o on D)
      (joined-right f o on scope E left test Join _ (join-rows f o on scope E left test))

  pub means-LeftJoin : (f : From) (o : TableReference) (on : Cond) → FromMeans instances D f → CondMeans instances D on → FromMeans instances D (from.LeftJoin f o on)
  means-LeftJoin f o on left test scope E =
      from-right instances D _ _ _ _ _ _ _ _ scope E (frame-LeftJoin instances f o on) (scope-LeftJoin instances f o on) (λ ρ. meaning.source-LeftJoin f o on D ρ) (meaning.width-LeftJoin f o on D)
      (joined-right f o on scope E left test LeftJoin _ (left-join-rows f o on scope E left test))

  -- ---- commas

  pub means-Comma : (f g : From) → FromMeans instances D f → FromMeans instances D g → FromMeans instances D (from.Comma f g)
  means-Comma f g first second scope E =
      let ks : List ℕ = (from_frame instances f).numbers in
      let ls : List ℕ = (from_frame instances g).numbers in
      let A : List Expr = (from_frame instances f).lines scope E in
      let B : List Expr = (from_frame instances g).lines scope A in
      let top : Expr = Join [] (last A) (last B) in
      let left = first scope E in
      let right = second scope A in
      let left_shape : FromShape instances (from_frame instances f) (from_scope instances f) scope E = from-shape instances f scope E in
      let right_shape : FromShape instances (from_frame instances g) (from_scope instances g) scope A = from-shape instances g scope A in
      from-right instances D _ _ _ _ _ _ _ _ scope E (frame-Comma instances f g) (scope-Comma instances f g) (λ ρ. meaning.source-Comma f g D ρ) (meaning.width-Comma f g D)
      (record {
        width = λ h.
            let parts = and_parts ((from_scope instances f).bound scope) ((from_scope instances g).bound scope) h in
            let w : from_width f D ≡ length ks = left.width parts.0 in
            let v : from_width g D ≡ length ls = right.width parts.1 in
            omega (arith, w, v, length-append ks ls);
        rows = λ ρ e h new agree.
            let parts = and_parts ((from_scope instances f).bound scope) ((from_scope instances g).bound scope) h in
            let right_rows : class_rows instances D B (last B) e ≡ map (λ s. put ls s e) (source g D ρ) = right.rows ρ e parts.1 (new-right ks ls scope new) agree in
            let left_rows : class_rows instances D B (last A) e ≡ map (λ s. put ks s e) (source f D ρ) = kept-rows instances D B A (last A) e right_shape.grows (last-below A left_shape.some) ∙ left.rows ρ e parts.0 (new-left ks ls scope new) agree in
            let p : Env → Bool = holds (class_rows instances D B) [] in
            top-rows instances D top B e
            ∙ ap (λ K. flat_map (matches p K (class_rows instances D B (last B) e)) (class_rows instances D B (last A) e)) (pointwise right_shape.columns)
            ∙ two (λ R L. flat_map (matches p (has ls) R) L) right_rows left_rows
            ∙ loops (λ l. length l ≡ length ks) _ (λ s. put ks s e) (λ s. put (ks ++ ls) s e) (λ l. pairs_of l (source g D ρ)) (source f D ρ)
            (λ l wide. pairs-put ks ls e p (λ z. true) (source g D ρ) l (differ-disjoint ks ls new.0) wide (subst (λ w. HaveWidth w (source g D ρ)) (right.width parts.1) (source_fits g D ρ fits)) (λ z w. refl)
            ∙ ap (map (λ s. put (ks ++ ls) s e)) (filter_all (pairs_of l (source g D ρ))))
            (subst (λ w. HaveWidth w (source f D ρ)) (left.width parts.0) (source_fits f D ρ fits));
      })

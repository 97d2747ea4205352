-- What the frame makes of a condition means it, if it does so of the parts.
use Rattle.std.proofs.Common.{◌≡◌, refl, ap, ◌∙◌, ℕ, true, not, List, [], ◌∷◌, map}
use Rattle.std.specs.List.{AllByRecursion}
use Rattle.std.proofs.lemmas.Bool.{and_parts}
use Rattle.values.specs.declared.truth.Truth.{Truth}
use Rattle.values.specs.declared.truth.Comparison.{Comparison}
use Rattle.values.specs.declared.truth.Comparison.TheVariants as by
use Rattle.values.specs.declared.value.Value.{Value}
use Rattle.values.specs.Truth.{negation, truth_of, is_null, compare}
use Rattle.schema.specs.Databases.{Row}
use Rattle.query.specs.declared.query.Term.{Term}
use Rattle.query.specs.declared.query.Term.TheVariants as read
use Rattle.query.specs.declared.query.TableInstance.{TableInstance}
use Rattle.query.specs.declared.query.Cond.{Cond}
use Rattle.query.specs.declared.query.Cond.TheVariants as cond
use Rattle.query.specs.declared.query.Block.{Block}
use Rattle.query.specs.Rows as rows
use Rattle.query.specs.Rows.{Tables}
use Rattle.query.specs.Meaning as query
use Rattle.query.specs.Meaning.{all_of, any_of, equals_row}
use Rattle.query.specs.Bound.{Scope, CondScope, bound_term, cond_scope, block_scope, number_at}
use Rattle.query.proofs.Equations as meaning
use Rattle.query.proofs.ScopeEquations.{scope-Compare, scope-IsNull, scope-Not, scope-And, scope-Or, scope-Exists, scope-In}
use Rattle.algebra.specs.declared.condition.Condition.{Condition}
use Rattle.algebra.specs.declared.expr.Expr.{Expr}
use Rattle.algebra.specs.Bags.{Env}
use Rattle.algebra.specs.Conditions.{truth, term_value, is_empty}
use Rattle.algebra.specs.Classes.{class_rows}
use Rattle.frame.specs.Frames.{CondLines, cond_frame, block_frame, all_frames, framed_as, numbered, last}
use Rattle.frame.proofs.FrameEquations.{frame-Compare, frame-IsNull, frame-Not, frame-And, frame-Or, frame-Exists, frame-In}
use Rattle.frame.proofs.FrameRight.{CondRight, AllRight, CondMeans, BlockMeans, cond-right}
use Rattle.frame.proofs.FrameShapes.{block-shape, block-below, shape-all}
use Rattle.frame.proofs.Growth.{Grows, grows-more, kept-rows}
use Rattle.algebra.proofs.ConnectiveParts.{truth-and_of, truth-or_of}
use Rattle.algebra.proofs.Lists.{two, cons-same}
use Rattle.algebra.proofs.Puts.{Agrees, reads}
use Rattle.algebra.proofs.Truths.{truth-Compare, truth-IsNull, truth-Not, truth-Exists, truth-In}

-- a term reads by its number as by its level and place
pub term-reads : (scope : Scope) (ρ : List Row) (e : Env) (a : Term) → bound_term scope a ≡ true → Agrees scope ρ e → term_value (numbered scope a) e ≡ rows.term_value a ρ
term-reads scope ρ e (read.Column c) bound agree = reads scope ρ e c bound agree
term-reads scope ρ e (read.Literal v) bound agree = refl

is_empty-map : (f : Env → Row) (xs : List Env) → is_empty xs ≡ query.is_empty (map f xs)
is_empty-map f [] = refl
is_empty-map f (x ∷ xs) = refl

-- IN over the rows of a class, by the one number that they show
in-rows : (v : Value) (ks : List ℕ) (k : ℕ) → ks ≡ k ∷ [] → (xs : List Env) → map (λ s. compare by.Equal v (s (number_at ks 0))) xs ≡ map (equals_row v) (map (λ r. map r ks) xs)
in-rows v ks k is [] = refl
in-rows v ks k is (x ∷ xs) = two (λ t ts. t ∷ ts) (rw is refl) (in-rows v ks k is xs)

module _ (instances : List TableInstance) (D : Tables) where
  framed-right : (c : Condition) (lines : List Expr) (s : CondScope) (m : List Row → Truth) (scope : Scope)
      → ((F : List Expr) (ρ : List Row) (e : Env) → Grows F lines → s.bound scope ≡ true → Agrees scope ρ e → truth c (class_rows instances D F) e ≡ m ρ) → CondRight instances D (framed_as c lines) s m scope
  framed-right c lines s m scope is = record { truth = is }

  pub means-Compare : (op : Comparison) (a b : Term) → CondMeans instances D (cond.Compare op a b)
  means-Compare op a b scope E =
      cond-right instances D _ _ _ _ _ _ scope (ap (λ f. f scope E) (frame-Compare instances op a b)) (scope-Compare instances op a b) (λ ρ. meaning.truth-Compare op a b D ρ)
      (framed-right _ E _ _ scope (λ F ρ e more bound agree.
      let parts = and_parts (bound_term scope a) (bound_term scope b) bound in
      truth-Compare op (numbered scope a) (numbered scope b) (class_rows instances D F) e ∙ two (compare op) (term-reads scope ρ e a parts.0 agree) (term-reads scope ρ e b parts.1 agree)))

  pub means-IsNull : (a : Term) → CondMeans instances D (cond.IsNull a)
  means-IsNull a scope E =
      cond-right instances D _ _ _ _ _ _ scope (ap (λ f. f scope E) (frame-IsNull instances a)) (scope-IsNull instances a) (λ ρ. meaning.truth-IsNull a D ρ)
      (framed-right _ E _ _ scope (λ F ρ e more bound agree.
      truth-IsNull (numbered scope a) (class_rows instances D F) e ∙ ap (λ v. truth_of (is_null v)) (term-reads scope ρ e a bound agree)))

  pub means-Not : (c : Cond) → CondMeans instances D c → CondMeans instances D (cond.Not c)
  means-Not c means scope E =
      let part = means scope E in
      cond-right instances D _ _ _ _ _ _ scope (ap (λ f. f scope E) (frame-Not instances c)) (scope-Not instances c) (λ ρ. meaning.truth-Not c D ρ)
      (framed-right _ _ _ _ scope (λ F ρ e more bound agree.
      truth-Not (cond_frame instances c scope E).condition (class_rows instances D F) e ∙ ap negation (part.truth F ρ e more bound agree)))

  all-right : (cs : List Cond) → AllByRecursion (CondMeans instances D) cs → (scope : Scope) (E : List Expr) → AllRight instances D (all_frames (map (cond_frame instances) cs) scope E) cs scope
  all-right [] means scope E = record { truths = λ F ρ e more bound agree. refl }
  all-right (c ∷ cs) means scope E =
      let framed : CondLines = cond_frame instances c scope E in
      let first : CondRight instances D framed (cond_scope instances c) (λ ρ. query.truth c D ρ) scope = means.0 scope E in
      let rest : AllRight instances D (all_frames (map (cond_frame instances) cs) scope framed.lines) cs scope = all-right cs means.1 scope framed.lines in
      let grows : Grows (all_frames (map (cond_frame instances) cs) scope framed.lines).lines framed.lines = (shape-all instances cs scope framed.lines).grows in
      record {
        truths = λ F ρ e more bound agree.
            let parts = and_parts ((cond_scope instances c).bound scope) _ bound in
            cons-same (first.truth F ρ e (grows-more F _ framed.lines more grows) parts.0 agree) (rest.truths F ρ e more parts.1 agree);
      }

  pub means-And : (cs : List Cond) → AllByRecursion (CondMeans instances D) cs → CondMeans instances D (cond.And cs)
  means-And cs means scope E =
      let all = all-right cs means scope E in
      cond-right instances D _ _ _ _ _ _ scope (ap (λ f. f scope E) (frame-And instances cs)) (scope-And instances cs) (λ ρ. meaning.truth-And cs D ρ)
      (framed-right _ _ _ _ scope (λ F ρ e more bound agree. truth-and_of (all_frames (map (cond_frame instances) cs) scope E).conditions (class_rows instances D F) e ∙ ap all_of (all.truths F ρ e more bound agree)))

  pub means-Or : (cs : List Cond) → AllByRecursion (CondMeans instances D) cs → CondMeans instances D (cond.Or cs)
  means-Or cs means scope E =
      let all = all-right cs means scope E in
      cond-right instances D _ _ _ _ _ _ scope (ap (λ f. f scope E) (frame-Or instances cs)) (scope-Or instances cs) (λ ρ. meaning.truth-Or cs D ρ)
      (framed-right _ _ _ _ scope (λ F ρ e more bound agree. truth-or_of (all_frames (map (cond_frame instances) cs) scope E).conditions (class_rows instances D F) e ∙ ap any_of (all.truths F ρ e more bound agree)))

  -- the rows of a block's last class, while lines are added
  block-rows : (q : Block) (means : BlockMeans instances D q) (scope : Scope) (E F : List Expr) (ρ : List Row) (e : Env) → Grows F ((block_frame instances q).lines scope E) → (block_scope instances q).bound scope ≡ true → Agrees scope ρ e
      → map (λ r. map r ((block_frame instances q).shown scope)) (class_rows instances D F (last ((block_frame instances q).lines scope E)) e) ≡ query.rows q D ρ
  block-rows q means scope E F ρ e more bound agree =
      ap (map (λ r. map r ((block_frame instances q).shown scope))) (kept-rows instances D F _ _ e more (block-below instances q scope E)) ∙ means scope E ρ e bound agree

  pub means-Exists : (q : Block) → BlockMeans instances D q → CondMeans instances D (cond.Exists q)
  means-Exists q means scope E =
      cond-right instances D _ _ _ _ _ _ scope (ap (λ f. f scope E) (frame-Exists instances q)) (scope-Exists instances q) (λ ρ. meaning.truth-Exists q D ρ)
      (framed-right _ _ _ _ scope (λ F ρ e more bound agree.
      truth-Exists _ (class_rows instances D F) e ∙ ap (λ b. truth_of (not b)) (is_empty-map (λ r. map r ((block_frame instances q).shown scope)) _ ∙ ap query.is_empty (block-rows q means scope E F ρ e more bound agree))))

  pub means-In : (a : Term) (q : Block) → BlockMeans instances D q → CondMeans instances D (cond.In a q)
  means-In a q means scope E =
      cond-right instances D _ _ _ _ _ _ scope (ap (λ f. f scope E) (frame-In instances a q)) (scope-In instances a q) (λ ρ. meaning.truth-In a q D ρ)
      (framed-right _ _ _ _ scope (λ F ρ e more bound agree.
      let parts = and_parts (bound_term scope a) _ bound in
      let inner = and_parts (block_scope instances q).single ((block_scope instances q).bound scope) parts.1 in
      let single = (block-shape instances q scope E).single inner.0 in
      truth-In (numbered scope a) _ _ (class_rows instances D F) e
      ∙ ap (λ v. any_of (map (λ s. compare by.Equal v (s (number_at ((block_frame instances q).shown scope) 0))) (class_rows instances D F (last ((block_frame instances q).lines scope E)) e))) (term-reads scope ρ e a parts.0 agree)
      ∙ ap any_of (in-rows (rows.term_value a ρ) ((block_frame instances q).shown scope) single.0 single.1 (class_rows instances D F (last ((block_frame instances q).lines scope E)) e))
      ∙ ap (λ L. any_of (map (equals_row (rows.term_value a ρ)) L)) (block-rows q means scope E F ρ e more inner.1 agree)))

-- What plans output_rows, by their root's node.
use Rattle.std.proofs.Common.{◌≡◌, refl, ap, sym, ◌∙◌, subst, ℕ, zero, suc, ◌≤◌, ◌==◌, Bool, true, false, ◌&&◌, not, if◌then◌else◌, List, [], ◌∷◌, ◌++◌, length, map, filter, flat_map, drop, slice_get, Some, Result, IfOk, arith}
use Rattle.values.specs.declared.truth.Comparison.TheVariants as by
use Rattle.values.specs.Truth.{negation, truth_of, is_true, compare}
use Rattle.query.specs.Meaning.{all_of, any_of, or_else_row}
use Rattle.algebra.specs.declared.condition.Condition.{Condition, roll-Condition, ind-Condition, map-Condition}
use Rattle.algebra.specs.declared.condition.Condition.TheVariants.{rolls-Compare, rolls-IsNull, rolls-Not, rolls-And, rolls-Or, rolls-Exists, rolls-In}
use Rattle.algebra.specs.declared.condition.Condition.TheOpen.{Condition-F}
use Rattle.algebra.specs.Columns.{has}
use Rattle.algebra.specs.Conditions.{truth, term_value, is_empty, holds}
use Rattle.algebra.proofs.Lists.{two}
use Rattle.algebra.proofs.Truths.{truth-Compare, truth-IsNull, truth-Not, truth-And, truth-Or, truth-Exists, truth-In}
use Rattle.query.specs.declared.query.TableInstance.{TableInstance}
use Rattle.query.specs.Rows.{Tables}
use Rattle.algebra.specs.Bags.{Env, Bag, lay, nulls, matches, has_match, same_on, distinct_on, group}
use Rattle.physical.specs.declared.plan.Matching.{Matching}
use Rattle.physical.specs.declared.plan.Matching.TheVariants.{Inner, Left, Semi, Anti}
use Rattle.physical.specs.declared.plan.Node.{Node}
use Rattle.physical.specs.declared.plan.Plan.{Plan, out-Plan, fold_out-Plan}
use Rattle.physical.specs.Outputs.{Output, first_columns, first, rest, is_match, join_rows, node_columns, node_rows, subquery_rows, output_layer, plan_output, output_rows}
use Rattle.relations.specs.declared.relation.Relation.{Relation}
use Rattle.relations.specs.Relations.{IsOutput, IsInputOutput, AreOutputs, given, rows_of}

module _ (instances : List TableInstance) (D : Tables) where
  -- the columns and the rows of a plan, of its inputs' output
  pub output-columns : (p : Plan) (node : Node) (inputs : List Plan) → (out-Plan p).node ≡ node → inputs ≡ (out-Plan p).inputs → (plan_output instances D p).columns ≡ node_columns instances node (map (λ x. x.columns) (map (plan_output instances D) inputs))
  unfolding plan_output
  output-columns p node inputs is given =
      ap (λ x. x.columns) (fold_out-Plan Output (output_layer instances D) p)
      ∙ ap (λ n. node_columns instances n (map (λ x. x.columns) (map (plan_output instances D) (out-Plan p).inputs))) is
      ∙ sym (ap (λ ps. node_columns instances node (map (λ x. x.columns) (map (plan_output instances D) ps))) given)

  pub output-rows : (p : Plan) (node : Node) (inputs : List Plan) (e : Env) → (out-Plan p).node ≡ node → inputs ≡ (out-Plan p).inputs → output_rows instances D p e ≡ node_rows instances D node (map (plan_output instances D) inputs) e
  unfolding plan_output
  output-rows p node inputs e is given =
      ap (λ x. x.rows e) (fold_out-Plan Output (output_layer instances D) p)
      ∙ ap (λ n. node_rows instances D n (map (plan_output instances D) (out-Plan p).inputs) e) is
      ∙ sym (ap (λ ps. node_rows instances D node (map (plan_output instances D) ps) e) given)

-- ---- inputs

pub output-first : (inputs : List Output) (e : Env) (r : Relation) → IsInputOutput inputs 0 e r → IsOutput (first_columns (map (λ x. x.columns) inputs)) (first inputs e) e r
output-first [] e r h = h
output-first (p ∷ inputs) e r h = h

-- the output of one more input
pub outputs-more : (inputs : List Output) (p : Output) (e : Env) (relations : List Relation) (r : Relation) → AreOutputs inputs e relations → IsOutput p.columns (p.rows e) e r → AreOutputs (inputs ++ p ∷ []) e (relations ++ r ∷ [])
outputs-more [] p e [] r all more = (more, tt)
outputs-more [] p e (s ∷ relations) r all more = absurd all
outputs-more (q ∷ inputs) p e [] r all more = absurd all
outputs-more (q ∷ inputs) p e (s ∷ relations) r all more = (all.0, outputs-more inputs p e relations r all.1 more)

-- the relation that a plan produces is that of the input
pub output-at : (f : Plan → Output) (inputs : List Plan) (number : ℕ) (plan : Plan) (e : Env) {E : Type 0} (result : Result Relation E) → slice_get inputs number ≡ Some plan → IfOk result (IsOutput (f plan).columns ((f plan).rows e) e)
    → IfOk result (IsInputOutput (map f inputs) number e)
output-at f [] number plan e result is h = cc
output-at f (p ∷ inputs) zero plan e result is h = let same : p ≡ plan = cc in subst (λ q. IfOk result (IsOutput (f q).columns ((f q).rows e) e)) (sym same) h
output-at f (p ∷ inputs) (suc number) plan e result is h = output-at f inputs number plan e result is h

pub output-none : (f : Plan → Output) (inputs : List Plan) (number : ℕ) (e : Env) {E : Type 0} (result : Result Relation E) → length inputs ≤ number → IfOk result (IsOutput [] [] e) → IfOk result (IsInputOutput (map f inputs) number e)
output-none f [] number e result past h = h
output-none f (p ∷ inputs) zero e result past h = absurd (omega (arith, past))
output-none f (p ∷ inputs) (suc number) e result past h = output-none f inputs number e result (omega (arith, past)) h

pub rest-drop : (f : Plan → Output) (inputs : List Plan) → rest (map f inputs) ≡ map f (drop 1 inputs)
rest-drop f [] = refl
rest-drop f (p ∷ inputs) = refl

-- ---- operators on the same rows

pub group-same : (K : List ℕ) (add : List Env → Env → Env) (a b : Bag) (e : Env) → a e ≡ b e → group K add a e ≡ group K add b e
group-same [] add a b e same = ap (λ rows. add rows e ∷ []) same
group-same (k ∷ K) add a b e same = ap (λ rows. map (λ r. add (filter (same_on (k ∷ K) r) rows) (lay (has (k ∷ K)) r e)) (distinct_on (k ∷ K) rows)) same

-- a join goes by its sides' rows in the environment
pub join-same : (j : Matching) (K : List ℕ) (a b c d : Bag) (e : Env) → a e ≡ b e → c e ≡ d e → join_rows j K a c e ≡ join_rows j K b d e
join-same (Inner C) K a b c d e left right = two (λ xs ys. flat_map (matches (is_match (Inner C)) (has K) ys) xs) left right
join-same (Left C) K a b c d e left right = two (λ xs ys. flat_map (λ r. or_else_row (lay (has K) nulls r) (matches (is_match (Left C)) (has K) ys r)) xs) left right
join-same (Semi C) K a b c d e left right = two (λ xs ys. filter (has_match (is_match (Semi C)) (has K) ys) xs) left right
join-same (Anti S M) K a b c d e left right = two (λ xs ys. filter (λ r. not (has_match (is_match (Anti S M)) (has K) ys r)) xs) left right

-- ---- conditions with subqueries

-- a condition at a row goes by the classes' rows there
abbrev SameAt : (ℕ → Bag) → (ℕ → Bag) → Env → Condition → Type 0
SameAt W V r c = truth c W r ≡ truth c V r

abbrev Proved : (ℕ → Bag) → (ℕ → Bag) → Env → Type 0
Proved W V r = Condition-F ((c : Condition) × SameAt W V r c)

module _ (W V : ℕ → Bag) (r : Env) (same : (g : ℕ) → W g r ≡ V g r) where
  abbrev plain : Proved W V r → Condition-F Condition
  plain = map-Condition _ Condition (λ c. c.0)

  all-parts : (cs : List ((c : Condition) × SameAt W V r c)) → map (λ c. truth c W r) (map (λ c. c.0) cs) ≡ map (λ c. truth c V r) (map (λ c. c.0) cs)
  all-parts [] = refl
  all-parts (c ∷ cs) = two (λ x xs. x ∷ xs) c.1 (all-parts cs)

  same-layer : (y : Proved W V r) → SameAt W V r (roll-Condition (plain y))
  same-layer (Condition-F.Compare op a b) = subst (SameAt W V r) (sym (rolls-Compare op a b)) (truth-Compare op a b W r ∙ sym (truth-Compare op a b V r))
  same-layer (Condition-F.IsNull a) = subst (SameAt W V r) (sym (rolls-IsNull a)) (truth-IsNull a W r ∙ sym (truth-IsNull a V r))
  same-layer (Condition-F.Not c) = subst (SameAt W V r) (sym (rolls-Not c.0)) (truth-Not c.0 W r ∙ ap negation c.1 ∙ sym (truth-Not c.0 V r))
  same-layer (Condition-F.And a b cs) =
      subst (SameAt W V r) (sym (rolls-And a.0 b.0 (map (λ c. c.0) cs))) (truth-And a.0 b.0 (map (λ c. c.0) cs) W r ∙ ap all_of (all-parts (a ∷ b ∷ cs)) ∙ sym (truth-And a.0 b.0 (map (λ c. c.0) cs) V r))
  same-layer (Condition-F.Or a b cs) =
      subst (SameAt W V r) (sym (rolls-Or a.0 b.0 (map (λ c. c.0) cs))) (truth-Or a.0 b.0 (map (λ c. c.0) cs) W r ∙ ap any_of (all-parts (a ∷ b ∷ cs)) ∙ sym (truth-Or a.0 b.0 (map (λ c. c.0) cs) V r))
  same-layer (Condition-F.Exists g) = subst (SameAt W V r) (sym (rolls-Exists g)) (truth-Exists g W r ∙ ap (λ rows. truth_of (not (is_empty rows))) (same g) ∙ sym (truth-Exists g V r))
  same-layer (Condition-F.In a g k) = subst (SameAt W V r) (sym (rolls-In a g k)) (truth-In a g k W r ∙ ap (λ rows. any_of (map (λ s. compare by.Equal (term_value a r) (s k)) rows)) (same g) ∙ sym (truth-In a g k V r))

  same-truth : (c : Condition) → SameAt W V r c
  same-truth = ind-Condition (SameAt W V r) (λ x y is. subst (λ z. SameAt W V r (roll-Condition z)) is (same-layer y))

  same-all : (C : List Condition) → holds W C r ≡ holds V C r
  same-all [] = refl
  same-all (c ∷ C) = two (λ a b. a && b) (ap is_true (same-truth c)) (same-all C)

-- the relations that are given are the classes' rows
given-rows : (classes : List ℕ) (inputs : List Output) (relations : List Relation) (r : Env) → AreOutputs inputs r relations → (g : ℕ) → given classes relations g r ≡ subquery_rows classes inputs g r
given-rows [] inputs relations r all g = refl
given-rows (h ∷ classes) [] [] r all g = refl
given-rows (h ∷ classes) [] (s ∷ relations) r all g = absurd all
given-rows (h ∷ classes) (p ∷ inputs) [] r all g = absurd all
given-rows (h ∷ classes) (p ∷ inputs) (s ∷ relations) r all g = by (h == g) (given-rows classes inputs relations r all.1 g)
  where
    by : (b : Bool) → given classes relations g r ≡ subquery_rows classes inputs g r → (if b then rows_of s else given classes relations g) r ≡ (if b then p.rows else subquery_rows classes inputs g) r
    by true later = all.0.rows_are
    by false later = later

pub same-holds : (classes : List ℕ) (C : List Condition) (inputs : List Output) (relations : List Relation) (r : Env) → AreOutputs inputs r relations → holds (given classes relations) C r ≡ holds (subquery_rows classes inputs) C r
same-holds classes C inputs relations r all = same-all (given classes relations) (subquery_rows classes inputs) r (given-rows classes inputs relations r all) C

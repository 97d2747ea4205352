-- What the definitions behind `stands` give at the expressions of the worked logs: one equation for each form.
use Rattle.std.proofs.Common.{◌≡◌, refl, ap, sym, ◌∙◌, ℕ, Bool, true, false, not, ◌&&◌, ◌||◌, ◌==◌, List, [], ◌∷◌, ◌++◌, Option, Ok}
use Rattle.std.specs.Cmp.Lexicographic.{slice_cmp}
use Rattle.std.specs.Ordering.{nat_cmp, is_lt}
use Rattle.values.specs.declared.truth.Comparison.{Comparison}
use Rattle.query.specs.declared.query.TableInstance.{TableInstance}
use Rattle.algebra.specs.declared.condition.Condition.{Condition, out-Condition, out-roll-Condition, fold-roll-Condition}
use Rattle.algebra.specs.declared.condition.Condition.TheVariants.{Compare, IsNull, Not, Exists, In, rolls-Compare, rolls-IsNull, rolls-Not, rolls-Exists, rolls-In}
use Rattle.algebra.specs.declared.condition.Condition.TheOpen.{Condition-F}
use Rattle.algebra.specs.declared.condition.Term.{Term}
use Rattle.algebra.specs.declared.expr.Aggregation.{Aggregation}
use Rattle.algebra.specs.declared.expr.Expr.{Expr}
use Rattle.algebra.specs.declared.expr.Expr.TheVariants as expr
use Rattle.algebra.specs.Alike.{rooted_layer, rooted_condition}
use Rattle.algebra.specs.Conditions.{Passes, columns_layer, all_columns, term_passes, classes_layer, all_classes}
use Rattle.algebra.specs.ConditionEquality.{same_condition}
use Rattle.algebra.specs.ConjunctOrder.{condition_text, text_layer, goes_before, in_order, conjuncts, Flat, flat, flat_layer, parts_of}
use Rattle.algebra.specs.ConjunctParts.{union}
use Rattle.algebra.specs.Equality.{same_columns, same_expr}
use Rattle.algebra.specs.Expressions.{columns_of, is_formed}
use Rattle.algebra.proofs.ConjunctLists.{before-not-behind, same-turned}
use Rattle.algebra.proofs.Lists.{two}
use Rattle.algebra.proofs.Same.{tested_condition}
use Rattle.rules.specs.declared.shape.Shape.{Shape, fold-roll-Shape}
use Rattle.rules.specs.declared.shape.Shape.TheOpen.{Shape-F}
use Rattle.rules.specs.declared.shape.Shape.TheVariants.{Class, Select, Join, LeftJoin, Semi, Anti, Keep, Distinct, rolls-Class, rolls-Select, rolls-Join, rolls-LeftJoin, rolls-Semi, rolls-Anti, rolls-Keep, rolls-Distinct}
use Rattle.rules.specs.Matches.{Line}
use Rattle.subquery_rules.specs.Replacing.{asks_layer, asks}
use Rattle.derivation.specs.declared.line.Line.TheVariants.{Adds}
use Rattle.derivation.specs.declared.line.Step.{Step}
use Rattle.derivation.specs.Logs.{Log, founds, member, knowledge}
use Rattle.derivation.specs.Replay.{cites, is_known, given, stands}
use Rattle.derivation.specs.Spelling.{Spelling, over_one, over_two, spelling_layer, spelling, is_expr}

-- ---- tests of equality

pub same-condition : (c : Condition) → same_condition c c ≡ true
same-condition c = sym (tested_condition true c c (λ e. refl, λ e. refl))

-- ---- conditions

pub out-Not : (c : Condition) → out-Condition (Not c) ≡ Condition-F.Not c
out-Not c = ap out-Condition (sym (rolls-Not c)) ∙ out-roll-Condition (Condition-F.Not c)

pub out-Exists : (g : ℕ) → out-Condition (Exists g) ≡ Condition-F.Exists g
out-Exists g = ap out-Condition (sym (rolls-Exists g)) ∙ out-roll-Condition (Condition-F.Exists g)

pub out-In : (a : Term) (g k : ℕ) → out-Condition (In a g k) ≡ Condition-F.In a g k
out-In a g k = ap out-Condition (sym (rolls-In a g k)) ∙ out-roll-Condition (Condition-F.In a g k)

pub parts-Compare : (op : Comparison) (a b : Term) → parts_of (Compare op a b) ≡ Compare op a b ∷ []
unfolding flat
parts-Compare op a b = ap parts_of (sym (rolls-Compare op a b)) ∙ ap (λ f. f.parts) (fold-roll-Condition Flat flat_layer (Condition-F.Compare op a b))

pub parts-IsNull : (a : Term) → parts_of (IsNull a) ≡ IsNull a ∷ []
unfolding flat
parts-IsNull a = ap parts_of (sym (rolls-IsNull a)) ∙ ap (λ f. f.parts) (fold-roll-Condition Flat flat_layer (Condition-F.IsNull a))

pub parts-Exists : (g : ℕ) → parts_of (Exists g) ≡ Exists g ∷ []
unfolding flat
parts-Exists g = ap parts_of (sym (rolls-Exists g)) ∙ ap (λ f. f.parts) (fold-roll-Condition Flat flat_layer (Condition-F.Exists g))

pub parts-In : (a : Term) (g k : ℕ) → parts_of (In a g k) ≡ In a g k ∷ []
unfolding flat
parts-In a g k = ap parts_of (sym (rolls-In a g k)) ∙ ap (λ f. f.parts) (fold-roll-Condition Flat flat_layer (Condition-F.In a g k))

pub asks-Exists : (class g : ℕ) (p : ℕ → Bool) → asks class (Exists g) p ≡ true
unfolding asks
asks-Exists class g p = ap (λ c. asks class c p) (sym (rolls-Exists g)) ∙ ap (λ f. f p) (fold-roll-Condition Passes (asks_layer class) (Condition-F.Exists g))

pub asks-In : (class : ℕ) (a : Term) (g k : ℕ) (p : ℕ → Bool) → asks class (In a g k) p ≡ (not (g == class) || p k)
unfolding asks
asks-In class a g k p = ap (λ c. asks class c p) (sym (rolls-In a g k)) ∙ ap (λ f. f p) (fold-roll-Condition Passes (asks_layer class) (Condition-F.In a g k))

pub rooted-Exists : (root : ℕ → ℕ) (g : ℕ) → rooted_condition root (Exists g) ≡ Exists (root g)
unfolding rooted_condition
rooted-Exists root g = ap (rooted_condition root) (sym (rolls-Exists g)) ∙ fold-roll-Condition Condition (rooted_layer root) (Condition-F.Exists g)

pub rooted-In : (root : ℕ → ℕ) (a : Term) (g k : ℕ) → rooted_condition root (In a g k) ≡ In a (root g) k
unfolding rooted_condition
rooted-In root a g k = ap (rooted_condition root) (sym (rolls-In a g k)) ∙ fold-roll-Condition Condition (rooted_layer root) (Condition-F.In a g k)

pub text-Compare : (op : Comparison) (a b : Term) → condition_text (Compare op a b) ≡ text_layer (Condition-F.Compare op a b)
unfolding condition_text
text-Compare op a b = ap condition_text (sym (rolls-Compare op a b)) ∙ fold-roll-Condition (List ℕ) text_layer (Condition-F.Compare op a b)

pub text-IsNull : (a : Term) → condition_text (IsNull a) ≡ text_layer (Condition-F.IsNull a)
unfolding condition_text
text-IsNull a = ap condition_text (sym (rolls-IsNull a)) ∙ fold-roll-Condition (List ℕ) text_layer (Condition-F.IsNull a)

pub by-texts : (c d : Condition) (s t : List ℕ) → condition_text c ≡ s → condition_text d ≡ t → is_lt (slice_cmp nat_cmp s t) ≡ true → goes_before c d ≡ true
unfolding goes_before
by-texts c d s t is other before = two (λ s t. is_lt (slice_cmp nat_cmp s t)) is other ∙ before

-- of two conjuncts in order the list of both is
pub union-of-two : (c d : Condition) → parts_of c ≡ c ∷ [] → parts_of d ≡ d ∷ [] → same_condition c d ≡ false → goes_before c d ≡ true → union (c ∷ []) (d ∷ []) ≡ c ∷ d ∷ []
union-of-two c d whole other differ before = two (λ C D. in_order (C ++ (D ++ []))) whole other ∙ rw (differ, before) refl

-- the same of two that come in the other order
pub union-of-turned : (c d : Condition) → parts_of c ≡ c ∷ [] → parts_of d ≡ d ∷ [] → same_condition c d ≡ false → goes_before c d ≡ true → union (d ∷ []) (c ∷ []) ≡ c ∷ d ∷ []
union-of-turned c d whole other differ before = two (λ C D. in_order (D ++ (C ++ []))) whole other ∙ rw (same-turned c d differ, before-not-behind c d before) refl

pub conjuncts-of-one : (c : Condition) → parts_of c ≡ c ∷ [] → conjuncts (c ∷ []) ≡ c ∷ []
conjuncts-of-one c whole = ap (λ C. in_order (C ++ [])) whole

-- ---- shapes

module _ (member : ℕ → Option Line) where
  pub spelling-Class : (g : ℕ) → spelling member (Class g) ≡ spelling_layer member (Shape-F.Class g)
  unfolding spelling
  spelling-Class g = ap (spelling member) (sym (rolls-Class g)) ∙ fold-roll-Shape Spelling (spelling_layer member) (Shape-F.Class g)

  pub spelling-Select : (C : List Condition) (x : Shape) → spelling member (Select C x) ≡ over_one member (expr.Select C) (spelling member x)
  unfolding spelling
  spelling-Select C x = ap (spelling member) (sym (rolls-Select C x)) ∙ fold-roll-Shape Spelling (spelling_layer member) (Shape-F.Select C x)

  pub spelling-Join : (C : List Condition) (a b : Shape) → spelling member (Join C a b) ≡ over_two member (expr.Join C) (spelling member a) (spelling member b)
  unfolding spelling
  spelling-Join C a b = ap (spelling member) (sym (rolls-Join C a b)) ∙ fold-roll-Shape Spelling (spelling_layer member) (Shape-F.Join C a b)

  pub spelling-LeftJoin : (C : List Condition) (a b : Shape) → spelling member (LeftJoin C a b) ≡ over_two member (expr.LeftJoin C) (spelling member a) (spelling member b)
  unfolding spelling
  spelling-LeftJoin C a b = ap (spelling member) (sym (rolls-LeftJoin C a b)) ∙ fold-roll-Shape Spelling (spelling_layer member) (Shape-F.LeftJoin C a b)

  pub spelling-Semi : (C : List Condition) (a b : Shape) → spelling member (Semi C a b) ≡ over_two member (expr.Semi C) (spelling member a) (spelling member b)
  unfolding spelling
  spelling-Semi C a b = ap (spelling member) (sym (rolls-Semi C a b)) ∙ fold-roll-Shape Spelling (spelling_layer member) (Shape-F.Semi C a b)

  pub spelling-Anti : (S M : List Condition) (a b : Shape) → spelling member (Anti S M a b) ≡ over_two member (expr.Anti S M) (spelling member a) (spelling member b)
  unfolding spelling
  spelling-Anti S M a b = ap (spelling member) (sym (rolls-Anti S M a b)) ∙ fold-roll-Shape Spelling (spelling_layer member) (Shape-F.Anti S M a b)

  pub spelling-Keep : (K : List ℕ) (x : Shape) → spelling member (Keep K x) ≡ over_one member (expr.Keep K) (spelling member x)
  unfolding spelling
  spelling-Keep K x = ap (spelling member) (sym (rolls-Keep K x)) ∙ fold-roll-Shape Spelling (spelling_layer member) (Shape-F.Keep K x)

  pub spelling-Distinct : (x : Shape) → spelling member (Distinct x) ≡ over_one member expr.Distinct (spelling member x)
  unfolding spelling
  spelling-Distinct x = ap (spelling member) (sym (rolls-Distinct x)) ∙ fold-roll-Shape Spelling (spelling_layer member) (Shape-F.Distinct x)

-- ---- lines

-- a line that adds an expression stands where each test of it passes
module _ (instances : List TableInstance) (own : List Aggregation) (E : Log) (g : ℕ) (s : Step) (x : Expr) (shape : Shape) where
  pub adds-stands : (founds E g && cites E s && is_known E x) ≡ true
      → (is_formed instances own (knowledge instances E).columns x && same_columns (columns_of instances (knowledge instances E).columns x) ((knowledge instances E).columns g)) ≡ true
      → given (knowledge instances E) E g s ≡ Ok shape → is_expr (member E) shape s.makes x ≡ true → stands instances own E (Adds g s x) ≡ Ok (Adds g s x)
  adds-stands named formed is spelt = rw (named, formed, is, spelt) refl

-- Each form of condition with roots, and of shape as lines spell it.
use Rattle.std.proofs.Common.{◌≡◌, refl, ap, sym, ◌∙◌, subst, ℕ, List, [], ◌∷◌, length, map, Option, Some, None, arith}
use Rattle.std.specs.Option.{option_and_then}
use Rattle.values.specs.declared.truth.Comparison.{Comparison}
use Rattle.algebra.specs.declared.condition.Term.{Term}
use Rattle.algebra.specs.declared.condition.Condition.{Condition, roll-Condition, fold-roll-Condition, map-Condition}
use Rattle.algebra.specs.declared.condition.Condition.TheOpen.{Condition-F}
use Rattle.algebra.specs.declared.condition.Condition.TheVariants.{Compare, IsNull, Not, And, Or, Exists, In, rolls-Compare, rolls-IsNull, rolls-Not, rolls-And, rolls-Or, rolls-Exists, rolls-In}
use Rattle.algebra.specs.declared.expr.Aggregation.{Aggregation}
use Rattle.algebra.specs.declared.expr.Expr.{Expr}
use Rattle.algebra.specs.declared.expr.Expr.TheVariants as expr
use Rattle.algebra.specs.Alike.{rooted_layer, rooted_condition}
use Rattle.rules.specs.declared.shape.Shape.{Shape, roll-Shape, fold-roll-Shape, ind-Shape, map-Shape}
use Rattle.rules.specs.declared.shape.Shape.TheOpen.{Shape-F}
use Rattle.rules.specs.declared.shape.Shape.TheVariants as shape
use Rattle.rules.specs.declared.shape.Shape.TheVariants.{rolls-Class, rolls-Select, rolls-Join, rolls-LeftJoin, rolls-Semi, rolls-Anti, rolls-Keep, rolls-Distinct, rolls-Group}
use Rattle.rules.specs.Matches.{Line}
use Rattle.derivation.specs.Spelling.{Spelling, class_with, class_by, spelling_layer, spelling}

module _ (root : ℕ → ℕ) where
  rooted-at : (x : Condition-F Condition) (c : Condition) → roll-Condition x ≡ c → rooted_condition root c ≡ rooted_layer root (map-Condition Condition Condition (rooted_condition root) x)
  unfolding rooted_condition
  rooted-at x c is = ap (rooted_condition root) (sym is) ∙ fold-roll-Condition Condition (rooted_layer root) x

  pub rooted_Compare : (op : Comparison) (a b : Term) → rooted_condition root (Compare op a b) ≡ Compare op a b
  rooted_Compare op a b = rooted-at (Condition-F.Compare op a b) _ (rolls-Compare op a b)

  pub rooted_IsNull : (a : Term) → rooted_condition root (IsNull a) ≡ IsNull a
  rooted_IsNull a = rooted-at (Condition-F.IsNull a) _ (rolls-IsNull a)

  pub rooted_Not : (c : Condition) → rooted_condition root (Not c) ≡ Not (rooted_condition root c)
  rooted_Not c = rooted-at (Condition-F.Not c) _ (rolls-Not c)

  pub rooted_And : (a b : Condition) (cs : List Condition) → rooted_condition root (And a b cs) ≡ And (rooted_condition root a) (rooted_condition root b) (map (rooted_condition root) cs)
  rooted_And a b cs = rooted-at (Condition-F.And a b cs) _ (rolls-And a b cs)

  pub rooted_Or : (a b : Condition) (cs : List Condition) → rooted_condition root (Or a b cs) ≡ Or (rooted_condition root a) (rooted_condition root b) (map (rooted_condition root) cs)
  rooted_Or a b cs = rooted-at (Condition-F.Or a b cs) _ (rolls-Or a b cs)

  pub rooted_Exists : (g : ℕ) → rooted_condition root (Exists g) ≡ Exists (root g)
  rooted_Exists g = rooted-at (Condition-F.Exists g) _ (rolls-Exists g)

  pub rooted_In : (a : Term) (g k : ℕ) → rooted_condition root (In a g k) ≡ In a (root g) k
  rooted_In a g k = rooted-at (Condition-F.In a g k) _ (rolls-In a g k)

module _ (member : ℕ → Option Line) where
  pub spelling-at : (x : Shape-F Shape) (s : Shape) → roll-Shape x ≡ s → spelling member s ≡ spelling_layer member (map-Shape Shape Spelling (spelling member) x)
  unfolding spelling
  spelling-at x s is = ap (spelling member) (sym is) ∙ fold-roll-Shape Spelling (spelling_layer member) x

  -- what the lines make of an expression over classes
  pub spelt_Class : (g : ℕ) (makes : List ℕ) → (spelling member (shape.Class g)).expr makes ≡ None
  spelt_Class g makes = ap (λ s. s.expr makes) (spelling-at (Shape-F.Class g) _ (rolls-Class g))

  pub spelt_Select : (C : List Condition) (x : Shape) (makes : List ℕ) → (spelling member (shape.Select C x)).expr makes ≡ option_and_then (λ p. Some (expr.Select C p.0, p.1)) ((spelling member x).class makes)
  spelt_Select C x makes = ap (λ s. s.expr makes) (spelling-at (Shape-F.Select C x) _ (rolls-Select C x))

  pub spelt_Join : (C : List Condition) (a b : Shape) (makes : List ℕ)
      → (spelling member (shape.Join C a b)).expr makes ≡ option_and_then (λ p. option_and_then (λ q. Some (expr.Join C p.0 q.0, q.1)) ((spelling member b).class p.1)) ((spelling member a).class makes)
  spelt_Join C a b makes = ap (λ s. s.expr makes) (spelling-at (Shape-F.Join C a b) _ (rolls-Join C a b))

  pub spelt_LeftJoin : (C : List Condition) (a b : Shape) (makes : List ℕ)
      → (spelling member (shape.LeftJoin C a b)).expr makes ≡ option_and_then (λ p. option_and_then (λ q. Some (expr.LeftJoin C p.0 q.0, q.1)) ((spelling member b).class p.1)) ((spelling member a).class makes)
  spelt_LeftJoin C a b makes = ap (λ s. s.expr makes) (spelling-at (Shape-F.LeftJoin C a b) _ (rolls-LeftJoin C a b))

  pub spelt_Semi : (C : List Condition) (a b : Shape) (makes : List ℕ)
      → (spelling member (shape.Semi C a b)).expr makes ≡ option_and_then (λ p. option_and_then (λ q. Some (expr.Semi C p.0 q.0, q.1)) ((spelling member b).class p.1)) ((spelling member a).class makes)
  spelt_Semi C a b makes = ap (λ s. s.expr makes) (spelling-at (Shape-F.Semi C a b) _ (rolls-Semi C a b))

  pub spelt_Anti : (S M : List Condition) (a b : Shape) (makes : List ℕ)
      → (spelling member (shape.Anti S M a b)).expr makes ≡ option_and_then (λ p. option_and_then (λ q. Some (expr.Anti S M p.0 q.0, q.1)) ((spelling member b).class p.1)) ((spelling member a).class makes)
  spelt_Anti S M a b makes = ap (λ s. s.expr makes) (spelling-at (Shape-F.Anti S M a b) _ (rolls-Anti S M a b))

  pub spelt_Keep : (K : List ℕ) (x : Shape) (makes : List ℕ) → (spelling member (shape.Keep K x)).expr makes ≡ option_and_then (λ p. Some (expr.Keep K p.0, p.1)) ((spelling member x).class makes)
  spelt_Keep K x makes = ap (λ s. s.expr makes) (spelling-at (Shape-F.Keep K x) _ (rolls-Keep K x))

  pub spelt_Distinct : (x : Shape) (makes : List ℕ) → (spelling member (shape.Distinct x)).expr makes ≡ option_and_then (λ p. Some (expr.Distinct p.0, p.1)) ((spelling member x).class makes)
  spelt_Distinct x makes = ap (λ s. s.expr makes) (spelling-at (Shape-F.Distinct x) _ (rolls-Distinct x))

  pub spelt_Group : (L : List ℕ) (G : List Aggregation) (x : Shape) (makes : List ℕ)
      → (spelling member (shape.Group L G x)).expr makes ≡ option_and_then (λ p. Some (expr.Group L G p.0, p.1)) ((spelling member x).class makes)
  spelt_Group L G x makes = ap (λ s. s.expr makes) (spelling-at (Shape-F.Group L G x) _ (rolls-Group L G x))

  pub class_Class : (g : ℕ) (makes : List ℕ) → (spelling member (shape.Class g)).class makes ≡ Some (g, makes)
  class_Class g makes = ap (λ s. s.class makes) (spelling-at (Shape-F.Class g) _ (rolls-Class g))

  -- ---- the class of a shape that is none

  abbrev IsNoClass : Shape → Type 0
  IsNoClass s = (g : ℕ) → s ≡ shape.Class g → ⊥

  abbrev NeedsLine : Shape → Type 0
  NeedsLine s = IsNoClass s → (makes : List ℕ) → (spelling member s).class makes ≡ class_by member (spelling member s).expr makes

  abbrev Part : Type 0
  Part = (s : Shape) × NeedsLine s

  needs-line : (y : Shape-F Shape) → NeedsLine (roll-Shape y)
  needs-line (Shape-F.Class g) other makes = absurd (other g (rolls-Class g))
  needs-line (Shape-F.Select C x) other makes = subst (λ q. q.class makes ≡ class_by member q.expr makes) (sym (spelling-at (Shape-F.Select C x) _ refl)) refl
  needs-line (Shape-F.Join C a b) other makes = subst (λ q. q.class makes ≡ class_by member q.expr makes) (sym (spelling-at (Shape-F.Join C a b) _ refl)) refl
  needs-line (Shape-F.LeftJoin C a b) other makes = subst (λ q. q.class makes ≡ class_by member q.expr makes) (sym (spelling-at (Shape-F.LeftJoin C a b) _ refl)) refl
  needs-line (Shape-F.Semi C a b) other makes = subst (λ q. q.class makes ≡ class_by member q.expr makes) (sym (spelling-at (Shape-F.Semi C a b) _ refl)) refl
  needs-line (Shape-F.Anti S M a b) other makes = subst (λ q. q.class makes ≡ class_by member q.expr makes) (sym (spelling-at (Shape-F.Anti S M a b) _ refl)) refl
  needs-line (Shape-F.Keep K x) other makes = subst (λ q. q.class makes ≡ class_by member q.expr makes) (sym (spelling-at (Shape-F.Keep K x) _ refl)) refl
  needs-line (Shape-F.Distinct x) other makes = subst (λ q. q.class makes ≡ class_by member q.expr makes) (sym (spelling-at (Shape-F.Distinct x) _ refl)) refl
  needs-line (Shape-F.Group L G x) other makes = subst (λ q. q.class makes ≡ class_by member q.expr makes) (sym (spelling-at (Shape-F.Group L G x) _ refl)) refl

  class-needs-line : (s : Shape) → NeedsLine s
  class-needs-line = ind-Shape NeedsLine (λ x y is. subst (λ z. NeedsLine (roll-Shape z)) is (needs-line (map-Shape Part Shape (λ p. p.0) y)))

  module _ (s : Shape) (other : IsNoClass s) (makes : List ℕ) where
    pub no-line : length makes ≡ 0 → (spelling member s).class makes ≡ None
    no-line none = class-needs-line s other makes ∙ by makes none
      where
        by : (ms : List ℕ) → length ms ≡ 0 → class_by member (spelling member s).expr ms ≡ None
        by [] none = refl
        by (m ∷ ms) none = absurd (omega (arith, none))

    module _ (m : ℕ) (inner : List ℕ) (is : makes ≡ m ∷ inner) where
      with-expr : (o : Option (Expr × List ℕ)) → (spelling member s).expr inner ≡ o
          → (spelling member s).class makes ≡ option_and_then (λ p. option_and_then (λ g. Some (g, p.1)) (class_with p.0 (member m))) o
      with-expr o at = class-needs-line s other makes ∙ ap (class_by member (spelling member s).expr) is ∙ ap (option_and_then (λ p. option_and_then (λ g. Some (g, p.1)) (class_with p.0 (member m)))) at

      pub no-expr : (spelling member s).expr inner ≡ None → (spelling member s).class makes ≡ None
      no-expr at = with-expr None at

      pub with-class : (x : Expr) (rest : List ℕ) (g : Option ℕ) → (spelling member s).expr inner ≡ Some (x, rest) → class_with x (member m) ≡ g → (spelling member s).class makes ≡ option_and_then (λ g. Some (g, rest)) g
      with-class x rest g at found = with-expr (Some (x, rest)) at ∙ ap (option_and_then (λ g. Some (g, rest))) found

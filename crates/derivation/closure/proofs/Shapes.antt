-- Where a shape stands: one equation for each form.
use Rattle.std.proofs.Common.{◌≡◌, ap, sym, ◌∙◌, ℕ, Bool, List}
use Rattle.algebra.specs.declared.condition.Condition.{Condition}
use Rattle.algebra.specs.declared.expr.Aggregation.{Aggregation}
use Rattle.algebra.specs.declared.expr.Expr.TheVariants as expr
use Rattle.props.specs.Knowledge.{Knowledge}
use Rattle.props.specs.Knowledge as knowledge
use Rattle.rules.specs.declared.shape.Shape.{Shape, roll-Shape, fold-roll-Shape, map-Shape}
use Rattle.rules.specs.declared.shape.Shape.TheOpen.{Shape-F}
use Rattle.rules.specs.declared.shape.Shape.TheVariants.{Class, Select, Join, LeftJoin, Semi, Anti, Keep, Distinct, Group, rolls-Class, rolls-Select, rolls-Join, rolls-LeftJoin, rolls-Semi, rolls-Anti, rolls-Keep, rolls-Distinct, rolls-Group}
use Rattle.derivation.specs.Logs.{Log}
use Rattle.closure.specs.Closed.{is_over_one, is_over_two, has_line, standing_layer, is_there}

module _ (K : Knowledge) (E : Log) where
  there-at : (x : Shape-F Shape) (s : Shape) → roll-Shape x ≡ s → (g : ℕ) → is_there K E s g ≡ standing_layer K E (map-Shape Shape (ℕ → Bool) (is_there K E) x) g
  unfolding is_there
  there-at x s is g = ap (λ s. is_there K E s g) (sym is) ∙ ap (λ p. p g) (fold-roll-Shape (ℕ → Bool) (standing_layer K E) x)

  pub there_class : (h g : ℕ) → is_there K E (Class h) g ≡ knowledge.are_same K h g
  there_class h g = there-at (Shape-F.Class h) _ (rolls-Class h) g

  pub there_select : (C : List Condition) (x : Shape) (g : ℕ) → is_there K E (Select C x) g ≡ has_line K E (is_over_one K (expr.Select C) (is_there K E x)) g
  there_select C x g = there-at (Shape-F.Select C x) _ (rolls-Select C x) g

  pub there_join : (C : List Condition) (a b : Shape) (g : ℕ) → is_there K E (Join C a b) g ≡ has_line K E (is_over_two K (expr.Join C) (is_there K E a) (is_there K E b)) g
  there_join C a b g = there-at (Shape-F.Join C a b) _ (rolls-Join C a b) g

  pub there_left_join : (C : List Condition) (a b : Shape) (g : ℕ) → is_there K E (LeftJoin C a b) g ≡ has_line K E (is_over_two K (expr.LeftJoin C) (is_there K E a) (is_there K E b)) g
  there_left_join C a b g = there-at (Shape-F.LeftJoin C a b) _ (rolls-LeftJoin C a b) g

  pub there_semi : (C : List Condition) (a b : Shape) (g : ℕ) → is_there K E (Semi C a b) g ≡ has_line K E (is_over_two K (expr.Semi C) (is_there K E a) (is_there K E b)) g
  there_semi C a b g = there-at (Shape-F.Semi C a b) _ (rolls-Semi C a b) g

  pub there_anti : (S M : List Condition) (a b : Shape) (g : ℕ) → is_there K E (Anti S M a b) g ≡ has_line K E (is_over_two K (expr.Anti S M) (is_there K E a) (is_there K E b)) g
  there_anti S M a b g = there-at (Shape-F.Anti S M a b) _ (rolls-Anti S M a b) g

  pub there_keep : (L : List ℕ) (x : Shape) (g : ℕ) → is_there K E (Keep L x) g ≡ has_line K E (is_over_one K (expr.Keep L) (is_there K E x)) g
  there_keep L x g = there-at (Shape-F.Keep L x) _ (rolls-Keep L x) g

  pub there_distinct : (x : Shape) (g : ℕ) → is_there K E (Distinct x) g ≡ has_line K E (is_over_one K expr.Distinct (is_there K E x)) g
  there_distinct x g = there-at (Shape-F.Distinct x) _ (rolls-Distinct x) g

  pub there_group : (L : List ℕ) (G : List Aggregation) (x : Shape) (g : ℕ) → is_there K E (Group L G x) g ≡ has_line K E (is_over_one K (expr.Group L G) (is_there K E x)) g
  there_group L G x g = there-at (Shape-F.Group L G x) _ (rolls-Group L G x) g

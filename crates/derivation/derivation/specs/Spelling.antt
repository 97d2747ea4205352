-- When a shape is an expression whose inner expressions stand in lines.
use Rattle.std.specs.Prelude.{◌≡◌, ℕ, Bool, true, false, ◌&&◌, if◌then◌else◌, List, [], ◌∷◌, Option, Some, None}
use Rattle.std.specs.Option.{option_and_then}
use Rattle.algebra.specs.declared.expr.Expr.{Expr}
use Rattle.algebra.specs.declared.expr.Expr.TheVariants as expr
use Rattle.algebra.specs.Equality.{same_expr}
use Rattle.rules.specs.declared.shape.Shape.{Shape, fold-Shape}
use Rattle.rules.specs.declared.shape.Shape.TheOpen.{Shape-F}
use Rattle.rules.specs.Matches.{Line}

-- what the lines that come next spell, if they do, and the lines behind them
abbrev pub Spelt : Type 0 → Type 0
Spelt X = List ℕ → Option (X × List ℕ)

-- a shape as an expression over classes, and the class that it is
pub record Spelling : Type 0 where
  pub expr : Spelt Expr
  pub class : Spelt ℕ

-- the class of a line that has the expression
abbrev pub class_with : Expr → Option Line → Option ℕ
class_with x None = None
class_with x (Some l) = if same_expr l.expr x then Some l.class else None

module _ (member : ℕ → Option Line) where
  -- an expression is of the class of the next line, if it stands there; the lines of its inputs come behind
  abbrev pub class_by : Spelt Expr → Spelt ℕ
  class_by x [] = None
  class_by x (m ∷ makes) = option_and_then (λ p. option_and_then (λ g. Some (g, p.1)) (class_with p.0 (member m))) (x makes)

  abbrev pub over_one : (ℕ → Expr) → Spelling → Spelling
  over_one f a =
      let x : Spelt Expr = λ makes. option_and_then (λ p. Some (f p.0, p.1)) (a.class makes) in
      record { expr = x; class = class_by x }

  abbrev pub over_two : (ℕ → ℕ → Expr) → Spelling → Spelling → Spelling
  over_two f a b =
      let x : Spelt Expr = λ makes. option_and_then (λ p. option_and_then (λ q. Some (f p.0 q.0, q.1)) (b.class p.1)) (a.class makes) in
      record { expr = x; class = class_by x }

  abbrev pub spelling_layer : Shape-F Spelling → Spelling
  spelling_layer (Shape-F.Class g) = record { expr = λ makes. None; class = λ makes. Some (g, makes) }
  spelling_layer (Shape-F.Select C x) = over_one (expr.Select C) x
  spelling_layer (Shape-F.Join C a b) = over_two (expr.Join C) a b
  spelling_layer (Shape-F.LeftJoin C a b) = over_two (expr.LeftJoin C) a b
  spelling_layer (Shape-F.Semi C a b) = over_two (expr.Semi C) a b
  spelling_layer (Shape-F.Anti S M a b) = over_two (expr.Anti S M) a b
  spelling_layer (Shape-F.Keep K x) = over_one (expr.Keep K) x
  spelling_layer (Shape-F.Distinct x) = over_one expr.Distinct x
  spelling_layer (Shape-F.Group L G x) = over_one (expr.Group L G) x

  unfoldable pub spelling : Shape → Spelling
  spelling = fold-Shape Spelling spelling_layer

  -- what the lines spell passes, and none is left
  abbrev pub is_whole : {X : Type 0} → (X → Bool) → Option (X × List ℕ) → Bool
  is_whole p None = false
  is_whole p (Some q) = is_empty q.1 && p q.0
    where
      is_empty : List ℕ → Bool
      is_empty [] = true
      is_empty (m ∷ makes) = false

  -- the shape is this expression, its inner expressions being those of the lines
  abbrev pub is_expr : Shape → List ℕ → Expr → Bool
  is_expr s makes x = is_whole (λ y. same_expr y x) ((spelling s).expr makes)

  -- the shape is a class that passes, its expressions being those of the lines
  abbrev pub is_class : Shape → List ℕ → (ℕ → Bool) → Bool
  is_class s makes p = is_whole p ((spelling s).class makes)

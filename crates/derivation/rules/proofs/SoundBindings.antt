-- A rule is sound if what it makes of lines over named inputs is, or of a pick and a line of its class.
use Rattle.std.proofs.Common.{◌≡◌, refl, ℕ, true, Result, Ok, Some}
use Rattle.values.specs.Faults.{◌>>=◌, wanted}
use Rattle.algebra.specs.declared.expr.Expr.{Expr}
use Rattle.algebra.specs.Bags.{SameBag}
use Rattle.algebra.specs.Expressions.{columns_of, is_formed}
use Rattle.props.specs.Knowledge.{Knowledge}
use Rattle.rules.specs.declared.pattern.Input.{Input}
use Rattle.rules.specs.declared.shape.Shape.{Shape}
use Rattle.rules.specs.declared.unfit.Unfit.{Unfit}
use Rattle.rules.specs.declared.unfit.Unfit.TheVariants.{Pattern}
use Rattle.rules.specs.Bindings.{two_lines_over, three_lines_over, SubqueryPick, ClassPick, subquery, subquery_line, class_line}
use Rattle.rules.specs.Patterns.{input_of}
use Rattle.rules.specs.Soundness.{World, IsSound}
use Rattle.rules.proofs.BoundForms.{two, two-binds, three, three-binds, IsPicked, IsNamed, selection, class_selection, subquery_alone, subquery-binds, with_subquery_line, subquery_line-binds, with_class_line, class_line-binds}
use Rattle.rules.proofs.MatchedLines.{IsOfSome, Stands, bound-sound, rows_of, shape_rows}

-- an expression of the class that another one takes there
abbrev pub IsInput : Knowledge → World → Input → Expr → Expr → Type 0
IsInput K W i x y = IsOfSome K W (input_of x i, y)

abbrev pub TwoOverAreSound : Input → (Knowledge → Expr → Expr → Result Shape Unfit) → Type 0
TwoOverAreSound i rewrite = (K : Knowledge) (W : World) (x y : Expr) (s : Shape) → Stands K W x → IsInput K W i x y → rewrite K x y ≡ Ok s → SameBag (rows_of K W x) (shape_rows K W s)

pub two_over-sound : (i : Input) (rewrite : Knowledge → Expr → Expr → Result Shape Unfit) → TwoOverAreSound i rewrite
    → IsSound (λ m. wanted Pattern (two_lines_over i m) >>= λ l. rewrite m.classes l.0 l.1)
two_over-sound i rewrite sound = bound-sound (two i) (two-binds i) (λ K l. rewrite K l.0 l.1) (λ K W l s stands so below. sound K W l.0 l.1 s stands below.0)

abbrev pub ThreeOverAreSound : Input → Input → (Knowledge → Expr → Expr → Expr → Result Shape Unfit) → Type 0
ThreeOverAreSound i n rewrite = (K : Knowledge) (W : World) (x y z : Expr) (s : Shape) → Stands K W x → IsInput K W i x y → IsInput K W n y z → rewrite K x y z ≡ Ok s
    → SameBag (rows_of K W x) (shape_rows K W s)

pub three_over-sound : (i n : Input) (rewrite : Knowledge → Expr → Expr → Expr → Result Shape Unfit) → ThreeOverAreSound i n rewrite
    → IsSound (λ m. wanted Pattern (three_lines_over i n m) >>= λ l. rewrite m.classes l.0 l.1 l.2)
three_over-sound i n rewrite sound =
    bound-sound (three i n) (three-binds i n) (λ K l. rewrite K l.0 l.1 l.2) (λ K W l s stands so below. sound K W l.0 l.1 l.2 s stands below.0 below.1.0)

-- an expression of a class
pub record IsOf (K : Knowledge) (W : World) (g : ℕ) (y : Expr) : Type 0 where
  pub formed : is_formed W.instances W.own K.columns y ≡ true
  pub columns : K.columns g ≡ columns_of W.instances K.columns y
  pub rows : SameBag (W.rows g) (rows_of K W y)

of-the : (K : Knowledge) (W : World) (g : ℕ) (y : Expr) → IsOfSome K W (Some g, y) → IsOf K W g y
of-the K W g y of = record { formed = of.formed; columns = of.columns g refl; rows = of.rows g refl }

abbrev pub SubqueryIsSound : (Knowledge → SubqueryPick → Result Shape Unfit) → Type 0
SubqueryIsSound rewrite = (K : Knowledge) (W : World) (p : SubqueryPick) (s : Shape) → Stands K W (selection p) → IsPicked p → rewrite K p ≡ Ok s
    → SameBag (rows_of K W (selection p)) (shape_rows K W s)

pub subquery-sound : (rewrite : Knowledge → SubqueryPick → Result Shape Unfit) → SubqueryIsSound rewrite → IsSound (λ m. wanted Pattern (subquery m) >>= rewrite m.classes)
subquery-sound rewrite sound = bound-sound subquery_alone subquery-binds rewrite (λ K W p s stands so below. sound K W p s stands so)

abbrev pub SubqueryLineIsSound : (Knowledge → SubqueryPick → Expr → Result Shape Unfit) → Type 0
SubqueryLineIsSound rewrite = (K : Knowledge) (W : World) (p : SubqueryPick) (y : Expr) (s : Shape) → Stands K W (selection p) → IsPicked p → IsOf K W p.class y → rewrite K p y ≡ Ok s
    → SameBag (rows_of K W (selection p)) (shape_rows K W s)

pub subquery_line-sound : (rewrite : Knowledge → SubqueryPick → Expr → Result Shape Unfit) → SubqueryLineIsSound rewrite
    → IsSound (λ m. wanted Pattern (subquery_line m) >>= λ p. rewrite m.classes p.0 p.1)
subquery_line-sound rewrite sound =
    bound-sound with_subquery_line subquery_line-binds (λ K p. rewrite K p.0 p.1) (λ K W p s stands so below. sound K W p.0 p.1 s stands so (of-the K W p.0.class p.1 below.0))

abbrev pub ClassLineIsSound : (Knowledge → ClassPick → Expr → Result Shape Unfit) → Type 0
ClassLineIsSound rewrite = (K : Knowledge) (W : World) (p : ClassPick) (y : Expr) (s : Shape) → Stands K W (class_selection p) → IsNamed p → IsOf K W p.class y → rewrite K p y ≡ Ok s
    → SameBag (rows_of K W (class_selection p)) (shape_rows K W s)

pub class_line-sound : (rewrite : Knowledge → ClassPick → Expr → Result Shape Unfit) → ClassLineIsSound rewrite
    → IsSound (λ m. wanted Pattern (class_line m) >>= λ p. rewrite m.classes p.0 p.1)
class_line-sound rewrite sound =
    bound-sound with_class_line class_line-binds (λ K p. rewrite K p.0 p.1) (λ K W p s stands so below. sound K W p.0 p.1 s stands so (of-the K W p.0.class p.1 below.0))

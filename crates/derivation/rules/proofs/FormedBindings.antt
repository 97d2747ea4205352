-- What a rule gives is well formed if what it makes of lines over named inputs is, or of a pick and a line of its class.
use Rattle.std.proofs.Common.{◌≡◌, refl, ℕ, Result, Ok, Some}
use Rattle.values.specs.Faults.{◌>>=◌, wanted}
use Rattle.algebra.specs.declared.expr.Expr.{Expr}
use Rattle.props.specs.Knowledge.{Knowledge}
use Rattle.rules.specs.declared.pattern.Input.{Input}
use Rattle.rules.specs.declared.shape.Shape.{Shape}
use Rattle.rules.specs.declared.unfit.Unfit.{Unfit}
use Rattle.rules.specs.declared.unfit.Unfit.TheVariants.{Pattern}
use Rattle.rules.specs.Bindings.{two_lines_over, three_lines_over, SubqueryPick, ClassPick, subquery, subquery_line, class_line}
use Rattle.rules.specs.Formed.{IsFormed}
use Rattle.rules.specs.Patterns.{input_of}
use Rattle.rules.proofs.BoundForms.{two, two-binds, three, three-binds, IsPicked, IsNamed, selection, class_selection, subquery_alone, subquery-binds, with_subquery_line, subquery_line-binds, with_class_line, class_line-binds}
use Rattle.rules.proofs.FormedLines.{Site, MayStand, Is, cols, StandsForSome, bound-formed}

-- an expression of the class that another one takes there
abbrev pub IsInput : Site → Input → Expr → Expr → Type 0
IsInput S i x y = StandsForSome S (input_of x i, y)

abbrev pub TwoOverAreFormed : Input → (Knowledge → Expr → Expr → Result Shape Unfit) → Type 0
TwoOverAreFormed i rewrite = (S : Site) (x y : Expr) (s : Shape) → MayStand S x → IsInput S i x y → rewrite S.classes x y ≡ Ok s → Is S s (cols S x)

pub two_over-formed : (i : Input) (rewrite : Knowledge → Expr → Expr → Result Shape Unfit) → TwoOverAreFormed i rewrite
    → IsFormed (λ m. wanted Pattern (two_lines_over i m) >>= λ l. rewrite m.classes l.0 l.1)
two_over-formed i rewrite made = bound-formed (two i) (two-binds i) (λ K l. rewrite K l.0 l.1) (λ S l s stands rise so below. made S l.0 l.1 s stands below.0)

abbrev pub ThreeOverAreFormed : Input → Input → (Knowledge → Expr → Expr → Expr → Result Shape Unfit) → Type 0
ThreeOverAreFormed i n rewrite = (S : Site) (x y z : Expr) (s : Shape) → MayStand S x → IsInput S i x y → IsInput S n y z → rewrite S.classes x y z ≡ Ok s → Is S s (cols S x)

pub three_over-formed : (i n : Input) (rewrite : Knowledge → Expr → Expr → Expr → Result Shape Unfit) → ThreeOverAreFormed i n rewrite
    → IsFormed (λ m. wanted Pattern (three_lines_over i n m) >>= λ l. rewrite m.classes l.0 l.1 l.2)
three_over-formed i n rewrite made =
    bound-formed (three i n) (three-binds i n) (λ K l. rewrite K l.0 l.1 l.2) (λ S l s stands rise so below. made S l.0 l.1 l.2 s stands below.0 below.1.0)

-- an expression of a class that may stand
pub record StandsFor (S : Site) (g : ℕ) (y : Expr) : Type 0 where
  pub stands : MayStand S y
  pub columns : S.classes.columns g ≡ cols S y

for-the : (S : Site) (g : ℕ) (y : Expr) → StandsForSome S (Some g, y) → StandsFor S g y
for-the S g y of = record { stands = of.stands; columns = of.columns g refl }

abbrev pub SubqueryIsFormed : (Knowledge → SubqueryPick → Result Shape Unfit) → Type 0
SubqueryIsFormed rewrite = (S : Site) (p : SubqueryPick) (s : Shape) → MayStand S (selection p) → IsPicked p → rewrite S.classes p ≡ Ok s → Is S s (S.classes.columns p.input)

pub subquery-formed : (rewrite : Knowledge → SubqueryPick → Result Shape Unfit) → SubqueryIsFormed rewrite → IsFormed (λ m. wanted Pattern (subquery m) >>= rewrite m.classes)
subquery-formed rewrite made = bound-formed subquery_alone subquery-binds rewrite (λ S p s stands rise so below. made S p s stands so)

abbrev pub SubqueryLineIsFormed : (Knowledge → SubqueryPick → Expr → Result Shape Unfit) → Type 0
SubqueryLineIsFormed rewrite = (S : Site) (p : SubqueryPick) (y : Expr) (s : Shape) → MayStand S (selection p) → IsPicked p → StandsFor S p.class y → rewrite S.classes p y ≡ Ok s
    → Is S s (S.classes.columns p.input)

pub subquery_line-formed : (rewrite : Knowledge → SubqueryPick → Expr → Result Shape Unfit) → SubqueryLineIsFormed rewrite
    → IsFormed (λ m. wanted Pattern (subquery_line m) >>= λ p. rewrite m.classes p.0 p.1)
subquery_line-formed rewrite made =
    bound-formed with_subquery_line subquery_line-binds (λ K p. rewrite K p.0 p.1) (λ S p s stands rise so below. made S p.0 p.1 s stands so (for-the S p.0.class p.1 below.0))

abbrev pub ClassLineIsFormed : (Knowledge → ClassPick → Expr → Result Shape Unfit) → Type 0
ClassLineIsFormed rewrite = (S : Site) (p : ClassPick) (y : Expr) (s : Shape) → MayStand S (class_selection p) → IsNamed p → StandsFor S p.class y → rewrite S.classes p y ≡ Ok s
    → Is S s (S.classes.columns p.input)

pub class_line-formed : (rewrite : Knowledge → ClassPick → Expr → Result Shape Unfit) → ClassLineIsFormed rewrite
    → IsFormed (λ m. wanted Pattern (class_line m) >>= λ p. rewrite m.classes p.0 p.1)
class_line-formed rewrite made =
    bound-formed with_class_line class_line-binds (λ K p. rewrite K p.0 p.1) (λ S p s stands rise so below. made S p.0 p.1 s stands so (for-the S p.0.class p.1 below.0))

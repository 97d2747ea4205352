-- What a rule gives depends on named classes alone if what it makes of lines over named inputs does, or of a pick and a line of its class.
use Rattle.std.proofs.Common.{◌≡◌, refl, ap, ℕ, Bool, ◌&&◌, ◌==◌, if◌then◌else◌, List, [], ◌∷◌, Result, Option, Some, None}
use Rattle.values.specs.Faults.{◌>>=◌, wanted}
use Rattle.algebra.specs.declared.expr.Expr.{Expr}
use Rattle.algebra.proofs.Lists.{two as both}
use Rattle.props.specs.Knowledge.{Knowledge}
use Rattle.rules.specs.declared.pattern.Input.{Input}
use Rattle.rules.specs.declared.shape.Shape.{Shape}
use Rattle.rules.specs.declared.unfit.Unfit.{Unfit}
use Rattle.rules.specs.declared.unfit.Unfit.TheVariants.{Pattern}
use Rattle.rules.specs.Bindings.{is_same_as, two_over, two_lines_over, three_over, three_lines_over, SubqueryPick, ClassPick, subquery_pick, class_pick, with_line, subquery, the_subquery_line, subquery_line, the_class_line, class_line}
use Rattle.rules.specs.Matches.{Line, unpicked}
use Rattle.rules.specs.Patterns.{input_of}
use Rattle.rules.specs.Stability.{Agree, IsStable}
use Rattle.rules.proofs.BoundForms.{two, two-binds, three, three-binds, IsPicked, IsNamed, selection, class_selection, subquery_alone, subquery-binds, with_subquery_line, subquery_line-binds, with_class_line, class_line-binds}
use Rattle.rules.proofs.StableLines.{Knows, bound-stable}

-- ---- which classes are the same

module _ (p : ℕ → Bool) (K L : Knowledge) (agree : Agree p K L) where
  same-steady : (o : Option ℕ) (g : ℕ) → is_same_as K o g ≡ is_same_as L o g
  same-steady None g = refl
  same-steady (Some x) g = both (λ a b. a == b) (agree.root x) (agree.root g)

  two_over-same : (i : Input) (lines : List Line) → two_over K i lines ≡ two_over L i lines
  two_over-same i [] = refl
  two_over-same i (l ∷ []) = refl
  two_over-same i (l ∷ k ∷ []) = ap (λ (b : Bool). if b then Some (l.expr, k.expr) else None) (same-steady (input_of l.expr i) k.class)
  two_over-same i (l ∷ k ∷ j ∷ lines) = refl

  three_over-same : (i n : Input) (lines : List Line) → three_over K i n lines ≡ three_over L i n lines
  three_over-same i n [] = refl
  three_over-same i n (l ∷ []) = refl
  three_over-same i n (l ∷ k ∷ []) = refl
  three_over-same i n (l ∷ k ∷ j ∷ []) =
      both (λ (a b : Bool). if a && b then Some (l.expr, k.expr, j.expr) else None) (same-steady (input_of l.expr i) k.class) (same-steady (input_of k.expr n) j.class)
  three_over-same i n (l ∷ k ∷ j ∷ h ∷ lines) = refl

  with_line-same : {X : Type 0} (class : X → ℕ) (k : Line) (o : Option X) → with_line K class k o ≡ with_line L class k o
  with_line-same class k None = refl
  with_line-same class k (Some x) = ap (λ (b : Bool). if b then Some (x, k.expr) else None) (same-steady (Some (class x)) k.class)

  subquery_line-same : (pick : ℕ) (lines : List Line) → the_subquery_line K pick lines ≡ the_subquery_line L pick lines
  subquery_line-same pick [] = refl
  subquery_line-same pick (l ∷ []) = refl
  subquery_line-same pick (l ∷ k ∷ []) = with_line-same (λ p. p.class) k (subquery_pick l.expr pick)
  subquery_line-same pick (l ∷ k ∷ j ∷ lines) = refl

  class_line-same : (pick : ℕ) (lines : List Line) → the_class_line K pick lines ≡ the_class_line L pick lines
  class_line-same pick [] = refl
  class_line-same pick (l ∷ []) = refl
  class_line-same pick (l ∷ k ∷ []) = with_line-same (λ p. p.class) k (class_pick l.expr pick)
  class_line-same pick (l ∷ k ∷ j ∷ lines) = refl

-- ---- each form

abbrev pub TwoOverAreStable : (Knowledge → Expr → Expr → Result Shape Unfit) → Type 0
TwoOverAreStable rewrite = (p : ℕ → Bool) (K L : Knowledge) → Agree p K L → (x y : Expr) → Knows p x → Knows p y → rewrite K x y ≡ rewrite L x y

pub two_over-stable : (i : Input) (rewrite : Knowledge → Expr → Expr → Result Shape Unfit) → TwoOverAreStable rewrite
    → IsStable (λ m. wanted Pattern (two_lines_over i m) >>= λ l. rewrite m.classes l.0 l.1)
two_over-stable i rewrite stable =
    bound-stable (two i) (two-binds i) (λ p K L agree pick lines. ap (unpicked pick) (two_over-same p K L agree i lines)) (λ K l. rewrite K l.0 l.1)
    (λ p K L agree l known so below. stable p K L agree l.0 l.1 known below.0)

abbrev pub ThreeOverAreStable : (Knowledge → Expr → Expr → Expr → Result Shape Unfit) → Type 0
ThreeOverAreStable rewrite = (p : ℕ → Bool) (K L : Knowledge) → Agree p K L → (x y z : Expr) → Knows p x → Knows p y → Knows p z → rewrite K x y z ≡ rewrite L x y z

pub three_over-stable : (i n : Input) (rewrite : Knowledge → Expr → Expr → Expr → Result Shape Unfit) → ThreeOverAreStable rewrite
    → IsStable (λ m. wanted Pattern (three_lines_over i n m) >>= λ l. rewrite m.classes l.0 l.1 l.2)
three_over-stable i n rewrite stable =
    bound-stable (three i n) (three-binds i n) (λ p K L agree pick lines. ap (unpicked pick) (three_over-same p K L agree i n lines)) (λ K l. rewrite K l.0 l.1 l.2)
    (λ p K L agree l known so below. stable p K L agree l.0 l.1 l.2 known below.0 below.1.0)

abbrev pub SubqueryIsStable : (Knowledge → SubqueryPick → Result Shape Unfit) → Type 0
SubqueryIsStable rewrite = (q : ℕ → Bool) (K L : Knowledge) → Agree q K L → (p : SubqueryPick) → Knows q (selection p) → IsPicked p → rewrite K p ≡ rewrite L p

pub subquery-stable : (rewrite : Knowledge → SubqueryPick → Result Shape Unfit) → SubqueryIsStable rewrite → IsStable (λ m. wanted Pattern (subquery m) >>= rewrite m.classes)
subquery-stable rewrite stable = bound-stable subquery_alone subquery-binds (λ p K L agree pick lines. refl) rewrite (λ q K L agree p known so below. stable q K L agree p known so)

abbrev pub SubqueryLineIsStable : (Knowledge → SubqueryPick → Expr → Result Shape Unfit) → Type 0
SubqueryLineIsStable rewrite = (q : ℕ → Bool) (K L : Knowledge) → Agree q K L → (p : SubqueryPick) (y : Expr) → Knows q (selection p) → IsPicked p → Knows q y → rewrite K p y ≡ rewrite L p y

pub subquery_line-stable : (rewrite : Knowledge → SubqueryPick → Expr → Result Shape Unfit) → SubqueryLineIsStable rewrite
    → IsStable (λ m. wanted Pattern (subquery_line m) >>= λ p. rewrite m.classes p.0 p.1)
subquery_line-stable rewrite stable =
    bound-stable with_subquery_line subquery_line-binds (λ p K L agree pick lines. subquery_line-same p K L agree pick lines) (λ K p. rewrite K p.0 p.1)
    (λ q K L agree p known so below. stable q K L agree p.0 p.1 known so below.0)

abbrev pub ClassLineIsStable : (Knowledge → ClassPick → Expr → Result Shape Unfit) → Type 0
ClassLineIsStable rewrite = (q : ℕ → Bool) (K L : Knowledge) → Agree q K L → (p : ClassPick) (y : Expr) → Knows q (class_selection p) → IsNamed p → Knows q y → rewrite K p y ≡ rewrite L p y

pub class_line-stable : (rewrite : Knowledge → ClassPick → Expr → Result Shape Unfit) → ClassLineIsStable rewrite
    → IsStable (λ m. wanted Pattern (class_line m) >>= λ p. rewrite m.classes p.0 p.1)
class_line-stable rewrite stable =
    bound-stable with_class_line class_line-binds (λ p K L agree pick lines. class_line-same p K L agree pick lines) (λ K p. rewrite K p.0 p.1)
    (λ q K L agree p known so below. stable q K L agree p.0 p.1 known so below.0)

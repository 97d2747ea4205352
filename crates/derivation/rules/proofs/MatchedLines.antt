-- A rule is sound if what it makes of what it binds is: of its lines' expressions.
use Rattle.std.proofs.Common.{◌≡◌, refl, ap, sym, ◌∙◌, subst, ℕ, true, List, ◌∷◌, slice_get, Result, Ok, Option, Some, None}
use Rattle.std.specs.List.{AllByRecursion}
use Rattle.values.specs.Faults.{◌>>=◌, wanted}
use Rattle.algebra.specs.declared.expr.Expr.{Expr}
use Rattle.algebra.specs.Bags.{Bag, SameBag}
use Rattle.algebra.specs.Expressions.{children, means, columns_of, is_formed}
use Rattle.algebra.proofs.SameBags.{same_bag-trans}
use Rattle.props.specs.Knowledge.{Knowledge, IsTrueOf, with_rows}
use Rattle.rules.specs.declared.shape.Shape.{Shape}
use Rattle.rules.specs.declared.unfit.Unfit.{Unfit}
use Rattle.rules.specs.declared.unfit.Unfit.TheVariants.{Pattern}
use Rattle.rules.specs.Bindings.{is_same_as}
use Rattle.rules.specs.Matches.{Line, one_line, two_lines}
use Rattle.rules.specs.Shapes.{meant}
use Rattle.rules.specs.Soundness.{World, IsLine, IsSound}
use Rattle.rules.proofs.BoundLines.{Placed, IsPlaced, Binding, IsBound, Binds, all-placed}
use Rattle.rules.proofs.BoundForms.{one, one-binds, two_first, two_first-binds}

-- the rows of an expression and of a shape
abbrev pub rows_of : Knowledge → World → Expr → Bag
rows_of K W x = means W.instances W.tables (with_rows K W.rows) x

abbrev pub shape_rows : Knowledge → World → Shape → Bag
shape_rows K W s = (meant (with_rows K W.rows) s).rows

-- where a rule says what it gives
pub given : (K : Knowledge) (W : World) (x : Bag) (t s : Shape) → ◌≡◌ {A = Result Shape Unfit} (Ok t) (Ok s) → SameBag x (shape_rows K W t) → SameBag x (shape_rows K W s)
given K W x t s is same = subst (λ s. SameBag x (shape_rows K W s)) (let e : t ≡ s = cc in e) same

-- ---- what is bound

-- an expression over classes
pub record Stands (K : Knowledge) (W : World) (x : Expr) : Type 0 where
  pub classes : IsTrueOf K W.rows
  pub formed : is_formed W.instances W.own K.columns x ≡ true

-- an expression of a class, if there is one: it has its columns and its rows
pub record IsOfSome (K : Knowledge) (W : World) (b : Placed) : Type 0 where
  pub formed : is_formed W.instances W.own K.columns b.1 ≡ true
  pub columns : (g : ℕ) → b.0 ≡ Some g → K.columns g ≡ columns_of W.instances K.columns b.1
  pub rows : (g : ℕ) → b.0 ≡ Some g → SameBag (W.rows g) (rows_of K W b.1)

is-of : (K : Knowledge) (W : World) → IsTrueOf K W.rows → (b : Placed) (l : Line) → IsPlaced K b l → IsLine K W l → IsOfSome K W b
is-of K W classes b l placed line = subst (λ y. IsOfSome K W (b.0, y)) placed.expr (record {
  formed = line.formed;
  columns = λ g at. (same g at).0 ∙ sym line.columns;
  rows = λ g at. same_bag-trans _ _ _ (same g at).1 line.rows;
})
  where
    same : (g : ℕ) → b.0 ≡ Some g → (K.columns g ≡ K.columns l.class) × SameBag (W.rows g) (W.rows l.class)
    same g at = classes.same g l.class (sym (ap (λ o. is_same_as K o l.class) at) ∙ placed.class)

abbrev pub BoundIsSound : {X : Type 0} → Binding X → (Knowledge → X → Result Shape Unfit) → Type 0
BoundIsSound {X} B rewrite = (K : Knowledge) (W : World) (x : X) (s : Shape) → Stands K W (B.top x) → B.IsSo x → AllByRecursion (IsOfSome K W) (B.below x) → rewrite K x ≡ Ok s
    → SameBag (rows_of K W (B.top x)) (shape_rows K W s)

pub bound-sound : {X : Type 0} (B : Binding X) → Binds B → (rewrite : Knowledge → X → Result Shape Unfit) → BoundIsSound B rewrite → IsSound (λ m. wanted Pattern (B.bound m) >>= rewrite m.classes)
bound-sound {X} B binds rewrite sound m s is W true_ top others lines = by (B.bound m) refl is
  where
    at : (x : X) → IsBound B m x → rewrite m.classes x ≡ Ok s → SameBag (rows_of m.classes W top.expr) (shape_rows m.classes W s)
    at x i is =
        let all : AllByRecursion (IsLine m.classes W) (i.first ∷ i.others) = subst (AllByRecursion (IsLine m.classes W)) i.lines true_.lines in
        let same : i.first ≡ top = cc in
        subst (λ (y : Expr). SameBag (rows_of m.classes W y) (shape_rows m.classes W s)) (sym i.top ∙ ap (λ (l : Line). l.expr) same)
        (sound m.classes W x s (record { classes = true_.classes; formed = subst (λ y. is_formed W.instances W.own m.classes.columns y ≡ true) i.top all.0.formed }) i.so
        (all-placed m.classes (IsLine m.classes W) (IsOfSome m.classes W) (is-of m.classes W true_.classes) (B.below x) i.others i.below all.1) is)

    by : (o : Option X) → B.bound m ≡ o → (wanted Pattern o >>= rewrite m.classes) ≡ Ok s → SameBag (rows_of m.classes W top.expr) (shape_rows m.classes W s)
    by None bound is = cc
    by (Some x) bound is = at x (binds m x bound) is

-- ---- one line

abbrev pub OneIsSound : (Knowledge → Expr → Result Shape Unfit) → Type 0
OneIsSound rewrite = (K : Knowledge) (W : World) (x : Expr) (s : Shape) → Stands K W x → rewrite K x ≡ Ok s → SameBag (rows_of K W x) (shape_rows K W s)

pub one-sound : (rewrite : Knowledge → Expr → Result Shape Unfit) → OneIsSound rewrite → IsSound (λ m. wanted Pattern (one_line m) >>= rewrite m.classes)
one-sound rewrite sound = bound-sound one one-binds rewrite (λ K W x s stands so of. sound K W x s stands)

-- ---- two lines

-- the second is of the class that the first takes
pub record IsBelow (K : Knowledge) (W : World) (x y : Expr) : Type 0 where
  pub formed : is_formed W.instances W.own K.columns y ≡ true
  pub columns : (g : ℕ) (others : List ℕ) → children x ≡ g ∷ others → K.columns g ≡ columns_of W.instances K.columns y
  pub rows : (g : ℕ) (others : List ℕ) → children x ≡ g ∷ others → SameBag (W.rows g) (rows_of K W y)

abbrev pub TwoAreSound : (Knowledge → Expr → Expr → Result Shape Unfit) → Type 0
TwoAreSound rewrite = (K : Knowledge) (W : World) (x y : Expr) (s : Shape) → Stands K W x → IsBelow K W x y → rewrite K x y ≡ Ok s → SameBag (rows_of K W x) (shape_rows K W s)

below : (K : Knowledge) (W : World) (x y : Expr) → IsOfSome K W (slice_get (children x) 0, y) → IsBelow K W x y
below K W x y of = record {
  formed = of.formed;
  columns = λ g others first. of.columns g (ap (λ L. slice_get L 0) first);
  rows = λ g others first. of.rows g (ap (λ L. slice_get L 0) first);
}

pub two-sound : (rewrite : Knowledge → Expr → Expr → Result Shape Unfit) → TwoAreSound rewrite → IsSound (λ m. wanted Pattern (two_lines m) >>= λ l. rewrite m.classes l.0 l.1)
two-sound rewrite sound = bound-sound two_first two_first-binds (λ K l. rewrite K l.0 l.1) (λ K W l s stands so of. sound K W l.0 l.1 s stands (below K W l.0 l.1 of.0))

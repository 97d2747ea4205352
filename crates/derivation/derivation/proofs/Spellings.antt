-- A shape that lines spell means what they mean.
use Rattle.std.proofs.Common.{◌≡◌, refl, ap, sym, ◌∙◌, subst, ℕ, Bool, true, false, ◌&&◌, List, [], ◌∷◌, ◌++◌, Option, Some, None, if◌then◌else◌}
use Rattle.std.specs.Option.{option_and_then}
use Rattle.query.specs.declared.query.TableInstance.{TableInstance}
use Rattle.query.specs.Rows.{Tables}
use Rattle.algebra.specs.declared.expr.Aggregation.{Aggregation}
use Rattle.algebra.specs.declared.expr.Expr.{Expr}
use Rattle.algebra.specs.declared.expr.Expr.TheVariants as expr
use Rattle.algebra.specs.Columns.{has, rising}
use Rattle.algebra.specs.Bags.{Env, Bag, SameBag, join, left_join, semi, anti, distinct}
use Rattle.algebra.specs.Conditions.{holds, allows}
use Rattle.algebra.specs.Equality.{same_expr}
use Rattle.algebra.specs.Expressions.{Classes, means, columns_of}
use Rattle.algebra.proofs.Lists.{two}
use Rattle.algebra.proofs.Same.{equal_expr}
use Rattle.algebra.proofs.SameGroups.{aggregated-same}
use Rattle.algebra.proofs.SameBags.{SameTest, same_bag-trans, select-same, join-same, left_join-same, semi-same, anti-same, keep-same, distinct-same}
use Rattle.rules.specs.declared.shape.Shape.{Shape, roll-Shape, fold-roll-Shape, map-Shape, ind-Shape}
use Rattle.rules.specs.declared.shape.Shape.TheOpen.{Shape-F}
use Rattle.rules.specs.Matches.{Line}
use Rattle.rules.specs.Shapes.{Meant, shape_layer, meant}
use Rattle.derivation.proofs.Invariants.{same_bag-turned}
use Rattle.derivation.proofs.Pairs.{first-is}
use Rattle.derivation.specs.Spelling.{Spelt, Spelling, class_with, class_by, over_one, over_two, spelling_layer, spelling}

module _ (instances : List TableInstance) (own : List Aggregation) (D : Tables) (V : Classes) (member : ℕ → Option Line)
    (is-line : (i : ℕ) (l : Line) → member i ≡ Some l → (columns_of instances V.columns l.expr ≡ V.columns l.class) × SameBag (V.rows l.class) (means instances D V l.expr)) where
  -- what is meant has the columns and the bag of an expression, and of a class
  abbrev IsExpr : Meant → Expr → Type 0
  IsExpr m x = (m.columns ≡ columns_of instances V.columns x) × SameBag m.rows (means instances D V x)

  abbrev IsClass : Meant → ℕ → Type 0
  IsClass m g = (m.columns ≡ V.columns g) × SameBag m.rows (V.rows g)

  -- so is what lines spell
  pub record Spells (m : Meant) (s : Spelling) : Type 0 where
    pub expr : (makes left : List ℕ) (x : Expr) → s.expr makes ≡ Some (x, left) → IsExpr m x
    pub class : (makes left : List ℕ) (g : ℕ) → s.class makes ≡ Some (g, left) → IsClass m g

  -- ---- steps that find something

  found : {X Y P : Type 0} (f : X → Option Y) (o : Option X) (y : Y) → option_and_then f o ≡ Some y → ((x : X) → o ≡ Some x → f x ≡ Some y → P) → P
  found f None y is then_ = cc
  found f (Some x) y is then_ = then_ x refl is

  with-class : (m : Meant) (x : Expr) (i g : ℕ) → IsExpr m x → class_with x (member i) ≡ Some g → IsClass m g
  with-class m x i g is at = by (member i) refl at
    where
      by : (o : Option Line) → member i ≡ o → class_with x o ≡ Some g → IsClass m g
      by None there at = cc
      by (Some l) there at = same (same_expr l.expr x) refl at
        where
          same : (b : Bool) → same_expr l.expr x ≡ b → (if b then Some l.class else None) ≡ Some g → IsClass m g
          same true equal at =
              let here : l.class ≡ g = cc in
              let it : x ≡ l.expr = sym (equal_expr l.expr x equal) in
              let line = is-line i l there in
              subst (IsClass m) here (
                is.0 ∙ ap (columns_of instances V.columns) it ∙ line.0,
                same_bag-trans m.rows (means instances D V x) (V.rows l.class) is.1 (subst (λ y. SameBag (means instances D V y) (V.rows l.class)) (sym it) (same_bag-turned (V.rows l.class) (means instances D V l.expr) line.1)),
              )
          same false equal at = cc

  by-class : (m : Meant) (f : Spelt Expr) → ((makes left : List ℕ) (x : Expr) → f makes ≡ Some (x, left) → IsExpr m x)
      → (makes left : List ℕ) (g : ℕ) → class_by member f makes ≡ Some (g, left) → IsClass m g
  by-class m f exprs [] left g is = cc
  by-class m f exprs (i ∷ makes) left g is =
      found _ (f makes) (g, left) is (λ p at next.
      found _ (class_with p.0 (member i)) (g, left) next (λ k there last.
      subst (IsClass m) (first-is k g p.1 left last) (with-class m p.0 i k (exprs makes p.1 p.0 at) there)))

  one-spells : (f : ℕ → Expr) (m n : Meant) (s : Spelling) → ((g : ℕ) → IsClass n g → IsExpr m (f g)) → Spells n s → Spells m (over_one member f s)
  one-spells f m n s each spells = record { expr = exprs; class = by-class m _ exprs }
    where
      exprs : (makes left : List ℕ) (x : Expr) → (over_one member f s).expr makes ≡ Some (x, left) → IsExpr m x
      exprs makes left x is = found _ (s.class makes) (x, left) is (λ p at last.
          subst (IsExpr m) (first-is (f p.0) x p.1 left last) (each p.0 (spells.class makes p.1 p.0 at)))

  two-spell : (f : ℕ → ℕ → Expr) (m n k : Meant) (s t : Spelling) → ((g h : ℕ) → IsClass n g → IsClass k h → IsExpr m (f g h)) → Spells n s → Spells k t → Spells m (over_two member f s t)
  two-spell f m n k s t each first second = record { expr = exprs; class = by-class m _ exprs }
    where
      exprs : (makes left : List ℕ) (x : Expr) → (over_two member f s t).expr makes ≡ Some (x, left) → IsExpr m x
      exprs makes left x is = found _ (s.class makes) (x, left) is (λ p at next.
          found _ (t.class p.1) (x, left) next (λ q there last.
          subst (IsExpr m) (first-is (f p.0 q.0) x q.1 left last) (each p.0 q.0 (first.class makes p.1 p.0 at) (second.class p.1 q.1 q.0 there))))

  -- ---- operators over inputs that are classes

  equal : (p : Env → Bool) → SameTest p p
  equal p r = refl

  abbrev of_two : (Bag → Bag → List ℕ → Bag) → Meant → Meant → Meant
  of_two f n k = record { columns = rising (n.columns ++ k.columns); rows = f n.rows k.rows k.columns }

  abbrev of_first : (Bag → Bag → List ℕ → Bag) → Meant → Meant → Meant
  of_first f n k = record { columns = n.columns; rows = f n.rows k.rows k.columns }

  -- an operator that keeps same bags
  abbrev Keeps : (Bag → Bag → List ℕ → Bag) → Type 0
  Keeps f = (B : List ℕ) (a b c d : Bag) → SameBag a b → SameBag c d → SameBag (f a c B) (f b d B)

  sides-rows : (f : Bag → Bag → List ℕ → Bag) → Keeps f → (n k : Meant) (g h : ℕ) → IsClass n g → IsClass k h → SameBag (f n.rows k.rows k.columns) (f (V.rows g) (V.rows h) (V.columns h))
  sides-rows f keeps n k g h is other = subst (λ B. SameBag (f n.rows k.rows k.columns) (f (V.rows g) (V.rows h) B)) other.0 (keeps k.columns n.rows (V.rows g) k.rows (V.rows h) is.1 other.1)

  sides-columns : (n k : Meant) (g h : ℕ) → IsClass n g → IsClass k h → rising (n.columns ++ k.columns) ≡ rising (V.columns g ++ V.columns h)
  sides-columns n k g h is other = two (λ K L. rising (K ++ L)) is.0 other.0

  -- ---- shapes

  abbrev P : Shape → Type 0
  P s = Spells (meant V s) (spelling member s)

  abbrev Part : Type 0
  Part = (s : Shape) × P s

  layer : (y : Shape-F Part)
      → Spells (shape_layer V (map-Shape Shape Meant (meant V) (map-Shape Part Shape (λ p. p.0) y))) (spelling_layer member (map-Shape Shape Spelling (spelling member) (map-Shape Part Shape (λ p. p.0) y)))
  layer (Shape-F.Class g) = record {
    expr = λ makes left x is. cc;
    class = λ makes left h is. subst (IsClass (record { columns = V.columns g; rows = V.rows g })) (first-is g h makes left is) (refl, λ e f. refl);
  }
  layer (Shape-F.Select C a) = one-spells (expr.Select C) _ (meant V a.0) (spelling member a.0) (λ g is. (is.0, select-same (holds V.rows C) (holds V.rows C) _ _ (equal (holds V.rows C)) is.1)) a.1
  layer (Shape-F.Join C a b) = two-spell (expr.Join C) _ (meant V a.0) (meant V b.0) (spelling member a.0) (spelling member b.0)
      (λ g h is other. (sides-columns _ _ g h is other, sides-rows (λ x y B. join (holds V.rows C) (has B) x y) (λ B x y z w. join-same (holds V.rows C) (holds V.rows C) (has B) x y z w (equal (holds V.rows C))) _ _ g h is other)) a.1 b.1
  layer (Shape-F.LeftJoin C a b) = two-spell (expr.LeftJoin C) _ (meant V a.0) (meant V b.0) (spelling member a.0) (spelling member b.0)
      (λ g h is other. (sides-columns _ _ g h is other, sides-rows (λ x y B. left_join (holds V.rows C) (has B) x y) (λ B x y z w. left_join-same (holds V.rows C) (holds V.rows C) (has B) x y z w (equal (holds V.rows C))) _ _ g h is other)) a.1 b.1
  layer (Shape-F.Semi C a b) = two-spell (expr.Semi C) _ (meant V a.0) (meant V b.0) (spelling member a.0) (spelling member b.0)
      (λ g h is other. (is.0, sides-rows (λ x y B. semi (holds V.rows C) (has B) x y) (λ B x y z w. semi-same (holds V.rows C) (holds V.rows C) (has B) x y z w (equal (holds V.rows C))) _ _ g h is other)) a.1 b.1
  layer (Shape-F.Anti S M a b) =
      let p : Env → Bool = λ r. holds V.rows S r && allows V.rows M r in
      two-spell (expr.Anti S M) _ (meant V a.0) (meant V b.0) (spelling member a.0) (spelling member b.0)
      (λ g h is other. (is.0, sides-rows (λ x y B. anti p (has B) x y) (λ B x y z w. anti-same p p (has B) x y z w (equal p)) _ _ g h is other)) a.1 b.1
  layer (Shape-F.Keep K a) = one-spells (expr.Keep K) _ (meant V a.0) (spelling member a.0) (λ g is. (refl, keep-same (has K) _ _ is.1)) a.1
  layer (Shape-F.Distinct a) = one-spells expr.Distinct _ (meant V a.0) (spelling member a.0) (λ g is. (
    is.0,
    subst (λ K. SameBag (distinct (meant V a.0).columns (meant V a.0).rows) (distinct K (V.rows g))) is.0 (distinct-same (meant V a.0).columns _ _ is.1),
  )) a.1
  layer (Shape-F.Group L G a) = one-spells (expr.Group L G) _ (meant V a.0) (spelling member a.0) (λ g is. (refl, aggregated-same L G _ _ is.1)) a.1

  step : (y : Shape-F Part) → P (roll-Shape (map-Shape Part Shape (λ p. p.0) y))
  unfolding meant spelling
  step y =
      let z : Shape-F Shape = map-Shape Part Shape (λ p. p.0) y in
      subst (λ m. Spells m (spelling member (roll-Shape z))) (sym (fold-roll-Shape Meant (shape_layer V) z))
      (subst (Spells (shape_layer V (map-Shape Shape Meant (meant V) z))) (sym (fold-roll-Shape Spelling (spelling_layer member) z)) (layer y))

  pub shape-spells : (s : Shape) → P s
  shape-spells = ind-Shape P (λ x y is. subst (λ z. P (roll-Shape z)) is (step y))

-- Where lines that are alike are of classes that are the same, a shape stands in one class alone, up to which are the same.
use Rattle.std.proofs.Common.{◌≡◌, refl, ap, sym, ◌∙◌, subst, ℕ, Bool, true, false, List, [], ◌∷◌, map, Option, Some, None}
use Rattle.std.proofs.lemmas.Bool.{and_parts, and_from, eq-eqb, eqb-true}
use Rattle.query.specs.declared.query.TableInstance.{TableInstance}
use Rattle.algebra.specs.declared.condition.Condition.{Condition}
use Rattle.algebra.specs.declared.expr.Aggregation.{Aggregation}
use Rattle.algebra.specs.declared.expr.Expr.{Expr}
use Rattle.algebra.specs.declared.expr.Expr.TheVariants as expr
use Rattle.algebra.specs.declared.expr.Expr.TheVariants.{Get, Group}
use Rattle.algebra.specs.Alike.{AreAlike, rooted, rooted_conjuncts}
use Rattle.algebra.specs.Expressions.{children}
use Rattle.algebra.proofs.Lists.{two}
use Rattle.props.specs.Knowledge.{Knowledge}
use Rattle.rules.specs.declared.shape.Shape.{Shape, roll-Shape, fold-roll-Shape, map-Shape, ind-Shape}
use Rattle.rules.specs.declared.shape.Shape.TheOpen.{Shape-F}
use Rattle.rules.specs.declared.shape.Shape.TheVariants as shape
use Rattle.rules.specs.declared.shape.Shape.TheVariants.{Class, Select, Join, LeftJoin, Semi, Anti, Keep, Distinct}
use Rattle.rules.specs.Matches as matches
use Rattle.derivation.specs.Logs as logs
use Rattle.derivation.specs.Logs.{Log, member, least, are_same}
use Rattle.closure.specs.Closed.{over_one_of, over_two_of, is_over_one, is_over_two, has_line, standing_layer, is_there, AreUnited}
use Rattle.closure.specs.Operators.{OneAnswers, TwoAnswers, StandsAs}
use Rattle.closure.proofs.Agreeing.{alike-are, are-alike}
use Rattle.closure.proofs.AnyLine.{passing-line, line-passes}
use Rattle.closure.proofs.ExpressionNumbers.{rooted-children}
use Rattle.closure.proofs.Shapes.{there_class, there_select, there_join, there_left_join, there_semi, there_anti, there_keep, there_distinct, there_group}

-- what isn't so
not-true : (b : Bool) → (b ≡ true → true ≡ false) → b ≡ false
not-true true never = never refl
not-true false never = refl

module _ (instances : List TableInstance) (E : Log) (united : AreUnited E) where
  abbrev K : Knowledge
  K = logs.knowledge instances E

  abbrev root : ℕ → ℕ
  root = least E

  same-roots : (g h : ℕ) → are_same E g h ≡ true → root g ≡ root h
  same-roots g h is = eqb-true _ _ is

  roots-same : (g h : ℕ) → root g ≡ root h → are_same E g h ≡ true
  roots-same g h is = eq-eqb _ _ is

  -- ---- operators over one class

  -- an operator whose expression over a class has the class's root as its one input
  record IsOne (f : ℕ → Expr) : Type 0 where
    keeps : (g h : ℕ) → root g ≡ root h → rooted root (f g) ≡ rooted root (f h)
    takes_one : (g : ℕ) → children (rooted root (f g)) ≡ root g ∷ []

  record IsTwo (f : ℕ → ℕ → Expr) : Type 0 where
    keeps : (g h j k : ℕ) → root g ≡ root h → root j ≡ root k → rooted root (f g j) ≡ rooted root (f h k)
    takes_two : (g h : ℕ) → children (rooted root (f g h)) ≡ root g ∷ root h ∷ []

  record OverOne (f : ℕ → Expr) (p : ℕ → Bool) (x : Expr) : Type 0 where
    input : ℕ
    passes_it : p input ≡ true
    alike_it : AreAlike root (f input) x

  record OverTwo (f : ℕ → ℕ → Expr) (p q : ℕ → Bool) (x : Expr) : Type 0 where
    left : ℕ
    right : ℕ
    passes_left : p left ≡ true
    passes_right : q right ≡ true
    alike_it : AreAlike root (f left right) x

  over-one : (f : ℕ → Expr) (p : ℕ → Bool) (x : Expr) → is_over_one K f p x ≡ true → OverOne f p x
  over-one f p x is = by (children x) is
    where
      by : (L : List ℕ) → over_one_of K f p x L ≡ true → OverOne f p x
      by [] is = cc
      by (g ∷ []) is = let parts = and_parts _ _ is in record { input = g; passes_it = parts.0; alike_it = alike-are instances E (f g) x parts.1 }
      by (g ∷ h ∷ others) is = cc

  over-two : (f : ℕ → ℕ → Expr) (p q : ℕ → Bool) (x : Expr) → is_over_two K f p q x ≡ true → OverTwo f p q x
  over-two f p q x is = by (children x) is
    where
      by : (L : List ℕ) → over_two_of K f p q x L ≡ true → OverTwo f p q x
      by [] is = cc
      by (g ∷ []) is = cc
      by (g ∷ h ∷ []) is =
          let parts = and_parts _ _ is in
          let inputs = and_parts _ _ parts.0 in
          record { left = g; right = h; passes_left = inputs.0; passes_right = inputs.1; alike_it = alike-are instances E (f g h) x parts.1 }
      by (g ∷ h ∷ j ∷ others) is = cc

  -- ---- one class alone

  abbrev IsUnique : (ℕ → Bool) → Type 0
  IsUnique p = (g h : ℕ) → p g ≡ true → p h ≡ true → root g ≡ root h

  lines-same : (p q : Expr → Bool) (g h : ℕ) → ((x y : Expr) → p x ≡ true → q y ≡ true → AreAlike root x y) → has_line K E p g ≡ true → has_line K E q h ≡ true → root g ≡ root h
  lines-same p q g h alike_ first second =
      let one = passing-line _ E first in
      let other = passing-line _ E second in
      let a = and_parts _ _ one.passing in
      let b = and_parts _ _ other.passing in
      sym (same-roots _ _ a.0) ∙ same-roots _ _ (united one.number one.line one.stands other.number other.line other.stands (alike_ _ _ a.1 b.1)) ∙ same-roots _ _ b.0

  one-unique : (f : ℕ → Expr) (p : ℕ → Bool) → IsOne f → IsUnique p → IsUnique (has_line K E (is_over_one K f p))
  one-unique f p is unique g h = lines-same _ _ g h (λ x y first second.
      let a = over-one f p x first in
      let b = over-one f p y second in
      sym a.alike_it ∙ is.keeps a.input b.input (unique a.input b.input a.passes_it b.passes_it) ∙ b.alike_it)

  two-unique : (f : ℕ → ℕ → Expr) (p q : ℕ → Bool) → IsTwo f → IsUnique p → IsUnique q → IsUnique (has_line K E (is_over_two K f p q))
  two-unique f p q is unique also g h = lines-same _ _ g h (λ x y first second.
      let a = over-two f p q x first in
      let b = over-two f p q y second in
      sym a.alike_it ∙ is.keeps a.left b.left a.right b.right (unique a.left b.left a.passes_left b.passes_left) (also a.right b.right a.passes_right b.passes_right) ∙ b.alike_it)

  -- ---- the operators of shapes

  is-select : (C : List Condition) → IsOne (expr.Select C)
  is-select C = record { keeps = λ g h is. ap (expr.Select (rooted_conjuncts root C)) is; takes_one = λ g. refl }

  is-keep : (L : List ℕ) → IsOne (expr.Keep L)
  is-keep L = record { keeps = λ g h is. ap (expr.Keep L) is; takes_one = λ g. refl }

  is-distinct : IsOne expr.Distinct
  is-distinct = record { keeps = λ g h is. ap expr.Distinct is; takes_one = λ g. refl }

  is-group : (L : List ℕ) (G : List Aggregation) → IsOne (expr.Group L G)
  is-group L G = record { keeps = λ g h is. ap (expr.Group L G) is; takes_one = λ g. refl }

  is-join : (C : List Condition) → IsTwo (expr.Join C)
  is-join C = record { keeps = λ g h j k is also. two (expr.Join (rooted_conjuncts root C)) is also; takes_two = λ g h. refl }

  is-left_join : (C : List Condition) → IsTwo (expr.LeftJoin C)
  is-left_join C = record { keeps = λ g h j k is also. two (expr.LeftJoin (rooted_conjuncts root C)) is also; takes_two = λ g h. refl }

  is-semi : (C : List Condition) → IsTwo (expr.Semi C)
  is-semi C = record { keeps = λ g h j k is also. two (expr.Semi (rooted_conjuncts root C)) is also; takes_two = λ g h. refl }

  is-anti : (S M : List Condition) → IsTwo (expr.Anti S M)
  is-anti S M = record { keeps = λ g h j k is also. two (expr.Anti (rooted_conjuncts root S) (rooted_conjuncts root M)) is also; takes_two = λ g h. refl }

  -- ---- shapes

  abbrev P : Shape → Type 0
  P s = IsUnique (is_there K E s)

  abbrev Part : Type 0
  Part = (s : Shape) × P s

  layer : (y : Shape-F Part) → IsUnique (standing_layer K E (map-Shape Shape (ℕ → Bool) (is_there K E) (map-Shape Part Shape (λ p. p.0) y)))
  layer (Shape-F.Class k) = λ g h first second. sym (same-roots k g first) ∙ same-roots k h second
  layer (Shape-F.Select C x) = one-unique _ _ (is-select C) x.1
  layer (Shape-F.Join C a b) = two-unique _ _ _ (is-join C) a.1 b.1
  layer (Shape-F.LeftJoin C a b) = two-unique _ _ _ (is-left_join C) a.1 b.1
  layer (Shape-F.Semi C a b) = two-unique _ _ _ (is-semi C) a.1 b.1
  layer (Shape-F.Anti S M a b) = two-unique _ _ _ (is-anti S M) a.1 b.1
  layer (Shape-F.Keep L x) = one-unique _ _ (is-keep L) x.1
  layer (Shape-F.Distinct x) = one-unique _ _ is-distinct x.1
  layer (Shape-F.Group L G x) = one-unique _ _ (is-group L G) x.1

  step : (y : Shape-F Part) → P (roll-Shape (map-Shape Part Shape (λ p. p.0) y))
  unfolding is_there
  step y =
      let z : Shape-F Shape = map-Shape Part Shape (λ p. p.0) y in
      subst IsUnique (sym (fold-roll-Shape (ℕ → Bool) (standing_layer K E) z)) (layer y)

  pub unique-class : (s : Shape) → P s
  unique-class = ind-Shape P (λ x y is. subst (λ z. P (roll-Shape z)) is (step y))

  -- ---- where a shape stands, by where its inputs do

  -- a class that is the same has the lines too
  line-moves : (p : Expr → Bool) (g h : ℕ) → root g ≡ root h → has_line K E p g ≡ true → has_line K E p h ≡ true
  line-moves p g h same is =
      let it = passing-line _ E is in
      let parts = and_parts _ _ it.passing in
      line-passes _ E it.number it.line it.stands (and_from _ _ (roots-same _ _ (same-roots _ _ parts.0 ∙ same)) parts.1)

  abbrev IsMoving : (ℕ → Bool) → Type 0
  IsMoving p = (g h : ℕ) → root g ≡ root h → p g ≡ true → p h ≡ true

  moving-layer : (y : Shape-F Shape) → IsMoving (standing_layer K E (map-Shape Shape (ℕ → Bool) (is_there K E) y))
  moving-layer (Shape-F.Class k) = λ g h same is. roots-same k h (same-roots k g is ∙ same)
  moving-layer (Shape-F.Select C x) = line-moves _
  moving-layer (Shape-F.Join C a b) = line-moves _
  moving-layer (Shape-F.LeftJoin C a b) = line-moves _
  moving-layer (Shape-F.Semi C a b) = line-moves _
  moving-layer (Shape-F.Anti S M a b) = line-moves _
  moving-layer (Shape-F.Keep L x) = line-moves _
  moving-layer (Shape-F.Distinct x) = line-moves _
  moving-layer (Shape-F.Group L G x) = line-moves _

  moving-step : (y : Shape-F Shape) → IsMoving (is_there K E (roll-Shape y))
  unfolding is_there
  moving-step y = subst IsMoving (sym (fold-roll-Shape (ℕ → Bool) (standing_layer K E) y)) (moving-layer y)

  abbrev M : Shape → Type 0
  M s = IsMoving (is_there K E s)

  moves : (s : Shape) → M s
  moves = ind-Shape M (λ x y is. moving-step x)

  -- the line that stands where a shape does
  module _ (f : ℕ → Expr) (is : IsOne f) (x : Shape) where
    over-line : (g : ℕ) (l : Expr) → is_there K E x g ≡ true → AreAlike root (f g) l → is_over_one K f (is_there K E x) l ≡ true
    over-line g l there alike_ = by (children l) (sym (rooted-children root l) ∙ ap children (sym alike_) ∙ is.takes_one g)
      where
        by : (L : List ℕ) → map root L ≡ root g ∷ [] → over_one_of K f (is_there K E x) l L ≡ true
        by [] e = cc
        by (h ∷ []) e =
            let same : root h ≡ root g = cc in
            and_from _ _ (moves x g h (sym same) there) (are-alike instances E (f h) l (is.keeps h g same ∙ alike_))
        by (h ∷ j ∷ others) e = cc

    one-stands : (s : Shape) → ((g : ℕ) → is_there K E s g ≡ has_line K E (is_over_one K f (is_there K E x)) g) → (o found : Option ℕ) → StandsAs K E x o → OneAnswers E f o found → StandsAs K E s found
    one-stands s eq None found none at = subst (StandsAs K E s) (sym at) (λ y. not-true _ (λ yes_.
        let it = passing-line _ E (sym (eq y) ∙ yes_) in
        let a = over-one f _ it.line.expr (and_parts _ _ it.passing).1 in
        sym a.passes_it ∙ none a.input))
    one-stands s eq (Some g) (Some y) there it = eq y ∙ line-passes _ E it.number it.line it.stands (and_from _ _ (roots-same _ _ (ap root it.class_is)) (over-line g it.line.expr there it.alike))
    one-stands s eq (Some g) None there none = λ y. not-true _ (λ yes_.
        let it = passing-line _ E (sym (eq y) ∙ yes_) in
        let a = over-one f _ it.line.expr (and_parts _ _ it.passing).1 in
        none it.number it.line it.stands (is.keeps g a.input (unique-class x g a.input there a.passes_it) ∙ a.alike_it))

  module _ (f : ℕ → ℕ → Expr) (is : IsTwo f) (a b : Shape) where
    over-lines : (g h : ℕ) (l : Expr) → is_there K E a g ≡ true → is_there K E b h ≡ true → AreAlike root (f g h) l → is_over_two K f (is_there K E a) (is_there K E b) l ≡ true
    over-lines g h l there also alike_ = by (children l) (sym (rooted-children root l) ∙ ap children (sym alike_) ∙ is.takes_two g h)
      where
        by : (L : List ℕ) → map root L ≡ root g ∷ root h ∷ [] → over_two_of K f (is_there K E a) (is_there K E b) l L ≡ true
        by [] e = cc
        by (j ∷ []) e = cc
        by (j ∷ k ∷ []) e =
            let first : root j ≡ root g = cc in
            let second : root k ≡ root h = cc in
            and_from _ _ (and_from _ _ (moves a g j (sym first) there) (moves b h k (sym second) also)) (are-alike instances E (f j k) l (is.keeps j g k h first second ∙ alike_))
        by (j ∷ k ∷ m ∷ others) e = cc

    nowhere : (s : Shape) → ((g : ℕ) → is_there K E s g ≡ has_line K E (is_over_two K f (is_there K E a) (is_there K E b)) g)
        → ((x : Expr) → OverTwo f (is_there K E a) (is_there K E b) x → (n : ℕ) (l : matches.Line) → member E n ≡ Some l → l.expr ≡ x → true ≡ false) → (y : ℕ) → is_there K E s y ≡ false
    nowhere s eq never y = not-true _ (λ yes_.
        let it = passing-line _ E (sym (eq y) ∙ yes_) in
        never it.line.expr (over-two f _ _ it.line.expr (and_parts _ _ it.passing).1) it.number it.line it.stands refl)

    two-stands : (s : Shape) → ((g : ℕ) → is_there K E s g ≡ has_line K E (is_over_two K f (is_there K E a) (is_there K E b)) g) → (o p found : Option ℕ)
        → StandsAs K E a o → StandsAs K E b p → TwoAnswers E f o p found → StandsAs K E s found
    two-stands s eq None p found none also at = subst (StandsAs K E s) (sym at) (nowhere s eq (λ x c n l there is. sym c.passes_left ∙ none c.left))
    two-stands s eq (Some g) None found there none at = subst (StandsAs K E s) (sym at) (nowhere s eq (λ x c n l there is. sym c.passes_right ∙ none c.right))
    two-stands s eq (Some g) (Some h) (Some y) there also it =
        eq y ∙ line-passes _ E it.number it.line it.stands (and_from _ _ (roots-same _ _ (ap root it.class_is)) (over-lines g h it.line.expr there also it.alike))
    two-stands s eq (Some g) (Some h) None there also none = nowhere s eq (λ x c n l at same.
        none n l at (is.keeps g c.left h c.right (unique-class a g c.left there c.passes_left) (unique-class b h c.right also c.passes_right) ∙ c.alike_it ∙ ap (rooted root) (sym same)))

  pub stands_class : (h : ℕ) → StandsAs K E (Class h) (Some h)
  stands_class h = there_class K E h h ∙ roots-same h h refl

  pub stands_select : (C : List Condition) (x : Shape) (o found : Option ℕ) → StandsAs K E x o → OneAnswers E (expr.Select C) o found → StandsAs K E (Select C x) found
  stands_select C x = one-stands (expr.Select C) (is-select C) x (Select C x) (there_select K E C x)

  pub stands_keep : (L : List ℕ) (x : Shape) (o found : Option ℕ) → StandsAs K E x o → OneAnswers E (expr.Keep L) o found → StandsAs K E (Keep L x) found
  stands_keep L x = one-stands (expr.Keep L) (is-keep L) x (Keep L x) (there_keep K E L x)

  pub stands_distinct : (x : Shape) (o found : Option ℕ) → StandsAs K E x o → OneAnswers E expr.Distinct o found → StandsAs K E (Distinct x) found
  stands_distinct x = one-stands expr.Distinct is-distinct x (Distinct x) (there_distinct K E x)

  pub stands_group : (L : List ℕ) (G : List Aggregation) (x : Shape) (o found : Option ℕ) → StandsAs K E x o → OneAnswers E (expr.Group L G) o found → StandsAs K E (shape.Group L G x) found
  stands_group L G x = one-stands (expr.Group L G) (is-group L G) x (shape.Group L G x) (there_group K E L G x)

  pub stands_join : (C : List Condition) (a b : Shape) (o p found : Option ℕ) → StandsAs K E a o → StandsAs K E b p → TwoAnswers E (expr.Join C) o p found → StandsAs K E (Join C a b) found
  stands_join C a b = two-stands (expr.Join C) (is-join C) a b (Join C a b) (there_join K E C a b)

  pub stands_left_join : (C : List Condition) (a b : Shape) (o p found : Option ℕ) → StandsAs K E a o → StandsAs K E b p → TwoAnswers E (expr.LeftJoin C) o p found → StandsAs K E (LeftJoin C a b) found
  stands_left_join C a b = two-stands (expr.LeftJoin C) (is-left_join C) a b (LeftJoin C a b) (there_left_join K E C a b)

  pub stands_semi : (C : List Condition) (a b : Shape) (o p found : Option ℕ) → StandsAs K E a o → StandsAs K E b p → TwoAnswers E (expr.Semi C) o p found → StandsAs K E (Semi C a b) found
  stands_semi C a b = two-stands (expr.Semi C) (is-semi C) a b (Semi C a b) (there_semi K E C a b)

  pub stands_anti : (S T : List Condition) (a b : Shape) (o p found : Option ℕ) → StandsAs K E a o → StandsAs K E b p → TwoAnswers E (expr.Anti S T) o p found → StandsAs K E (Anti S T a b) found
  stands_anti S T a b = two-stands (expr.Anti S T) (is-anti S T) a b (Anti S T a b) (there_anti K E S T a b)

  -- ---- whether it stands in a class

  pub stands_there : (s : Shape) (g h : ℕ) (b : Bool) → StandsAs K E s (Some g) → b ≡ are_same E g h → b ≡ is_there K E s h
  stands_there s g h true there is = sym (moves s g h (same-roots g h (sym is)) there)
  stands_there s g h false there is = sym (not-true _ (λ also. sym (roots-same g h (unique-class s g h there also)) ∙ sym is))

  pub stands_nowhere : (s : Shape) (h : ℕ) → StandsAs K E s None → false ≡ is_there K E s h
  stands_nowhere s h none = sym (none h)

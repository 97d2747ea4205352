-- A shape that lines spell out stands in the class that they end at: the first of them has its expression, and the others those of its inputs.
use Rattle.std.proofs.Common.{◌≡◌, refl, ap, sym, ◌∙◌, subst, ℕ, Bool, true, false, ◌&&◌, if◌then◌else◌, List, [], ◌∷◌, ◌++◌, Option, Some, None}
use Rattle.std.specs.Option.{option_and_then}
use Rattle.std.proofs.lemmas.Bool.{and_from, eq-eqb, eqb-true}
use Rattle.query.specs.declared.query.TableInstance.{TableInstance}
use Rattle.algebra.specs.declared.expr.Aggregation.{Aggregation}
use Rattle.algebra.specs.declared.expr.Expr.{Expr}
use Rattle.algebra.specs.declared.expr.Expr.TheVariants as expr
use Rattle.algebra.specs.Equality.{same_expr}
use Rattle.algebra.specs.Expressions.{children}
use Rattle.algebra.proofs.Same.{equal_expr}
use Rattle.props.specs.Knowledge.{Knowledge}
use Rattle.rules.specs.declared.shape.Shape.{Shape, roll-Shape, map-Shape, ind-Shape}
use Rattle.rules.specs.declared.shape.Shape.TheOpen.{Shape-F}
use Rattle.rules.specs.declared.shape.Shape.TheVariants as shape
use Rattle.rules.specs.declared.shape.Shape.TheVariants.{rolls-Class, rolls-Select, rolls-Join, rolls-LeftJoin, rolls-Semi, rolls-Anti, rolls-Keep, rolls-Distinct, rolls-Group}
use Rattle.rules.specs.Matches as matches
use Rattle.derivation.specs.Logs as logs
use Rattle.derivation.specs.Logs.{Log, member, least, are_same}
use Rattle.derivation.specs.Spelling.{Spelt, class_with, class_by, spelling}
use Rattle.logs.proofs.Equations.{spelling-at}
use Rattle.bindings.specs.declared.binding.Binding.{Binding}
use Rattle.bindings.specs.declared.rule_results.RuleResult.{RuleResult}
use Rattle.bindings.specs.Bindings.{given_by_binding}
use Rattle.bindings.specs.Spelt.{IsPlaced}
use Rattle.closure.specs.Closed.{over_one_of, over_two_of, is_over_one, is_over_two, has_line, is_there}
use Rattle.closure.specs.Lines.{stands_in_class, has_result_of}
use Rattle.closure.proofs.Agreeing.{are-alike}
use Rattle.closure.proofs.AnyLine.{line-passes}
use Rattle.closure.proofs.Shapes.{there_class, there_select, there_join, there_left_join, there_semi, there_anti, there_keep, there_distinct, there_group}

abbrev class-or : ℕ → Option (ℕ × List ℕ) → ℕ
class-or h None = h
class-or h (Some p) = p.0

same-class : (k h : ℕ) (x y : List ℕ) → ◌≡◌ {A = Option (ℕ × List ℕ)} (Some (k, x)) (Some (h, y)) → k ≡ h
same-class k h x y is = ap (class-or h) is

module _ (instances : List TableInstance) (E : Log) where
  abbrev K : Knowledge
  K = logs.knowledge instances E

  -- wherever lines spell it, it stands
  abbrev Stands : Shape → Type 0
  Stands s = (h : ℕ) (makes rest : List ℕ) → (spelling (member E) s).class makes ≡ Some (h, rest) → (g : ℕ) → are_same E h g ≡ true → is_there K E s g ≡ true

  itself : (g : ℕ) → are_same E g g ≡ true
  itself g = eq-eqb _ _ refl

  -- the class of a line with the expression that is spelt, and the lines behind
  abbrev line-class : ℕ → Option (Expr × List ℕ) → Option (ℕ × List ℕ)
  line-class m spelt = option_and_then (λ p. option_and_then (λ g. Some (g, p.1)) (class_with p.0 (member E m))) spelt

  -- a line with an expression that passes
  line-there : (p : Expr → Bool) (x : Expr) (m h g : ℕ) → class_with x (member E m) ≡ Some h → are_same E h g ≡ true → p x ≡ true → has_line K E p g ≡ true
  line-there p x m h g found same is = by (member E m) refl found
    where
      by : (o : Option matches.Line) → member E m ≡ o → class_with x o ≡ Some h → has_line K E p g ≡ true
      by None at none = cc
      by (Some l) at some = or (same_expr l.expr x) refl some
        where
          or : (b : Bool) → same_expr l.expr x ≡ b → (if b then Some l.class else None) ≡ Some h → has_line K E p g ≡ true
          or false other none = cc
          or true equal some =
              let class_is : l.class ≡ h = cc in
              line-passes _ E m l at (and_from _ _ (ap (λ k. are_same E k g) class_is ∙ same) (ap p (equal_expr _ _ equal) ∙ is))

  -- ---- operators over one class

  module _ (f : ℕ → Expr) (takes : (k : ℕ) → children (f k) ≡ k ∷ []) (x : Shape) (stands : Stands x) where
    abbrev one : Spelt Expr
    one = λ makes. option_and_then (λ p. Some (f p.0, p.1)) ((spelling (member E) x).class makes)

    over-one : (k : ℕ) → is_there K E x k ≡ true → is_over_one K f (is_there K E x) (f k) ≡ true
    over-one k there = ap (over_one_of K f (is_there K E x) (f k)) (takes k) ∙ and_from _ _ there (are-alike instances E (f k) (f k) refl)

    one-there : (h : ℕ) (makes rest : List ℕ) → class_by (member E) one makes ≡ Some (h, rest) → (g : ℕ) → are_same E h g ≡ true → has_line K E (is_over_one K f (is_there K E x)) g ≡ true
    one-there h [] rest is g same = cc
    one-there h (m ∷ makes) rest is g same = by ((spelling (member E) x).class makes) refl is
      where
        by : (o : Option (ℕ × List ℕ)) → (spelling (member E) x).class makes ≡ o
            → line-class m (option_and_then (λ p. Some (f p.0, p.1)) o) ≡ Some (h, rest)
            → has_line K E (is_over_one K f (is_there K E x)) g ≡ true
        by None at none = cc
        by (Some p) at some = at-class (class_with (f p.0) (member E m)) refl some
          where
            at-class : (o : Option ℕ) → class_with (f p.0) (member E m) ≡ o → option_and_then {U = ℕ × List ℕ} (λ g. Some (g, p.1)) o ≡ Some (h, rest) → has_line K E (is_over_one K f (is_there K E x)) g ≡ true
            at-class None found none = cc
            at-class (Some k) found is =
                let class_is : k ≡ h = same-class k h p.1 rest is in
                line-there _ (f p.0) m h g (found ∙ ap Some class_is) same (over-one p.0 (stands p.0 makes p.1 at p.0 (itself p.0)))

  one-stands : (f : ℕ → Expr) (takes : (k : ℕ) → children (f k) ≡ k ∷ []) (x : Shape) → Stands x → (s : Shape) → ((makes : List ℕ) → (spelling (member E) s).class makes ≡ class_by (member E) (λ makes. option_and_then (λ p. Some (f p.0, p.1)) ((spelling (member E) x).class makes)) makes)
      → ((g : ℕ) → is_there K E s g ≡ has_line K E (is_over_one K f (is_there K E x)) g) → Stands s
  one-stands f takes x stands s spelt there h makes rest is g same = there g ∙ one-there f takes x stands h makes rest (sym (spelt makes) ∙ is) g same

  -- ---- operators over two

  module _ (f : ℕ → ℕ → Expr) (takes : (j k : ℕ) → children (f j k) ≡ j ∷ k ∷ []) (a b : Shape) (left : Stands a) (right : Stands b) where
    abbrev both : Spelt Expr
    both = λ makes. option_and_then (λ p. option_and_then (λ q. Some (f p.0 q.0, q.1)) ((spelling (member E) b).class p.1)) ((spelling (member E) a).class makes)

    over-two : (j k : ℕ) → is_there K E a j ≡ true → is_there K E b k ≡ true → is_over_two K f (is_there K E a) (is_there K E b) (f j k) ≡ true
    over-two j k there also = ap (over_two_of K f (is_there K E a) (is_there K E b) (f j k)) (takes j k) ∙ and_from _ _ (and_from _ _ there also) (are-alike instances E (f j k) (f j k) refl)

    two-there : (h : ℕ) (makes rest : List ℕ) → class_by (member E) both makes ≡ Some (h, rest) → (g : ℕ) → are_same E h g ≡ true → has_line K E (is_over_two K f (is_there K E a) (is_there K E b)) g ≡ true
    two-there h [] rest is g same = cc
    two-there h (m ∷ makes) rest is g same = by ((spelling (member E) a).class makes) refl is
      where
        by : (o : Option (ℕ × List ℕ)) → (spelling (member E) a).class makes ≡ o
            → line-class m (option_and_then (λ p. option_and_then (λ q. Some (f p.0 q.0, q.1)) ((spelling (member E) b).class p.1)) o) ≡ Some (h, rest)
            → has_line K E (is_over_two K f (is_there K E a) (is_there K E b)) g ≡ true
        by None at none = cc
        by (Some p) at some = next ((spelling (member E) b).class p.1) refl some
          where
            next : (o : Option (ℕ × List ℕ)) → (spelling (member E) b).class p.1 ≡ o → line-class m (option_and_then (λ q. Some (f p.0 q.0, q.1)) o) ≡ Some (h, rest)
                → has_line K E (is_over_two K f (is_there K E a) (is_there K E b)) g ≡ true
            next None behind none = cc
            next (Some q) behind some = at-class (class_with (f p.0 q.0) (member E m)) refl some
              where
                at-class : (o : Option ℕ) → class_with (f p.0 q.0) (member E m) ≡ o → option_and_then {U = ℕ × List ℕ} (λ g. Some (g, q.1)) o ≡ Some (h, rest)
                    → has_line K E (is_over_two K f (is_there K E a) (is_there K E b)) g ≡ true
                at-class None found none = cc
                at-class (Some k) found is =
                    let class_is : k ≡ h = same-class k h q.1 rest is in
                    line-there _ (f p.0 q.0) m h g (found ∙ ap Some class_is) same
                    (over-two p.0 q.0 (left p.0 makes p.1 at p.0 (itself p.0)) (right q.0 p.1 q.1 behind q.0 (itself q.0)))

  two-stands : (f : ℕ → ℕ → Expr) (takes : (j k : ℕ) → children (f j k) ≡ j ∷ k ∷ []) (a b : Shape) → Stands a → Stands b → (s : Shape)
      → ((makes : List ℕ) → (spelling (member E) s).class makes
      ≡ class_by (member E) (λ makes. option_and_then (λ p. option_and_then (λ q. Some (f p.0 q.0, q.1)) ((spelling (member E) b).class p.1)) ((spelling (member E) a).class makes)) makes)
      → ((g : ℕ) → is_there K E s g ≡ has_line K E (is_over_two K f (is_there K E a) (is_there K E b)) g) → Stands s
  two-stands f takes a b left right s spelt there h makes rest is g same = there g ∙ two-there f takes a b left right h makes rest (sym (spelt makes) ∙ is) g same

  -- ---- shapes

  abbrev Part : Type 0
  Part = (s : Shape) × Stands s

  layer : (y : Shape-F Part) → Stands (roll-Shape (map-Shape Part Shape (λ p. p.0) y))
  layer (Shape-F.Class k) = subst Stands (sym (rolls-Class k)) (λ h makes rest is g same.
      let at : ◌≡◌ {A = Option (ℕ × List ℕ)} (Some (k, makes)) (Some (h, rest)) = sym (ap (λ s. s.class makes) (spelling-at (member E) (Shape-F.Class k) _ (rolls-Class k))) ∙ is in
      let class_is : k ≡ h = same-class k h makes rest at in
      there_class K E k g ∙ ap (λ j. are_same E j g) class_is ∙ same)
  layer (Shape-F.Select C x) = subst Stands (sym (rolls-Select C x.0)) (one-stands (expr.Select C) (λ k. refl) x.0 x.1 _ (λ makes. ap (λ s. s.class makes) (spelling-at (member E) (Shape-F.Select C x.0) _ (rolls-Select C x.0))) (there_select K E C x.0))
  layer (Shape-F.Join C a b) = subst Stands (sym (rolls-Join C a.0 b.0)) (two-stands (expr.Join C) (λ j k. refl) a.0 b.0 a.1 b.1 _ (λ makes. ap (λ s. s.class makes) (spelling-at (member E) (Shape-F.Join C a.0 b.0) _ (rolls-Join C a.0 b.0))) (there_join K E C a.0 b.0))
  layer (Shape-F.LeftJoin C a b) = subst Stands (sym (rolls-LeftJoin C a.0 b.0)) (two-stands (expr.LeftJoin C) (λ j k. refl) a.0 b.0 a.1 b.1 _ (λ makes. ap (λ s. s.class makes) (spelling-at (member E) (Shape-F.LeftJoin C a.0 b.0) _ (rolls-LeftJoin C a.0 b.0))) (there_left_join K E C a.0 b.0))
  layer (Shape-F.Semi C a b) = subst Stands (sym (rolls-Semi C a.0 b.0)) (two-stands (expr.Semi C) (λ j k. refl) a.0 b.0 a.1 b.1 _ (λ makes. ap (λ s. s.class makes) (spelling-at (member E) (Shape-F.Semi C a.0 b.0) _ (rolls-Semi C a.0 b.0))) (there_semi K E C a.0 b.0))
  layer (Shape-F.Anti S M a b) = subst Stands (sym (rolls-Anti S M a.0 b.0)) (two-stands (expr.Anti S M) (λ j k. refl) a.0 b.0 a.1 b.1 _ (λ makes. ap (λ s. s.class makes) (spelling-at (member E) (Shape-F.Anti S M a.0 b.0) _ (rolls-Anti S M a.0 b.0))) (there_anti K E S M a.0 b.0))
  layer (Shape-F.Keep L x) = subst Stands (sym (rolls-Keep L x.0)) (one-stands (expr.Keep L) (λ k. refl) x.0 x.1 _ (λ makes. ap (λ s. s.class makes) (spelling-at (member E) (Shape-F.Keep L x.0) _ (rolls-Keep L x.0))) (there_keep K E L x.0))
  layer (Shape-F.Distinct x) = subst Stands (sym (rolls-Distinct x.0)) (one-stands expr.Distinct (λ k. refl) x.0 x.1 _ (λ makes. ap (λ s. s.class makes) (spelling-at (member E) (Shape-F.Distinct x.0) _ (rolls-Distinct x.0))) (there_distinct K E x.0))
  layer (Shape-F.Group L G x) = subst Stands (sym (rolls-Group L G x.0)) (one-stands (expr.Group L G) (λ k. refl) x.0 x.1 _ (λ makes. ap (λ s. s.class makes) (spelling-at (member E) (Shape-F.Group L G x.0) _ (rolls-Group L G x.0))) (there_group K E L G x.0))

  shape-stands : (s : Shape) → Stands s
  shape-stands = ind-Shape Stands (λ x y is. subst (λ z. Stands (roll-Shape z)) is (layer y))

-- a shape stands in the class that lines spell it out as, and in those that are the same
pub placed_stands : (instances : List TableInstance) (E : Log) (s : Shape) (h : ℕ) (makes rest : List ℕ) → (spelling (member E) s).class makes ≡ Some (h, rest) → (g : ℕ) → are_same E h g ≡ true
    → is_there (logs.knowledge instances E) E s g ≡ true
placed_stands instances E s h makes rest is g same = shape-stands instances E s h makes rest is g same

-- so does what the rule of a binding gives, of a class that is the same as its own
pub placed_result : (instances : List TableInstance) (own : List Aggregation) (E : Log) (b : Binding) (given : RuleResult) (h : ℕ) (makes : List ℕ) → given_by_binding instances E b ≡ Some given
    → IsPlaced instances own E given.shape h makes → are_same E given.class h ≡ true → has_result_of instances E b ≡ true
placed_result instances own E b given h makes is placed same =
    let turned : are_same E h given.class ≡ true = eq-eqb _ _ (sym (eqb-true _ _ same)) in
    ap (stands_in_class (logs.knowledge instances E) E) is ∙ placed_stands instances E given.shape h (makes ++ []) [] (placed.spelt []) given.class turned

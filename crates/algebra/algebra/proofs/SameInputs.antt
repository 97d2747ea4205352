-- Over classes that are the same, an expression has the same columns and the same bag.
use Rattle.std.proofs.Common.{◌≡◌, refl, sym, ◌∙◌, subst, ℕ, ◌==◌, true, ◌&&◌, List, [], ◌∷◌, ◌++◌, flat_map}
use Rattle.std.proofs.lemmas.Bool.{eq-eqb, or_left, or_right}
use Rattle.std.proofs.lemmas.Grind.{flat_map-append}
use Rattle.query.specs.declared.query.TableInstance.{TableInstance}
use Rattle.query.specs.Rows.{Tables}
use Rattle.algebra.specs.declared.condition.Condition.{Condition}
use Rattle.algebra.specs.declared.expr.Expr.{Expr}
use Rattle.algebra.specs.declared.expr.Expr.TheVariants.{Get, Select, Join, LeftJoin, Semi, Anti, Keep, Distinct, Group}
use Rattle.algebra.specs.Alike.{IsSameIn, SameInputs, ExpressionsKeepClasses}
use Rattle.algebra.specs.Columns.{ColumnSet, has, rising}
use Rattle.algebra.specs.Bags.{Test, Bag, SameBag, join, left_join, semi, anti, distinct}
use Rattle.algebra.specs.Conditions.{holds, allows, named_classes, classes_in}
use Rattle.algebra.specs.Expressions.{Classes, children, conditions, means, columns_of}
use Rattle.algebra.proofs.Lists.{two}
use Rattle.algebra.proofs.Puts.{among-append}
use Rattle.algebra.proofs.SameBags.{SameTest, select-same, join-same, left_join-same, semi-same, anti-same, keep-same, distinct-same}
use Rattle.algebra.proofs.SameConditions.{SameClasses, same-left, same-right, holds-among, allows-among}
use Rattle.algebra.proofs.SameGroups.{aggregated-same}
use Rattle.algebra.proofs.Sets.{has-rising, has-first}

pub has-second : (f g : ℕ) (gs : List ℕ) → has (f ∷ g ∷ gs) g ≡ true
has-second f g gs = or_right (f == g) _ (has-first g gs)

-- an operator on two bags, a test and the columns of the right one
abbrev Joining : Type 0
Joining = Test → ColumnSet → Bag → Bag → Bag

abbrev KeepsBags : Joining → Type 0
KeepsBags f = (p q : Test) (right : ColumnSet) (a b c d : Bag) → SameTest p q → SameBag a b → SameBag c d → SameBag (f p right a c) (f q right b d)

module _ (instances : List TableInstance) (D : Tables) (V W : Classes) where
  child : (x : Expr) → SameInputs V W x → (g : ℕ) → has (children x) g ≡ true → IsSameIn V W g g
  child x same g in_ = same g (among-append g (children x) (classes_in (conditions x)) ∙ or_left _ _ in_)

  subqueries : (x : Expr) → SameInputs V W x → SameClasses (flat_map named_classes (conditions x)) V.rows W.rows
  subqueries x same g in_ =
      (same g (among-append g (children x) (classes_in (conditions x)) ∙ or_right (has (children x) g) _ (has-rising g (flat_map named_classes (conditions x)) ∙ in_))).1

  -- a join goes by the columns of its right side
  joined : (f : Joining) → KeepsBags f → (p q : Test) (a b : ℕ) → SameTest p q → IsSameIn V W a a → IsSameIn V W b b
      → SameBag (f p (has (V.columns b)) (V.rows a) (V.rows b)) (f q (has (W.columns b)) (W.rows a) (W.rows b))
  joined f keeps p q a b tests left right =
      subst (λ K. SameBag (f p (has K) (V.rows a) (V.rows b)) (f q (has (W.columns b)) (W.rows a) (W.rows b))) (sym right.0)
      (keeps p q (has (W.columns b)) (V.rows a) (W.rows a) (V.rows b) (W.rows b) tests left.1 right.1)

  holds-inputs : (C : List Condition) (x : Expr) → conditions x ≡ C → SameInputs V W x → SameTest (holds V.rows C) (holds W.rows C)
  holds-inputs C x is same = holds-among C V.rows W.rows (subst (λ C. SameClasses (flat_map named_classes C) V.rows W.rows) is (subqueries x same))

  unsure-inputs : (S M : List Condition) (a b : ℕ) → SameInputs V W (Anti S M a b) → SameTest (λ r. holds V.rows S r && allows V.rows M r) (λ r. holds W.rows S r && allows W.rows M r)
  unsure-inputs S M a b same r =
      let all : SameClasses (flat_map named_classes S ++ flat_map named_classes M) V.rows W.rows
      = subst (λ gs. SameClasses gs V.rows W.rows) (flat_map-append named_classes S M) (subqueries (Anti S M a b) same) in
      two (λ p q. p && q)
      (holds-among S V.rows W.rows (same-left (flat_map named_classes S) (flat_map named_classes M) V.rows W.rows all) r)
      (allows-among M V.rows W.rows (same-right (flat_map named_classes S) (flat_map named_classes M) V.rows W.rows all) r)

  bag : (x : Expr) → SameInputs V W x → SameBag (means instances D V x) (means instances D W x)
  bag (Get o) same = λ e f. refl
  bag (Select C x) same = select-same _ _ _ _ (holds-inputs C (Select C x) refl same) (child (Select C x) same x (has-first x [])).1
  bag (Join C a b) same =
      joined join join-same (holds V.rows C) (holds W.rows C) a b (holds-inputs C (Join C a b) refl same) (child (Join C a b) same a (has-first a (b ∷ []))) (child (Join C a b) same b (has-second a b []))
  bag (LeftJoin C a b) same =
      joined left_join left_join-same (holds V.rows C) (holds W.rows C) a b (holds-inputs C (LeftJoin C a b) refl same) (child (LeftJoin C a b) same a (has-first a (b ∷ [])))
      (child (LeftJoin C a b) same b (has-second a b []))
  bag (Semi C a b) same =
      joined semi semi-same (holds V.rows C) (holds W.rows C) a b (holds-inputs C (Semi C a b) refl same) (child (Semi C a b) same a (has-first a (b ∷ []))) (child (Semi C a b) same b (has-second a b []))
  bag (Anti S M a b) same =
      joined anti anti-same (λ r. holds V.rows S r && allows V.rows M r) (λ r. holds W.rows S r && allows W.rows M r) a b (unsure-inputs S M a b same)
      (child (Anti S M a b) same a (has-first a (b ∷ []))) (child (Anti S M a b) same b (has-second a b []))
  bag (Keep K x) same = keep-same (has K) _ _ (child (Keep K x) same x (has-first x [])).1
  bag (Distinct x) same =
      let is : IsSameIn V W x x = child (Distinct x) same x (has-first x []) in
      subst (λ K. SameBag (distinct K (V.rows x)) (distinct (W.columns x) (W.rows x))) (sym is.0) (distinct-same (W.columns x) (V.rows x) (W.rows x) is.1)
  bag (Group K G x) same = aggregated-same K G _ _ (child (Group K G x) same x (has-first x [])).1

  both-columns : (K L M N : List ℕ) → K ≡ L → M ≡ N → rising (K ++ M) ≡ rising (L ++ N)
  both-columns K L M N e f = rw (e, f) refl

  columns : (x : Expr) → SameInputs V W x → columns_of instances V.columns x ≡ columns_of instances W.columns x
  columns (Get o) same = refl
  columns (Select C x) same = (child (Select C x) same x (has-first x [])).0
  columns (Join C a b) same = both-columns _ _ _ _ (child (Join C a b) same a (has-first a (b ∷ []))).0 (child (Join C a b) same b (has-second a b [])).0
  columns (LeftJoin C a b) same = both-columns _ _ _ _ (child (LeftJoin C a b) same a (has-first a (b ∷ []))).0 (child (LeftJoin C a b) same b (has-second a b [])).0
  columns (Semi C a b) same = (child (Semi C a b) same a (has-first a (b ∷ []))).0
  columns (Anti S M a b) same = (child (Anti S M a b) same a (has-first a (b ∷ []))).0
  columns (Keep K x) same = refl
  columns (Distinct x) same = (child (Distinct x) same x (has-first x [])).0
  columns (Group K G x) same = refl

pub expressions_keep_classes : ExpressionsKeepClasses
expressions_keep_classes instances D V W x same = (columns instances D V W x same, bag instances D V W x same)

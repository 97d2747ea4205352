-- What a rule gives is well formed if what it makes of its lines' expressions is.
use Rattle.std.proofs.Common.{◌≡◌, refl, ap, sym, ◌∙◌, subst, ℕ, Bool, true, ◌&&◌, List, [], ◌∷◌, ◌++◌, slice_get, Result, Ok, Option, Some, None}
use Rattle.std.specs.List.{AllByRecursion, list_all}
use Rattle.std.proofs.lemmas.Bool.{and_parts}
use Rattle.values.specs.Faults.{◌>>=◌, wanted}
use Rattle.query.specs.declared.query.TableInstance.{TableInstance}
use Rattle.algebra.specs.declared.condition.Condition.{Condition}
use Rattle.algebra.specs.declared.expr.Aggregation.{Aggregation}
use Rattle.algebra.specs.declared.expr.Expr.{Expr}
use Rattle.algebra.specs.declared.expr.Expr.TheVariants as expr
use Rattle.algebra.specs.Columns.{is_subset, rising}
use Rattle.algebra.specs.ConjunctParts.{union, part, rest}
use Rattle.algebra.specs.Expressions.{aggregate_columns, children, classes_pass, columns_of, is_formed, is_plain, names_own, sides_formed, subqueries_pass}
use Rattle.props.specs.Knowledge.{Knowledge}
use Rattle.rules.specs.declared.shape.Shape.{Shape}
use Rattle.rules.specs.declared.shape.Shape.TheVariants.{Class, Select, Join, LeftJoin, Semi, Anti, Keep, Distinct, Group}
use Rattle.rules.specs.declared.unfit.Unfit.{Unfit}
use Rattle.rules.specs.declared.unfit.Unfit.TheVariants.{Pattern}
use Rattle.rules.specs.Formed.{IsFormed, IsFormedLine, Rises, formed, groups_formed}
use Rattle.rules.specs.Bindings.{is_same_as}
use Rattle.rules.specs.Matches.{Line, Matched, one_line, two_lines}
use Rattle.rules.specs.Shapes.{selected}
use Rattle.rules.proofs.BoundLines.{Placed, IsPlaced, Binding, IsBound, Binds, all-placed}
use Rattle.rules.proofs.BoundForms.{one, one-binds, two_first, two_first-binds}
use Rattle.rules.proofs.FormedShapes as shapes
use Rattle.rules.proofs.FormedShapes.{AreApart, apart-at, apart-from}

-- a query's table instances and aggregates of its own, and of its classes what is known and which are founded
pub record Site : Type 0 where
  pub instances : List TableInstance
  pub own : List Aggregation
  pub classes : Knowledge
  pub founds : ℕ → Bool

module _ (S : Site) where
  abbrev K : Knowledge
  K = S.classes

  -- an expression that may stand
  pub record MayStand (x : Expr) : Type 0 where
    pub known : classes_pass S.founds x ≡ true
    pub formed : is_formed S.instances S.own K.columns x ≡ true

  abbrev pub Rising : Expr → Type 0
  Rising = Rises S.instances S.own K S.founds

  -- a shape that may stand, with its columns
  abbrev pub Is : Shape → List ℕ → Type 0
  Is = shapes.IsFormed S.instances S.own K.columns S.founds

  -- conditions that may stand
  abbrev pub Are : List Condition → Type 0
  Are = shapes.AreFormed S.instances S.own K.columns S.founds

  abbrev pub cols : Expr → List ℕ
  cols = columns_of S.instances K.columns

  -- where a rule says what it gives, and its columns otherwise
  pub given-is : (t s : Shape) (L M : List ℕ) → ◌≡◌ {A = Result Shape Unfit} (Ok t) (Ok s) → L ≡ M → Is t L → Is s M
  given-is t s L M same columns is = subst (λ s. Is s M) (let e : t ≡ s = cc in e) (subst (Is t) columns is)

  -- ---- what the parts of an expression are

  pub first-founded : (x : ℕ) (rest : Bool) → (list_all S.founds (x ∷ []) && rest) ≡ true → S.founds x ≡ true
  first-founded x rest known = (and_parts _ _ (and_parts _ _ known).0).0

  pub select-are : (C : List Condition) (x : ℕ) → MayStand (expr.Select C x) → Are C
  select-are C x stands = record { known = (and_parts _ _ stands.known).1; named = (and_parts _ _ stands.formed).0 }

  -- the sides of a join, and its conditions
  pub record Joined (C : List Condition) (a b : ℕ) : Type 0 where
    pub left : S.founds a ≡ true
    pub right : S.founds b ≡ true
    pub are : Are C
    pub plain : is_plain C ≡ true
    pub apart : AreApart (K.columns a) (K.columns b)

  pub joined : (C : List Condition) (a b : ℕ) → (list_all S.founds (a ∷ b ∷ []) && subqueries_pass S.founds C) ≡ true
      → (names_own S.instances S.own C && sides_formed C (K.columns a) (K.columns b)) ≡ true → Joined C a b
  joined C a b known formed =
      let names = and_parts _ _ known in
      let sides = and_parts _ _ names.0 in
      let parts = and_parts _ _ formed in
      let side = and_parts _ _ parts.1 in
      record {
        left = sides.0;
        right = (and_parts _ _ sides.1).0;
        are = record { known = names.1; named = parts.0 };
        plain = side.0;
        apart = apart-at _ _ side.1;
      }

  -- ---- shapes over inputs that may stand

  pub class-stands : (g : ℕ) → S.founds g ≡ true → Is (Class g) (K.columns g)
  class-stands = shapes.class-formed S.instances S.own K.columns S.founds

  pub select-stands : (C : List Condition) (x : Shape) (L : List ℕ) → Is x L → Are C → Is (Select C x) L
  select-stands = shapes.select-formed S.instances S.own K.columns S.founds

  pub selected-stands : (C : List Condition) (x : Shape) (L : List ℕ) → Is x L → Are C → Is (selected C x) L
  selected-stands [] x L is are = is
  selected-stands (c ∷ C) x L is are = select-stands (c ∷ C) x L is are

  pub join-stands : (C : List Condition) (a b : Shape) (A B : List ℕ) → Is a A → Is b B → Are C → is_plain C ≡ true → AreApart A B → Is (Join C a b) (rising (A ++ B))
  join-stands C a b A B left right are plain apart = shapes.join-formed S.instances S.own K.columns S.founds C a b A B left right are plain (apart-from A B apart)

  pub left_join-stands : (C : List Condition) (a b : Shape) (A B : List ℕ) → Is a A → Is b B → Are C → is_plain C ≡ true → AreApart A B → Is (LeftJoin C a b) (rising (A ++ B))
  left_join-stands C a b A B left right are plain apart = shapes.left_join-formed S.instances S.own K.columns S.founds C a b A B left right are plain (apart-from A B apart)

  pub semi-stands : (C : List Condition) (a b : Shape) (A B : List ℕ) → Is a A → Is b B → Are C → is_plain C ≡ true → AreApart A B → Is (Semi C a b) A
  semi-stands C a b A B left right are plain apart = shapes.semi-formed S.instances S.own K.columns S.founds C a b A B left right are plain (apart-from A B apart)

  pub anti-stands : (N M : List Condition) (a b : Shape) (A B : List ℕ) → Is a A → Is b B → Are (N ++ M) → is_plain (N ++ M) ≡ true → AreApart A B → Is (Anti N M a b) A
  anti-stands N M a b A B left right are plain apart = shapes.anti-formed S.instances S.own K.columns S.founds N M a b A B left right are plain (apart-from A B apart)

  pub keep-stands : (L : List ℕ) (x : Shape) (X : List ℕ) → Is x X → is_subset L X ≡ true → Is (Keep L x) L
  keep-stands = shapes.keep-formed S.instances S.own K.columns S.founds

  pub distinct-stands : (x : Shape) (X : List ℕ) → Is x X → Is (Distinct x) X
  distinct-stands = shapes.distinct-formed S.instances S.own K.columns S.founds

  pub group-stands : (L : List ℕ) (G : List Aggregation) (x : Shape) (X : List ℕ) → Is x X → groups_formed S.instances S.own K.columns S.founds L G X ≡ true → Is (Group L G x) (rising (L ++ aggregate_columns G))
  group-stands = shapes.group-formed S.instances S.own K.columns S.founds

  -- conditions that are moved
  pub part-are : (p : Condition → Bool) (C : List Condition) → Are C → Are (part p C)
  part-are = shapes.part-formed S.instances S.own K.columns S.founds

  pub rest-are : (p : Condition → Bool) (C : List Condition) → Are C → Are (rest p C)
  rest-are = shapes.rest-formed S.instances S.own K.columns S.founds

  pub union-are : (C D : List Condition) → Are C → Are D → Are (union C D)
  union-are = shapes.union-formed S.instances S.own K.columns S.founds

-- ---- what is bound

-- an expression that may stand, of a class, if there is one: it has its columns
pub record StandsForSome (S : Site) (b : Placed) : Type 0 where
  pub stands : MayStand S b.1
  pub columns : (g : ℕ) → b.0 ≡ Some g → S.classes.columns g ≡ cols S b.1

abbrev pub BoundIsFormed : {X : Type 0} → Binding X → (Knowledge → X → Result Shape Unfit) → Type 0
BoundIsFormed {X} B rewrite = (S : Site) (x : X) (s : Shape) → MayStand S (B.top x) → Rising S (B.top x) → B.IsSo x → AllByRecursion (StandsForSome S) (B.below x) → rewrite S.classes x ≡ Ok s
    → Is S s (cols S (B.top x))

pub bound-formed : {X : Type 0} (B : Binding X) → Binds B → (rewrite : Knowledge → X → Result Shape Unfit) → BoundIsFormed B rewrite → IsFormed (λ m. wanted Pattern (B.bound m) >>= rewrite m.classes)
bound-formed {X} B binds rewrite made instances own classes founds agree pick top others s is all rise = by (B.bound m) refl is
  where
    S : Site
    S = record { instances = instances; own = own; classes = classes; founds = founds }

    m : Matched
    m = record { lines = top ∷ others; pick = pick; classes = classes }

    Stands : Line → Type 0
    Stands = IsFormedLine instances own classes founds

    stands-for : (b : Placed) (l : Line) → IsPlaced classes b l → Stands l → StandsForSome S b
    stands-for b l placed line = subst (λ y. StandsForSome S (b.0, y)) placed.expr (record {
      stands = record { known = line.known; formed = line.formed };
      columns = λ g at. agree g l.class (sym (ap (λ o. is_same_as classes o l.class) at) ∙ placed.class) ∙ sym line.columns;
    })

    Given : Type 0
    Given = ((formed instances own classes.columns founds s).is_formed ≡ true) × ((formed instances own classes.columns founds s).columns ≡ classes.columns top.class)

    at : (x : X) → IsBound B m x → rewrite classes x ≡ Ok s → Given
    at x i is =
        let first : top ≡ i.first = let e : m.lines ≡ i.first ∷ i.others = i.lines in cc in
        let rest : others ≡ i.others = let e : m.lines ≡ i.first ∷ i.others = i.lines in cc in
        let same : top.expr ≡ B.top x = ap (λ (l : Line). l.expr) first ∙ i.top in
        let below = all-placed classes Stands (StandsForSome S) stands-for (B.below x) i.others i.below (subst (AllByRecursion Stands) rest all.1) in
        let made_ = made S x s (subst (MayStand S) same (record { known = all.0.known; formed = all.0.formed })) (subst (Rising S) same rise) i.so below is in
        (made_.formed_, made_.columns_ ∙ ap (cols S) (sym same) ∙ all.0.columns)

    by : (o : Option X) → B.bound m ≡ o → (wanted Pattern o >>= rewrite classes) ≡ Ok s → Given
    by None bound is = cc
    by (Some x) bound is = at x (binds m x bound) is

-- ---- what is matched

-- what is made of an expression that may stand may stand, with its columns
abbrev pub OneIsFormed : (Knowledge → Expr → Result Shape Unfit) → Type 0
OneIsFormed rewrite = (S : Site) (x : Expr) (s : Shape) → MayStand S x → Rising S x → rewrite S.classes x ≡ Ok s → Is S s (cols S x)

-- so it is with two, the second of the class that the first takes first
abbrev pub TwoAreFormed : (Knowledge → Expr → Expr → Result Shape Unfit) → Type 0
TwoAreFormed rewrite = (S : Site) (x y : Expr) (s : Shape) → MayStand S x → MayStand S y → ((g : ℕ) (others : List ℕ) → children x ≡ g ∷ others → S.classes.columns g ≡ cols S y)
    → rewrite S.classes x y ≡ Ok s → Is S s (cols S x)

pub one-formed : (rewrite : Knowledge → Expr → Result Shape Unfit) → OneIsFormed rewrite → IsFormed (λ m. wanted Pattern (one_line m) >>= rewrite m.classes)
one-formed rewrite made = bound-formed one one-binds rewrite (λ S x s stands rise so of. made S x s stands rise)

pub two-formed : (rewrite : Knowledge → Expr → Expr → Result Shape Unfit) → TwoAreFormed rewrite → IsFormed (λ m. wanted Pattern (two_lines m) >>= λ l. rewrite m.classes l.0 l.1)
two-formed rewrite made = bound-formed two_first two_first-binds (λ K l. rewrite K l.0 l.1)
    (λ S l s stands rise so of. made S l.0 l.1 s stands of.0.stands (λ g others first. of.0.columns g (ap (λ L. slice_get L 0) first)))

-- Classes keep their meaning while lines are added. The lists stand last first.
use Rattle.std.proofs.Common.{◌≡◌, refl, ap, sym, ◌∙◌, ℕ, ◌+◌, ◌-◌, ◌<◌, ◌≤◌, List, [], ◌∷◌, ◌++◌, length, length-append, arith}
use Rattle.std.proofs.lemmas.Bool.{eq-eqb, ne_eqb}
use Rattle.query.specs.declared.query.TableInstance.{TableInstance}
use Rattle.query.specs.Rows.{Tables}
use Rattle.algebra.specs.declared.expr.Expr.{Expr}
use Rattle.algebra.specs.Bags.{Env}
use Rattle.algebra.specs.Expressions.{means, columns_of}
use Rattle.algebra.specs.Classes.{class_rows, class_columns, classes}
use Rattle.frame.specs.Frames.{last}

-- the first list is the second with more lines
abbrev pub Grows : List Expr → List Expr → Type 0
Grows F E = (M : List Expr) × (F ≡ M ++ E)

pub grows-none : (E : List Expr) → Grows E E
grows-none E = ([], refl)

pub grows-one : (x : Expr) (E : List Expr) → Grows (x ∷ E) E
grows-one x E = (x ∷ [], refl)

assoc : (M N E : List Expr) → (M ++ N) ++ E ≡ M ++ (N ++ E)
assoc [] N E = refl
assoc (x ∷ M) N E = ap (λ F. x ∷ F) (assoc M N E)

pub grows-more : (G F E : List Expr) → Grows G F → Grows F E → Grows G E
grows-more G F E g f = (g.0 ++ f.0, g.1 ∙ ap (λ Z. g.0 ++ Z) f.1 ∙ sym (assoc g.0 f.0 E))

pub grows-longer : (F E : List Expr) → Grows F E → length E ≤ length F
grows-longer F E g = let e : length F ≡ length g.0 + length E = ap length g.1 ∙ length-append g.0 E in omega (arith, e)

pub grows-some : (F E : List Expr) → Grows F E → 0 < length E → 0 < length F
grows-some F E g some = omega (arith, grows-longer F E g, some)

pub last-below : (E : List Expr) → 0 < length E → last E < length E
last-below [] h = absurd (omega (arith, h))
last-below (x ∷ E) h = omega arith

pub last-is : (E : List Expr) → last E ≡ length E - 1
last-is [] = omega arith
last-is (x ∷ E) = omega arith

module _ (instances : List TableInstance) where
  later-columns : (M E : List Expr) (g : ℕ) → g < length E → class_columns instances (M ++ E) g ≡ class_columns instances E g
  later-columns [] E g lt = refl
  later-columns (x ∷ M) E g lt = rw (ne_eqb g (length (M ++ E)) (λ is. absurd (omega (arith, is, lt, length-append M E)))) (later-columns M E g lt)

  pub kept-columns : (F E : List Expr) (g : ℕ) → Grows F E → g < length E → class_columns instances F g ≡ class_columns instances E g
  kept-columns F E g grows lt = ap (λ Z. class_columns instances Z g) grows.1 ∙ later-columns grows.0 E g lt

  pub top-columns : (x : Expr) (E : List Expr) → class_columns instances (x ∷ E) (length E) ≡ columns_of instances (class_columns instances E) x
  top-columns x E = rw (eq-eqb (length E) (length E) refl) refl

  module _ (D : Tables) where
    later-rows : (M E : List Expr) (g : ℕ) (e : Env) → g < length E → class_rows instances D (M ++ E) g e ≡ class_rows instances D E g e
    later-rows [] E g e lt = refl
    later-rows (x ∷ M) E g e lt = rw (ne_eqb g (length (M ++ E)) (λ is. absurd (omega (arith, is, lt, length-append M E)))) (later-rows M E g e lt)

    pub kept-rows : (F E : List Expr) (g : ℕ) (e : Env) → Grows F E → g < length E → class_rows instances D F g e ≡ class_rows instances D E g e
    kept-rows F E g e grows lt = ap (λ Z. class_rows instances D Z g e) grows.1 ∙ later-rows grows.0 E g e lt

    pub top-rows : (x : Expr) (E : List Expr) (e : Env) → class_rows instances D (x ∷ E) (length E) e ≡ means instances D (classes instances D E) x e
    top-rows x E e = rw (eq-eqb (length E) (length E) refl) refl

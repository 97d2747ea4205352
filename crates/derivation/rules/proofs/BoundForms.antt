-- What each form binds is bound of the lines, and by known classes alone.
use Rattle.std.proofs.Common.{◌≡◌, refl, ap, sym, ◌∙◌, subst, ℕ, Bool, true, false, ◌&&◌, ◌==◌, if◌then◌else◌, List, [], ◌∷◌, slice_get, option_map, Option, Some, None}
use Rattle.std.proofs.lemmas.Bool.{and_parts}
use Rattle.algebra.specs.declared.condition.Condition.{Condition}
use Rattle.algebra.specs.declared.expr.Expr.{Expr}
use Rattle.algebra.specs.declared.expr.Expr.TheVariants as expr
use Rattle.algebra.specs.Columns.{has}
use Rattle.algebra.specs.Conditions.{classes_in}
use Rattle.algebra.specs.Expressions.{children}
use Rattle.props.specs.Knowledge.{are_same}
use Rattle.rules.specs.declared.pattern.Input.{Input}
use Rattle.rules.specs.declared.pattern.Input.TheVariants.{First}
use Rattle.rules.specs.Bindings.{is_same_as, two_over, two_lines_over, three_over, three_lines_over, SubqueryPick, ClassPick, subquery_pick, class_pick, with_line, the_subquery, subquery, the_subquery_line, subquery_line, the_class_line, class_line, with_conjunct}
use Rattle.rules.specs.Matches.{Line, Matched, is_first_same, the_one, the_two, one_line, two_lines, unpicked}
use Rattle.rules.specs.Patterns.{input_of, subquery_of}
use Rattle.rules.proofs.BoundLines.{Binding, IsBound, Binds}

-- ---- one line

abbrev pub one : Binding Expr
one = record { bound = one_line; top = λ x. x; below = λ x. []; IsSo = λ x. Unit {0} }

pub one-binds : Binds one
one-binds m x is = by (m.pick == 0) m.lines refl is
  where
    by : (b : Bool) (L : List Line) → m.lines ≡ L → (if b then the_one L else None) ≡ Some x → IsBound one m x
    by true [] lines is = cc
    by true (l ∷ []) lines is = let e : l.expr ≡ x = cc in record { first = l; others = []; lines = lines; top = e; below = tt; so = tt }
    by true (l ∷ k ∷ L) lines is = cc
    by false L lines is = cc

-- ---- two lines

abbrev pub two : Input → Binding (Expr × Expr)
two i = record { bound = two_lines_over i; top = λ x. x.0; below = λ x. (input_of x.0 i, x.1) ∷ []; IsSo = λ x. Unit {0} }

abbrev pair : Line → Line → Expr × Expr
pair l k = (l.expr, k.expr)

pub two-binds : (i : Input) → Binds (two i)
two-binds i m x is = by (m.pick == 0) m.lines refl is
  where
    or : (l k : Line) → m.lines ≡ l ∷ k ∷ [] → (b : Bool) → is_same_as m.classes (input_of l.expr i) k.class ≡ b → (if b then Some (pair l k) else None) ≡ Some x → IsBound (two i) m x
    or l k lines true taken is =
        let e : pair l k ≡ x = cc in
        record {
          first = l;
          others = k ∷ [];
          lines = lines;
          top = ap (λ x. x.0) e;
          below = (record { class = ap (λ (x : Expr × Expr). is_same_as m.classes (input_of x.0 i) k.class) (sym e) ∙ taken; expr = ap (λ x. x.1) e }, tt);
          so = tt;
        }
    or l k lines false taken is = cc

    by : (b : Bool) (L : List Line) → m.lines ≡ L → (if b then two_over m.classes i L else None) ≡ Some x → IsBound (two i) m x
    by true [] lines is = cc
    by true (l ∷ []) lines is = cc
    by true (l ∷ k ∷ []) lines is = or l k lines (is_same_as m.classes (input_of l.expr i) k.class) refl is
    by true (l ∷ k ∷ j ∷ L) lines is = cc
    by false L lines is = cc

-- the second of the class that the first takes first
abbrev pub two_first : Binding (Expr × Expr)
two_first = record { bound = two_lines; top = λ x. x.0; below = λ x. (slice_get (children x.0) 0, x.1) ∷ []; IsSo = λ x. Unit {0} }

pub two_lines_are : (m : Matched) → two_lines m ≡ two_lines_over First m
two_lines_are m = ap (unpicked m.pick) (by m.lines)
  where
    same : (inputs : List ℕ) (g : ℕ) → is_first_same m.classes inputs g ≡ is_same_as m.classes (slice_get inputs 0) g
    same [] g = refl
    same (x ∷ inputs) g = refl

    by : (L : List Line) → the_two m.classes L ≡ two_over m.classes First L
    by [] = refl
    by (l ∷ []) = refl
    by (l ∷ k ∷ []) = ap (λ (b : Bool). if b then Some (pair l k) else None) (same (children l.expr) k.class)
    by (l ∷ k ∷ j ∷ L) = refl

pub two_first-binds : Binds two_first
two_first-binds m x is =
    let i = two-binds First m x (sym (two_lines_are m) ∙ is) in
    record { first = i.first; others = i.others; lines = i.lines; top = i.top; below = i.below; so = tt }

-- ---- three lines

abbrev pub three : Input → Input → Binding (Expr × Expr × Expr)
three i n = record { bound = three_lines_over i n; top = λ x. x.0; below = λ x. (input_of x.0 i, x.1) ∷ (input_of x.1 n, x.2) ∷ []; IsSo = λ x. Unit {0} }

abbrev triple : Line → Line → Line → Expr × Expr × Expr
triple l k j = (l.expr, k.expr, j.expr)

pub three-binds : (i n : Input) → Binds (three i n)
three-binds i n m x is = by (m.pick == 0) m.lines refl is
  where
    or : (l k j : Line) → m.lines ≡ l ∷ k ∷ j ∷ [] → (b : Bool) → (is_same_as m.classes (input_of l.expr i) k.class && is_same_as m.classes (input_of k.expr n) j.class) ≡ b
        → (if b then Some (triple l k j) else None) ≡ Some x → IsBound (three i n) m x
    or l k j lines true taken is =
        let e : triple l k j ≡ x = cc in
        let both = and_parts _ _ taken in
        record {
          first = l;
          others = k ∷ j ∷ [];
          lines = lines;
          top = ap (λ x. x.0) e;
          below = (
            record { class = ap (λ (x : Expr × Expr × Expr). is_same_as m.classes (input_of x.0 i) k.class) (sym e) ∙ both.0; expr = ap (λ x. x.1) e },
            (record { class = ap (λ (x : Expr × Expr × Expr). is_same_as m.classes (input_of x.1 n) j.class) (sym e) ∙ both.1; expr = ap (λ x. x.2) e }, tt),
          );
          so = tt;
        }
    or l k j lines false taken is = cc

    by : (b : Bool) (L : List Line) → m.lines ≡ L → (if b then three_over m.classes i n L else None) ≡ Some x → IsBound (three i n) m x
    by true [] lines is = cc
    by true (l ∷ []) lines is = cc
    by true (l ∷ k ∷ []) lines is = cc
    by true (l ∷ k ∷ j ∷ []) lines is = or l k j lines (is_same_as m.classes (input_of l.expr i) k.class && is_same_as m.classes (input_of k.expr n) j.class) refl is
    by true (l ∷ k ∷ j ∷ h ∷ L) lines is = cc
    by false L lines is = cc

-- ---- what is picked of a selection

-- the conjunct of this number is the condition, and the class is that of the subquery that it is
pub record IsPicked (p : SubqueryPick) : Type 0 where
  pub at : slice_get p.conjuncts p.place ≡ Some p.condition
  pub class : subquery_of p.condition ≡ Some p.class

-- the conjuncts name the class
pub record IsNamed (p : ClassPick) : Type 0 where
  pub named : has (classes_in p.conjuncts) p.class ≡ true

abbrev pub selection : SubqueryPick → Expr
selection p = expr.Select p.conjuncts p.input

abbrev pub class_selection : ClassPick → Expr
class_selection p = expr.Select p.conjuncts p.input

-- a selection has what is picked of it
pub record Picks {X : Type 0} (whole : X → Expr) (IsSo : X → Type 0) (x : Expr) (p : X) : Type 0 where
  pub top : x ≡ whole p
  pub so : IsSo p

pub subquery-picks : (x : Expr) (place : ℕ) (p : SubqueryPick) → subquery_pick x place ≡ Some p → Picks selection IsPicked x p
subquery-picks (expr.Select C x) place p is = by (slice_get C place) refl is
  where
    or : (c : Condition) → slice_get C place ≡ Some c → (o : Option ℕ) → subquery_of c ≡ o
        → option_map (λ g. record { conjuncts = C; input = x; place = place; condition = c; class = g }) o ≡ Some p → Picks selection IsPicked (expr.Select C x) p
    or c at None class is = cc
    or c at (Some g) class is =
        let q : SubqueryPick = record { conjuncts = C; input = x; place = place; condition = c; class = g } in
        let e : q ≡ p = cc in
        subst (Picks selection IsPicked (expr.Select C x)) e (record { top = refl; so = record { at = at; class = class } })

    by : (o : Option Condition) → slice_get C place ≡ o → with_conjunct C x place o ≡ Some p → Picks selection IsPicked (expr.Select C x) p
    by None at is = cc
    by (Some c) at is = or c at (subquery_of c) refl is
subquery-picks y place p is = cc

pub class-picks : (x : Expr) (g : ℕ) (p : ClassPick) → class_pick x g ≡ Some p → Picks class_selection IsNamed x p
class-picks (expr.Select C x) g p is = by (has (classes_in C) g) refl is
  where
    q : ClassPick
    q = record { conjuncts = C; input = x; class = g }

    by : (b : Bool) → has (classes_in C) g ≡ b → (if b then Some q else None) ≡ Some p → Picks class_selection IsNamed (expr.Select C x) p
    by true named is =
        let e : q ≡ p = cc in
        subst (Picks class_selection IsNamed (expr.Select C x)) e (record { top = refl; so = record { named = named } })
    by false named is = cc
class-picks y g p is = cc

-- ---- alone

abbrev pub subquery_alone : Binding SubqueryPick
subquery_alone = record { bound = subquery; top = selection; below = λ p. []; IsSo = IsPicked }

pub subquery-binds : Binds subquery_alone
subquery-binds m p is = by m.lines refl is
  where
    by : (L : List Line) → m.lines ≡ L → the_subquery m.pick L ≡ Some p → IsBound subquery_alone m p
    by [] lines is = cc
    by (l ∷ []) lines is = let i = subquery-picks l.expr m.pick p is in record { first = l; others = []; lines = lines; top = i.top; below = tt; so = i.so }
    by (l ∷ k ∷ L) lines is = cc

-- ---- with a line of its class

abbrev pub picked_line : {X : Type 0} → (Matched → Option (X × Expr)) → (X → Expr) → (X → ℕ) → (X → Type 0) → Binding (X × Expr)
picked_line bound top class IsSo = record { bound = bound; top = λ x. top x.0; below = λ x. (Some (class x.0), x.1) ∷ []; IsSo = λ x. IsSo x.0 }

-- of two lines
module _ {X : Type 0} (bound : Matched → Option (X × Expr)) (top : X → Expr) (class : X → ℕ) (IsSo : X → Type 0) where
  with-line : (m : Matched) (x : X × Expr) (l k : Line) → m.lines ≡ l ∷ k ∷ [] → (o : Option X) → ((p : X) → o ≡ Some p → Picks top IsSo l.expr p)
      → with_line m.classes class k o ≡ Some x → IsBound (picked_line bound top class IsSo) m x
  with-line m x l k lines None picks is = cc
  with-line m x l k lines (Some p) picks is = by (are_same m.classes (class p) k.class) refl is
    where
      got : X × Expr
      got = (p, k.expr)

      by : (b : Bool) → are_same m.classes (class p) k.class ≡ b → (if b then Some got else None) ≡ Some x → IsBound (picked_line bound top class IsSo) m x
      by true same is =
          let e : got ≡ x = cc in
          subst (IsBound (picked_line bound top class IsSo) m) e (
          let i = picks p refl in
          record { first = l; others = k ∷ []; lines = lines; top = i.top; below = (record { class = same; expr = refl }, tt); so = i.so })
      by false same is = cc

abbrev pub with_subquery_line : Binding (SubqueryPick × Expr)
with_subquery_line = picked_line subquery_line selection (λ p. p.class) IsPicked

pub subquery_line-binds : Binds with_subquery_line
subquery_line-binds m x is = by m.lines refl is
  where
    by : (L : List Line) → m.lines ≡ L → the_subquery_line m.classes m.pick L ≡ Some x → IsBound with_subquery_line m x
    by [] lines is = cc
    by (l ∷ []) lines is = cc
    by (l ∷ k ∷ []) lines is = with-line subquery_line selection (λ p. p.class) IsPicked m x l k lines (subquery_pick l.expr m.pick) (subquery-picks l.expr m.pick) is
    by (l ∷ k ∷ j ∷ L) lines is = cc

abbrev pub with_class_line : Binding (ClassPick × Expr)
with_class_line = picked_line class_line class_selection (λ p. p.class) IsNamed

pub class_line-binds : Binds with_class_line
class_line-binds m x is = by m.lines refl is
  where
    by : (L : List Line) → m.lines ≡ L → the_class_line m.classes m.pick L ≡ Some x → IsBound with_class_line m x
    by [] lines is = cc
    by (l ∷ []) lines is = cc
    by (l ∷ k ∷ []) lines is = with-line class_line class_selection (λ p. p.class) IsNamed m x l k lines (class_pick l.expr m.pick) (class-picks l.expr m.pick) is
    by (l ∷ k ∷ j ∷ L) lines is = cc

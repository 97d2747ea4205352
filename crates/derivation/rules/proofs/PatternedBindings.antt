-- A rule keeps to its pattern if what it makes of lines over named inputs does, or of a pick and a line of its class.
use Rattle.std.proofs.Common.{◌≡◌, refl, ap, sym, ◌∙◌, ℕ, Bool, true, false, ◌&&◌, ◌==◌, if◌then◌else◌, List, [], ◌∷◌, slice_get, option_map, Result, Err, Option, Some, None}
use Rattle.std.proofs.lemmas.Bool.{and_parts}
use Rattle.values.specs.Faults.{◌>>=◌, wanted}
use Rattle.algebra.specs.declared.condition.Condition.{Condition}
use Rattle.algebra.specs.declared.expr.Expr.{Expr}
use Rattle.algebra.specs.declared.expr.Expr.TheVariants as expr
use Rattle.algebra.specs.Columns.{has}
use Rattle.algebra.specs.Conditions.{classes_in}
use Rattle.algebra.proofs.Lists.{two as both}
use Rattle.props.specs.Knowledge.{Knowledge, are_same}
use Rattle.rules.specs.declared.pattern.Input.{Input}
use Rattle.rules.specs.declared.pattern.Operators.{Operators}
use Rattle.rules.specs.declared.pattern.Pattern.TheVariants.{Two, Three, Subquery, SubqueryLine, ClassLine}
use Rattle.rules.specs.declared.shape.Shape.{Shape}
use Rattle.rules.specs.declared.unfit.Unfit.{Unfit}
use Rattle.rules.specs.declared.unfit.Unfit.TheVariants.{Pattern}
use Rattle.rules.specs.Bindings.{is_same_as, two_lines_over, three_over, three_lines_over, SubqueryPick, ClassPick, subquery_pick, class_pick, with_conjunct, with_line, the_subquery, subquery, the_subquery_line, subquery_line, the_class_line, class_line}
use Rattle.rules.specs.Matches.{Line}
use Rattle.rules.specs.Patterns.{KeepsTo, has_one_of, input_of, is_line_of, is_some, lines_fit, picked_subquery, picked_class, subquery_at, subquery_of}
use Rattle.rules.proofs.PatternedLines.{FitsBy, bound-keeps, line-fits, nothing, two_test, two-fits, under}

-- ---- lines below each other

abbrev triple : Line → Line → Line → Expr × Expr × Expr
triple l k j = (l.expr, k.expr, j.expr)

abbrev three_test : Operators → Operators → Operators → Expr × Expr × Expr → Bool
three_test O P Q x = has_one_of x.0 O && has_one_of x.1 P && has_one_of x.2 Q

three-fits : (i n : Input) (O P Q : Operators) → FitsBy (Three O (under i P) (under n Q)) (three_lines_over i n) (three_test O P Q)
three-fits i n O P Q m x is = by m.lines is
  where
    are_taken : Line → Line → Line → Bool
    are_taken l k j = is_same_as m.classes (input_of l.expr i) k.class && is_same_as m.classes (input_of k.expr n) j.class

    fit : Line → Line → Line → Bool
    fit l k j = has_one_of l.expr O && is_line_of m.classes (input_of l.expr i) P k && is_line_of m.classes (input_of k.expr n) Q j

    or : (l k j : Line) (b : Bool) → are_taken l k j ≡ b → (if b then Some (triple l k j) else None) ≡ Some x → fit l k j ≡ three_test O P Q x
    or l k j true taken is =
        let e : triple l k j ≡ x = cc in
        let parts = and_parts (is_same_as m.classes (input_of l.expr i) k.class) (is_same_as m.classes (input_of k.expr n) j.class) taken in
        both (λ a b. has_one_of l.expr O && a && b) (line-fits m.classes (input_of l.expr i) P k parts.0) (line-fits m.classes (input_of k.expr n) Q j parts.1) ∙ ap (three_test O P Q) e
    or l k j false taken is = cc

    three : (l k j : Line) (b : Bool) → (if b then (if are_taken l k j then Some (triple l k j) else None) else None) ≡ Some x
        → (b && has_one_of l.expr O && is_line_of m.classes (input_of l.expr i) P k && is_line_of m.classes (input_of k.expr n) Q j) ≡ three_test O P Q x
    three l k j true is = or l k j (are_taken l k j) refl is
    three l k j false is = cc

    by : (L : List Line) → (if m.pick == 0 then three_over m.classes i n L else None) ≡ Some x → lines_fit m.classes m.pick (Three O (under i P) (under n Q)) L ≡ three_test O P Q x
    by [] is = nothing (m.pick == 0) x is
    by (l ∷ []) is = nothing (m.pick == 0) x is
    by (l ∷ k ∷ []) is = nothing (m.pick == 0) x is
    by (l ∷ k ∷ j ∷ []) is = three l k j (m.pick == 0) is
    by (l ∷ k ∷ j ∷ h ∷ L) is = nothing (m.pick == 0) x is

abbrev pub TwoOverKeepTo : Operators → Operators → (Knowledge → Expr → Expr → Result Shape Unfit) → Type 0
TwoOverKeepTo O P rewrite = (K : Knowledge) (x y : Expr) → (has_one_of x O && has_one_of y P) ≡ false → rewrite K x y ≡ Err Pattern

pub two_over-keep : (i : Input) (O P : Operators) (rewrite : Knowledge → Expr → Expr → Result Shape Unfit) → TwoOverKeepTo O P rewrite
    → KeepsTo (Two O (under i P)) (λ m. wanted Pattern (two_lines_over i m) >>= λ l. rewrite m.classes l.0 l.1)
two_over-keep i O P rewrite keep = bound-keeps (Two O (under i P)) (two_lines_over i) (two_test O P) (two-fits i O P) (λ K l. rewrite K l.0 l.1) (λ K l. keep K l.0 l.1)

abbrev pub ThreeOverKeepTo : Operators → Operators → Operators → (Knowledge → Expr → Expr → Expr → Result Shape Unfit) → Type 0
ThreeOverKeepTo O P Q rewrite = (K : Knowledge) (x y z : Expr) → (has_one_of x O && has_one_of y P && has_one_of z Q) ≡ false → rewrite K x y z ≡ Err Pattern

pub three_over-keep : (i n : Input) (O P Q : Operators) (rewrite : Knowledge → Expr → Expr → Expr → Result Shape Unfit) → ThreeOverKeepTo O P Q rewrite
    → KeepsTo (Three O (under i P) (under n Q)) (λ m. wanted Pattern (three_lines_over i n m) >>= λ l. rewrite m.classes l.0 l.1 l.2)
three_over-keep i n O P Q rewrite keep =
    bound-keeps (Three O (under i P) (under n Q)) (three_lines_over i n) (three_test O P Q) (three-fits i n O P Q) (λ K l. rewrite K l.0 l.1 l.2) (λ K l. keep K l.0 l.1 l.2)

-- ---- what is picked of a selection

-- the class of the pick is that of the pattern
subquery-class : (x : Expr) (place : ℕ) → option_map (λ (p : SubqueryPick). p.class) (subquery_pick x place) ≡ picked_subquery x place
subquery-class (expr.Select C x) place = by (slice_get C place)
  where
    or : (c : Condition) (o : Option ℕ) → option_map (λ (p : SubqueryPick). p.class) (option_map (λ g. record { conjuncts = C; input = x; place = place; condition = c; class = g }) o) ≡ o
    or c None = refl
    or c (Some g) = refl

    by : (o : Option Condition) → option_map (λ (p : SubqueryPick). p.class) (with_conjunct C x place o) ≡ subquery_at o
    by None = refl
    by (Some c) = or c (subquery_of c)
subquery-class y place = refl

class-class : (x : Expr) (g : ℕ) → option_map (λ (p : ClassPick). p.class) (class_pick x g) ≡ picked_class x g
class-class (expr.Select C x) g = by (has (classes_in C) g)
  where
    q : ClassPick
    q = record { conjuncts = C; input = x; class = g }

    by : (b : Bool) → option_map (λ (p : ClassPick). p.class) (if b then Some q else None) ≡ (if b then Some g else None)
    by true = refl
    by false = refl
class-class y g = refl

-- a line of the class of the pick is told by its operators
pick-fits : {X : Type 0} (K : Knowledge) (class : X → ℕ) (O : Operators) (k : Line) (o : Option X) (x : X × Expr) → with_line K class k o ≡ Some x
    → is_line_of K (option_map class o) O k ≡ has_one_of x.1 O
pick-fits K class O k None x is = cc
pick-fits {X} K class O k (Some p) x is = by (are_same K (class p) k.class) is
  where
    got : X × Expr
    got = (p, k.expr)

    by : (b : Bool) → (if b then Some got else None) ≡ Some x → (b && has_one_of k.expr O) ≡ has_one_of x.1 O
    by true is = let e : got ≡ x = cc in ap (λ (x : X × Expr). has_one_of x.1 O) e
    by false is = cc

subquery-fits : FitsBy Subquery subquery (λ p. true)
subquery-fits m p is = by m.lines is
  where
    some : (o : Option SubqueryPick) → o ≡ Some p → is_some (option_map (λ (p : SubqueryPick). p.class) o) ≡ true
    some None is = cc
    some (Some q) is = refl

    by : (L : List Line) → the_subquery m.pick L ≡ Some p → lines_fit m.classes m.pick Subquery L ≡ true
    by [] is = cc
    by (l ∷ []) is = ap is_some (sym (subquery-class l.expr m.pick)) ∙ some (subquery_pick l.expr m.pick) is
    by (l ∷ k ∷ L) is = cc

subquery_line-fits : (O : Operators) → FitsBy (SubqueryLine O) subquery_line (λ x. has_one_of x.1 O)
subquery_line-fits O m x is = by m.lines is
  where
    by : (L : List Line) → the_subquery_line m.classes m.pick L ≡ Some x → lines_fit m.classes m.pick (SubqueryLine O) L ≡ has_one_of x.1 O
    by [] is = cc
    by (l ∷ []) is = cc
    by (l ∷ k ∷ []) is = ap (λ o. is_line_of m.classes o O k) (sym (subquery-class l.expr m.pick)) ∙ pick-fits m.classes (λ p. p.class) O k (subquery_pick l.expr m.pick) x is
    by (l ∷ k ∷ j ∷ L) is = cc

class_line-fits : (O : Operators) → FitsBy (ClassLine O) class_line (λ x. has_one_of x.1 O)
class_line-fits O m x is = by m.lines is
  where
    by : (L : List Line) → the_class_line m.classes m.pick L ≡ Some x → lines_fit m.classes m.pick (ClassLine O) L ≡ has_one_of x.1 O
    by [] is = cc
    by (l ∷ []) is = cc
    by (l ∷ k ∷ []) is = ap (λ o. is_line_of m.classes o O k) (sym (class-class l.expr m.pick)) ∙ pick-fits m.classes (λ p. p.class) O k (class_pick l.expr m.pick) x is
    by (l ∷ k ∷ j ∷ L) is = cc

-- whatever a rule makes of a picked subquery
pub subquery-keeps : (rewrite : Knowledge → SubqueryPick → Result Shape Unfit) → KeepsTo Subquery (λ m. wanted Pattern (subquery m) >>= rewrite m.classes)
subquery-keeps rewrite = bound-keeps Subquery subquery (λ p. true) subquery-fits rewrite (λ K p other. cc)

abbrev pub LineKeepsTo : {X : Type 0} → Operators → (Knowledge → X → Expr → Result Shape Unfit) → Type 0
LineKeepsTo {X} O rewrite = (K : Knowledge) (p : X) (y : Expr) → has_one_of y O ≡ false → rewrite K p y ≡ Err Pattern

pub subquery_line-keeps : (O : Operators) (rewrite : Knowledge → SubqueryPick → Expr → Result Shape Unfit) → LineKeepsTo O rewrite
    → KeepsTo (SubqueryLine O) (λ m. wanted Pattern (subquery_line m) >>= λ p. rewrite m.classes p.0 p.1)
subquery_line-keeps O rewrite keeps = bound-keeps (SubqueryLine O) subquery_line (λ x. has_one_of x.1 O) (subquery_line-fits O) (λ K p. rewrite K p.0 p.1) (λ K p. keeps K p.0 p.1)

pub class_line-keeps : (O : Operators) (rewrite : Knowledge → ClassPick → Expr → Result Shape Unfit) → LineKeepsTo O rewrite
    → KeepsTo (ClassLine O) (λ m. wanted Pattern (class_line m) >>= λ p. rewrite m.classes p.0 p.1)
class_line-keeps O rewrite keeps = bound-keeps (ClassLine O) class_line (λ x. has_one_of x.1 O) (class_line-fits O) (λ K p. rewrite K p.0 p.1) (λ K p. keeps K p.0 p.1)

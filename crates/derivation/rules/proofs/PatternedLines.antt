-- A rule keeps to its pattern if what it makes of what it binds does: of its lines' expressions.
use Rattle.std.proofs.Common.{◌≡◌, refl, ap, sym, ◌∙◌, ℕ, Bool, true, false, ◌&&◌, ◌==◌, if◌then◌else◌, List, [], ◌∷◌, Result, Err, Option, Some, None}
use Rattle.values.specs.Faults.{◌>>=◌, wanted}
use Rattle.algebra.specs.declared.expr.Expr.{Expr}
use Rattle.props.specs.Knowledge.{Knowledge}
use Rattle.rules.specs.declared.pattern.Below.{Below}
use Rattle.rules.specs.declared.pattern.Input.{Input}
use Rattle.rules.specs.declared.pattern.Input.TheVariants.{First}
use Rattle.rules.specs.declared.pattern.Operators.{Operators}
use Rattle.rules.specs.declared.pattern.Pattern as lines
use Rattle.rules.specs.declared.pattern.Pattern.TheVariants.{One, Two}
use Rattle.rules.specs.declared.shape.Shape.{Shape}
use Rattle.rules.specs.declared.unfit.Unfit.{Unfit}
use Rattle.rules.specs.declared.unfit.Unfit.TheVariants.{Pattern}
use Rattle.rules.specs.Bindings.{is_same_as, two_over, two_lines_over}
use Rattle.rules.specs.Matches.{Line, Matched, the_one, one_line, two_lines}
use Rattle.rules.specs.Patterns.{KeepsTo, first, fits, has_one_of, input_of, is_line_of, lines_fit}
use Rattle.rules.proofs.BoundForms.{two_lines_are}

-- where something is bound, whether the lines are of the pattern is whether it passes the test
abbrev pub FitsBy : {X : Type 0} → lines.Pattern → (Matched → Option X) → (X → Bool) → Type 0
FitsBy {X} pattern bound test = (m : Matched) (x : X) → bound m ≡ Some x → fits pattern m ≡ test x

abbrev pub BoundKeepsTo : {X : Type 0} → (X → Bool) → (Knowledge → X → Result Shape Unfit) → Type 0
BoundKeepsTo {X} test rewrite = (K : Knowledge) (x : X) → test x ≡ false → rewrite K x ≡ Err Pattern

pub bound-keeps : {X : Type 0} (pattern : lines.Pattern) (bound : Matched → Option X) (test : X → Bool) → FitsBy pattern bound test → (rewrite : Knowledge → X → Result Shape Unfit)
    → BoundKeepsTo test rewrite → KeepsTo pattern (λ m. wanted Pattern (bound m) >>= rewrite m.classes)
bound-keeps {X} pattern bound test by_test rewrite keeps m other = by (bound m) refl
  where
    by : (o : Option X) → bound m ≡ o → (wanted Pattern o >>= rewrite m.classes) ≡ Err Pattern
    by None is = refl
    by (Some x) is = keeps m.classes x (sym (by_test m x is) ∙ other)

-- nothing is bound
pub nothing : {X A : Type 0} (b : Bool) (x : X) → (if b then None else None) ≡ Some x → A
nothing true x is = cc
nothing false x is = cc

-- ---- one line

one-fits : (O : Operators) → FitsBy (One O) one_line (λ x. has_one_of x O)
one-fits O m x is = by m.lines is
  where
    one : (l : Line) (b : Bool) → (if b then Some l.expr else None) ≡ Some x → (b && has_one_of l.expr O) ≡ has_one_of x O
    one l true is = let e : l.expr ≡ x = cc in ap (λ x. has_one_of x O) e
    one l false is = cc

    by : (L : List Line) → (if m.pick == 0 then the_one L else None) ≡ Some x → lines_fit m.classes m.pick (One O) L ≡ has_one_of x O
    by [] is = nothing (m.pick == 0) x is
    by (l ∷ []) is = one l (m.pick == 0) is
    by (l ∷ k ∷ L) is = nothing (m.pick == 0) x is

abbrev pub OneKeepsTo : Operators → (Knowledge → Expr → Result Shape Unfit) → Type 0
OneKeepsTo O rewrite = (K : Knowledge) (x : Expr) → has_one_of x O ≡ false → rewrite K x ≡ Err Pattern

pub one-keeps : (O : Operators) (rewrite : Knowledge → Expr → Result Shape Unfit) → OneKeepsTo O rewrite → KeepsTo (One O) (λ m. wanted Pattern (one_line m) >>= rewrite m.classes)
one-keeps O rewrite keeps = bound-keeps (One O) one_line (λ x. has_one_of x O) (one-fits O) rewrite keeps

-- ---- two lines

-- a line over an input
abbrev pub under : Input → Operators → Below
under i O = record { input = i; operators = O }

-- a line of the class is told by its operators
pub line-fits : (K : Knowledge) (o : Option ℕ) (O : Operators) (k : Line) → is_same_as K o k.class ≡ true → is_line_of K o O k ≡ has_one_of k.expr O
line-fits K None O k is = cc
line-fits K (Some g) O k is = ap (λ b. b && has_one_of k.expr O) is

abbrev pair : Line → Line → Expr × Expr
pair l k = (l.expr, k.expr)

abbrev pub two_test : Operators → Operators → Expr × Expr → Bool
two_test O P x = has_one_of x.0 O && has_one_of x.1 P

pub two-fits : (i : Input) (O P : Operators) → FitsBy (Two O (under i P)) (two_lines_over i) (two_test O P)
two-fits i O P m x is = by m.lines is
  where
    or : (l k : Line) (b : Bool) → is_same_as m.classes (input_of l.expr i) k.class ≡ b → (if b then Some (pair l k) else None) ≡ Some x
        → (has_one_of l.expr O && is_line_of m.classes (input_of l.expr i) P k) ≡ two_test O P x
    or l k true taken is = let e : pair l k ≡ x = cc in ap (λ b. has_one_of l.expr O && b) (line-fits m.classes (input_of l.expr i) P k taken) ∙ ap (two_test O P) e
    or l k false taken is = cc

    two : (l k : Line) (b : Bool) → (if b then (if is_same_as m.classes (input_of l.expr i) k.class then Some (pair l k) else None) else None) ≡ Some x
        → (b && has_one_of l.expr O && is_line_of m.classes (input_of l.expr i) P k) ≡ two_test O P x
    two l k true is = or l k (is_same_as m.classes (input_of l.expr i) k.class) refl is
    two l k false is = cc

    by : (L : List Line) → (if m.pick == 0 then two_over m.classes i L else None) ≡ Some x → lines_fit m.classes m.pick (Two O (under i P)) L ≡ two_test O P x
    by [] is = nothing (m.pick == 0) x is
    by (l ∷ []) is = nothing (m.pick == 0) x is
    by (l ∷ k ∷ []) is = two l k (m.pick == 0) is
    by (l ∷ k ∷ j ∷ L) is = nothing (m.pick == 0) x is

-- the second of the class that the first takes first
abbrev pub TwoKeepTo : Operators → Operators → (Knowledge → Expr → Expr → Result Shape Unfit) → Type 0
TwoKeepTo O P rewrite = (K : Knowledge) (x y : Expr) → (has_one_of x O && has_one_of y P) ≡ false → rewrite K x y ≡ Err Pattern

pub two-keep : (O P : Operators) (rewrite : Knowledge → Expr → Expr → Result Shape Unfit) → TwoKeepTo O P rewrite
    → KeepsTo (Two O (first P)) (λ m. wanted Pattern (two_lines m) >>= λ l. rewrite m.classes l.0 l.1)
two-keep O P rewrite keep =
    bound-keeps (Two O (first P)) two_lines (two_test O P) (λ m x is. two-fits First O P m x (sym (two_lines_are m) ∙ is)) (λ K l. rewrite K l.0 l.1) (λ K l. keep K l.0 l.1)

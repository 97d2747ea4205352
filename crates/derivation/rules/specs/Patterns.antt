-- Which lines rules take: by their operators, and by how they hang together.
-- Patterns of rules and their bindings: Graefe, The Cascades framework for query optimization, 1995.
use Rattle.std.specs.Prelude.{◌≡◌, ℕ, Bool, true, false, ◌&&◌, ◌||◌, ◌==◌, if◌then◌else◌, List, [], ◌∷◌, slice_get, Option, Some, None, Result, Err}
use Rattle.algebra.specs.declared.condition.Condition.{Condition, fold-Condition}
use Rattle.algebra.specs.declared.condition.Condition.TheOpen.{Condition-F}
use Rattle.algebra.specs.declared.expr.Expr.{Expr}
use Rattle.algebra.specs.declared.expr.Expr.TheVariants as expr
use Rattle.algebra.specs.Columns.{has}
use Rattle.algebra.specs.Conditions.{classes_in}
use Rattle.algebra.specs.Expressions.{children}
use Rattle.props.specs.Knowledge.{Knowledge, are_same}
use Rattle.rules.specs.declared.pattern.Below.{Below}
use Rattle.rules.specs.declared.pattern.Input.{Input}
use Rattle.rules.specs.declared.pattern.Input.TheVariants.{First, Second}
use Rattle.rules.specs.declared.pattern.Operator.{Operator}
use Rattle.rules.specs.declared.pattern.Operator.TheVariants.{Get, Select, Join, LeftJoin, Semi, Anti, Keep, Distinct, Group}
use Rattle.rules.specs.declared.pattern.Operators.{Operators}
use Rattle.rules.specs.declared.pattern.Operators.TheVariants.{Only, Either}
use Rattle.rules.specs.declared.pattern.Pattern.{Pattern}
use Rattle.rules.specs.declared.pattern.Pattern.TheVariants.{One, Two, Three, Subquery, SubqueryLine, ClassLine}
use Rattle.rules.specs.declared.shape.Shape.{Shape}
use Rattle.rules.specs.declared.unfit.Unfit.{Unfit}
use Rattle.rules.specs.declared.unfit.Unfit.TheVariants as unfit
use Rattle.rules.specs.Matches.{Line, Matched}

-- ---- operators

abbrev pub has_operator : Expr → Operator → Bool
has_operator (expr.Get o) Get = true
has_operator (expr.Select C x) Select = true
has_operator (expr.Join C a b) Join = true
has_operator (expr.LeftJoin C a b) LeftJoin = true
has_operator (expr.Semi C a b) Semi = true
has_operator (expr.Anti S M a b) Anti = true
has_operator (expr.Keep L x) Keep = true
has_operator (expr.Distinct x) Distinct = true
has_operator (expr.Group L G x) Group = true
has_operator x o = false

abbrev pub has_one_of : Expr → Operators → Bool
has_one_of x (Only o) = has_operator x o
has_one_of x (Either o p) = has_operator x o || has_operator x p

-- ---- a line below another one

-- the class that an expression takes there
abbrev pub input_of : Expr → Input → Option ℕ
input_of x First = slice_get (children x) 0
input_of x Second = slice_get (children x) 1

-- a line of the class, up to which are the same, with one of the operators
abbrev pub is_line_of : Knowledge → Option ℕ → Operators → Line → Bool
is_line_of K None O l = false
is_line_of K (Some g) O l = are_same K g l.class && has_one_of l.expr O

abbrev pub is_below : Knowledge → Line → Below → Line → Bool
is_below K l b k = is_line_of K (input_of l.expr b.input) b.operators k

-- of the class that the line above takes first
abbrev pub first : Operators → Below
first O = record { input = First; operators = O }

-- ---- what is picked

-- the class of EXISTS and of IN, and of such a condition under NOT
abbrev pub subquery_layer : Condition-F (Option ℕ) → Option ℕ
subquery_layer (Condition-F.Compare c a b) = None
subquery_layer (Condition-F.IsNull a) = None
subquery_layer (Condition-F.Not c) = c
subquery_layer (Condition-F.And a b cs) = None
subquery_layer (Condition-F.Or a b cs) = None
subquery_layer (Condition-F.Exists g) = Some g
subquery_layer (Condition-F.In a g k) = Some g

unfoldable pub subquery_of : Condition → Option ℕ
subquery_of = fold-Condition (Option ℕ) subquery_layer

abbrev pub subquery_at : Option Condition → Option ℕ
subquery_at None = None
subquery_at (Some c) = subquery_of c

-- the class of the conjunct of this number
abbrev pub picked_subquery : Expr → ℕ → Option ℕ
picked_subquery (expr.Select C x) pick = subquery_at (slice_get C pick)
picked_subquery x pick = None

-- the class, if it is one that the conjuncts name
abbrev pub picked_class : Expr → ℕ → Option ℕ
picked_class (expr.Select C x) pick = if has (classes_in C) pick then Some pick else None
picked_class x pick = None

-- ---- what is matched

abbrev pub is_some : Option ℕ → Bool
is_some None = false
is_some (Some g) = true

abbrev pub lines_fit : Knowledge → ℕ → Pattern → List Line → Bool
lines_fit K pick (One O) (l ∷ []) = pick == 0 && has_one_of l.expr O
lines_fit K pick (Two O b) (l ∷ k ∷ []) = pick == 0 && has_one_of l.expr O && is_below K l b k
lines_fit K pick (Three O b c) (l ∷ k ∷ j ∷ []) = pick == 0 && has_one_of l.expr O && is_below K l b k && is_below K k c j
lines_fit K pick Subquery (l ∷ []) = is_some (picked_subquery l.expr pick)
lines_fit K pick (SubqueryLine O) (l ∷ k ∷ []) = is_line_of K (picked_subquery l.expr pick) O k
lines_fit K pick (ClassLine O) (l ∷ k ∷ []) = is_line_of K (picked_class l.expr pick) O k
lines_fit K pick pattern lines = false

abbrev pub fits : Pattern → Matched → Bool
fits pattern m = lines_fit m.classes m.pick pattern m.lines

-- a rule refuses what is of another form
abbrev pub KeepsTo : Pattern → (Matched → Result Shape Unfit) → Type 0
KeepsTo pattern gives = (m : Matched) → fits pattern m ≡ false → gives m ≡ Err unfit.Pattern

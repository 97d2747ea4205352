-- What rules bind of lines: expressions over inputs that are named, and what is picked of a selection.
-- Patterns of rules and their bindings: Graefe, The Cascades framework for query optimization, 1995.
use Rattle.std.specs.Prelude.{ℕ, Bool, false, ◌&&◌, if◌then◌else◌, List, [], ◌∷◌, slice_get, option_map, Option, Some, None}
use Rattle.algebra.specs.declared.condition.Condition.{Condition}
use Rattle.algebra.specs.declared.expr.Expr.{Expr}
use Rattle.algebra.specs.declared.expr.Expr.TheVariants as expr
use Rattle.algebra.specs.Columns.{has}
use Rattle.algebra.specs.Conditions.{classes_in}
use Rattle.props.specs.Knowledge.{Knowledge, are_same}
use Rattle.rules.specs.declared.bindings.PickedClass.{PickedClass}
use Rattle.rules.specs.declared.bindings.PickedSubquery.{PickedSubquery}
use Rattle.rules.specs.declared.pattern.Input.{Input}
use Rattle.rules.specs.Matches.{Line, Matched, unpicked}
use Rattle.rules.specs.Patterns.{input_of, subquery_of}

-- ---- lines below each other

-- the class is the same as that one, if there is one
abbrev pub is_same_as : Knowledge → Option ℕ → ℕ → Bool
is_same_as K None g = false
is_same_as K (Some x) g = are_same K x g

-- the expressions, where there are two lines and the second is of the class that the first takes there
abbrev pub two_over : Knowledge → Input → List Line → Option (Expr × Expr)
two_over K i [] = None
two_over K i (l ∷ []) = None
two_over K i (l ∷ k ∷ []) = if is_same_as K (input_of l.expr i) k.class then Some (l.expr, k.expr) else None
two_over K i (l ∷ k ∷ j ∷ others) = None

abbrev pub two_lines_over : Input → Matched → Option (Expr × Expr)
two_lines_over i m = unpicked m.pick (two_over m.classes i m.lines)

-- the same of three lines
abbrev pub three_over : Knowledge → Input → Input → List Line → Option (Expr × Expr × Expr)
three_over K i n [] = None
three_over K i n (l ∷ []) = None
three_over K i n (l ∷ k ∷ []) = None
three_over K i n (l ∷ k ∷ j ∷ []) = if is_same_as K (input_of l.expr i) k.class && is_same_as K (input_of k.expr n) j.class then Some (l.expr, k.expr, j.expr) else None
three_over K i n (l ∷ k ∷ j ∷ h ∷ others) = None

abbrev pub three_lines_over : Input → Input → Matched → Option (Expr × Expr × Expr)
three_lines_over i n m = unpicked m.pick (three_over m.classes i n m.lines)

-- ---- what is picked of a selection

-- its conjuncts and its input, and the conjunct of a number, with the class of the subquery that it is
pub record SubqueryPick : Type 0 where
  pub conjuncts : List Condition
  pub input : ℕ
  pub place : ℕ
  pub condition : Condition
  pub class : ℕ

abbrev pub with_conjunct : List Condition → ℕ → ℕ → Option Condition → Option SubqueryPick
with_conjunct C x place None = None
with_conjunct C x place (Some c) = option_map (λ g. record { conjuncts = C; input = x; place = place; condition = c; class = g }) (subquery_of c)

abbrev pub subquery_pick : Expr → ℕ → Option SubqueryPick
subquery_pick (expr.Select C x) place = with_conjunct C x place (slice_get C place)
subquery_pick y place = None

-- its conjuncts and its input, and a class that they name
pub record ClassPick : Type 0 where
  pub conjuncts : List Condition
  pub input : ℕ
  pub class : ℕ

abbrev pub class_pick : Expr → ℕ → Option ClassPick
class_pick (expr.Select C x) g = if has (classes_in C) g then Some (record { conjuncts = C; input = x; class = g }) else None
class_pick y g = None

abbrev pub subquery_in : PickedSubquery → SubqueryPick
subquery_in p = record { conjuncts = p.conjuncts.now; input = p.input; place = p.place; condition = p.condition.now; class = p.class }

abbrev pub class_in : PickedClass → ClassPick
class_in p = record { conjuncts = p.conjuncts.now; input = p.input; class = p.class }

-- ---- and a line of its class

-- the pick with the expression of a line, which is of the class of the pick
abbrev pub with_line : {X : Type 0} → Knowledge → (X → ℕ) → Line → Option X → Option (X × Expr)
with_line K class k None = None
with_line K class k (Some p) = if are_same K (class p) k.class then Some (p, k.expr) else None

abbrev pub the_subquery : ℕ → List Line → Option SubqueryPick
the_subquery pick [] = None
the_subquery pick (l ∷ []) = subquery_pick l.expr pick
the_subquery pick (l ∷ k ∷ others) = None

abbrev pub subquery : Matched → Option SubqueryPick
subquery m = the_subquery m.pick m.lines

abbrev pub the_subquery_line : Knowledge → ℕ → List Line → Option (SubqueryPick × Expr)
the_subquery_line K pick [] = None
the_subquery_line K pick (l ∷ []) = None
the_subquery_line K pick (l ∷ k ∷ []) = with_line K (λ p. p.class) k (subquery_pick l.expr pick)
the_subquery_line K pick (l ∷ k ∷ j ∷ others) = None

abbrev pub subquery_line : Matched → Option (SubqueryPick × Expr)
subquery_line m = the_subquery_line m.classes m.pick m.lines

abbrev pub the_class_line : Knowledge → ℕ → List Line → Option (ClassPick × Expr)
the_class_line K pick [] = None
the_class_line K pick (l ∷ []) = None
the_class_line K pick (l ∷ k ∷ []) = with_line K (λ p. p.class) k (class_pick l.expr pick)
the_class_line K pick (l ∷ k ∷ j ∷ others) = None

abbrev pub class_line : Matched → Option (ClassPick × Expr)
class_line m = the_class_line m.classes m.pick m.lines

-- Expressions that are alike up to which classes are the same. One class stands for all that are the same: their root.
use Rattle.std.specs.Prelude.{◌≡◌, ℕ, true, List, map}
use Rattle.query.specs.declared.query.TableInstance.{TableInstance}
use Rattle.query.specs.Rows.{Tables}
use Rattle.algebra.specs.declared.condition.Condition.{Condition, fold-Condition}
use Rattle.algebra.specs.declared.condition.Condition.TheOpen.{Condition-F}
use Rattle.algebra.specs.declared.condition.Condition.TheVariants.{Compare, IsNull, Not, And, Or, Exists, In}
use Rattle.algebra.specs.declared.expr.Expr.{Expr}
use Rattle.algebra.specs.declared.expr.Expr.TheVariants as expr
use Rattle.algebra.specs.Columns.{ColumnSet, has}
use Rattle.algebra.specs.Bags.{SameBag}
use Rattle.algebra.specs.ConjunctOrder.{conjuncts}
use Rattle.algebra.specs.Expressions.{Classes, input_classes, means, columns_of, free_of}

-- ---- roots in place of classes

abbrev pub rooted_layer : (ℕ → ℕ) → Condition-F Condition → Condition
rooted_layer root (Condition-F.Compare op a b) = Compare op a b
rooted_layer root (Condition-F.IsNull a) = IsNull a
rooted_layer root (Condition-F.Not c) = Not c
rooted_layer root (Condition-F.And a b cs) = And a b cs
rooted_layer root (Condition-F.Or a b cs) = Or a b cs
rooted_layer root (Condition-F.Exists g) = Exists (root g)
rooted_layer root (Condition-F.In a g k) = In a (root g) k

-- a condition with the root of each class that it names
unfoldable pub rooted_condition : (ℕ → ℕ) → Condition → Condition
rooted_condition root = fold-Condition Condition (rooted_layer root)

-- conjuncts with roots, in order again, each once
abbrev pub rooted_conjuncts : (ℕ → ℕ) → List Condition → List Condition
rooted_conjuncts root C = conjuncts (map (rooted_condition root) C)

-- an expression with the root of each class that it names
abbrev pub rooted : (ℕ → ℕ) → Expr → Expr
rooted root (expr.Get o) = expr.Get o
rooted root (expr.Select C x) = expr.Select (rooted_conjuncts root C) (root x)
rooted root (expr.Join C a b) = expr.Join (rooted_conjuncts root C) (root a) (root b)
rooted root (expr.LeftJoin C a b) = expr.LeftJoin (rooted_conjuncts root C) (root a) (root b)
rooted root (expr.Semi C a b) = expr.Semi (rooted_conjuncts root C) (root a) (root b)
rooted root (expr.Anti S M a b) = expr.Anti (rooted_conjuncts root S) (rooted_conjuncts root M) (root a) (root b)
rooted root (expr.Keep K x) = expr.Keep K (root x)
rooted root (expr.Distinct x) = expr.Distinct (root x)
rooted root (expr.Group K G x) = expr.Group K G (root x)

-- expressions that are equal with the root of each class that they name
abbrev pub AreAlike : (ℕ → ℕ) → Expr → Expr → Type 0
AreAlike root x y = rooted root x ≡ rooted root y

-- ---- the congruence

-- a class has the same columns and the same bag in both
abbrev pub IsSameIn : Classes → Classes → ℕ → ℕ → Type 0
IsSameIn V W g h = (V.columns g ≡ W.columns h) × SameBag (V.rows g) (W.rows h)

-- each class that an expression names is the same in both
abbrev pub SameInputs : Classes → Classes → Expr → Type 0
SameInputs V W x = (g : ℕ) → has (input_classes x) g ≡ true → IsSameIn V W g g

-- over classes that are the same an expression has the same columns and the same bag
abbrev pub ExpressionsKeepClasses : Type 0
ExpressionsKeepClasses = (instances : List TableInstance) (D : Tables) (V W : Classes) (x : Expr) → SameInputs V W x
    → (columns_of instances V.columns x ≡ columns_of instances W.columns x) × SameBag (means instances D V x) (means instances D W x)

-- where classes of one root are the same, expressions that are alike have the same columns and the same bag
abbrev pub AlikeIsSame : Type 0
AlikeIsSame = (instances : List TableInstance) (D : Tables) (W : Classes) (root : ℕ → ℕ) → ((g h : ℕ) → root g ≡ root h → IsSameIn W W g h) → (x y : Expr) → AreAlike root x y
    → (columns_of instances W.columns x ≡ columns_of instances W.columns y) × SameBag (means instances D W x) (means instances D W y)

-- where classes of one root have the same columns and free columns, expressions that are alike have the same free columns
abbrev pub AlikeIsFree : Type 0
AlikeIsFree = (cols : ℕ → List ℕ) (free : ℕ → ColumnSet) (root : ℕ → ℕ) → ((g h : ℕ) → root g ≡ root h → (cols g ≡ cols h) × ((c : ℕ) → free g c ≡ free h c))
    → (x y : Expr) → AreAlike root x y → (c : ℕ) → free_of cols free x c ≡ free_of cols free y c

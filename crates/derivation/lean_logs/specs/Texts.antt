-- Lines that are found by the texts of their expressions.
use Rattle.std.specs.Prelude.{◌≡◌, ℕ, true, List, [], ◌++◌, codes, decimal, flat_map, String, Vec, Option, Some, None}
use Rattle.std.specs.HashMap.{HashMap, get_by_text}
use Rattle.algebra.specs.declared.expr.Expr.{Expr}
use Rattle.algebra.specs.declared.expr.Expr.TheVariants.{Get, Select, Join, LeftJoin, Semi, Anti, Keep, Distinct, Group}
use Rattle.algebra.specs.Columns.{has}
use Rattle.algebra.specs.ConjunctOrder.{condition_text}
use Rattle.algebra.specs.Expressions.{children, conditions}
use Rattle.rules.specs.Matches as matches
use Rattle.derivation.specs.Logs.{Log, member}

abbrev pub number_text : ℕ → List ℕ
number_text n = codes " " ++ decimal n

-- the columns that a projection or a group has
abbrev pub own_columns : Expr → List ℕ
own_columns (Get o) = []
own_columns (Select C x) = []
own_columns (Join C a b) = []
own_columns (LeftJoin C a b) = []
own_columns (Semi C a b) = []
own_columns (Anti S M a b) = []
own_columns (Keep K x) = K
own_columns (Distinct x) = []
own_columns (Group K G x) = K

-- what most expressions that differ differ in
abbrev pub expr_text : Expr → List ℕ
expr_text x = flat_map number_text (children x) ++ (flat_map number_text (own_columns x) ++ flat_map condition_text (conditions x))

abbrev pub items_of : {A : Type 0} → Option (Vec ℕ A) → List ℕ
items_of None = []
items_of (Some lines) = lines.items

-- the lines that are entered by a text
abbrev pub lines_by : {Y A S : Type 0} → HashMap (String Y) (Vec ℕ A) S → List ℕ → List ℕ
lines_by lines text = items_of (get_by_text lines text)

-- a line is among those with the text of an expression
abbrev pub IsEntered : {Y A S : Type 0} → HashMap (String Y) (Vec ℕ A) S → Expr → ℕ → Type 0
IsEntered lines x n = has (lines_by lines (expr_text x)) n ≡ true

-- so is each line of a log by its own
abbrev pub AreEntered : {Y A S : Type 0} → HashMap (String Y) (Vec ℕ A) S → Log → Type 0
AreEntered lines E = (n : ℕ) (l : matches.Line) → member E n ≡ Some l → IsEntered lines l.expr n

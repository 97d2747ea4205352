-- On what the rows of a class and the truth of a condition depend.
-- Environments and what a query reads of them: Guagliardo and Libkin, PVLDB 11(1), 2017.
use Rattle.std.specs.Prelude.{◌≡◌, ℕ, true, List, map}
use Rattle.query.specs.declared.query.TableInstance.{TableInstance}
use Rattle.query.specs.Rows.{Tables}
use Rattle.algebra.specs.declared.condition.Condition.{Condition}
use Rattle.algebra.specs.declared.expr.Aggregation.{Aggregation}
use Rattle.algebra.specs.declared.expr.Expr.{Expr}
use Rattle.algebra.specs.Columns.{ColumnSet, has}
use Rattle.algebra.specs.Bags.{Env, Bag, lay}
use Rattle.algebra.specs.Conditions.{truth, mentions}
use Rattle.algebra.specs.Expressions.{Classes}
use Rattle.algebra.specs.Classes.{classes, AreFormed}

-- the two read the same in the columns
abbrev pub SameIn : ColumnSet → Env → Env → Type 0
SameIn columns e d = (c : ℕ) → columns c ≡ true → e c ≡ d c

-- In environments that read the same in the free columns the rows are the same but for the environment: those in the one are those
-- in the other, in their order, each laid over it with its columns. So each row is its environment outside the columns.
abbrev pub Fits : ColumnSet → ColumnSet → Bag → Type 0
Fits columns free x = (e d : Env) → SameIn free e d → x d ≡ map (λ r. lay columns r d) (x e)

-- the rows of each class fit its columns and its free columns
abbrev pub AreFitting : Classes → Type 0
AreFitting W = (g : ℕ) → Fits (has (W.columns g)) (W.free g) (W.rows g)

-- a condition over such classes has one truth at rows that read the same in the columns that it mentions
abbrev pub ConditionsReadMentions : Type 0
ConditionsReadMentions = (W : Classes) → AreFitting W → (c : Condition) (r s : Env) → SameIn (mentions c W.columns W.free) r s → truth c W.rows r ≡ truth c W.rows s

-- the classes of well-formed expressions are such
abbrev pub ClassesFit : Type 0
ClassesFit = (instances : List TableInstance) (own : List Aggregation) (D : Tables) (E : List Expr) → AreFormed instances own E → AreFitting (classes instances D E)

-- A null-aware condition of an antijoin that is never unknown is an ordinary one: it rejects a left row where it is true, and no more.
-- Null-aware antijoins: Bellamkonda et al., Enhanced subquery optimizations in Oracle, PVLDB 2(2), 2009.
use Rattle.std.specs.Prelude.{ℕ, Bool, false, not, ◌&&◌, ◌||◌, List, Result, Ok, Err}
use Rattle.values.specs.Faults.{◌>>=◌, wanted}
use Rattle.values.specs.Truth.{is_null}
use Rattle.algebra.specs.declared.condition.Condition.{Condition, fold-Condition}
use Rattle.algebra.specs.declared.condition.Condition.TheOpen.{Condition-F}
use Rattle.algebra.specs.declared.condition.Term.{Term}
use Rattle.algebra.specs.declared.condition.Term.TheVariants as term
use Rattle.algebra.specs.declared.expr.Expr.{Expr}
use Rattle.algebra.specs.declared.expr.Expr.TheVariants as expr
use Rattle.algebra.specs.Columns.{ColumnSet, has}
use Rattle.algebra.specs.ConjunctOrder.{conjuncts}
use Rattle.algebra.specs.ConjunctParts.{union, part, rest}
use Rattle.props.specs.Knowledge.{Knowledge}
use Rattle.rules.specs.declared.pattern.Operator.TheVariants as operator
use Rattle.rules.specs.declared.pattern.Operators.TheVariants.{Only}
use Rattle.rules.specs.declared.pattern.Pattern as lines
use Rattle.rules.specs.declared.pattern.Pattern.TheVariants.{One}
use Rattle.rules.specs.declared.promise.Promise.{Promise}
use Rattle.rules.specs.declared.promise.Promise.TheVariants.{Simpler}
use Rattle.rules.specs.declared.shape.Shape.{Shape}
use Rattle.rules.specs.declared.shape.Shape.TheVariants.{Class, Anti}
use Rattle.rules.specs.declared.unfit.Unfit.{Unfit}
use Rattle.rules.specs.declared.unfit.Unfit.TheVariants.{Pattern}
use Rattle.rules.specs.Conjuncts.{wanted_some}
use Rattle.rules.specs.Matches.{Matched, one_line}

-- the lines that it takes
abbrev pub pattern : lines.Pattern
pattern = One (Only operator.Anti)

-- ---- conditions that are never unknown

-- a literal other than NULL, or one of the columns
abbrev pub is_filled : ColumnSet → Term → Bool
is_filled N (term.Column c) = N c
is_filled N (term.Literal v) = not (is_null v)

abbrev pub compares_layer : Condition-F (ColumnSet → Bool) → ColumnSet → Bool
compares_layer (Condition-F.Compare op a b) N = is_filled N a && is_filled N b
compares_layer (Condition-F.IsNull a) N = false
compares_layer (Condition-F.Not c) N = false
compares_layer (Condition-F.And a b cs) N = false
compares_layer (Condition-F.Or a b cs) N = false
compares_layer (Condition-F.Exists g) N = false
compares_layer (Condition-F.In a g k) N = false

-- whether a condition compares two such terms
unfoldable pub compares_filled : Condition → ColumnSet → Bool
compares_filled = fold-Condition (ColumnSet → Bool) compares_layer

-- the columns that are known to be nowhere Null in one of two classes
abbrev pub filled_columns : Knowledge → ℕ → ℕ → ColumnSet
filled_columns K a b c = has (K.facts a).not_null c || has (K.facts b).not_null c

abbrev pub is_decided : Knowledge → ℕ → ℕ → Condition → Bool
is_decided K a b c = compares_filled c (filled_columns K a b)

-- ---- they are moved

-- some conditions go to the ordinary ones, and the others stay
abbrev pub moved : List Condition → List Condition → List Condition → ℕ → ℕ → Result Shape Unfit
moved N P R a b = wanted_some P >>= λ P. Ok (Anti (union N P) (conjuncts R) (Class a) (Class b))

abbrev pub decided : Knowledge → List Condition → List Condition → ℕ → ℕ → Result Shape Unfit
decided K N M a b = moved N (part (is_decided K a b) M) (rest (is_decided K a b) M) a b

abbrev pub decided_of : Knowledge → Expr → Result Shape Unfit
decided_of K (expr.Anti N M a b) = decided K N M a b
decided_of K x = Err Pattern

abbrev pub antijoin_of_filled : Matched → Result Shape Unfit
antijoin_of_filled m = wanted Pattern (one_line m) >>= decided_of m.classes

-- when it is tried
abbrev pub promise : Matched → Promise
promise m = Simpler

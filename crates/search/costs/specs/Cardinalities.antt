-- Cardinalities: how many rows a class is estimated to have, by the line that founds it. One number serves all classes that are the
-- same: that of the least. No number passes the greatest of 64 bits, as those of the statistics don't.
-- What is asked of the rows of an inner join is asked of a side's rows where it names no column of the other side, as JOIN .. ON asks it: so a selection over
-- joins has the rows of the join of selections. That filters go below joins: Selinger et al., Access path selection in a relational database management system,
-- 1979. Conditions that follow from others aren't counted (Equalities). The numbers are this project's own.
use Rattle.std.specs.Prelude.{◌≡◌, ℕ, ◌*◌, ◌==◌, ◌<◌, Bool, nat_lt, max, not, if◌then◌else◌, List, [], ◌∷◌, ◌++◌, fold, map, filter, length, reverse, take, slice_get, slice_index_or, Option, Some, None}
use Rattle.std.specs.Int.{div_ceil}
use Rattle.std.specs.List.{list_any}
use Rattle.query.specs.declared.query.TableInstance.{TableInstance}
use Rattle.algebra.specs.declared.condition.Condition.{Condition}
use Rattle.algebra.specs.declared.expr.Expr.{Expr}
use Rattle.algebra.specs.declared.expr.Expr.TheVariants.{Get, Select, Join, LeftJoin, Semi, Anti, Keep, Distinct, Group}
use Rattle.algebra.specs.ConditionEquality.{same_condition}
use Rattle.algebra.specs.ConjunctParts.{part, rest, has_no_class, is_without}
use Rattle.props.specs.Knowledge.{Knowledge, known}
use Rattle.derivation.specs.declared.line.Line.{Line}
use Rattle.derivation.specs.declared.line.Line.TheVariants.{Founds, Adds, Unites, Alike, Gives}
use Rattle.derivation.specs.Logs.{Log, knowledge}
use Rattle.statistics.specs.declared.counts.Statistics.{Statistics}
use Rattle.costs.specs.declared.cardinalities.Estimator.{Estimator}
use Rattle.costs.specs.declared.condition_lists.Filtered.{Filtered}
use Rattle.costs.specs.Equalities.{counted, with_equations, within}
use Rattle.costs.specs.Numbers.{cut, per_million}
use Rattle.costs.specs.Tables.{rows_of}
use Rattle.costs.specs.Selectivity.{both, selectivity}

-- ---- conditions

-- of so many rows those of a share, a millionth at least
abbrev pub kept : Filtered → ℕ
kept filtered = per_million filtered.rows (max 1 filtered.share)

-- one condition more: where all together would keep less than a millionth, it is asked of the rows that those before it leave
unfoldable pub filtered_further : Filtered → ℕ → Filtered
filtered_further filtered share = if nat_lt (filtered.share * share) 1000000 then record { rows = kept filtered; share = share } else record { rows = filtered.rows; share = both filtered.share share }

abbrev pub all_filtered : ℕ → List ℕ → Filtered
all_filtered rows shares = fold filtered_further (record { rows = rows; share = 1000000 }) shares

-- of so many rows, those at which conditions are true
abbrev pub passing : Statistics → List TableInstance → List Condition → ℕ → ℕ
passing S instances C rows = kept (all_filtered rows (map (selectivity S instances) C))

-- the pairs of so many rows that make all conjuncts true
abbrev pub condition_pairs : Statistics → List TableInstance → List Condition → ℕ → ℕ → ℕ
condition_pairs S instances C left right = passing S instances C (cut (left * right))

-- a list, and what another has besides
abbrev pub with_others : List Condition → List Condition → List Condition
with_others D C = D ++ filter (λ c. not (list_any (same_condition c) D)) C

-- whether a condition names no column of a class
abbrev pub is_apart : Knowledge → ℕ → Condition → Bool
is_apart K g = is_without K.columns K.free (K.columns g)

-- of conditions over a join, those of the left side, those of the right side, and those of pairs
abbrev pub of_left : Knowledge → ℕ → List Condition → List Condition
of_left K right C = part (is_apart K right) C

abbrev pub of_right : Knowledge → ℕ → ℕ → List Condition → List Condition
of_right K left right C = part (is_apart K left) (rest (is_apart K right) C)

abbrev pub of_pairs : Knowledge → ℕ → ℕ → List Condition → List Condition
of_pairs K left right C = rest (is_apart K left) (rest (is_apart K right) C)

-- ---- of an expression: the columns that are equal in its rows, by equations, P being those of the classes

abbrev pub expr_equations : (ℕ → List (ℕ × ℕ)) → Expr → List (ℕ × ℕ)
expr_equations P (Get o) = []
expr_equations P (Select D x) = with_equations (P x) D
expr_equations P (Join D a b) = with_equations (P a ++ P b) D
expr_equations P (LeftJoin D a b) = P a
expr_equations P (Semi D a b) = P a
expr_equations P (Anti D M a b) = P a
expr_equations P (Keep L x) = within L (P x)
expr_equations P (Distinct x) = P x
expr_equations P (Group L G x) = within L (P x)

-- ---- of an expression: the rows at which conditions are true, n being those of the classes

abbrev pub instance_rows : Statistics → Option TableInstance → ℕ
instance_rows S None = 0
instance_rows S (Some t) = rows_of S t

-- without keys all rows are one group
abbrev pub groups : List ℕ → ℕ → ℕ
groups [] rows = 1
groups (k ∷ keys) rows = div_ceil rows 10

-- the equations that hold in the rows of both sides, where conditions are asked of them
abbrev pub equations_of_sides : Knowledge → (ℕ → List (ℕ × ℕ)) → ℕ → ℕ → List Condition → List (ℕ × ℕ)
equations_of_sides K P a b C = with_equations (P a) (of_left K b C) ++ with_equations (P b) (of_right K a b C)

abbrev pub joined_rows : Statistics → List TableInstance → Knowledge → (ℕ → List (ℕ × ℕ)) → (ℕ → List Condition → ℕ) → List Condition → ℕ → ℕ → List Condition → ℕ
joined_rows S instances K P n D a b C = condition_pairs S instances (counted (equations_of_sides K P a b C) (with_others D (of_pairs K a b C))) (n a (of_left K b C)) (n b (of_right K a b C))

abbrev pub left_join_rows : Statistics → List TableInstance → (ℕ → List (ℕ × ℕ)) → (ℕ → List Condition → ℕ) → List Condition → ℕ → ℕ → ℕ
left_join_rows S instances P n D a b = max (n a []) (condition_pairs S instances (counted (P a ++ P b) D) (n a []) (n b []))

-- of so many rows of an expression, those at which conditions are true
abbrev pub asked_rows : Statistics → List TableInstance → (ℕ → List (ℕ × ℕ)) → Expr → List Condition → ℕ → ℕ
asked_rows S instances P x C rows = passing S instances (counted (expr_equations P x) C) rows

-- conditions with subqueries are asked last, of the rows that the others leave
abbrev pub expr_rows : Statistics → List TableInstance → Knowledge → (ℕ → List (ℕ × ℕ)) → (ℕ → List Condition → ℕ) → Expr → List Condition → ℕ
expr_rows S instances K P n (Get o) C = asked_rows S instances P (Get o) C (instance_rows S (slice_get instances o))
expr_rows S instances K P n (Select D x) C = n x (with_others D C)
expr_rows S instances K P n (Join D a b) C = passing S instances (rest has_no_class C) (joined_rows S instances K P n D a b (part has_no_class C))
expr_rows S instances K P n (LeftJoin D a b) C = asked_rows S instances P (LeftJoin D a b) C (left_join_rows S instances P n D a b)
expr_rows S instances K P n (Semi D a b) C = asked_rows S instances P (Semi D a b) C (div_ceil (n a []) 2)
expr_rows S instances K P n (Anti D M a b) C = asked_rows S instances P (Anti D M a b) C (div_ceil (n a []) 2)
expr_rows S instances K P n (Keep L x) C = asked_rows S instances P (Keep L x) C (n x [])
expr_rows S instances K P n (Distinct x) C = asked_rows S instances P (Distinct x) C (div_ceil (n x []) 10)
expr_rows S instances K P n (Group L G x) C = asked_rows S instances P (Group L G x) C (groups L (n x []))

-- ---- of a class

-- the expression of a line that founds a class
abbrev pub founded : Line → Option Expr
founded (Founds x) = Some x
founded (Adds g s x) = None
founded (Unites g h s) = None
founded (Alike i j) = None
founded (Gives g m f) = None

abbrev pub founded_equations : (ℕ → List (ℕ × ℕ)) → Option Expr → List (ℕ × ℕ)
founded_equations P None = []
founded_equations P (Some x) = expr_equations P x

-- by the class's own line, where each class that the line names counts as the one that stands for it
abbrev pub own_equations : (ℕ → ℕ) → Log → ℕ → List (ℕ × ℕ)
own_equations root [] k = []
own_equations root (line ∷ E) k = if k == length E then founded_equations (λ g. own_equations root E (root g)) (founded line) else own_equations root E k

-- a line that founds no class counts no rows
abbrev pub founded_rows : Statistics → List TableInstance → Knowledge → (ℕ → List (ℕ × ℕ)) → (ℕ → List Condition → ℕ) → Option Expr → List Condition → ℕ
founded_rows S instances K P n None C = 0
founded_rows S instances K P n (Some x) C = expr_rows S instances K P n x C

abbrev pub line_rows : Statistics → List TableInstance → Knowledge → (ℕ → List (ℕ × ℕ)) → (ℕ → List Condition → ℕ) → Line → List Condition → ℕ
line_rows S instances K P n line C = founded_rows S instances K P n (founded line) C

abbrev pub own_rows : Statistics → List TableInstance → Knowledge → Log → ℕ → List Condition → ℕ
own_rows S instances K [] k C = 0
own_rows S instances K (line ∷ E) k C = if k == length E then line_rows S instances K (λ g. own_equations K.root E (K.root g)) (λ g D. own_rows S instances K E (K.root g) D) line C else own_rows S instances K E k C

abbrev pub class_rows : Statistics → List TableInstance → Log → ℕ → ℕ
class_rows S instances E k = own_rows S instances (knowledge instances E) E ((knowledge instances E).root k) []

-- ---- as code keeps them

abbrev pub rows_at : List ℕ → ℕ → ℕ
rows_at rows k = slice_index_or rows k 0

abbrev pub equations_at : List (List (ℕ × ℕ)) → ℕ → List (ℕ × ℕ)
equations_at equations k = slice_index_or equations k []

-- by the lines that are at hand
abbrev pub own_equations_by : Estimator → ℕ → List (ℕ × ℕ)
own_equations_by by = own_equations (known by.classes).root (reverse by.lines.now)

-- of the class that stands for this one
abbrev pub equations_by : Estimator → ℕ → List (ℕ × ℕ)
equations_by by g = own_equations_by by ((known by.classes).root g)

abbrev pub own_rows_by : Estimator → ℕ → List Condition → ℕ
own_rows_by by = own_rows by.statistics.now by.instances.now (known by.classes) (reverse by.lines.now)

abbrev pub expr_rows_by : Estimator → Expr → List Condition → ℕ
expr_rows_by by = expr_rows by.statistics.now by.instances.now (known by.classes) (equations_by by) (λ g. own_rows_by by ((known by.classes).root g))

-- the rows and the equations that are kept are those of the classes, of no condition
pub record HasRows (by : Estimator) : Type 0 where
  pub length_ : length by.rows.now ≡ length by.lines.now
  pub each : (k : ℕ) → rows_at by.rows.now k ≡ own_rows_by by k []
  pub as_many : length by.equations.now ≡ length by.lines.now
  pub equal : (k : ℕ) → equations_at by.equations.now k ≡ own_equations_by by k

-- the same by the lines before one
pub record IsBefore (by : Estimator) (line : ℕ) (earlier : Estimator) : Type 0 where
  pub statistics_are : earlier.statistics.now ≡ by.statistics.now
  pub instances_are : earlier.instances.now ≡ by.instances.now
  pub classes_are : earlier.classes ≡ by.classes
  pub lines_are : earlier.lines.now ≡ take line by.lines.now
  pub rows_are : HasRows earlier

-- a list of the classes' rows by their numbers
abbrev pub AreRows : Statistics → List TableInstance → Log → List ℕ → Type 0
AreRows S instances E rows = (k : ℕ) → rows_at rows k ≡ class_rows S instances E k

-- so many of them, each from the class that stands for it
pub record ShareRows (root : ℕ → ℕ) (own : List ℕ) (count : ℕ) (rows : List ℕ) : Type 0 where
  pub length_ : length rows ≡ count
  pub each : (k : ℕ) → k < count → rows_at rows k ≡ rows_at own (root k)

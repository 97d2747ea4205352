-- When a line may stand behind a log, and why it may not: the first fault here is the one that is reported.
use Rattle.std.specs.Prelude.{◌≡◌, ℕ, Bool, true, false, ◌&&◌, nat_lt, if◌then◌else◌, List, [], ◌∷◌, length, Option, Some, None, Result, Ok, Err}
use Rattle.std.specs.List.{list_all}
use Rattle.values.specs.Faults.{◌>>=◌, wanted, wanted_if}
use Rattle.query.specs.declared.query.TableInstance.{TableInstance}
use Rattle.algebra.specs.declared.expr.Aggregation.{Aggregation}
use Rattle.algebra.specs.declared.expr.Expr.{Expr}
use Rattle.algebra.specs.Alike.{rooted}
use Rattle.algebra.specs.Columns.{is_subset}
use Rattle.algebra.specs.Equality.{same_columns, same_expr}
use Rattle.algebra.specs.Expressions.{columns_of, classes_pass, is_formed}
use Rattle.props.specs.declared.fact.Fact.{Fact}
use Rattle.props.specs.Facts.{fact_columns}
use Rattle.props.specs.Given.{gives}
use Rattle.props.specs.Knowledge.{Knowledge, are_same}
use Rattle.rules.specs.declared.shape.Shape.{Shape}
use Rattle.rules.specs.declared.unfit.Unfit.{Unfit}
use Rattle.rules.specs.declared.unfit.Unfit.TheVariants.{Pattern, Condition}
use Rattle.rules.specs.Matches as matches
use Rattle.rules.specs.Matches.{Matched}
use Rattle.book.specs.declared.names.RuleName.{RuleName}
use Rattle.derivation.specs.declared.line.Line.{Line}
use Rattle.derivation.specs.declared.line.Line.TheVariants.{Founds, Adds, Unites, Alike, Gives}
use Rattle.derivation.specs.declared.line.LineReason.{LineReason}
use Rattle.derivation.specs.declared.line.LineReason.TheVariants.{UnknownLine, IllFormed, OtherForm, FailedCondition, FailedFact, OtherLine}
use Rattle.derivation.specs.declared.line.Step.{Step}
use Rattle.book.specs.Book.{given_by}
use Rattle.derivation.specs.Logs.{Log, founds, member, knowledge}
use Rattle.derivation.specs.Spelling.{is_expr, is_class}

-- ---- what lines cite

abbrev pub is_earlier : Log → ℕ → Bool
is_earlier E i = nat_lt i (length E)

-- whether a step cites earlier lines
abbrev pub cites : Log → Step → Bool
cites E s = list_all (is_earlier E) s.uses && list_all (is_earlier E) s.makes

-- the lines with these numbers, if each has an expression
abbrev pub both_lines : Option matches.Line → Option (List matches.Line) → Option (List matches.Line)
both_lines None rest = None
both_lines (Some l) None = None
both_lines (Some l) (Some lines) = Some (l ∷ lines)

abbrev pub members : Log → List ℕ → Option (List matches.Line)
members E [] = Some []
members E (i ∷ uses) = both_lines (member E i) (members E uses)

-- whether an expression names classes that are founded
abbrev pub is_known : Log → Expr → Bool
is_known E = classes_pass (founds E)

-- ---- by what is known

-- whether a line is of a class that is the same as this one
abbrev pub is_of : Knowledge → ℕ → Option matches.Line → Bool
is_of K g None = false
is_of K g (Some l) = are_same K l.class g

-- whether the first of the lines is
abbrev pub begins_at : Knowledge → ℕ → List matches.Line → Bool
begins_at K g [] = false
begins_at K g (l ∷ lines) = are_same K l.class g

-- whether lines have expressions that are alike: equal with the least same class for each, conjuncts in order again, each once
abbrev pub are_alike : Knowledge → Option matches.Line → Option matches.Line → Bool
are_alike K None l = false
are_alike K (Some k) None = false
are_alike K (Some k) (Some l) = same_expr (rooted K.root k.expr) (rooted K.root l.expr)

-- whether a line gives a fact of the class
abbrev pub gives_fact : List TableInstance → Knowledge → ℕ → Fact → Option matches.Line → Bool
gives_fact instances K g f None = false
gives_fact instances K g f (Some l) = gives instances K g l.expr f

abbrev pub unfit : RuleName → Unfit → LineReason
unfit rule Pattern = OtherForm
unfit rule Condition = FailedCondition rule

abbrev pub or_unfit : RuleName → Result Shape Unfit → Result Shape LineReason
or_unfit rule (Ok s) = Ok s
or_unfit rule (Err u) = Err (unfit rule u)

module _ (K : Knowledge) (E : Log) where
  -- lines of which the first is of the class, with what is known
  abbrev pub matched_at : ℕ → Step → Option (List matches.Line) → Option Matched
  matched_at g s None = None
  matched_at g s (Some lines) = if begins_at K g lines then Some (record { lines = lines; pick = s.pick; classes = K }) else None

  -- what a step from the class is applied to
  abbrev pub applied_to : ℕ → Step → Option Matched
  applied_to g s = matched_at g s (members E s.uses)

  -- what it gives
  abbrev pub given : ℕ → Step → Result Shape LineReason
  given g s = wanted OtherForm (applied_to g s) >>= λ m. or_unfit s.rule (given_by s.rule m)

-- a line that may stand behind a log of which this is known
module _ (instances : List TableInstance) (own : List Aggregation) (K : Knowledge) (E : Log) where
  abbrev pub judged : Line → Result Line LineReason
  judged (Founds x) =
      wanted_if UnknownLine (is_known E x) (Founds x)
      >>= λ l. wanted_if IllFormed (is_formed instances own K.columns x) l
  judged (Adds g s x) =
      wanted_if UnknownLine (founds E g && cites E s && is_known E x) (Adds g s x)
      >>= λ l. wanted_if IllFormed (is_formed instances own K.columns x && same_columns (columns_of instances K.columns x) (K.columns g)) l
      >>= λ l. given K E g s
      >>= λ shape. wanted_if OtherLine (is_expr (member E) shape s.makes x) l
  judged (Unites g h s) =
      wanted_if UnknownLine (founds E g && founds E h && cites E s) (Unites g h s)
      >>= λ l. wanted_if IllFormed (same_columns (K.columns g) (K.columns h)) l
      >>= λ l. given K E g s
      >>= λ shape. wanted_if OtherLine (is_class (member E) shape s.makes (are_same K h)) l
  judged (Alike i j) =
      wanted_if UnknownLine (is_earlier E i && is_earlier E j) (Alike i j)
      >>= λ l. wanted_if OtherForm (are_alike K (member E i) (member E j)) l
  judged (Gives g m f) =
      wanted_if UnknownLine (founds E g && is_earlier E m) (Gives g m f)
      >>= λ l. wanted_if IllFormed (is_subset (fact_columns f) (K.columns g)) l
      >>= λ l. wanted_if OtherForm (is_of K g (member E m)) l
      >>= λ l. wanted_if FailedFact (gives_fact instances K g f (member E m)) l

-- a line that may stand behind a log
abbrev pub stands : List TableInstance → List Aggregation → Log → Line → Result Line LineReason
stands instances own E = judged instances own (knowledge instances E) E

-- each line of the log may stand where it does
abbrev pub Replays : List TableInstance → List Aggregation → Log → Type 0
Replays instances own [] = Unit {0}
Replays instances own (l ∷ E) = (stands instances own E l ≡ Ok l) × Replays instances own E

-- Small logs over three instances of one table: what worked logs are made of.
use Rattle.std.specs.Prelude.{◌≡◌, ℕ, true, false, List, [], ◌∷◌, ◌++◌, reverse, Ok, Err, codes}
use Rattle.values.specs.declared.truth.Comparison.TheVariants as by
use Rattle.schema.specs.declared.schema.Table.{Table}
use Rattle.schema.specs.declared.schema.Kind.TheVariants as kind
use Rattle.query.specs.declared.query.TableInstance.{TableInstance}
use Rattle.algebra.specs.declared.condition.Condition.{Condition}
use Rattle.algebra.specs.declared.condition.Condition.TheVariants.{Compare, IsNull}
use Rattle.algebra.specs.declared.condition.Term.TheVariants.{Column}
use Rattle.algebra.specs.declared.expr.Expr.TheVariants.{Get, Join, LeftJoin}
use Rattle.props.specs.declared.fact.Fact.TheVariants.{NotNull, WeakKey}
use Rattle.book.specs.declared.names.RuleName.{RuleName}
use Rattle.derivation.specs.declared.line.Line.{Line}
use Rattle.derivation.specs.declared.line.Line.TheVariants.{Founds, Gives}
use Rattle.derivation.specs.declared.line.LineReason.{LineReason}
use Rattle.derivation.specs.declared.line.Step.{Step}
use Rattle.derivation.specs.Replay.{stands}

-- ---- the query's table instances

-- two columns: the key, which is NOT NULL, and one that may be Null
abbrev pub emp_table : Table
emp_table = record {
  name = codes "emp";
  columns = record { name = codes "id"; kind = kind.Int; not_null = true } ∷ record { name = codes "dept"; kind = kind.Int; not_null = false } ∷ [];
  unique = (0 ∷ []) ∷ [];
  indexes = [];
}

-- an instance whose columns have this number and the next
abbrev pub emp : ℕ → TableInstance
emp first = record { table = 0; entry = emp_table; name = codes "e"; first_column = first }

-- the instances 0, 1 and 2
abbrev pub emps : List TableInstance
emps = emp 0 ∷ emp 2 ∷ emp 4 ∷ []

-- ---- lines that are numbered from 0

-- the line may stand behind the others
abbrev pub Stands : List Line → Line → Type 0
Stands lines l = stands emps [] (reverse lines) l ≡ Ok l

-- it may not, and this is why
abbrev pub IsRefused : List Line → Line → LineReason → Type 0
IsRefused lines l r = stands emps [] (reverse lines) l ≡ Err r

-- a rule with its pick, applied to the lines of the first list, the top first; those of the second spell the inner expressions of what it gives
abbrev pub by_pick : RuleName → ℕ → List ℕ → List ℕ → Step
by_pick name pick uses makes = record { rule = name; pick = pick; uses = uses; makes = makes }

-- the same with the pick 0: nothing is picked, or the first conjunct
abbrev pub by_rule : RuleName → List ℕ → List ℕ → Step
by_rule name uses makes = by_pick name 0 uses makes

-- ---- conditions and expressions

-- e0.id = e1.id
abbrev pub equal_ids : List Condition
equal_ids = Compare by.Equal (Column 0) (Column 2) ∷ []

-- e1.id > e2.id
abbrev pub falling_ids : List Condition
falling_ids = Compare by.Greater (Column 2) (Column 4) ∷ []

-- e0.dept IS NULL
abbrev pub without_dept : List Condition
without_dept = IsNull (Column 1) ∷ []

-- e0.id = e1.id AND e0.dept IS NULL
abbrev pub both : List Condition
both = Compare by.Equal (Column 0) (Column 2) ∷ IsNull (Column 1) ∷ []

-- e1.dept IS NULL
abbrev pub without_right_dept : List Condition
without_right_dept = IsNull (Column 3) ∷ []

-- e0.id = e1.id AND e1.dept IS NULL
abbrev pub both_right : List Condition
both_right = Compare by.Equal (Column 0) (Column 2) ∷ IsNull (Column 3) ∷ []

-- e0.id = e2.id
abbrev pub equal_third_ids : List Condition
equal_third_ids = Compare by.Equal (Column 0) (Column 4) ∷ []

-- e1.id IS NULL
abbrev pub without_right_id : List Condition
without_right_id = IsNull (Column 2) ∷ []

-- ---- the first lines of logs

abbrev pub one_table : List Line
one_table = Founds (Get 0) ∷ []

abbrev pub two_tables : List Line
two_tables = Founds (Get 0) ∷ Founds (Get 1) ∷ []

-- two tables and, in line 2, their join
abbrev pub joined : List Line
joined = two_tables ++ Founds (Join equal_ids 0 1) ∷ []

-- two tables and, in line 2, their left join
abbrev pub left_joined : List Line
left_joined = two_tables ++ Founds (LeftJoin equal_ids 0 1) ∷ []

-- three tables, in line 3 the join of the first two, in line 4 its join with the third
abbrev pub twice_joined : List Line
twice_joined = two_tables ++ Founds (Get 2) ∷ Founds (Join equal_ids 0 1) ∷ Founds (Join falling_ids 3 2) ∷ []

-- three tables, in line 3 the join of the first two
abbrev pub joined_of_three : List Line
joined_of_three = two_tables ++ Founds (Get 2) ∷ Founds (Join equal_ids 0 1) ∷ []

-- the same of their left join
abbrev pub left_joined_of_three : List Line
left_joined_of_three = two_tables ++ Founds (Get 2) ∷ Founds (LeftJoin equal_ids 0 1) ∷ []

-- a table of which a weak key is known, of NOT NULL columns
abbrev pub weakly_keyed : List Line
weakly_keyed = one_table ++ Gives 0 0 (NotNull 0) ∷ Gives 0 0 (WeakKey (0 ∷ [])) ∷ []

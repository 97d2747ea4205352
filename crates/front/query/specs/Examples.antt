-- The meaning of small queries over two tables, row by row: what SQL's reader expects of Null, IN, joins and aggregates.
use Rattle.std.specs.Prelude.{◌≡◌, ℕ, pos, true, false, List, [], ◌∷◌, Option, Some, None, codes}
use Rattle.values.specs.declared.value.Value.{Value}
use Rattle.values.specs.declared.value.Value.TheVariants as value
use Rattle.values.specs.declared.truth.Comparison.TheVariants as by
use Rattle.schema.specs.declared.schema.Schema.{Schema}
use Rattle.schema.specs.declared.schema.Table.{Table}
use Rattle.schema.specs.declared.schema.Kind.TheVariants as kind
use Rattle.schema.specs.Databases.{Row, Database, Satisfies}
use Rattle.query.specs.declared.query.Aggregate.TheVariants as aggregate
use Rattle.query.specs.declared.query.Term.{Term}
use Rattle.query.specs.declared.query.Term.TheVariants as term
use Rattle.query.specs.declared.query.Cond.{Cond}
use Rattle.query.specs.declared.query.Cond.TheVariants as cond
use Rattle.query.specs.declared.query.TableReference.{TableReference}
use Rattle.query.specs.declared.query.From.{From}
use Rattle.query.specs.declared.query.From.TheVariants as from
use Rattle.query.specs.declared.query.Item.{Item}
use Rattle.query.specs.declared.query.Item.TheVariants as item
use Rattle.query.specs.declared.query.Block.{Block}
use Rattle.query.specs.declared.query.Query.{Query}
use Rattle.query.specs.Rows.{tables_of}
use Rattle.query.specs.Answer.{IsAnswer}
use Rattle.query.specs.Meaning.{rows}

-- ---- the tables

abbrev pub int : ℕ → Value
int n = value.Int (pos n)

abbrev pub dept_table : Table
dept_table = record {
  name = codes "dept";
  columns = record { name = codes "id"; kind = kind.Int; not_null = true } ∷ record { name = codes "name"; kind = kind.Text; not_null = true } ∷ record { name = codes "boss"; kind = kind.Int; not_null = false } ∷ [];
  unique = (0 ∷ []) ∷ [];
  indexes = [];
}

abbrev pub emp_table : Table
emp_table = record {
  name = codes "emp";
  columns = record { name = codes "id"; kind = kind.Int; not_null = true } ∷ record { name = codes "dept"; kind = kind.Int; not_null = false }
      ∷ record { name = codes "pay"; kind = kind.Int; not_null = false } ∷ record { name = codes "badge"; kind = kind.Int; not_null = false } ∷ [];
  unique = (0 ∷ []) ∷ (3 ∷ []) ∷ [];
  indexes = [];
}

abbrev pub company : Schema
company = record { tables = dept_table ∷ emp_table ∷ [] }

abbrev pub dept_rows : List Row
dept_rows =
    (int 1 ∷ value.Text (codes "ops") ∷ int 10 ∷ [])
    ∷ (int 2 ∷ value.Text (codes "lab") ∷ value.Null ∷ [])
    ∷ (int 3 ∷ value.Text (codes "dev") ∷ int 12 ∷ [])
    ∷ []

abbrev pub emp_rows : List Row
emp_rows =
    (int 10 ∷ int 1 ∷ int 500 ∷ int 7 ∷ [])
    ∷ (int 11 ∷ int 1 ∷ value.Null ∷ value.Null ∷ [])
    ∷ (int 12 ∷ int 3 ∷ int 400 ∷ value.Null ∷ [])
    ∷ (int 13 ∷ value.Null ∷ int 500 ∷ int 9 ∷ [])
    ∷ []

abbrev pub company_rows : Database
company_rows = dept_rows ∷ emp_rows ∷ []

-- ---- parts of queries

-- the column at a place of the block's own FROM
abbrev pub own : ℕ → Term
own place = term.Column (record { level = 0; place = place })

-- the column at a place of the enclosing block's FROM
abbrev pub outer : ℕ → Term
outer place = term.Column (record { level = 1; place = place })

abbrev pub number : ℕ → Term
number n = term.Literal (int n)

abbrev pub show : ℕ → Item
show place = item.Column (record { level = 0; place = place })

-- an instance of dept, by its number in the text
abbrev pub dept : ℕ → TableReference
dept n = record { number = n; table = 0 }

-- an instance of emp, by its number in the text
abbrev pub emp : ℕ → TableReference
emp n = record { number = n; table = 1 }

abbrev pub select : List Item → From → Option Cond → Block
select items source filter = record { from = source; filter = filter; grouped = false; keys = []; having = None; having_items = []; items = items; distinct = false }

-- the rows of an outermost block
abbrev pub answers : Block → List Row
answers q = rows q (tables_of company company_rows) []

-- ---- conditions and Null

-- SELECT id FROM emp WHERE pay <> 500
abbrev pub other_pay : Block
other_pay = select (show 0 ∷ []) (from.Table (emp 0)) (Some (cond.Compare by.NotEqual (own 2) (number 500)))

-- SELECT id FROM emp WHERE NOT (pay = pay)
abbrev pub other_than_itself : Block
other_than_itself = select (show 0 ∷ []) (from.Table (emp 0)) (Some (cond.Not (cond.Compare by.Equal (own 2) (own 2))))

-- ---- subqueries

-- SELECT d.id FROM dept d WHERE d.id NOT IN (SELECT e.dept FROM emp e)
abbrev pub no_dept_of_emps : Block
no_dept_of_emps = select (show 0 ∷ []) (from.Table (dept 0)) (Some (cond.Not (cond.In (own 0) (select (show 1 ∷ []) (from.Table (emp 1)) None))))

-- the same with WHERE e.dept IS NOT NULL in the subquery
abbrev pub no_known_dept_of_emps : Block
no_known_dept_of_emps = select (show 0 ∷ []) (from.Table (dept 0))
    (Some (cond.Not (cond.In (own 0) (select (show 1 ∷ []) (from.Table (emp 1)) (Some (cond.Not (cond.IsNull (own 1))))))))

-- SELECT d.id FROM dept d WHERE NOT EXISTS (SELECT * FROM emp e WHERE e.dept = d.id)
abbrev pub without_emps : Block
without_emps = select (show 0 ∷ []) (from.Table (dept 0))
    (Some (cond.Not (cond.Exists (select (show 0 ∷ show 1 ∷ show 2 ∷ show 3 ∷ []) (from.Table (emp 1)) (Some (cond.Compare by.Equal (own 1) (outer 0)))))))

-- SELECT d.boss FROM dept d WHERE d.boss NOT IN (SELECT e.id FROM emp e WHERE e.pay > 1000)
abbrev pub not_in_nothing : Block
not_in_nothing = select (show 2 ∷ []) (from.Table (dept 0))
    (Some (cond.Not (cond.In (own 2) (select (show 0 ∷ []) (from.Table (emp 1)) (Some (cond.Compare by.Greater (own 2) (number 1000)))))))

-- ---- joins

-- dept d LEFT JOIN emp e ON e.dept = d.id
abbrev pub depts_with_emps : From
depts_with_emps = from.LeftJoin (from.Table (dept 0)) (emp 1) (cond.Compare by.Equal (own 4) (own 0))

-- SELECT d.id, e.id FROM dept d LEFT JOIN emp e ON e.dept = d.id, with this WHERE
abbrev pub pairs_where : Option Cond → Block
pairs_where = select (show 0 ∷ show 3 ∷ []) depts_with_emps

-- SELECT d.id, e.id FROM dept d, emp e WHERE e.dept = d.id
abbrev pub comma_pairs : Block
comma_pairs = select (show 0 ∷ show 3 ∷ []) (from.Comma (from.Table (dept 0)) (from.Table (emp 1))) (Some (cond.Compare by.Equal (own 4) (own 0)))

-- SELECT d.id, e.id, f.id FROM dept d, emp e JOIN dept f ON f.id = e.dept WHERE d.id = 2
abbrev pub comma_chain : Block
comma_chain = select (show 0 ∷ show 3 ∷ show 7 ∷ [])
    (from.Comma (from.Table (dept 0)) (from.Join (from.Table (emp 1)) (dept 2) (cond.Compare by.Equal (own 4) (own 1))))
    (Some (cond.Compare by.Equal (own 0) (number 2)))

-- ---- DISTINCT, groups and aggregates

-- SELECT DISTINCT badge FROM emp
abbrev pub badges : Block
badges = record { from = from.Table (emp 0); filter = None; grouped = false; keys = []; having = None; having_items = []; items = show 3 ∷ []; distinct = true }

-- SELECT COUNT(*), COUNT(pay), SUM(pay), MIN(pay) FROM emp, with this WHERE
abbrev pub totals_where : Option Cond → Block
totals_where filter = record {
  from = from.Table (emp 0);
  filter = filter;
  grouped = true;
  keys = [];
  having = None;
  having_items = [];
  items = item.Aggregate 4 aggregate.CountRows ∷ item.Aggregate 5 (aggregate.Count 2) ∷ item.Aggregate 6 (aggregate.Sum 2) ∷ item.Aggregate 7 (aggregate.Min 2) ∷ [];
  distinct = false;
}

-- SELECT dept, SUM(pay) FROM emp GROUP BY dept
abbrev pub pay_of_depts : Block
pay_of_depts = record { from = from.Table (emp 0); filter = None; grouped = true; keys = 1 ∷ []; having = None; having_items = []; items = show 1 ∷ item.Aggregate 4 (aggregate.Sum 2) ∷ []; distinct = false }

-- SELECT dept, SUM(pay) FROM emp GROUP BY dept ORDER BY dept DESC
abbrev pub pay_of_depts_in_order : Query
pay_of_depts_in_order = record {
  tables = record { table = 1; entry = emp_table; name = codes "emp"; first_column = 0 } ∷ [];
  block = pay_of_depts;
  names = codes "dept" ∷ codes "sum" ∷ [];
  order = record { item = 0; descending = true } ∷ [];
}

-- SELECT dept, COUNT(*) FROM emp GROUP BY dept HAVING COUNT(*) > 1
abbrev pub shared_depts : Block
shared_depts = record {
  from = from.Table (emp 0);
  filter = None;
  grouped = true;
  keys = 1 ∷ [];
  having = Some (cond.Compare by.Greater (own 0) (number 1));
  having_items = item.Aggregate 5 aggregate.CountRows ∷ [];
  items = show 1 ∷ item.Aggregate 4 aggregate.CountRows ∷ [];
  distinct = false;
}

-- SELECT COUNT(*) FROM emp HAVING, with this condition of MIN(pay)
abbrev pub number_having : Cond → Block
number_having having = record {
  from = from.Table (emp 0);
  filter = None;
  grouped = true;
  keys = [];
  having = Some having;
  having_items = item.Aggregate 5 (aggregate.Min 2) ∷ [];
  items = item.Aggregate 4 aggregate.CountRows ∷ [];
  distinct = false;
}

-- SELECT MAX(pay), SUM(pay) FROM emp
abbrev pub sum_of_pay : Block
sum_of_pay = record { from = from.Table (emp 0); filter = None; grouped = true; keys = []; having = None; having_items = []; items = item.Aggregate 4 (aggregate.Max 2) ∷ item.Aggregate 5 (aggregate.Sum 2) ∷ []; distinct = false }

-- two rows of emp with the largest pay that a table holds
abbrev pub well_paid : Database
well_paid =
    []
    ∷ ((int 1 ∷ value.Null ∷ int 9223372036854775807 ∷ value.Null ∷ []) ∷ (int 2 ∷ value.Null ∷ int 9223372036854775807 ∷ value.Null ∷ []) ∷ [])
    ∷ []

-- ---- the rows

abbrev pub one : Value → Row
one v = v ∷ []

abbrev pub two : Value → Value → Row
two v w = v ∷ w ∷ []

pub record WorkedRows : Type 0 where
  pub satisfying : Satisfies company company_rows
  pub comparison_with_null : answers other_pay ≡ one (int 12) ∷ []
  pub not_of_unknown : answers other_than_itself ≡ []
  pub not_in_with_null : answers no_dept_of_emps ≡ []
  pub not_in_without_null : answers no_known_dept_of_emps ≡ one (int 2) ∷ []
  pub not_exists : answers without_emps ≡ one (int 2) ∷ []
  pub null_not_in_nothing : answers not_in_nothing ≡ one (int 10) ∷ one value.Null ∷ one (int 12) ∷ []
  pub left_join : answers (pairs_where None) ≡ two (int 1) (int 10) ∷ two (int 1) (int 11) ∷ two (int 2) value.Null ∷ two (int 3) (int 12) ∷ []
  -- WHERE e.pay > 0
  pub left_join_filtered : answers (pairs_where (Some (cond.Compare by.Greater (own 5) (number 0)))) ≡ two (int 1) (int 10) ∷ two (int 3) (int 12) ∷ []
  -- WHERE e.pay IS NULL
  pub left_join_with_null : answers (pairs_where (Some (cond.IsNull (own 5)))) ≡ two (int 1) (int 11) ∷ two (int 2) value.Null ∷ []
  pub comma : answers comma_pairs ≡ two (int 1) (int 10) ∷ two (int 1) (int 11) ∷ two (int 3) (int 12) ∷ []
  pub comma_before_a_join : answers comma_chain ≡ (int 2 ∷ int 10 ∷ int 1 ∷ []) ∷ (int 2 ∷ int 11 ∷ int 1 ∷ []) ∷ (int 2 ∷ int 12 ∷ int 3 ∷ []) ∷ []
  pub distinct_nulls : answers badges ≡ one (int 7) ∷ one value.Null ∷ one (int 9) ∷ []
  pub aggregates : answers (totals_where None) ≡ (int 4 ∷ int 3 ∷ int 1400 ∷ int 400 ∷ []) ∷ []
  -- WHERE id < 0
  pub aggregates_of_no_rows : answers (totals_where (Some (cond.Compare by.Less (own 0) (number 0)))) ≡ (int 0 ∷ int 0 ∷ value.Null ∷ value.Null ∷ []) ∷ []
  pub null_group : answers pay_of_depts ≡ two (int 1) (int 500) ∷ two (int 3) (int 400) ∷ two value.Null (int 500) ∷ []
  pub having : answers shared_depts ≡ two (int 1) (int 2) ∷ []
  -- HAVING MIN(pay) > 300
  pub having_of_all : answers (number_having (cond.Compare by.Greater (own 0) (number 300))) ≡ one (int 4) ∷ []
  -- HAVING MIN(pay) > 400: without GROUP BY too a group may be left out
  pub having_of_none : answers (number_having (cond.Compare by.Greater (own 0) (number 400))) ≡ []
  -- Null is last under DESC
  pub null_last : IsAnswer pay_of_depts_in_order (tables_of company company_rows) (two (int 3) (int 400) ∷ two (int 1) (int 500) ∷ two value.Null (int 500) ∷ [])
  -- a sum goes past 64 bits
  pub long_sum : rows sum_of_pay (tables_of company well_paid) [] ≡ two (int 9223372036854775807) (int 18446744073709551614) ∷ []

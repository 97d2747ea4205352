-- Two tables and a plan over them, with every estimate worked out.
use Rattle.std.specs.Prelude.{◌≡◌, ℕ, false, List, [], ◌∷◌, codes, pos}
use Rattle.values.specs.declared.truth.Comparison.TheVariants as by
use Rattle.values.specs.declared.value.Value.TheVariants as value
use Rattle.schema.specs.declared.schema.Column as column
use Rattle.schema.specs.declared.schema.Kind.TheVariants as kind
use Rattle.query.specs.declared.query.TableInstance.{TableInstance}
use Rattle.algebra.specs.declared.condition.Condition.{Condition}
use Rattle.algebra.specs.declared.condition.Condition.TheVariants.{Compare}
use Rattle.algebra.specs.declared.condition.Term.TheVariants.{Column, Literal}
use Rattle.algebra.specs.declared.expr.Expr.TheVariants.{Get, Select, LeftJoin, Keep}
use Rattle.derivation.specs.declared.line.Line.TheVariants.{Founds}
use Rattle.derivation.specs.Logs.{Log}
use Rattle.physical.specs.declared.plan.JoinMethod.TheVariants as join
use Rattle.physical.specs.declared.plan.Matching.TheVariants as matching
use Rattle.physical.specs.declared.plan.Operator.{Operator}
use Rattle.physical.specs.declared.plan.Operator.TheVariants.{Scan, IndexScan, Filter, Projection, JoinRows, IndexJoin}
use Rattle.physical.specs.declared.plan.Node.TheVariants.{Implements}
use Rattle.physical.specs.declared.plan.Plan.{Plan, roll-Plan}
use Rattle.statistics.specs.declared.counts.Statistics.{Statistics}
use Rattle.costs.specs.Cardinalities.{class_rows}
use Rattle.costs.specs.Selectivity.{selectivity}
use Rattle.costs.specs.Costs.{plan_cost}

-- ---- tables

abbrev pub int_column : List ℕ → column.Column
int_column name = record { name = name; kind = kind.Int; not_null = false }

-- dept d: c0 id, which is unique, c1 name, c2 boss
abbrev pub dept : TableInstance
dept = record {
  table = 0;
  entry = record { name = codes "dept"; columns = int_column (codes "id") ∷ int_column (codes "name") ∷ int_column (codes "boss") ∷ []; unique = (0 ∷ []) ∷ []; indexes = [] };
  name = codes "d";
  first_column = 0;
}

-- emp e: c3 id, which is unique, c4 dept, c5 pay, c6 badge; with an index over id and one over dept, or with none
abbrev pub emp : List (List ℕ) → TableInstance
emp indexes = record {
  table = 1;
  entry = record {
    name = codes "emp";
    columns = int_column (codes "id") ∷ int_column (codes "dept") ∷ int_column (codes "pay") ∷ int_column (codes "badge") ∷ [];
    unique = (0 ∷ []) ∷ [];
    indexes = indexes;
  };
  name = codes "e";
  first_column = 3;
}

abbrev pub plain : List TableInstance
plain = dept ∷ emp [] ∷ []

abbrev pub indexed : List TableInstance
indexed = dept ∷ emp ((0 ∷ []) ∷ (1 ∷ []) ∷ []) ∷ []

-- 3 rows of dept and 4 of emp, with 2 different departments, each table and each index on a page
abbrev pub counted : Statistics
counted = record {
  tables = record { rows = 3; pages = 1; indexes = []; column_keys = [] } ∷ record { rows = 4; pages = 1; indexes = record { keys = 4; pages = 1 } ∷ record { keys = 2; pages = 1 } ∷ []; column_keys = [] } ∷ [];
}

-- ---- conditions

-- e.dept = d.id
abbrev pub of_dept : Condition
of_dept = Compare by.Equal (Column 4) (Column 0)

-- e.pay > 0
abbrev pub paid : Condition
paid = Compare by.Greater (Column 5) (Literal (value.Int (pos 0)))

-- 1 = e.dept, and e.id = 10
abbrev pub in_first : Condition
in_first = Compare by.Equal (Literal (value.Int (pos 1))) (Column 4)

abbrev pub is_ten : Condition
is_ten = Compare by.Equal (Column 3) (Literal (value.Int (pos 10)))

-- ---- d.id and e.id of the employees of departments who are paid

abbrev pub lines : Log
lines = Founds (Keep (0 ∷ 3 ∷ []) 3) ∷ Founds (Select (paid ∷ []) 2) ∷ Founds (LeftJoin (of_dept ∷ []) 0 1) ∷ Founds (Get 1) ∷ Founds (Get 0) ∷ []

abbrev pub node : ℕ → Operator → List Plan → Plan
node line operator inputs = roll-Plan (record { node = Implements line operator; inputs = inputs })

abbrev pub joined : Plan
joined = node 2 (JoinRows join.Hash (matching.Left (of_dept ∷ []))) (node 0 (Scan 0) [] ∷ node 1 (Scan 1) [] ∷ [])

abbrev pub filtered : Plan
filtered = node 3 (Filter (paid ∷ [])) (joined ∷ [])

abbrev pub projected : Plan
projected = node 4 (Projection (0 ∷ 3 ∷ [])) (filtered ∷ [])

pub record WorkedPlan : Type 0 where
  pub scanned_rows : class_rows counted plain lines 1 ≡ 4
  pub joined_rows : class_rows counted plain lines 2 ≡ 3
  pub filtered_rows : class_rows counted plain lines 3 ≡ 2
  pub projected_rows : class_rows counted plain lines 4 ≡ 2
  pub joined_cost : plan_cost counted plain lines joined ≡ 281
  pub filtered_cost : plan_cost counted plain lines filtered ≡ 284
  pub projected_cost : plan_cost counted plain lines projected ≡ 285

-- ---- by an index

abbrev pub selected : Condition → Log
selected c = Founds (Select (c ∷ []) 1) ∷ Founds (Get 1) ∷ Founds (Get 0) ∷ []

-- an index scan of emp, of the line that selects by the condition
abbrev pub scanned : ℕ → Condition → Plan
scanned index c = node 2 (IndexScan (record { line = 1; instance = 1; index = index }) (c ∷ [])) []

abbrev pub matched : Log
matched = Founds (LeftJoin (of_dept ∷ []) 0 1) ∷ Founds (Get 1) ∷ Founds (Get 0) ∷ []

abbrev pub probing : Operator
probing = IndexJoin (record { line = 1; instance = 1; index = 1 }) (matching.Left (of_dept ∷ []))

pub record WorkedIndexes : Type 0 where
  -- a half, by 2 keys; a quarter, by the 4 keys of the index over id; the columns of a join have the keys of the one that has some
  pub of_key : selectivity counted indexed in_first ≡ 500000
  pub of_unique_key : selectivity counted indexed is_ten ≡ 250000
  pub of_columns : selectivity counted indexed of_dept ≡ 500000
  -- 3 of the 5 pages, and 2 rows; one row
  pub scan : plan_cost counted indexed (selected in_first) (scanned 1 in_first) ≡ 320
  pub unique_scan : plan_cost counted indexed (selected is_ten) (scanned 0 is_ten) ≡ 210
  -- the scan of dept, and for each of its 3 rows the same 320
  pub joined : plan_cost counted indexed matched (node 2 probing (node 0 (Scan 0) [] ∷ [])) ≡ 1090

-- Texts that are spelled out: of a certificate, of each form of line and of each form of node.
use Rattle.std.specs.Prelude.{◌≡◌, true, false, List, [], ◌∷◌, codes}
use Rattle.values.specs.declared.truth.Comparison.TheVariants as by
use Rattle.values.specs.declared.value.Value.TheVariants as value
use Rattle.query.specs.declared.query.Aggregate.TheVariants as aggregate
use Rattle.algebra.specs.declared.condition.Condition.{Condition}
use Rattle.algebra.specs.declared.condition.Condition.TheVariants.{Compare}
use Rattle.algebra.specs.declared.condition.Term.TheVariants.{Column, Literal}
use Rattle.algebra.specs.declared.expr.Aggregation.{Aggregation}
use Rattle.algebra.specs.declared.expr.Expr.TheVariants.{Get, Select, Join, LeftJoin, Semi, Anti, Keep, Distinct, Group}
use Rattle.props.specs.declared.fact.Fact.TheVariants.{NotNull, WeakKey, StrongKey}
use Rattle.book.specs.declared.names.RuleName.TheVariants.{KeepsMerge, DistinctOfKeyed}
use Rattle.derivation.specs.declared.line.Line.TheVariants.{Founds, Adds, Unites, Alike, Gives}
use Rattle.physical.specs.declared.plan.GroupMethod.TheVariants as group
use Rattle.physical.specs.declared.plan.IndexAccess.{IndexAccess}
use Rattle.physical.specs.declared.plan.JoinMethod.TheVariants as method
use Rattle.physical.specs.declared.plan.Matching.TheVariants as matching
use Rattle.physical.specs.declared.plan.Operator.TheVariants.{Scan, IndexScan, Filter, FilterSubqueries, Projection, JoinRows, IndexJoin, GroupRows, DistinctRows}
use Rattle.physical.specs.declared.plan.Node.{Node}
use Rattle.physical.specs.declared.plan.Node.TheVariants.{Implements, Sort}
use Rattle.physical.specs.declared.plan.Plan.{Plan, roll-Plan}
use Rattle.certificate.specs.declared.certificate.Certificate.{Certificate}
use Rattle.certificate_text.specs.CertificateText.{certificate_text, line_text, node_text}

-- ---- a certificate

abbrev pub a_plan : Node → List Plan → Plan
a_plan n inputs = roll-Plan (record { node = n; inputs = inputs })

-- the different values of column 3 of table instance 0
abbrev pub distinct_badges : Certificate
distinct_badges = record {
  lines = Founds (Get 0) ∷ Founds (Keep (3 ∷ []) 0) ∷ Founds (Distinct 1) ∷ [];
  plan = a_plan (Implements 2 (DistinctRows group.Hash)) (a_plan (Implements 1 (Projection (3 ∷ []))) (a_plan (Implements 0 (Scan 0)) [] ∷ []) ∷ []);
}

abbrev pub CertificateIsSpelled : Type 0
CertificateIsSpelled = certificate_text distinct_badges ≡ codes "SQLPLAN 1\nlines 3\nF get 0\nF keep 3 0\nF distinct 1\nplan 3\nhdistinct 2\ncut 1 3\nscan 0 0\nend\n"

-- ---- lines and nodes

abbrev pub same_department : Condition
same_department = Compare by.Equal (Column 4) (Column 0)

abbrev pub is_ops : Condition
is_ops = Compare by.NotEqual (Column 1) (Literal (value.Text (codes "ops")))

abbrev pub counted : List Aggregation
counted = (record { column = 7; aggregate = aggregate.CountRows }) ∷ (record { column = 8; aggregate = aggregate.Max 5 }) ∷ []

abbrev pub LinesAreSpelled : Type 0
LinesAreSpelled =
    (line_text (Founds (Get 0)) ≡ codes "F get 0\n")
    × (line_text (Founds (Select (is_ops ∷ same_department ∷ []) 1)) ≡ codes "F select [<>(c1,t6f7073);=(c4,c0)] 1\n")
    × (line_text (Founds (Join [] 0 1)) ≡ codes "F join [] 0 1\n")
    × (line_text (Founds (LeftJoin (same_department ∷ []) 0 1)) ≡ codes "F left [=(c4,c0)] 0 1\n")
    × (line_text (Founds (Semi (same_department ∷ []) 0 1)) ≡ codes "F semi [=(c4,c0)] 0 1\n")
    × (line_text (Founds (Anti (same_department ∷ []) [] 0 1)) ≡ codes "F anti [=(c4,c0)] [] 0 1\n")
    × (line_text (Founds (Keep (0 ∷ 3 ∷ []) 12)) ≡ codes "F keep 0,3 12\n")
    × (line_text (Founds (Distinct 1)) ≡ codes "F distinct 1\n")
    × (line_text (Founds (Group [] counted 2)) ≡ codes "F group - 7=count,8=max:5 2\n")
    × (line_text (Adds 2 (record { rule = KeepsMerge; pick = 0; uses = 2 ∷ 1 ∷ []; makes = [] }) (Keep (3 ∷ []) 0)) ≡ codes "A 2 K1 0 2,1 - keep 3 0\n")
    × (line_text (Unites 2 1 (record { rule = DistinctOfKeyed; pick = 0; uses = 2 ∷ []; makes = [] })) ≡ codes "S 2 1 D1 0 2 -\n")
    × (line_text (Alike 3 5) ≡ codes "G 3 5\n")
    × (line_text (Gives 0 4 (NotNull 0)) ≡ codes "L 0 4 notnull 0\n")
    × (line_text (Gives 0 4 (WeakKey (6 ∷ []))) ≡ codes "L 0 4 weak 6\n")
    × (line_text (Gives 0 4 (StrongKey [])) ≡ codes "L 0 4 strong -\n")

-- an index of table instance 1, whose Get is line 3
abbrev pub by_index : IndexAccess
by_index = record { line = 3; instance = 1; index = 0 }

abbrev pub NodesAreSpelled : Type 0
NodesAreSpelled =
    (node_text (Implements 3 (Scan 1)) 0 ≡ codes "scan 3 1\n")
    × (node_text (Implements 5 (IndexScan by_index (is_ops ∷ []))) 0 ≡ codes "iscan 5 3 1 0 [<>(c1,t6f7073)]\n")
    × (node_text (Implements 5 (Filter (is_ops ∷ []))) 1 ≡ codes "filter 5 [<>(c1,t6f7073)]\n")
    × (node_text (Implements 5 (FilterSubqueries (is_ops ∷ []))) 3 ≡ codes "filtersub 5 [<>(c1,t6f7073)] 2\n")
    × (node_text (Implements 5 (Projection (0 ∷ 3 ∷ []))) 1 ≡ codes "cut 5 0,3\n")
    × (node_text (Implements 5 (JoinRows method.NestedLoop (matching.Left []))) 2 ≡ codes "loop 5 left []\n")
    × (node_text (Implements 5 (IndexJoin by_index (matching.Semi (same_department ∷ [])))) 1 ≡ codes "iloop 5 3 semi 1 0 [=(c4,c0)]\n")
    × (node_text (Implements 5 (JoinRows method.Hash (matching.Anti (same_department ∷ []) []))) 2 ≡ codes "hash 5 anti [=(c4,c0)] []\n")
    × (node_text (Implements 2 (JoinRows (method.Merge 0 4) (matching.Inner (same_department ∷ [])))) 2 ≡ codes "merge 2 0 4 [=(c4,c0)]\n")
    × (node_text (Sort ((record { column = 0; descending = false }) ∷ (record { column = 3; descending = true }) ∷ [])) 1 ≡ codes "sort 0a,3d\n")
    × (node_text (Implements 5 (GroupRows group.Hash (1 ∷ []) counted)) 1 ≡ codes "hgroup 5 1 7=count,8=max:5\n")
    × (node_text (Implements 5 (GroupRows group.Sorted (1 ∷ []) [])) 1 ≡ codes "sgroup 5 1 -\n")
    × (node_text (Implements 5 (DistinctRows group.Hash)) 1 ≡ codes "hdistinct 5\n")
    × (node_text (Implements 5 (DistinctRows group.Sorted)) 1 ≡ codes "sdistinct 5\n")

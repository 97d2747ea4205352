-- How a plan's nodes are spelled.
use Rattle.std.specs.Prelude.{◌≡◌, ℕ, ◌+◌, Bool, List, [], ◌++◌, map, codes}
use Rattle.algebra.specs.declared.condition.Condition.{Condition}
use Rattle.algebra.specs.declared.expr.Aggregation.{Aggregation}
use Rattle.physical.specs.declared.plan.GroupMethod.TheVariants as group
use Rattle.physical.specs.declared.plan.JoinMethod.TheVariants as method
use Rattle.physical.specs.declared.plan.Matching.{Matching}
use Rattle.physical.specs.declared.plan.Matching.TheVariants as matching
use Rattle.physical.specs.declared.plan.OrderKey.{OrderKey}
use Rattle.physical.specs.declared.plan.Operator.{Operator}
use Rattle.physical.specs.declared.plan.Operator.TheVariants.{Scan, IndexScan, Filter, FilterSubqueries, Projection, JoinRows, IndexJoin, GroupRows, DistinctRows}
use Rattle.physical.specs.declared.plan.Node.TheVariants.{Implements, Sort}
use Rattle.certificate_text.specs.Numerals.{numeral}
use Rattle.certificate_text.specs.PartTexts.{list_text}
use Rattle.certificate_text.specs.CertificateText.{Text, direction_text}
use Rattle.certificate_text.specs.Readable.{AreShortKeys}
use Rattle.certificate_read.specs.declared.nodes.ReadNode.{ReadNode}
use Rattle.certificate_read.specs.declared.node_forms.KindForm.{KindForm}
use Rattle.certificate_read.specs.declared.node_forms.KindForm.TheVariants as kind
use Rattle.certificate_read.specs.declared.node_forms.OperatorForm.{OperatorForm}
use Rattle.certificate_read.specs.declared.node_forms.OperatorForm.TheVariants as operator
use Rattle.certificate_read.specs.declared.node_forms.NodeForm.{NodeForm}
use Rattle.certificate_read.specs.declared.node_forms.NodeForm.TheVariants as node
use Rattle.certificate_read.specs.WordReading.{number_wording, columns_wording, aggregations_wording, conjuncts_wording}
use Rattle.certificate_read.specs.Wordings.{Wording, ◌␣◌, one, named, IsAny, IsNever}

-- ---- names

abbrev pub kind_name : KindForm → Text
kind_name kind.Inner = codes "inner"
kind_name kind.Left = codes "left"
kind_name kind.Semi = codes "semi"
kind_name kind.Anti = codes "anti"

abbrev pub operator_name : OperatorForm → Text
operator_name operator.Scan = codes "scan"
operator_name operator.IndexScan = codes "iscan"
operator_name operator.Filter = codes "filter"
operator_name operator.FilterSubqueries = codes "filtersub"
operator_name operator.Projection = codes "cut"
operator_name operator.NestedLoop = codes "loop"
operator_name operator.HashJoin = codes "hash"
operator_name operator.MergeJoin = codes "merge"
operator_name operator.IndexJoin = codes "iloop"
operator_name operator.HashGroup = codes "hgroup"
operator_name operator.SortedGroup = codes "sgroup"
operator_name operator.HashDistinct = codes "hdistinct"
operator_name operator.SortedDistinct = codes "sdistinct"

abbrev pub node_name : NodeForm → Text
node_name node.Sort = codes "sort"
node_name (node.Implements form) = operator_name form

-- ---- sort keys

-- a column of any size with `a` for ascending or `d` for descending
abbrev pub key_text : OrderKey → Text
key_text k = numeral k.column ++ direction_text k.descending

abbrev pub keys_wording : Wording (List OrderKey)
keys_wording = one (list_text key_text) IsAny AreShortKeys IsNever

abbrev pub SpellsKey : Text → OrderKey → Type 0
SpellsKey t k = t ≡ key_text k

-- the text is the column of a key in this direction
abbrev pub SpellsColumn : Bool → Text → OrderKey → Type 0
SpellsColumn descending t k = (t ≡ numeral k.column) × (k.descending ≡ descending)

-- each text is that of a key
abbrev pub SpellEachKey : List Text → List OrderKey → Type 0
SpellEachKey ts K = ts ≡ map key_text K

abbrev pub SpellsKeys : Text → List OrderKey → Type 0
SpellsKeys t K = t ≡ list_text key_text K

-- ---- joins: the kind and its lists, of which an antijoin has two

abbrev pub ListsParts : KindForm → Type 0
ListsParts kind.Inner = List Condition
ListsParts kind.Left = List Condition
ListsParts kind.Semi = List Condition
ListsParts kind.Anti = List Condition × List Condition

abbrev pub lists_behind : (form : KindForm) → Wording (ListsParts form)
lists_behind kind.Inner = conjuncts_wording
lists_behind kind.Left = conjuncts_wording
lists_behind kind.Semi = conjuncts_wording
lists_behind kind.Anti = conjuncts_wording ␣ conjuncts_wording

abbrev pub matching_of : (form : KindForm) → ListsParts form → Matching
matching_of kind.Inner C = matching.Inner C
matching_of kind.Left C = matching.Left C
matching_of kind.Semi C = matching.Semi C
matching_of kind.Anti lists = matching.Anti lists.0 lists.1

abbrev pub AnyMatching : Type 0
AnyMatching = (form : KindForm) × ListsParts form

abbrev pub matching_wording : Wording AnyMatching
matching_wording = named kind_name lists_behind

-- of an index: the instance and the index stand between the kind and the lists
abbrev pub AnyIndexJoin : Type 0
AnyIndexJoin = (form : KindForm) × (ℕ × (ℕ × ListsParts form))

abbrev pub index_join_behind : (form : KindForm) → Wording (ℕ × (ℕ × ListsParts form))
index_join_behind form = number_wording ␣ number_wording ␣ lists_behind form

-- ---- operators: what stands behind the name and the line that is implemented

abbrev pub nothing_wording : Wording (Unit {0})
nothing_wording =
    record {
      words = λ u. [];
      Is = IsAny;
      IsInRange = IsAny;
      IsOver = IsNever;
    }

abbrev pub OperatorParts : OperatorForm → Type 0
OperatorParts operator.Scan = ℕ
OperatorParts operator.IndexScan = ℕ × (ℕ × (ℕ × List Condition))
OperatorParts operator.Filter = List Condition
OperatorParts operator.FilterSubqueries = List Condition × ℕ
OperatorParts operator.Projection = List ℕ
OperatorParts operator.NestedLoop = AnyMatching
OperatorParts operator.HashJoin = AnyMatching
OperatorParts operator.MergeJoin = ℕ × (ℕ × List Condition)
OperatorParts operator.IndexJoin = ℕ × AnyIndexJoin
OperatorParts operator.HashGroup = List ℕ × List Aggregation
OperatorParts operator.SortedGroup = List ℕ × List Aggregation
OperatorParts operator.HashDistinct = Unit {0}
OperatorParts operator.SortedDistinct = Unit {0}

abbrev pub operator_behind : (form : OperatorForm) → Wording (OperatorParts form)
operator_behind operator.Scan = number_wording
operator_behind operator.IndexScan = number_wording ␣ number_wording ␣ number_wording ␣ conjuncts_wording
operator_behind operator.Filter = conjuncts_wording
operator_behind operator.FilterSubqueries = conjuncts_wording ␣ number_wording
operator_behind operator.Projection = columns_wording
operator_behind operator.NestedLoop = matching_wording
operator_behind operator.HashJoin = matching_wording
operator_behind operator.MergeJoin = number_wording ␣ number_wording ␣ conjuncts_wording
operator_behind operator.IndexJoin = number_wording ␣ named kind_name index_join_behind
operator_behind operator.HashGroup = columns_wording ␣ aggregations_wording
operator_behind operator.SortedGroup = columns_wording ␣ aggregations_wording
operator_behind operator.HashDistinct = nothing_wording
operator_behind operator.SortedDistinct = nothing_wording

-- the operator, and how many inputs it has: a filter with subqueries says how many follow the first
abbrev pub operator_of : (form : OperatorForm) → OperatorParts form → Operator × ℕ
operator_of operator.Scan o = (Scan o, 0)
operator_of operator.IndexScan p = (IndexScan (record { line = p.0; instance = p.1.0; index = p.1.1.0 }) p.1.1.1, 0)
operator_of operator.Filter C = (Filter C, 1)
operator_of operator.FilterSubqueries p = (FilterSubqueries p.0, p.1 + 1)
operator_of operator.Projection K = (Projection K, 1)
operator_of operator.NestedLoop j = (JoinRows method.NestedLoop (matching_of j.0 j.1), 2)
operator_of operator.HashJoin j = (JoinRows method.Hash (matching_of j.0 j.1), 2)
operator_of operator.MergeJoin p = (JoinRows (method.Merge p.0 p.1.0) (matching.Inner p.1.1), 2)
operator_of operator.IndexJoin p = (IndexJoin (record { line = p.0; instance = p.1.1.0; index = p.1.1.1.0 }) (matching_of p.1.0 p.1.1.1.1), 1)
operator_of operator.HashGroup p = (GroupRows group.Hash p.0 p.1, 1)
operator_of operator.SortedGroup p = (GroupRows group.Sorted p.0 p.1, 1)
operator_of operator.HashDistinct u = (DistinctRows group.Hash, 1)
operator_of operator.SortedDistinct u = (DistinctRows group.Sorted, 1)

-- ---- nodes

abbrev pub NodeParts : NodeForm → Type 0
NodeParts node.Sort = List OrderKey
NodeParts (node.Implements form) = ℕ × OperatorParts form

abbrev pub node_behind : (form : NodeForm) → Wording (NodeParts form)
node_behind node.Sort = keys_wording
node_behind (node.Implements form) = number_wording ␣ operator_behind form

-- the node of the parts, and how many inputs it has
abbrev pub node_of : (form : NodeForm) → NodeParts form → ReadNode
node_of node.Sort keys = record { node = Sort keys; inputs = 1 }
node_of (node.Implements form) p = record { node = Implements p.0 (operator_of form p.1).0; inputs = (operator_of form p.1).1 }

abbrev pub AnyNode : Type 0
AnyNode = (form : NodeForm) × NodeParts form

abbrev pub node_wording : Wording AnyNode
node_wording = named node_name node_behind

-- The text by which a plan is explained: a line for each node, each node before its inputs, which stand two spaces deeper.
use Rattle.std.specs.Prelude.{ℕ, zero, suc, ◌+◌, ◌==◌, Bool, true, false, List, [], ◌∷◌, ◌++◌, Option, Some, None, slice_index_or, flat_map, codes, decimal, nat_lt, if◌then◌else◌}
use Rattle.hex.specs.Hex.{encode_lower}
use Rattle.algebra.specs.declared.expr.Aggregation.{Aggregation}
use Rattle.physical.specs.declared.plan.GroupMethod.{GroupMethod}
use Rattle.physical.specs.declared.plan.GroupMethod.TheVariants as group
use Rattle.physical.specs.declared.plan.IndexAccess.{IndexAccess}
use Rattle.physical.specs.declared.plan.JoinMethod.{JoinMethod}
use Rattle.physical.specs.declared.plan.JoinMethod.TheVariants as method
use Rattle.physical.specs.declared.plan.Matching.{Matching}
use Rattle.physical.specs.declared.plan.Matching.TheVariants as matching
use Rattle.physical.specs.declared.plan.OrderKey.{OrderKey}
use Rattle.physical.specs.declared.plan.Operator.{Operator}
use Rattle.physical.specs.declared.plan.Operator.TheVariants.{Scan, IndexScan, Filter, FilterSubqueries, Projection, JoinRows, IndexJoin, GroupRows, DistinctRows}
use Rattle.physical.specs.declared.plan.Node.{Node}
use Rattle.physical.specs.declared.plan.Node.TheVariants.{Implements, Sort}
use Rattle.physical.specs.declared.plan.Plan.{Plan, fold-Plan}
use Rattle.physical.specs.declared.plan.Plan.TheOpen.{Plan-F}
use Rattle.physical.specs.Indexes.{index_columns}
use Rattle.costs.specs.declared.nodes.Estimate.{Estimate}
use Rattle.measures.specs.declared.measured.Measure.{Measure}
use Rattle.explain.specs.Names.{Text, ◌␣◌, list_text, Naming, table_text, aggregate_text, column_text, columns_text}
use Rattle.explain.specs.ConditionTexts.{conjuncts_text}
use Rattle.explain.specs.declared.plan_text.NodeForm.{NodeForm}
use Rattle.explain.specs.declared.plan_text.NodeForm.TheVariants.{Line, Object}

-- ---- joins

abbrev pub kind_text : Matching → Text
kind_text (matching.Inner C) = codes "inner"
kind_text (matching.Left C) = codes "left"
kind_text (matching.Semi C) = codes "semi"
kind_text (matching.Anti S M) = codes "anti"

-- the conditions of a join. Of an antijoin, what a match makes true, and what it doesn't make false
abbrev pub matching_text : Naming → Matching → Text
matching_text names (matching.Inner C) = conjuncts_text names C
matching_text names (matching.Left C) = conjuncts_text names C
matching_text names (matching.Semi C) = conjuncts_text names C
matching_text names (matching.Anti S M) = codes "sure" ␣ conjuncts_text names S ␣ codes "maybe" ␣ conjuncts_text names M

-- a join of two inputs; what merges is an inner join
abbrev pub join_text : Naming → JoinMethod → Matching → Text
join_text names method.NestedLoop j = codes "loop" ␣ kind_text j ␣ matching_text names j
join_text names method.Hash j = codes "hash" ␣ kind_text j ␣ matching_text names j
join_text names (method.Merge a b) j = codes "merge" ␣ column_text names a ␣ codes "=" ␣ column_text names b ␣ matching_text names j

-- ---- table instances that are read by an index

abbrev pub access_text : Naming → IndexAccess → Text
access_text names a = table_text names a.instance ␣ (codes "(" ++ (columns_text names (index_columns names.tables a) ++ codes ")"))

-- ---- orders

abbrev pub direction_text : Bool → Text
direction_text false = codes " ASC"
direction_text true = codes " DESC"

abbrev pub key_text : Naming → OrderKey → Text
key_text names k = column_text names k.column ++ direction_text k.descending

-- ---- groups

abbrev pub aggregation_text : Naming → Aggregation → Text
aggregation_text names a = aggregate_text names.tables a.aggregate

abbrev pub group_name : GroupMethod → Text
group_name group.Hash = codes "hgroup"
group_name group.Sorted = codes "sgroup"

abbrev pub distinct_name : GroupMethod → Text
distinct_name group.Hash = codes "hdistinct"
distinct_name group.Sorted = codes "sdistinct"

-- ---- nodes

abbrev pub operator_text : Naming → Operator → Text
operator_text names (Scan o) = codes "scan" ␣ table_text names o
operator_text names (IndexScan a C) = codes "iscan" ␣ access_text names a ␣ conjuncts_text names C
operator_text names (Filter C) = codes "filter" ␣ conjuncts_text names C
operator_text names (FilterSubqueries C) = codes "filtersub" ␣ conjuncts_text names C
operator_text names (Projection K) = codes "cut" ␣ columns_text names K
operator_text names (JoinRows m j) = join_text names m j
operator_text names (IndexJoin a j) = codes "iloop" ␣ kind_text j ␣ access_text names a ␣ matching_text names j
operator_text names (GroupRows m K G) = group_name m ␣ columns_text names K ␣ list_text (aggregation_text names) G
operator_text names (DistinctRows m) = distinct_name m

abbrev pub node_words : Naming → Node → Text
node_words names (Implements line operator) = operator_text names operator
node_words names (Sort keys) = codes "sort" ␣ list_text (key_text names) keys

-- a node with its estimate
abbrev pub node_text : Naming → Node → Estimate → Text
node_text names node e = node_words names node ␣ (codes "rows=" ++ decimal e.rows) ␣ (codes "cost=" ++ decimal e.cost)

-- ---- plans

-- a node, and how deep it stands below the root
pub record PlacedNode : Type 0 where
  pub depth : ℕ
  pub node : Node

-- the nodes of a plan whose root stands so deep, each before its inputs
abbrev pub nodes_layer : Plan-F (ℕ → List PlacedNode) → ℕ → List PlacedNode
nodes_layer p depth = record { depth = depth; node = p.node } ∷ flat_map (λ input. input (depth + 1)) p.inputs

unfoldable pub nodes_from : Plan → ℕ → List PlacedNode
nodes_from = fold-Plan (ℕ → List PlacedNode) nodes_layer

-- the estimate of the node with a number; 0 rows at no cost, if there is none
abbrev pub estimate_at : List Estimate → ℕ → Estimate
estimate_at estimates k = slice_index_or estimates k (record { rows = 0; cost = 0 })

unfoldable pub indentation : ℕ → Text
indentation zero = []
indentation (suc depth) = codes "  " ++ indentation depth

-- what was measured of a node, behind its estimate
abbrev pub measure_text : Option Measure → Text
measure_text None = []
measure_text (Some m) = codes " actual=" ++ (decimal m.rows ++ (codes " time=" ++ (decimal m.microseconds ++ codes "us")))

abbrev pub line_text : Naming → PlacedNode → Estimate → Option Measure → Text
line_text names n e m = indentation n.depth ++ (node_text names n.node e ++ (measure_text m ++ codes "\n"))

-- ---- nodes as JSON (RFC 8259)

-- a byte of a string: quotes, backslashes and control bytes are escaped
abbrev pub json_escaped : ℕ → Text
json_escaped byte = if byte == 34 then codes "\\\"" else if byte == 92 then codes "\\\\" else if nat_lt byte 32 then codes "\\u00" ++ encode_lower (byte ∷ []) else byte ∷ []

-- what was measured of a node
abbrev pub json_measure : Option Measure → Text
json_measure None = codes ",\"rows\":null,\"microseconds\":null"
json_measure (Some m) = codes ",\"rows\":" ++ (decimal m.rows ++ (codes ",\"microseconds\":" ++ decimal m.microseconds))

-- what stands before a node with a number: it begins the array, or is parted from the one before it
abbrev pub json_before : ℕ → Text
json_before k = if k == 0 then codes "[\n" else codes ",\n"

-- what is known of a node besides what it does
abbrev pub json_figures : Estimate → Option Measure → Text
json_figures e m = codes "\",\"estimated_rows\":" ++ (decimal e.rows ++ (codes ",\"cost\":" ++ (decimal e.cost ++ (json_measure m ++ codes "}"))))

abbrev pub object_text : Naming → ℕ → PlacedNode → Estimate → Option Measure → Text
object_text names k n e m = json_before k ++ (codes "{\"depth\":" ++ (decimal n.depth ++ (codes ",\"node\":\"" ++ (flat_map json_escaped (node_words names n.node) ++ json_figures e m))))

-- what was measured of the node with a number; nothing, if there is no such number
abbrev pub measure_at : List (Option Measure) → ℕ → Option Measure
measure_at measures k = slice_index_or measures k None

-- a node with a number, as text or as JSON
abbrev pub form_text : NodeForm → Naming → ℕ → PlacedNode → Estimate → Option Measure → Text
form_text Line names k n e m = line_text names n e m
form_text Object names k n e m = object_text names k n e m

-- nodes that are numbered from the first number on
abbrev pub nodes_text : NodeForm → Naming → List Estimate → List (Option Measure) → ℕ → List PlacedNode → Text
nodes_text form names estimates measures k [] = []
nodes_text form names estimates measures k (n ∷ nodes) = form_text form names k n (estimate_at estimates k) (measure_at measures k) ++ nodes_text form names estimates measures (k + 1) nodes

-- the text of a plan, whose estimates and measures stand in the order of the lines
abbrev pub plan_text : Naming → List Estimate → List (Option Measure) → Plan → Text
plan_text names estimates measures p = nodes_text Line names estimates measures 0 (nodes_from p 0)

-- a plan as JSON: an array of its nodes in the same order
abbrev pub json_text : Naming → List Estimate → List (Option Measure) → Plan → Text
json_text names estimates measures p = nodes_text Object names estimates measures 0 (nodes_from p 0) ++ codes "\n]\n"

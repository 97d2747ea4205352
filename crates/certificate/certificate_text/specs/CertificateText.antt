-- The text of a certificate: lines that each end with LF, of parts with single spaces between them. Numbers are decimal, without leading
-- zeros.
use Rattle.std.specs.Prelude.{ℕ, Bool, true, false, ◌-◌, ◌+◌, List, [], ◌∷◌, ◌++◌, length, flat_map, sum, codes, decimal}
use Rattle.std.specs.List.{join_by}
use Rattle.query.specs.declared.query.Aggregate.{Aggregate}
use Rattle.query.specs.declared.query.Aggregate.TheVariants as by
use Rattle.algebra.specs.declared.condition.Condition.{Condition}
use Rattle.algebra.specs.declared.expr.Aggregation.{Aggregation}
use Rattle.algebra.specs.declared.expr.Expr.{Expr}
use Rattle.algebra.specs.declared.expr.Expr.TheVariants.{Get, Select, Join, LeftJoin, Semi, Anti, Keep, Distinct, Group}
use Rattle.algebra.specs.ConjunctOrder.{condition_text}
use Rattle.props.specs.declared.fact.Fact.{Fact}
use Rattle.props.specs.declared.fact.Fact.TheVariants.{NotNull, WeakKey, StrongKey}
use Rattle.book.specs.Book.{code_of}
use Rattle.derivation.specs.declared.line.Step.{Step}
use Rattle.derivation.specs.declared.line.Line.{Line}
use Rattle.derivation.specs.declared.line.Line.TheVariants.{Founds, Adds, Unites, Alike, Gives}
use Rattle.physical.specs.declared.plan.GroupMethod.{GroupMethod}
use Rattle.physical.specs.declared.plan.GroupMethod.TheVariants as group
use Rattle.physical.specs.declared.plan.IndexAccess.{IndexAccess}
use Rattle.physical.specs.declared.plan.JoinMethod.{JoinMethod}
use Rattle.physical.specs.declared.plan.JoinMethod.TheVariants as method
use Rattle.physical.specs.declared.plan.Matching.{Matching}
use Rattle.physical.specs.declared.plan.Matching.TheVariants as matching
use Rattle.physical.specs.declared.plan.OrderKey.{OrderKey}
use Rattle.physical.specs.declared.plan.Operator.{Operator}
use Rattle.physical.specs.declared.plan.Operator.TheVariants.{Scan, IndexScan, Filter, FilterSubqueries, Projection, JoinRows, IndexJoin, GroupRows, DistinctRows}
use Rattle.physical.specs.declared.plan.Node.{Node}
use Rattle.physical.specs.declared.plan.Node.TheVariants.{Implements, Sort}
use Rattle.physical.specs.declared.plan.Plan.{Plan, fold-Plan}
use Rattle.physical.specs.declared.plan.Plan.TheOpen.{Plan-F}
use Rattle.certificate.specs.declared.certificate.Certificate.{Certificate}

abbrev pub Text : Type 0
Text = List ℕ

-- two parts with a space between them
infixr 6 ◌␣◌
abbrev pub ◌␣◌ : Text → Text → Text
a ␣ b = a ++ (codes " " ++ b)

-- a whole line
abbrev pub ended : Text → Text
ended line = line ++ codes "\n"

-- ---- lists

-- parts with commas between them; a list without parts is a dash
abbrev pub list_text : {X : Type 0} → (X → Text) → List X → Text
list_text part [] = codes "-"
list_text part (x ∷ xs) = join_by part (codes ",") (x ∷ xs)

abbrev pub numbers_text : List ℕ → Text
numbers_text = list_text decimal

-- conditions in brackets, with semicolons between them
abbrev pub conjuncts_text : List Condition → Text
conjuncts_text C = codes "[" ++ (join_by condition_text (codes ";") C ++ codes "]")

-- what an aggregate computes, with the column that it reads
abbrev pub aggregate_text : Aggregate → Text
aggregate_text by.CountRows = codes "count"
aggregate_text (by.Count k) = codes "count:" ++ decimal k
aggregate_text (by.Sum k) = codes "sum:" ++ decimal k
aggregate_text (by.Min k) = codes "min:" ++ decimal k
aggregate_text (by.Max k) = codes "max:" ++ decimal k

-- with the new column before it
abbrev pub aggregation_text : Aggregation → Text
aggregation_text a = decimal a.column ++ (codes "=" ++ aggregate_text a.aggregate)

abbrev pub aggregations_text : List Aggregation → Text
aggregations_text = list_text aggregation_text

-- ---- lines of the derivation

-- conditions over two classes
abbrev pub sides_text : List Condition → ℕ → ℕ → Text
sides_text C a b = conjuncts_text C ␣ decimal a ␣ decimal b

abbrev pub expr_text : Expr → Text
expr_text (Get o) = codes "get" ␣ decimal o
expr_text (Select C x) = codes "select" ␣ conjuncts_text C ␣ decimal x
expr_text (Join C a b) = codes "join" ␣ sides_text C a b
expr_text (LeftJoin C a b) = codes "left" ␣ sides_text C a b
expr_text (Semi C a b) = codes "semi" ␣ sides_text C a b
expr_text (Anti S M a b) = codes "anti" ␣ conjuncts_text S ␣ sides_text M a b
expr_text (Keep K x) = codes "keep" ␣ numbers_text K ␣ decimal x
expr_text (Distinct x) = codes "distinct" ␣ decimal x
expr_text (Group K G x) = codes "group" ␣ numbers_text K ␣ aggregations_text G ␣ decimal x

-- the rule, what is picked, the lines that it is applied to and those that spell what it gives
abbrev pub step_text : Step → Text
step_text s = code_of s.rule ␣ decimal s.pick ␣ numbers_text s.uses ␣ numbers_text s.makes

abbrev pub fact_text : Fact → Text
fact_text (NotNull c) = codes "notnull" ␣ decimal c
fact_text (WeakKey K) = codes "weak" ␣ numbers_text K
fact_text (StrongKey K) = codes "strong" ␣ numbers_text K

-- a line founds a class, adds a member to one, unites two by a step or as alike, or gives a fact
abbrev pub line_words : Line → Text
line_words (Founds x) = codes "F" ␣ expr_text x
line_words (Adds g s x) = codes "A" ␣ decimal g ␣ step_text s ␣ expr_text x
line_words (Unites g h s) = codes "S" ␣ decimal g ␣ decimal h ␣ step_text s
line_words (Alike i j) = codes "G" ␣ decimal i ␣ decimal j
line_words (Gives g m f) = codes "L" ␣ decimal g ␣ decimal m ␣ fact_text f

abbrev pub line_text : Line → Text
line_text l = ended (line_words l)

-- ---- nodes of the plan

abbrev pub kind_text : Matching → Text
kind_text (matching.Inner C) = codes "inner"
kind_text (matching.Left C) = codes "left"
kind_text (matching.Semi C) = codes "semi"
kind_text (matching.Anti S M) = codes "anti"

-- the conditions of a join; an antijoin has two lists
abbrev pub lists_text : Matching → Text
lists_text (matching.Inner C) = conjuncts_text C
lists_text (matching.Left C) = conjuncts_text C
lists_text (matching.Semi C) = conjuncts_text C
lists_text (matching.Anti S M) = conjuncts_text S ␣ conjuncts_text M

abbrev pub direction_text : Bool → Text
direction_text false = codes "a"
direction_text true = codes "d"

-- a column with `a` for ascending or `d` for descending
abbrev pub key_text : OrderKey → Text
key_text k = decimal k.column ++ direction_text k.descending

abbrev pub keys_text : List OrderKey → Text
keys_text = list_text key_text

-- a join of two inputs; what merges is an inner join
abbrev pub join_text : JoinMethod → Matching → ℕ → Text
join_text method.NestedLoop j line = codes "loop" ␣ decimal line ␣ kind_text j ␣ lists_text j
join_text method.Hash j line = codes "hash" ␣ decimal line ␣ kind_text j ␣ lists_text j
join_text (method.Merge a b) j line = codes "merge" ␣ decimal line ␣ decimal a ␣ decimal b ␣ lists_text j

-- of an index: the line of the instance's Get, the instance and the index
abbrev pub index_scan_text : IndexAccess → List Condition → ℕ → Text
index_scan_text a C line = codes "iscan" ␣ decimal line ␣ decimal a.line ␣ decimal a.instance ␣ decimal a.index ␣ conjuncts_text C

abbrev pub index_join_text : IndexAccess → Matching → ℕ → Text
index_join_text a j line = codes "iloop" ␣ decimal line ␣ decimal a.line ␣ kind_text j ␣ decimal a.instance ␣ decimal a.index ␣ lists_text j

abbrev pub group_text : GroupMethod → List ℕ → List Aggregation → ℕ → Text
group_text group.Hash K G line = codes "hgroup" ␣ decimal line ␣ numbers_text K ␣ aggregations_text G
group_text group.Sorted K G line = codes "sgroup" ␣ decimal line ␣ numbers_text K ␣ aggregations_text G

abbrev pub distinct_text : GroupMethod → ℕ → Text
distinct_text group.Hash line = codes "hdistinct" ␣ decimal line
distinct_text group.Sorted line = codes "sdistinct" ␣ decimal line

-- the operator of a node with so many inputs: its name, the line that it implements, and its parameters. A filter with subqueries says
-- how many inputs follow the first
abbrev pub operator_text : Operator → ℕ → ℕ → Text
operator_text (Scan o) line inputs = codes "scan" ␣ decimal line ␣ decimal o
operator_text (IndexScan a C) line inputs = index_scan_text a C line
operator_text (Filter C) line inputs = codes "filter" ␣ decimal line ␣ conjuncts_text C
operator_text (FilterSubqueries C) line inputs = codes "filtersub" ␣ decimal line ␣ conjuncts_text C ␣ decimal (inputs - 1)
operator_text (Projection K) line inputs = codes "cut" ␣ decimal line ␣ numbers_text K
operator_text (JoinRows m j) line inputs = join_text m j line
operator_text (IndexJoin a j) line inputs = index_join_text a j line
operator_text (GroupRows m K G) line inputs = group_text m K G line
operator_text (DistinctRows m) line inputs = distinct_text m line

-- the text of a node with so many inputs
abbrev pub node_words : Node → ℕ → Text
node_words (Implements line operator) inputs = operator_text operator line inputs
node_words (Sort keys) inputs = codes "sort" ␣ keys_text keys

abbrev pub node_text : Node → ℕ → Text
node_text n inputs = ended (node_words n inputs)

-- each node before its inputs
abbrev pub plan_layer : Plan-F Text → Text
plan_layer p = node_text p.node (length p.inputs) ++ flat_map (λ t. t) p.inputs

unfoldable pub plan_text : Plan → Text
plan_text = fold-Plan Text plan_layer

abbrev pub count_layer : Plan-F ℕ → ℕ
count_layer p = 1 + sum p.inputs

unfoldable pub node_count : Plan → ℕ
node_count = fold-Plan ℕ count_layer

-- ---- certificates

abbrev pub certificate_text : Certificate → Text
certificate_text c =
    ended (codes "SQLPLAN 1") ++ (ended (codes "lines" ␣ decimal (length c.lines)) ++ (flat_map line_text c.lines
    ++ (ended (codes "plan" ␣ decimal (node_count c.plan)) ++ (plan_text c.plan ++ ended (codes "end")))))

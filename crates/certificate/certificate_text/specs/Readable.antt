-- Which certificates can be read from their text: numbers in their ranges, lists in order, texts valid, conditions within the limit, and each
-- node with the inputs that it takes.
use Rattle.std.specs.Prelude.{◌≡◌, ℕ, ◌-◌, ◌<◌, true, List}
use Rattle.std.specs.List.{AllByRecursion}
use Rattle.std.specs.List.Sorted.{IsStrictlyIncreasing}
use Rattle.algebra.specs.declared.condition.Condition.{Condition}
use Rattle.algebra.specs.declared.expr.Aggregation.{Aggregation}
use Rattle.algebra.specs.declared.expr.Expr.{Expr}
use Rattle.algebra.specs.declared.expr.Expr.TheVariants.{Get, Select, Join, LeftJoin, Semi, Anti, Keep, Distinct, Group}
use Rattle.algebra.specs.ConjunctOrder.{AreRising}
use Rattle.props.specs.declared.fact.Fact.{Fact}
use Rattle.props.specs.declared.fact.Fact.TheVariants.{NotNull, WeakKey, StrongKey}
use Rattle.derivation.specs.declared.line.Step.{Step}
use Rattle.derivation.specs.declared.line.Line.{Line}
use Rattle.derivation.specs.declared.line.Line.TheVariants.{Founds, Adds, Unites, Alike, Gives}
use Rattle.physical.specs.declared.plan.IndexAccess.{IndexAccess}
use Rattle.physical.specs.declared.plan.JoinMethod.{JoinMethod}
use Rattle.physical.specs.declared.plan.JoinMethod.TheVariants as method
use Rattle.physical.specs.declared.plan.Matching.{Matching}
use Rattle.physical.specs.declared.plan.Matching.TheVariants as matching
use Rattle.physical.specs.declared.plan.OrderKey.{OrderKey}
use Rattle.physical.specs.declared.plan.Operator.{Operator}
use Rattle.physical.specs.declared.plan.Operator.TheVariants.{Scan, IndexScan, Filter, FilterSubqueries, Projection, JoinRows, IndexJoin, GroupRows, DistinctRows}
use Rattle.physical.specs.declared.plan.Node.{Node}
use Rattle.physical.specs.declared.plan.Node.TheVariants.{Implements, Sort}
use Rattle.physical.specs.declared.plan.Plan.{Plan}
use Rattle.certificate.specs.declared.certificate.Certificate.{Certificate}
use Rattle.certificate.specs.NodeInputs.{IsInner, NodeTakes, nodes_of}
use Rattle.certificate_text.specs.Conditions.{IsReadable}
use Rattle.certificate_text.specs.Parts.{IsShort, AreShort}
use Rattle.certificate_text.specs.Spelled as parts
use Rattle.certificate_text.specs.Limits.{line_is_within, most_nested, node_is_within}

-- ---- lists

-- columns within 32 bits that rise strictly
abbrev pub AreColumns : List ℕ → Type 0
AreColumns K = AreShort K × IsStrictlyIncreasing K

abbrev pub AreAggregations : List Aggregation → Type 0
AreAggregations = parts.AreReadable

-- conjuncts in order, each within the limit of conditions in one another, with its numbers in their ranges and its texts valid
abbrev pub AreConjuncts : List Condition → Type 0
AreConjuncts C = AllByRecursion (IsReadable most_nested) C × AreRising C

-- ---- lines

abbrev pub IsReadableExpr : Expr → Type 0
IsReadableExpr (Get o) = IsShort o
IsReadableExpr (Select C x) = AreConjuncts C × IsShort x
IsReadableExpr (Join C a b) = AreConjuncts C × IsShort a × IsShort b
IsReadableExpr (LeftJoin C a b) = AreConjuncts C × IsShort a × IsShort b
IsReadableExpr (Semi C a b) = AreConjuncts C × IsShort a × IsShort b
IsReadableExpr (Anti S M a b) = AreConjuncts S × AreConjuncts M × IsShort a × IsShort b
IsReadableExpr (Keep K x) = AreColumns K × IsShort x
IsReadableExpr (Distinct x) = IsShort x
IsReadableExpr (Group K G x) = AreColumns K × AreAggregations G × IsShort x

abbrev pub IsReadableStep : Step → Type 0
IsReadableStep s = IsShort s.pick × AreShort s.uses × AreShort s.makes

abbrev pub IsReadableFact : Fact → Type 0
IsReadableFact (NotNull c) = IsShort c
IsReadableFact (WeakKey K) = AreColumns K
IsReadableFact (StrongKey K) = AreColumns K

abbrev pub IsReadableLine : Line → Type 0
IsReadableLine (Founds x) = IsReadableExpr x
IsReadableLine (Adds g s x) = IsShort g × IsReadableStep s × IsReadableExpr x
IsReadableLine (Unites g h s) = IsShort g × IsShort h × IsReadableStep s
IsReadableLine (Alike i j) = IsShort i × IsShort j
IsReadableLine (Gives g m f) = IsShort g × IsShort m × IsReadableFact f

-- ---- nodes

abbrev pub IsReadableMatching : Matching → Type 0
IsReadableMatching (matching.Inner C) = AreConjuncts C
IsReadableMatching (matching.Left C) = AreConjuncts C
IsReadableMatching (matching.Semi C) = AreConjuncts C
IsReadableMatching (matching.Anti S M) = AreConjuncts S × AreConjuncts M

abbrev pub IsReadableAccess : IndexAccess → Type 0
IsReadableAccess a = IsShort a.line × IsShort a.instance × IsShort a.index

-- what merges is an inner join
abbrev pub FitsMethod : JoinMethod → Matching → Type 0
FitsMethod method.NestedLoop j = Unit {0}
FitsMethod method.Hash j = Unit {0}
FitsMethod (method.Merge a b) j = IsShort a × IsShort b × IsInner j

-- it has the inputs that it takes, and its numbers, lists and conditions can be read
abbrev pub IsReadableOperator : Operator → ℕ → Type 0
IsReadableOperator (Scan o) inputs = (inputs ≡ 0) × IsShort o
IsReadableOperator (IndexScan a C) inputs = (inputs ≡ 0) × IsReadableAccess a × AreConjuncts C
IsReadableOperator (Filter C) inputs = (inputs ≡ 1) × AreConjuncts C
IsReadableOperator (FilterSubqueries C) inputs = (0 < inputs) × IsShort (inputs - 1) × AreConjuncts C
IsReadableOperator (Projection K) inputs = (inputs ≡ 1) × AreColumns K
IsReadableOperator (JoinRows m j) inputs = (inputs ≡ 2) × IsReadableMatching j × FitsMethod m j
IsReadableOperator (IndexJoin a j) inputs = (inputs ≡ 1) × IsReadableAccess a × IsReadableMatching j
IsReadableOperator (GroupRows m K G) inputs = (inputs ≡ 1) × AreColumns K × AreAggregations G
IsReadableOperator (DistinctRows m) inputs = inputs ≡ 1

abbrev pub IsShortKey : OrderKey → Type 0
IsShortKey k = IsShort k.column

abbrev pub AreShortKeys : List OrderKey → Type 0
AreShortKeys = AllByRecursion IsShortKey

abbrev pub IsReadableNode : Node → ℕ → Type 0
IsReadableNode (Implements line operator) inputs = IsShort line × IsReadableOperator operator inputs
IsReadableNode (Sort keys) inputs = (inputs ≡ 1) × AreShortKeys keys

-- a node within the limits can be read, if it has the inputs that it takes
abbrev pub CanBeRead : Node → ℕ → Type 0
CanBeRead n inputs = node_is_within n ≡ true → NodeTakes n inputs → IsShort inputs → IsReadableNode n inputs

-- ---- certificates

abbrev pub AreReadableNodes : Plan → Type 0
AreReadableNodes p = AllByRecursion (λ n. IsReadableNode n.0 n.1) (nodes_of p)

abbrev pub IsReadableCertificate : Certificate → Type 0
IsReadableCertificate c = AllByRecursion IsReadableLine c.lines × AreReadableNodes c.plan

-- each of its lines that is within the limits can be read, and so can each of its nodes
abbrev pub PartsCanBeRead : Certificate → Type 0
PartsCanBeRead c = AllByRecursion (λ l. line_is_within l ≡ true → IsReadableLine l) c.lines × AllByRecursion (λ n. CanBeRead n.0 n.1) (nodes_of c.plan)

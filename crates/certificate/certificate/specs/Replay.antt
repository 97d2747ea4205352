-- When a certificate replays, and its first fault: lines go before nodes, and what stands first here goes first in a line or
-- node. A derivation that a checker replays is this project's own idea of a certificate; what a node may compute is
-- G. Graefe's (The Cascades framework for query optimization, 1995: implementation and enforcement).
use Rattle.std.specs.Prelude.{◌≡◌, ℕ, ◌+◌, ◌-◌, Bool, true, false, not, ◌&&◌, ◌==◌, nat_lt, nat_le, List, [], ◌∷◌, map, length, reverse, take, slice_get, Option, Some, None, Result, Ok, Err}
use Rattle.std.specs.List.{list_all, list_any}
use Rattle.values.specs.Faults.{◌>>=◌, wanted, wanted_if}
use Rattle.schema.specs.declared.schema.Schema.{Schema}
use Rattle.schema.specs.Databases.{Database, Satisfies}
use Rattle.query.specs.declared.query.Query.{Query}
use Rattle.query.specs.declared.query.TableInstance.{TableInstance}
use Rattle.query.specs.Rows.{tables_of}
use Rattle.query.specs.Bound.{is_bound, IsBoundOver}
use Rattle.query.specs.Answer.{IsAnswer}
use Rattle.algebra.specs.declared.expr.Expr.{Expr}
use Rattle.algebra.specs.declared.condition.Condition.{Condition}
use Rattle.algebra.specs.declared.expr.Expr.TheVariants as expr
use Rattle.algebra.specs.declared.expr.Expr.TheVariants.{Get, Select, Join, LeftJoin, Keep, Distinct, Group}
use Rattle.algebra.specs.Columns.{has}
use Rattle.algebra.specs.Equated.{equates}
use Rattle.algebra.specs.ConditionEquality.{same_conditions}
use Rattle.algebra.specs.Equality.{same_columns, same_aggregations, same_expr}
use Rattle.algebra.specs.Conditions.{classes_in}
use Rattle.algebra.specs.Expressions.{children, input_classes, is_plain}
use Rattle.algebra.specs.Classes.{class_columns}
use Rattle.rules.specs.Matches as matches
use Rattle.derivation.specs.declared.line.Line.{Line}
use Rattle.derivation.specs.declared.line.Line.TheVariants.{Founds, Adds, Unites, Alike, Gives}
use Rattle.derivation.specs.declared.line.LineReason.{LineReason}
use Rattle.derivation.specs.declared.line.LineReason.TheVariants as why
use Rattle.derivation.specs.Logs.{Log, entries, founds, member, are_same}
use Rattle.derivation.specs.Replay.{stands, is_earlier}
use Rattle.frame.specs.Frames.{query_frame}
use Rattle.frame.specs.FormedFrames.{own_aggregates}
use Rattle.physical.specs.declared.plan.Matching.{Matching}
use Rattle.physical.specs.declared.plan.Matching.TheVariants.{Inner, Left, Semi, Anti}
use Rattle.physical.specs.declared.plan.JoinMethod.{JoinMethod}
use Rattle.physical.specs.declared.plan.JoinMethod.TheVariants.{NestedLoop, Hash, Merge}
use Rattle.physical.specs.declared.plan.IndexAccess.{IndexAccess}
use Rattle.physical.specs.declared.plan.Operator.{Operator}
use Rattle.physical.specs.declared.plan.Operator.TheVariants.{Scan, IndexScan, Filter, FilterSubqueries, Projection, JoinRows, IndexJoin, GroupRows, DistinctRows}
use Rattle.physical.specs.declared.plan.Node.{Node}
use Rattle.physical.specs.declared.plan.Node.TheVariants.{Implements, Sort}
use Rattle.physical.specs.declared.plan.Plan.{Plan, fold-Plan}
use Rattle.physical.specs.declared.plan.Plan.TheOpen.{Plan-F}
use Rattle.physical.specs.declared.plan.OrderKey.{OrderKey}
use Rattle.physical.specs.Indexes.{has_index, finds_by_index}
use Rattle.physical.specs.Origins.{plan_origin}
use Rattle.physical.specs.Outputs.{first_columns, second_columns}
use Rattle.physical.specs.Orders.{are_columns, node_order, plan_order}
use Rattle.physical.specs.RequiredOrders.{begins_with, inputs_sorted, plan_supply}
use Rattle.certificate.specs.QueryOrders.{query_order, answer}
use Rattle.certificate.specs.declared.certificate.Certificate.{Certificate}
use Rattle.certificate.specs.declared.certificate.CheckReason.{CheckReason}
use Rattle.certificate.specs.declared.certificate.CheckReason.TheVariants.{UnknownLine, OtherForm, OtherLine, IllFormed, FailedCondition, FailedFact, OtherOperator, UnsortedInput, UnsortedAnswer}
use Rattle.certificate.specs.declared.certificate.CheckRefusal.{CheckRefusal}

abbrev pub refusal : ℕ → CheckReason → CheckRefusal
refusal n reason = record { line = n; reason = reason }

-- ---- lines

-- where the frame has a line at this number, this one founds a class by it
abbrev pub is_frame_line : Option Expr → Line → Bool
is_frame_line None l = true
is_frame_line (Some y) (Founds x) = same_expr x y
is_frame_line (Some y) (Adds g s x) = false
is_frame_line (Some y) (Unites g h s) = false
is_frame_line (Some y) (Alike i j) = false
is_frame_line (Some y) (Gives g m f) = false

-- why a line may not stand, as a certificate's fault
abbrev pub reason_of : LineReason → CheckReason
reason_of why.UnknownLine = UnknownLine
reason_of why.IllFormed = IllFormed
reason_of why.OtherForm = OtherForm
reason_of (why.FailedCondition rule) = FailedCondition rule
reason_of why.FailedFact = FailedFact
reason_of why.OtherLine = OtherLine

abbrev pub at_line : ℕ → Result Line LineReason → Result Line CheckRefusal
at_line n (Ok l) = Ok l
at_line n (Err r) = Err (refusal n (reason_of r))

-- the next line behind a log: it may stand there, and is the frame's line, if the frame has one there
abbrev pub line_replays : Query → Log → Line → Result Line CheckRefusal
line_replays q E l =
    at_line (length E) (stands q.tables (own_aggregates q) E l)
    >>= λ l. wanted_if (refusal (length E) OtherLine) (is_frame_line (slice_get (query_frame q) (length E)) l) l

-- lines behind a log; no line of the frame is missing
abbrev pub lines_replay : Query → Log → List Line → Result Log CheckRefusal
lines_replay q E [] = wanted_if (refusal (length E) OtherLine) (nat_le (length (query_frame q)) (length E)) E
lines_replay q E (l ∷ lines) = line_replays q E l >>= λ l. lines_replay q (l ∷ E) lines

-- ---- nodes

-- the conjuncts of which one has to equate columns, so that a match is found by hash: a row that makes it unknown or false matches
-- none, but for the second list of an antijoin, where it is found by hash if it stands alone
abbrev pub hashed : Matching → List Condition
hashed (Inner C) = C
hashed (Left C) = C
hashed (Semi C) = C
hashed (Anti [] (c ∷ [])) = c ∷ []
hashed (Anti S M) = S

-- whether a join by the method finds the matches of sides with these columns
abbrev pub finds : JoinMethod → Matching → List ℕ → List ℕ → Bool
finds NestedLoop j left right = true
finds Hash j left right = list_any (equates (has left) (has right)) (hashed j)
finds (Merge a b) (Inner C) left right = has left a && has right b && list_any (equates (has (a ∷ [])) (has (b ∷ []))) C
finds (Merge a b) j left right = false

-- whether an expression is a join with this matching
abbrev pub is_join : Matching → Expr → Bool
is_join (Inner C) (Join D a b) = same_conditions C D
is_join (Left C) (LeftJoin D a b) = same_conditions C D
is_join (Semi C) (expr.Semi D a b) = same_conditions C D
is_join (Anti S M) (expr.Anti T N a b) = same_conditions S T && same_conditions M N
is_join j x = false

-- whether an operator computes an expression over classes with these columns from what its inputs produce
abbrev pub implements : (ℕ → List ℕ) → Operator → Expr → Bool
implements cols (Scan o) (Get p) = o == p
implements cols (IndexScan a C) (Get p) = same_conditions C []
implements cols (IndexScan a C) (Select D x) = is_plain D && same_conditions C D
implements cols (Filter C) (Select D x) = is_plain D && same_conditions C D
implements cols (FilterSubqueries C) (Select D x) = not (is_plain D) && same_conditions C D
implements cols (Projection K) (Keep L x) = same_columns K L
implements cols (JoinRows method j) x = is_join j x && finds method j (first_columns (map cols (children x))) (second_columns (map cols (children x)))
implements cols (IndexJoin a j) x = is_join j x
implements cols (GroupRows method K G) (Group L H x) = same_columns K L && same_aggregations G H
implements cols (DistinctRows method) (Distinct x) = true
implements cols operator x = false

-- a sort at number n, over so many inputs, of the class: by columns of the class, over the class itself
abbrev pub sort_fits : (ℕ → List ℕ) → List OrderKey → ℕ → ℕ → ℕ → Result (List ℕ) CheckRefusal
sort_fits cols keys inputs g n =
    wanted_if (refusal n IllFormed) (are_columns (cols g) keys) (g ∷ [])
    >>= λ classes. wanted_if (refusal n OtherOperator) (inputs == 1) classes

-- a line is a member of a class: its expression is of one that is the same
abbrev pub is_member : Log → matches.Line → ℕ → Bool
is_member E l g = are_same E l.class g

abbrev pub is_get_of : Expr → ℕ → Bool
is_get_of (Get p) o = o == p
is_get_of x o = false

-- whether a line is a member of the class, and the Get of this table instance
abbrev pub gets : Log → Option matches.Line → ℕ → ℕ → Bool
gets E None g o = false
gets E (Some l) g o = is_member E l g && is_get_of l.expr o

-- whether an access is of the class: so is its line
abbrev pub accesses : Log → IndexAccess → ℕ → Bool
accesses E a g = gets E (member E a.line) g a.instance

-- so it is of the second of some classes
abbrev pub accesses_second : Log → IndexAccess → List ℕ → Bool
accesses_second E a (g ∷ h ∷ classes) = accesses E a h
accesses_second E a classes = false

-- whether an operator of a line with the expression reads by an index what would be its input, and a Get itself
abbrev pub index_fits : List TableInstance → Log → ℕ → Operator → Expr → Bool
index_fits instances E line (IndexScan a C) (Get p) = a.line == line && a.instance == p && has_index instances a
index_fits instances E line (IndexScan a C) (Select D x) = accesses E a x && has_index instances a
index_fits instances E line (IndexJoin a j) x = accesses_second E a (children x) && finds_by_index instances a j
index_fits instances E line operator x = true

-- whether a line founds each class that conditions name
abbrev pub are_founded : Log → List Condition → Bool
are_founded E C = list_all (founds E) (classes_in C)

abbrev pub matching_is_founded : Log → Matching → Bool
matching_is_founded E (Inner C) = are_founded E C
matching_is_founded E (Left C) = are_founded E C
matching_is_founded E (Semi C) = are_founded E C
matching_is_founded E (Anti S M) = are_founded E S && are_founded E M

-- whether the log has the further lines that an operator names, that of its index and those that found its conditions' classes
abbrev pub names_lines : Log → Operator → Bool
names_lines E (Scan o) = true
names_lines E (IndexScan a C) = is_earlier E a.line && are_founded E C
names_lines E (Filter C) = are_founded E C
names_lines E (FilterSubqueries C) = are_founded E C
names_lines E (Projection K) = true
names_lines E (JoinRows method j) = matching_is_founded E j
names_lines E (IndexJoin a j) = is_earlier E a.line && matching_is_founded E j
names_lines E (GroupRows method K G) = true
names_lines E (DistinctRows method) = true

-- the classes whose rows an operator needs as inputs, so that it computes an expression
abbrev pub needed_classes : Operator → Expr → List ℕ
needed_classes (IndexScan a C) x = []
needed_classes (IndexJoin a j) x = take 1 (children x)
needed_classes operator x = input_classes x

-- an operator of a line with the expression, over so many inputs
abbrev pub operator_is_of : List TableInstance → Log → (ℕ → List ℕ) → ℕ → Operator → Expr → ℕ → Bool
operator_is_of instances E cols line operator x inputs = implements cols operator x && index_fits instances E line operator x && inputs == length (needed_classes operator x)

-- an operator: its line has an expression of the class or of one that is the same, it implements that, and has an input for each class
-- that it needs
abbrev pub operator_fits : List TableInstance → Log → (ℕ → List ℕ) → ℕ → Operator → ℕ → ℕ → ℕ → Result (List ℕ) CheckRefusal
operator_fits instances E cols line operator inputs g n =
    wanted_if (refusal n UnknownLine) (is_earlier E line && names_lines E operator) line
    >>= λ line. wanted (refusal n OtherOperator) (member E line)
    >>= λ l. wanted_if (refusal n OtherOperator) (is_member E l g && operator_is_of instances E cols line operator l.expr inputs) (needed_classes operator l.expr)

-- the classes that the node at number n needs as inputs, if it is of the class
abbrev pub node_fits : List TableInstance → Log → (ℕ → List ℕ) → Node → ℕ → ℕ → ℕ → Result (List ℕ) CheckRefusal
node_fits instances E cols (Implements line operator) inputs g n = operator_fits instances E cols line operator inputs g n
node_fits instances E cols (Sort keys) inputs g n = sort_fits cols keys inputs g n

-- whether a plan is of a class, and delivers the order that is wanted (as the first argument says), its nodes being numbered
-- from a number on; gives the number after them
abbrev pub Fits : Type 0
Fits = Bool → ℕ → ℕ → Result ℕ CheckRefusal

-- no order is wanted of inputs beside those that the node needs
abbrev pub inputs_fit : List Fits → List ℕ → ℕ → Result ℕ CheckRefusal
inputs_fit [] classes n = Ok n
inputs_fit (fits ∷ inputs) [] n = Ok n
inputs_fit (fits ∷ inputs) (g ∷ classes) n = fits true g n >>= λ m. inputs_fit inputs classes m

-- a plan's order, and whether it fits
pub record Fitted : Type 0 where
  pub order : List OrderKey
  pub fits : Fits

-- a node goes before its inputs: what it is, then their orders, then its own
abbrev pub fitted_layer : List TableInstance → Log → (ℕ → List ℕ) → Plan-F Fitted → Fitted
fitted_layer instances E cols p =
    let orders = map (λ x. x.order) p.inputs in
    record {
      order = node_order instances p.node orders;
      fits = λ ordered g n.
          node_fits instances E cols p.node (length p.inputs) g n
          >>= λ classes. wanted_if (refusal n UnsortedInput) (inputs_sorted p.node (map cols classes) orders) classes
          >>= λ classes. wanted_if (refusal n UnsortedAnswer) ordered classes
          >>= λ classes. inputs_fit (map (λ x. x.fits) p.inputs) classes (n + 1);
    }

unfoldable pub fitted : List TableInstance → Log → (ℕ → List ℕ) → Plan → Fitted
fitted instances E cols = fold-Plan Fitted (fitted_layer instances E cols)

abbrev pub plan_fits : List TableInstance → Log → (ℕ → List ℕ) → Plan → Fits
plan_fits instances E cols plan = (fitted instances E cols plan).fits

-- ---- certificates

-- the order that the plan delivers begins with the ORDER BY
abbrev pub is_delivered : Query → Plan → Bool
is_delivered q plan = begins_with (plan_order q.tables plan) (query_order q)

-- the frame's last class
abbrev pub root : Query → ℕ
root q = length (query_frame q) - 1

-- a plan, if it is of the query's class in a log that begins with the frame, and delivers the ORDER BY; its nodes are numbered on
-- from the lines
abbrev pub fitted_plan : Query → Log → Plan → Result Plan CheckRefusal
fitted_plan q E plan = plan_fits q.tables E (class_columns q.tables (entries E)) plan (is_delivered q plan) (root q) (length E) >>= λ n. Ok plan

-- the certificate, if it replays: its lines do, and its plan fits
unfoldable pub replayed : Query → Certificate → Result Certificate CheckRefusal
replayed q c = lines_replay q [] c.lines >>= λ E. fitted_plan q E c.plan >>= λ p. Ok c

-- the certificate replays, its plan's groups aggregate values of tables alone, its nodes get the orders that they require, and in each
-- database that satisfies the schema the plan gives an answer of the query
pub record IsChecked (S : Schema) (q : Query) (c : Certificate) : Type 0 where
  pub replays : replayed q c ≡ Ok c
  pub reads : (plan_origin q.tables c.plan).reads ≡ true
  pub sorted : (plan_supply q.tables c.plan).sorted ≡ true
  pub answers : (D : Database) → Satisfies S D → IsAnswer q (tables_of S D) (answer q (tables_of S D) c.plan)

-- so it is for each bound query and each certificate of it that replays
abbrev pub ReplayIsSound : Type 0
ReplayIsSound = (S : Schema) (q : Query) → IsBoundOver S q → (c : Certificate) → replayed q c ≡ Ok c → IsChecked S q c

-- lines that found the classes of a bound query's frame replay
abbrev pub FramesReplay : Type 0
FramesReplay = (q : Query) → is_bound q ≡ true → lines_replay q [] (map Founds (query_frame q)) ≡ Ok (map Founds (reverse (query_frame q)))

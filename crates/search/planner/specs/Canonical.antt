-- The certificate that follows a query's frame, operator by operator. What a node may compute is the check's; that the one
-- sort stands on top of all is this project's profile.
use Rattle.std.specs.Prelude.{◌≡◌, ℕ, Bool, true, false, ◌&&◌, nat_lt, List, [], ◌∷◌, map, reverse, slice_get, Some, Ok}
use Rattle.std.specs.List.{list_all}
use Rattle.query.specs.declared.query.Query.{Query}
use Rattle.query.specs.declared.query.TableInstance.{TableInstance}
use Rattle.algebra.specs.declared.expr.Expr.{Expr}
use Rattle.algebra.specs.Expressions.{classes_pass}
use Rattle.frame.specs.Frames.{query_frame, is_framed}
use Rattle.physical.specs.declared.plan.OrderKey.{OrderKey}
use Rattle.physical.specs.declared.plan.JoinMethod.TheVariants.{NestedLoop}
use Rattle.physical.specs.declared.plan.GroupMethod.TheVariants.{Sorted}
use Rattle.physical.specs.declared.plan.Operator.{Operator}
use Rattle.physical.specs.declared.plan.Operator.TheVariants.{IndexScan, JoinRows, IndexJoin, GroupRows, DistinctRows}
use Rattle.physical.specs.declared.plan.Node.{Node}
use Rattle.physical.specs.declared.plan.Node.TheVariants.{Implements, Sort}
use Rattle.physical.specs.declared.plan.Plan.{Plan, roll-Plan, fold-Plan}
use Rattle.physical.specs.declared.plan.Plan.TheOpen.{Plan-F}
use Rattle.derivation.specs.Logs.{Log}
use Rattle.certificate.specs.QueryOrders.{query_order}
use Rattle.derivation.specs.declared.line.Line.TheVariants.{Founds}
use Rattle.certificate.specs.declared.certificate.Certificate.{Certificate}
use Rattle.certificate.specs.Replay.{implements, plan_fits, replayed}

-- ---- the certificate

-- the operators of canonical plans: tables are scanned, joins are nested loops, groups and distinct rows go by hash
abbrev pub is_basic : Operator → Bool
is_basic (IndexScan a C) = false
is_basic (JoinRows NestedLoop j) = true
is_basic (JoinRows method j) = false
is_basic (IndexJoin a j) = false
is_basic (GroupRows Sorted K G) = false
is_basic (DistinctRows Sorted) = false
is_basic operator = true

abbrev pub is_basic_node : Node → Bool
is_basic_node (Implements line operator) = is_basic operator
is_basic_node (Sort keys) = false

abbrev pub basic_layer : Plan-F Bool → Bool
basic_layer p = is_basic_node p.node && list_all (λ b. b) p.inputs

-- whether the plan has such operators alone, and no sort
unfoldable pub is_basic_plan : Plan → Bool
is_basic_plan = fold-Plan Bool basic_layer

-- the plan, sorted by the keys if there are any
abbrev pub top : List OrderKey → Plan → Plan
top [] plan = plan
top (k ∷ keys) plan = roll-Plan (record { node = Sort (k ∷ keys); inputs = plan ∷ [] })

-- the lines are the query's frame, and the plan has basic operators alone, and on top the sort of the ORDER BY
pub record IsCanonical (q : Query) (V : Certificate) : Type 0 where
  pub lines : V.lines ≡ map Founds (query_frame q)
  pub below : Plan
  pub basic : is_basic_plan below ≡ true
  pub plan : V.plan ≡ top (query_order q) below

-- no other certificate of this form replays: a basic operator is known by the expression that it implements
abbrev pub IsOnlyCanonical : Query → Certificate → Type 0
IsOnlyCanonical q V = (W : Certificate) → IsCanonical q W → replayed q W ≡ Ok W → W ≡ V

-- ---- the plan of a class

-- the log whose lines found the classes of these expressions
abbrev pub log_of : List Expr → Log
log_of lines = map Founds (reverse lines)

-- each line has an operator of frames, and names earlier lines
abbrev pub NameEarlier : List Expr → Type 0
NameEarlier lines = (n : ℕ) (x : Expr) → slice_get lines n ≡ Some x → (classes_pass (λ g. nat_lt g n) x ≡ true) × (is_framed x ≡ true)

-- the operator is basic, and computes the expression, whatever the columns of its classes
pub record IsBasicOf (x : Expr) (operator : Operator) : Type 0 where
  pub basic : is_basic operator ≡ true
  pub implemented : (cols : ℕ → List ℕ) → implements cols operator x ≡ true

-- the plan has basic operators alone, and is of the class, whatever the table instances are and at whatever number its nodes begin
pub record IsPlanOf (lines : List Expr) (g : ℕ) (plan : Plan) : Type 0 where
  pub basic : is_basic_plan plan ≡ true
  pub fits : (instances : List TableInstance) (cols : ℕ → List ℕ) (n : ℕ) → (m : ℕ) × (plan_fits instances (log_of lines) cols plan true g n ≡ Ok m)

-- Lines and plans with other numbers of lines. What a condition or an expression names is a class, whose number is that of a line; with other
-- numbers conjuncts stand in the order of their new texts (`rooted` of `algebra`).
use Rattle.std.specs.Prelude.{ℕ, List, [], ◌∷◌, map, reverse, slice_get, Option, Some, None, option_map, option_to_list}
use Rattle.std.specs.List.{position_or_len}
use Rattle.algebra.specs.declared.condition.Condition.{Condition}
use Rattle.algebra.specs.declared.expr.Expr.{Expr}
use Rattle.algebra.specs.declared.expr.Expr.TheVariants.{Select}
use Rattle.algebra.specs.Alike.{rooted, rooted_condition, rooted_conjuncts}
use Rattle.algebra.specs.ConditionEquality.{same_condition}
use Rattle.rules.specs.declared.pattern.Pattern.{Pattern}
use Rattle.rules.specs.declared.pattern.Pattern.TheVariants.{One, Two, Three, Subquery, SubqueryLine, ClassLine}
use Rattle.rules.specs.Matches as matches
use Rattle.book.specs.Book.{pattern_of}
use Rattle.derivation.specs.declared.line.Line.{Line}
use Rattle.derivation.specs.declared.line.Line.TheVariants.{Founds, Adds, Unites, Alike, Gives}
use Rattle.derivation.specs.declared.line.Step.{Step}
use Rattle.derivation.specs.Logs.{Log, member}
use Rattle.physical.specs.declared.plan.IndexAccess.{IndexAccess}
use Rattle.physical.specs.declared.plan.Matching.{Matching}
use Rattle.physical.specs.declared.plan.Matching.TheVariants.{Inner, Left, Semi, Anti}
use Rattle.physical.specs.declared.plan.Operator.{Operator}
use Rattle.physical.specs.declared.plan.Operator.TheVariants.{Scan, IndexScan, Filter, FilterSubqueries, Projection, JoinRows, IndexJoin, GroupRows, DistinctRows}
use Rattle.physical.specs.declared.plan.Node.{Node}
use Rattle.physical.specs.declared.plan.Node.TheVariants.{Implements, Sort}
use Rattle.physical.specs.declared.plan.Plan.{Plan, fold-Plan, roll-Plan}
use Rattle.physical.specs.declared.plan.Plan.TheOpen.{Plan-F}

-- ---- what a step picks of its first line

abbrev pub first_member : Log → List ℕ → Option matches.Line
first_member E [] = None
first_member E (i ∷ is) = member E i

-- the place that a conjunct has among the others once all have the new numbers
abbrev pub renumbered_place : (ℕ → ℕ) → List Condition → Condition → ℕ
renumbered_place number C c = position_or_len (λ d. same_condition d (rooted_condition number c)) (rooted_conjuncts number C)

abbrev pub place_of : (ℕ → ℕ) → List Condition → ℕ → Option Condition → ℕ
place_of number C place None = place
place_of number C place (Some c) = renumbered_place number C c

abbrev pub place_in : (ℕ → ℕ) → Expr → ℕ → ℕ
place_in number (Select C x) place = place_of number C place (slice_get C place)
place_in number x place = place

abbrev pub place_at : (ℕ → ℕ) → Option matches.Line → ℕ → ℕ
place_at number None place = place
place_at number (Some l) place = place_in number l.expr place

-- a conjunct is named by its place, a class by its number
abbrev pub renumbered_pick : (ℕ → ℕ) → Pattern → Option matches.Line → ℕ → ℕ
renumbered_pick number (One O) top pick = pick
renumbered_pick number (Two O b) top pick = pick
renumbered_pick number (Three O b c) top pick = pick
renumbered_pick number Subquery top pick = place_at number top pick
renumbered_pick number (SubqueryLine O) top pick = place_at number top pick
renumbered_pick number (ClassLine O) top pick = number pick

-- ---- lines of a log

abbrev pub renumbered_step : (ℕ → ℕ) → Log → Step → Step
renumbered_step number E s = record {
  rule = s.rule;
  pick = renumbered_pick number (pattern_of s.rule) (first_member E s.uses) s.pick;
  uses = map number s.uses;
  makes = map number s.makes;
}

abbrev pub renumbered_line : (ℕ → ℕ) → Log → Line → Line
renumbered_line number E (Founds x) = Founds (rooted number x)
renumbered_line number E (Adds g s x) = Adds (number g) (renumbered_step number E s) (rooted number x)
renumbered_line number E (Unites g h s) = Unites (number g) (number h) (renumbered_step number E s)
renumbered_line number E (Alike i j) = Alike (number i) (number j)
renumbered_line number E (Gives g m f) = Gives (number g) (number m) f

-- the line of a number, with other numbers, if there is one
abbrev pub renumbered_at : (ℕ → ℕ) → Log → ℕ → List Line
renumbered_at number E k = option_to_list (option_map (renumbered_line number E) (slice_get (reverse E) k))

-- ---- plans

abbrev pub renumbered_access : (ℕ → ℕ) → IndexAccess → IndexAccess
renumbered_access number a = record { line = number a.line; instance = a.instance; index = a.index }

abbrev pub renumbered_matching : (ℕ → ℕ) → Matching → Matching
renumbered_matching number (Inner C) = Inner (rooted_conjuncts number C)
renumbered_matching number (Left C) = Left (rooted_conjuncts number C)
renumbered_matching number (Semi C) = Semi (rooted_conjuncts number C)
renumbered_matching number (Anti S M) = Anti (rooted_conjuncts number S) (rooted_conjuncts number M)

abbrev pub renumbered_operator : (ℕ → ℕ) → Operator → Operator
renumbered_operator number (Scan o) = Scan o
renumbered_operator number (IndexScan a C) = IndexScan (renumbered_access number a) (rooted_conjuncts number C)
renumbered_operator number (Filter C) = Filter (rooted_conjuncts number C)
renumbered_operator number (FilterSubqueries C) = FilterSubqueries (rooted_conjuncts number C)
renumbered_operator number (Projection K) = Projection K
renumbered_operator number (JoinRows method j) = JoinRows method (renumbered_matching number j)
renumbered_operator number (IndexJoin a j) = IndexJoin (renumbered_access number a) (renumbered_matching number j)
renumbered_operator number (GroupRows method K G) = GroupRows method K G
renumbered_operator number (DistinctRows method) = DistinctRows method

abbrev pub renumbered_node : (ℕ → ℕ) → Node → Node
renumbered_node number (Implements line operator) = Implements (number line) (renumbered_operator number operator)
renumbered_node number (Sort keys) = Sort keys

abbrev pub renumbered_layer : (ℕ → ℕ) → Plan-F Plan → Plan
renumbered_layer number p = roll-Plan (record { node = renumbered_node number p.node; inputs = p.inputs })

unfoldable pub renumbered_plan : (ℕ → ℕ) → Plan → Plan
renumbered_plan number = fold-Plan Plan (renumbered_layer number)

-- The operators that may implement a line: what holds of these, and of all that don't implement it, holds of all operators.
use Rattle.std.specs.Prelude.{ℕ, ◌<◌, Bool, true, false, not, ◌&&◌, ◌||◌, ◌==◌, ◌≡◌, if◌then◌else◌, List, [], slice_get, Option, Some, None}
use Rattle.std.specs.List.{list_all}
use Rattle.query.specs.declared.query.TableInstance.{TableInstance}
use Rattle.algebra.specs.declared.condition.Condition.{Condition}
use Rattle.algebra.specs.declared.expr.Expr.{Expr}
use Rattle.algebra.specs.declared.expr.Expr.TheVariants.{Get, Select, Join, LeftJoin, Semi, Anti, Keep, Distinct, Group}
use Rattle.algebra.specs.Equated.{equated}
use Rattle.algebra.specs.Expressions.{is_plain}
use Rattle.rules.specs.Matches as matches
use Rattle.derivation.specs.Logs.{Log, member}
use Rattle.physical.specs.declared.plan.IndexAccess.{IndexAccess}
use Rattle.physical.specs.declared.plan.JoinMethod.TheVariants as join
use Rattle.physical.specs.declared.plan.GroupMethod.TheVariants as group
use Rattle.physical.specs.declared.plan.Matching.{Matching}
use Rattle.physical.specs.declared.plan.Matching.TheVariants as matching
use Rattle.physical.specs.declared.plan.Operator.{Operator}
use Rattle.physical.specs.declared.plan.Operator.TheVariants.{Scan, IndexScan, Filter, FilterSubqueries, Projection, JoinRows, IndexJoin, GroupRows, DistinctRows}
use Rattle.physical.specs.Indexes.{numbers_index}
use Rattle.certificate.specs.Replay.{accesses, is_get_of}

-- ---- accesses

abbrev pub gets_instance : Option matches.Line → ℕ → Bool
gets_instance None o = false
gets_instance (Some l) o = is_get_of l.expr o

-- the line gets the instance, whose table has the index
abbrev pub is_access : List TableInstance → Log → IndexAccess → Bool
is_access instances E a = gets_instance (member E a.line) a.instance && numbers_index (slice_get instances a.instance) a.index

-- what holds of all of these accesses holds of each that a log has
abbrev pub AreAccesses : List TableInstance → Log → List IndexAccess → Type 0
AreAccesses instances E list = (p : IndexAccess → Bool) → list_all p list ≡ true → (a : IndexAccess) → is_access instances E a ≡ true → p a ≡ true

-- so it is with the accesses of the lines below a number
abbrev pub HasAccessesBelow : List TableInstance → Log → ℕ → List IndexAccess → Type 0
HasAccessesBelow instances E count list = (p : IndexAccess → Bool) → list_all p list ≡ true → (a : IndexAccess) → a.line < count → is_access instances E a ≡ true → p a ≡ true

-- what holds of all of these accesses holds of those that were known before, and of so many indexes of the instance that a line gets
pub record HasAccesses (line instance count : ℕ) (old new : List IndexAccess) : Type 0 where
  pub before : (p : IndexAccess → Bool) → list_all p new ≡ true → list_all p old ≡ true
  pub own : (p : IndexAccess → Bool) → list_all p new ≡ true → (i : ℕ) → i < count → p (record { line = line; instance = instance; index = i }) ≡ true

-- ---- operators

-- the merge joins by an equality of columns, either of which may be of the left side
abbrev pub merges_hold : (Operator → Bool) → Matching → Option (ℕ × ℕ) → Bool
merges_hold p j None = true
merges_hold p j (Some pair) = p (JoinRows (join.Merge pair.0 pair.1) j) && p (JoinRows (join.Merge pair.1 pair.0) j)

abbrev pub scans_hold : (Operator → Bool) → Log → List IndexAccess → List Condition → ℕ → Bool
scans_hold p E list C x = list_all (λ a. not (accesses E a x) || p (IndexScan a C)) list

abbrev pub joins_hold : (Operator → Bool) → Log → List IndexAccess → Matching → ℕ → Bool
joins_hold p E list j right = p (JoinRows join.NestedLoop j) && (p (JoinRows join.Hash j) && list_all (λ a. not (accesses E a right) || p (IndexJoin a j)) list)

-- it holds of each operator that may implement the line, these being the accesses
abbrev pub line_holds : (Operator → Bool) → Log → List IndexAccess → ℕ → Expr → Bool
line_holds p E list line (Get o) = p (Scan o) && list_all (λ a. not (a.line == line) || p (IndexScan a [])) list
line_holds p E list line (Select C x) = if is_plain C then p (Filter C) && scans_hold p E list C x else p (FilterSubqueries C)
line_holds p E list line (Join C a b) = joins_hold p E list (matching.Inner C) b && list_all (λ c. merges_hold p (matching.Inner C) (equated c)) C
line_holds p E list line (LeftJoin C a b) = joins_hold p E list (matching.Left C) b
line_holds p E list line (Semi C a b) = joins_hold p E list (matching.Semi C) b
line_holds p E list line (Anti S M a b) = joins_hold p E list (matching.Anti S M) b
line_holds p E list line (Keep K x) = p (Projection K)
line_holds p E list line (Distinct x) = p (DistinctRows group.Hash) && p (DistinctRows group.Sorted)
line_holds p E list line (Group K G x) = p (GroupRows group.Hash K G) && p (GroupRows group.Sorted K G)

abbrev pub member_holds : (Operator → Bool) → Log → List IndexAccess → ℕ → Option matches.Line → Bool
member_holds p E list line None = true
member_holds p E list line (Some l) = line_holds p E list line l.expr

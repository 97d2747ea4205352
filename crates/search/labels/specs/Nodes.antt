-- The nodes of a line. Whether an operator computes a line's expression doesn't depend on the goal, so a search makes them once.
use Rattle.std.specs.Prelude.{◌≡◌, ℕ, Bool, true, false, not, ◌&&◌, ◌||◌, ◌==◌, List, Option, Some, None}
use Rattle.std.specs.List.{list_all}
use Rattle.query.specs.declared.query.TableInstance.{TableInstance}
use Rattle.algebra.specs.declared.expr.Expr.{Expr}
use Rattle.algebra.specs.Columns.{columns_at}
use Rattle.rules.specs.Matches as matches
use Rattle.derivation.specs.Logs.{Log, member}
use Rattle.physical.specs.declared.plan.Operator.{Operator}
use Rattle.physical.specs.declared.plan.Node.{Node}
use Rattle.physical.specs.declared.plan.Node.TheVariants.{Implements, Sort}
use Rattle.certificate.specs.Replay.{implements, index_fits}
use Rattle.labels.specs.declared.nodes.Implemented.{Implemented}

-- the operator of a line with the expression computes it
abbrev pub fits : List TableInstance → Log → (ℕ → List ℕ) → ℕ → Operator → Expr → Bool
fits instances E cols line o x = implements cols o x && index_fits instances E line o x

abbrev pub member_fits : List TableInstance → Log → (ℕ → List ℕ) → ℕ → Operator → Option matches.Line → Bool
member_fits instances E cols line o None = false
member_fits instances E cols line o (Some l) = fits instances E cols line o l.expr

-- a node's operator computes the expression of the node's line; a sort has none
abbrev pub node_fits : List TableInstance → Log → (ℕ → List ℕ) → Node → Bool
node_fits instances E cols (Implements line o) = member_fits instances E cols line o (member E line)
node_fits instances E cols (Sort keys) = true

-- the node implements this line
abbrev pub is_of_line : ℕ → Node → Bool
is_of_line line (Implements n o) = n == line
is_of_line line (Sort keys) = false

abbrev pub fits_line : List TableInstance → Log → (ℕ → List ℕ) → ℕ → Node → Bool
fits_line instances E cols line node = is_of_line line node && node_fits instances E cols node

-- what holds of all of these nodes holds of each that fits the line
abbrev pub HasNodes : List TableInstance → Log → (ℕ → List ℕ) → ℕ → List Node → Type 0
HasNodes instances E cols line nodes = (p : Node → Bool) → list_all p nodes ≡ true → (node : Node) → fits_line instances E cols line node ≡ true → p node ≡ true

-- ---- as code makes them

-- it holds of the node by an operator, where that computes the line's expression
abbrev pub holds_if_fit : Implemented → (Node → Bool) → Operator → Bool
holds_if_fit of p o = not (fits of.derived.log.now.instances of.derived.log.now.log (columns_at of.derived.columns.now) of.line o of.expr.now) || p (Implements of.line o)

-- nodes, and some more: whether something holds of all of these is said of each thing
abbrev pub Adds : List Node → List Node → ((Node → Bool) → Bool) → Type 0
Adds old new holds = (p : Node → Bool) → list_all p new ≡ (list_all p old && holds p)

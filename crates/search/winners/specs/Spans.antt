-- Nodes by number.
use Rattle.std.specs.Prelude.{◌≡◌, ℕ, ◌<◌, ◌≤◌, Bool, true, List, length, Contains, Option, Some, slice_get}
use Rattle.query.specs.declared.query.TableInstance.{TableInstance}
use Rattle.derivation.specs.Logs.{Log}
use Rattle.logs.specs.Members.{is_member}
use Rattle.physical.specs.declared.plan.Operator.{Operator}
use Rattle.physical.specs.declared.plan.Node.{Node}
use Rattle.physical.specs.declared.plan.Node.TheVariants.{Implements}
use Rattle.labels.specs.Nodes.{node_fits}
use Rattle.winners.specs.declared.nodes.Span.{Span}
use Rattle.winners.specs.declared.nodes.Nodes.{Nodes}

-- each node that has a number keeps it
abbrev pub IsFront : List Node → List Node → Type 0
IsFront old new = (k : ℕ) (node : Node) → slice_get old k ≡ Some node → slice_get new k ≡ Some node

abbrev pub AllFit : List TableInstance → Log → (ℕ → List ℕ) → List Node → Type 0
AllFit instances E cols nodes = (k : ℕ) (node : Node) → slice_get nodes k ≡ Some node → node_fits instances E cols node ≡ true

-- the nodes from one number on, and below another, have a property
abbrev pub HoldsIn : List Node → ℕ → ℕ → (Node → Bool) → Type 0
HoldsIn nodes start end p = (k : ℕ) (node : Node) → start ≤ k → k < end → slice_get nodes k ≡ Some node → p node ≡ true

-- what holds of the nodes from a number on holds of each that fits the line
abbrev pub HasLine : List TableInstance → Log → (ℕ → List ℕ) → ℕ → List Node → ℕ → Type 0
HasLine instances E cols start nodes line = (p : Node → Bool) → HoldsIn nodes start (length nodes) p → (o : Operator) → node_fits instances E cols (Implements line o) ≡ true → p (Implements line o) ≡ true

abbrev pub HasLines : List TableInstance → Log → (ℕ → List ℕ) → ℕ → List Node → List ℕ → Type 0
HasLines instances E cols start nodes lines = (line : ℕ) → Contains lines line → HasLine instances E cols start nodes line

-- what holds of the nodes of a span holds of each that fits a line of the class
pub record HasClass (instances : List TableInstance) (E : Log) (cols : ℕ → List ℕ) (nodes : List Node) (class : ℕ) (span : Span) : Type 0 where
  pub within : span.end ≤ length nodes
  pub each : (p : Node → Bool) → HoldsIn nodes span.start span.end p → (line : ℕ) (o : Operator) → is_member E class line ≡ true → node_fits instances E cols (Implements line o) ≡ true → p (Implements line o) ≡ true

abbrev pub NoneMade : List (Option Span) → Type 0
NoneMade spans = (class : ℕ) (span : Span) → slice_get spans class ≡ Some (Some span) → ⊥

pub record AreMade (instances : List TableInstance) (E : Log) (cols : ℕ → List ℕ) (nodes : Nodes) : Type 0 where
  pub fit : AllFit instances E cols nodes.list.items
  pub classes : (class : ℕ) (span : Span) → slice_get nodes.spans.items class ≡ Some (Some span) → HasClass instances E cols nodes.list.items class span

-- Labels as code judges them: line by line, each node that fits it against all labels of a class.
use Rattle.std.specs.Prelude.{◌≡◌, ℕ, Bool, true}
use Rattle.std.specs.List.{list_all}
use Rattle.algebra.specs.Columns.{columns_at}
use Rattle.physical.specs.declared.plan.Node.{Node}
use Rattle.costs.specs.Cardinalities.{rows_at}
use Rattle.labels.specs.declared.bounds.Labelling.{Labelling}
use Rattle.labels.specs.declared.goal.Label.{Label}
use Rattle.labels.specs.ByClass.{AreByClass, labels_in}
use Rattle.labels.specs.Labels.{Labels, bounds}
use Rattle.labels.specs.Nodes.{fits_line}

-- the labels are kept by their classes
abbrev pub IsKept : Labelling → Type 0
IsKept by = AreByClass by.labels.now (labels_in by.by_class)

-- the node is offered at the label's goal over goals with labels alone, and costs over these no less than the label
abbrev pub keeps : Labelling → Label → Node → Bool
keeps by l node = bounds by.statistics.now by.derived.log.now.instances by.derived.log.now.log (columns_at by.derived.columns.now) (rows_at by.cardinalities) by.labels.now l node

-- so all nodes do
abbrev pub IsKeptByAll : Labelling → Label → Type 0
IsKeptByAll by l = (node : Node) → keeps by l node ≡ true

-- so all nodes of a line do, against some labels
abbrev pub LineKeeps : Labelling → Labels → ℕ → Type 0
LineKeeps by labels line = (node : Node) → fits_line by.derived.log.now.instances by.derived.log.now.log (columns_at by.derived.columns.now) line node ≡ true → list_all (λ l. keeps by l node) labels ≡ true

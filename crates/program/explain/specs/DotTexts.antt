-- A plan as a graph that Graphviz draws: a box for each node, whose label is the node's line without its indentation, and an edge from each
-- node to each of its inputs.
use Rattle.std.specs.Prelude.{ℕ, ◌+◌, ◌==◌, if◌then◌else◌, List, [], ◌∷◌, ◌++◌, flat_map, codes, decimal}
use Rattle.physical.specs.declared.plan.Node.{Node}
use Rattle.physical.specs.declared.plan.Plan.{Plan, fold-Plan}
use Rattle.physical.specs.declared.plan.Plan.TheOpen.{Plan-F}
use Rattle.costs.specs.declared.nodes.Estimate.{Estimate}
use Rattle.explain.specs.Names.{Text, Naming}
use Rattle.explain.specs.PlanTexts.{node_text, estimate_at}

-- ---- boxes and edges

-- a quote or a backslash in a label stands behind a backslash
abbrev pub label_escaped : ℕ → Text
label_escaped byte = if byte == 34 then codes "\\\"" else if byte == 92 then codes "\\\\" else byte ∷ []

-- the box of a node with a number
abbrev pub box_text : Naming → ℕ → Node → Estimate → Text
box_text names k node e = codes "  n" ++ (decimal k ++ (codes " [label=\"" ++ (flat_map label_escaped (node_text names node e) ++ codes "\"];\n")))

-- the edge from a node to one of its inputs
abbrev pub edge_text : ℕ → ℕ → Text
edge_text k input = codes "  n" ++ (decimal k ++ (codes " -> n" ++ (decimal input ++ codes ";\n")))

-- ---- plans

-- what is drawn of some nodes, and the number of the node behind them
pub record Drawn : Type 0 where
  pub text : Text
  pub next : ℕ

abbrev pub behind : Text → Drawn → Drawn
behind text d = record { text = text ++ d.text; next = d.next }

-- the inputs of a node with a number, each behind the edge to it; the first has the number that is next
abbrev pub inputs_drawn : ℕ → List (ℕ → Drawn) → ℕ → Drawn
inputs_drawn k [] next = record { text = []; next = next }
inputs_drawn k (input ∷ inputs) next = behind (edge_text k next ++ (input next).text) (inputs_drawn k inputs (input next).next)

-- the box of a node, and then its inputs
abbrev pub drawn_layer : Naming → List Estimate → Plan-F (ℕ → Drawn) → ℕ → Drawn
drawn_layer names estimates p k = behind (box_text names k p.node (estimate_at estimates k)) (inputs_drawn k p.inputs (k + 1))

-- a plan whose root has a number
unfoldable pub drawn : Naming → List Estimate → Plan → ℕ → Drawn
drawn names estimates = fold-Plan (ℕ → Drawn) (drawn_layer names estimates)

-- the nodes are numbered in the order of the lines that explain the plan, from 0
abbrev pub dot_text : Naming → List Estimate → Plan → Text
dot_text names estimates p = codes "digraph plan {\n  node [shape=box fontname=\"sans-serif\"];\n" ++ ((drawn names estimates p 0).text ++ codes "}\n")

-- Distinct rows of an input.
use Rattle.std.specs.Prelude.{◌≡◌, ◌<◌, ℕ, List, length}
use Rattle.std.specs.List.Sorted.{IsStrictlyIncreasing}
use Rattle.algebra.specs.Bags.{Env, distinct}
use Rattle.physical.specs.declared.plan.Node.{Node}
use Rattle.physical.specs.declared.plan.Node.TheVariants.{Implements}
use Rattle.physical.specs.declared.plan.Operator.TheVariants.{Projection}
use Rattle.physical.specs.Outputs.{Output, first, first_columns}
use Rattle.operators.specs.FilteredJoins.{columns_of}
use Rattle.relations.specs.declared.relation.Relation.{Relation}
use Rattle.relations.specs.Relations.{IsOutput}

-- the node projects to these columns, which are a set and not none
pub record IsProjection (node : Node) (K : List ℕ) : Type 0 where
  pub projects : (line : ℕ) × (node ≡ Implements line (Projection K))
  pub some : 0 < length K
  pub rising : IsStrictlyIncreasing K

-- one of each row of the first of the inputs
abbrev pub IsDistinctInput : List Output → Env → Relation → Type 0
IsDistinctInput inputs e = IsOutput (first_columns (columns_of inputs)) (distinct (first_columns (columns_of inputs)) (first inputs) e) e

-- How deep values of JSON nest, since a reader takes only so much.
use Rattle.std.specs.Prelude.{ℕ, ◌≤◌}
use Rattle.serde_json.specs.Data.{Data, depth}

-- it is such, and its arrays and objects nest no deeper than this
abbrev pub IsWithin : ℕ → (Data → Type 0) → Data → Type 0
IsWithin levels P d = P d × (depth d ≤ levels)

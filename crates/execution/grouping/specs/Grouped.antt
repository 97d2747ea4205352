-- The groups that an executor made.
use Rattle.std.specs.Prelude.{ℕ, List}
use Rattle.grouping.specs.declared.row_groups.Groups.{Groups}
use Rattle.grouping.specs.Groups.{GroupOf, placed_groups}

abbrev pub groups_in : Groups → List (GroupOf ℕ)
groups_in g = placed_groups g.places.items g.input.now

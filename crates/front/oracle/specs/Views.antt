-- What a block shows, before and after its HAVING.
use Rattle.std.specs.Prelude.{Bool, true, false, List, map, filter}
use Rattle.schema.specs.Databases.{Row}
use Rattle.query.specs.declared.query.Block.{Block}
use Rattle.query.specs.Rows.{Env}
use Rattle.query.specs.Aggregates.{Group, groups}
use Rattle.query.specs.Meaning.{row_of_row, row_of_group}
use Rattle.oracle.specs.declared.blocks.View.{View}

-- what a block shows of a row of its FROM, and what its HAVING sees
abbrev pub view_of_row : Block → Env → Row → View
view_of_row q e s = record { asked = row_of_row e q.having_items s; shown = row_of_row e q.items s }

-- what it shows of a group
abbrev pub view_of_group : Block → Env → Group → View
view_of_group q e g = record { asked = row_of_group q.keys e q.having_items g; shown = row_of_group q.keys e q.items g }

abbrev pub views_by : Bool → Block → Env → List Row → List View
views_by false q e source = map (view_of_row q e) source
views_by true q e source = map (view_of_group q e) (groups q.keys source)

-- what it shows of rows, or of their groups
abbrev pub views : Block → Env → List Row → List View
views q = views_by q.grouped q

-- the rows that are shown where what HAVING sees passes
abbrev pub shown_at : (Row → Bool) → List View → List Row
shown_at keeps all = map (λ v. v.shown) (filter (λ v. keeps v.asked) all)

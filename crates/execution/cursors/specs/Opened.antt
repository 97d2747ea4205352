-- How the rows of a plan are looked up.
use Rattle.std.specs.Prelude.{ℕ, List}
use Rattle.algebra.specs.Bags.{Env}
use Rattle.relations.specs.declared.environment.Env.{Empty}
use Rattle.selections.specs.RowChunks.{AreChunksOf}
use Rattle.cursors.specs.declared.opening.OpenedRows.{OpenedRows}
use Rattle.cursors.specs.declared.opening.OpenedRows.TheVariants.{Selected, InChunks}
use Rattle.cursors.specs.Selected.{IsSelection}

-- they have these columns, and are these rows
abbrev pub IsOpened : List ℕ → List Env → OpenedRows → Type 0
IsOpened columns rows (Selected s) = IsSelection columns rows Empty s
IsOpened columns rows (InChunks c) = AreChunksOf columns rows c

use Rattle.std.proofs.Common.{◌≡◌, refl, ◌∙◌, ◌<◌, ℕ, zero, suc, [], ◌∷◌, get_or, arith}
use Rattle.values.specs.declared.value.Value.TheVariants as value
use Rattle.schema.specs.Databases.{Row}
use Rattle.cursors.proofs.lent_row.LentRowRowSource.cell.Goals as goal

first : (row column : ℕ) (r : Row) → row < 1 → get_or r column value.Null ≡ get_or (get_or (r ∷ []) row []) column value.Null
first zero column r below = refl
first (suc n) column r below = absurd (omega (arith, below))

pub returns : goal.returns
returns c = c.cell.ensures ∙ first c.args._row c.args.column c.args.self.now c.requires.row

use Rattle.std.proofs.Common.{[], ◌∷◌}
use Rattle.std.specs.Option.{option_map}
use Rattle.values.specs.Cells.{value_of}
use Rattle.store.proofs.Rising.{Rises}
use Rattle.store.proofs.unique.value_rises.Given as goal

abbrev pub invariant-loop-row : goal.invariant-loop-row
invariant-loop-row l = Rises l.rows (l.place ∷ []) l.row (option_map (λ c. value_of c ∷ []) l.last)

use Rattle.std.proofs.Common.{◌≡◌, [], ◌∷◌, map, take}
use Rattle.relations.specs.Relations.{env_of, rows_of}
use Rattle.selections.proofs.projections.copies.Given as goal

abbrev pub invariant-loop-column : goal.invariant-loop-column
invariant-loop-column l = l.parts.items ≡ map (λ c. map (λ f. f c ∷ []) (rows_of l.input (env_of l.env))) (take l.column-index l.columns)

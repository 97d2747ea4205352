use Rattle.std.proofs.Common.{◌≡◌, List, [], ◌∷◌, map, take}
use Rattle.algebra.specs.Bags.{Env}
use Rattle.algebra.specs.Expressions.{with_aggregates}
use Rattle.relations.specs.Relations.{env_of}
use Rattle.grouping.specs.Totals.{AreTotals}
use Rattle.grouping.proofs.totals.Totals.parts.Given as goal

abbrev pub invariant-loop-column : goal.invariant-loop-column
invariant-loop-column l = (rows : List Env) → AreTotals l.added rows l.self → l.parts.items ≡ map (λ c. map (λ f. f c ∷ []) (with_aggregates l.added rows (env_of l.env) ∷ [])) (take l.column-index l.columns)

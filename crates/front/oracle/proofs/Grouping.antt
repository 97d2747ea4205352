-- Groups, as the evaluator puts them together.
use Rattle.std.proofs.Common.{◌≡◌, ℕ, List, [], ◌∷◌, length, map, ap, arith}
use Rattle.values.proofs.Lists.{filter_all}
use Rattle.schema.specs.Databases.{Row}
use Rattle.query.specs.Aggregates.{group_of, groups}

-- without keys all rows are one group
pub one-group : (keys : List ℕ) (rows : List Row) → length keys ≡ 0 → map (group_of keys rows) ([] ∷ []) ≡ groups keys rows
one-group [] rows h = ap (λ l. record { key = []; rows = l } ∷ []) (filter_all rows)
one-group (k ∷ keys) rows h = absurd (omega arith)

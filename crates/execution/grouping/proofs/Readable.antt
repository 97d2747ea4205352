-- What the aggregates of groups may read.
use Rattle.std.proofs.Common.{◌≡◌, subst, ℕ, zero, suc, ◌+◌, ◌<◌, List, [], ◌∷◌, length, get_or, map, arith}
use Rattle.std.specs.List.{AllByRecursion, range_with_len}
use Rattle.values.proofs.Each.{item_at}
use Rattle.query.specs.declared.query.Aggregate.{Aggregate}
use Rattle.query.specs.Aggregates.{MayRead}
use Rattle.algebra.specs.declared.expr.Aggregation.{Aggregation}
use Rattle.algebra.specs.Bags.{Env}
use Rattle.physical.specs.Origins.{AreReadable}

-- one of the aggregates
pub aggregate-readable : (G : List Aggregation) (i : ℕ) (a : Aggregation) → i < length G → a ≡ get_or G i a → (rows : List Env) → AreReadable G rows → AllByRecursion (MayRead a.aggregate) rows
aggregate-readable G i a below at [] all = tt
aggregate-readable G i a below at (r ∷ rows) all = (item_at (λ b. MayRead b.aggregate r) G i a below at all.0, aggregate-readable G i a below at rows all.1)

-- the row with a number
each-read : (a : Aggregate) (row : ℕ → Env) (first count n : ℕ) → n < count → AllByRecursion (MayRead a) (map row (range_with_len first count)) → MayRead a (row (first + n))
each-read a row first zero n below all = absurd (omega (arith, below))
each-read a row first (suc count) zero below all = subst (λ m. MayRead a (row m)) (omega arith) all.0
each-read a row first (suc count) (suc n) below all = subst (λ m. MayRead a (row m)) (omega arith) (each-read a row (first + 1) count n (omega (arith, below)) all.1)

pub number-reads : (a : Aggregate) (row : ℕ → Env) (count n : ℕ) → n < count → AllByRecursion (MayRead a) (map row (range_with_len 0 count)) → MayRead a (row n)
number-reads a row count n below all = subst (λ m. MayRead a (row m)) (omega arith) (each-read a row 0 count n below all)

-- no aggregate reads a row
pub none-readable : (rows : List Env) → AreReadable [] rows
none-readable [] = tt
none-readable (r ∷ rows) = (tt, none-readable rows)

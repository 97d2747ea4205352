-- Groups, and the aggregates of a group (this project's profile of SQL). Null adds nothing to a COUNT of a column, a SUM,
-- a MIN or a MAX.
use Rattle.std.specs.Prelude.{ℕ, ◌+◌, ◌+ℤ◌, pos, unsigned_abs, if◌then◌else◌, List, [], ◌∷◌, length, map, filter, FitsSigned}
use Rattle.std.specs.Int.{w128}
use Rattle.std.specs.List.{AllByRecursion}
use Rattle.std.specs.Ordering.{is_gt}
use Rattle.values.specs.declared.value.Value.{Value}
use Rattle.values.specs.declared.value.Value.TheVariants as value
use Rattle.values.specs.Order.{order}
use Rattle.values.specs.Short.{IsShort}
use Rattle.values.specs.Truth.{is_null}
use Rattle.schema.specs.Databases.{Row, values_at}
use Rattle.query.specs.declared.query.Aggregate.{Aggregate}
use Rattle.query.specs.declared.query.Aggregate.TheVariants as by
use Rattle.query.specs.Rows.{Tables, value_at, same_rows, distinct}

-- ---- aggregates of a list of values

-- how many of the values are not Null
abbrev pub known : List Value → ℕ
known [] = 0
known (v ∷ vs) = (if is_null v then 0 else 1) + known vs

-- the sum of two numbers, exactly; what is no number adds nothing
abbrev pub plus : Value → Value → Value
plus value.Null w = w
plus (value.Text t) w = w
plus (value.Int m) value.Null = value.Int m
plus (value.Int m) (value.Int n) = value.Int (m +ℤ n)
plus (value.Int m) (value.Text t) = value.Int m

-- a number fits the 128 bits of the program's integers
abbrev pub IsHeld : Value → Type 0
IsHeld value.Null = Unit {0}
IsHeld (value.Int n) = FitsSigned w128 n
IsHeld (value.Text t) = Unit {0}

-- the lesser of two values in the order of values, where neither is Null
abbrev pub lesser : Value → Value → Value
lesser v w = if is_null v then w else if is_null w then v else if is_gt (order v w) then w else v

-- the greater of two values, where neither is Null: Null is the least in the order
abbrev pub greater : Value → Value → Value
greater v w = if is_gt (order v w) then v else w

-- the values put together two by two, Null where there are none
abbrev pub together : (Value → Value → Value) → List Value → Value
together f [] = value.Null
together f (v ∷ vs) = f v (together f vs)

-- what an aggregate is of so many rows, whose values at each place are given
abbrev pub aggregate_of : Aggregate → ℕ → (ℕ → List Value) → Value
aggregate_of by.CountRows rows values = value.Int (pos rows)
aggregate_of (by.Count c) rows values = value.Int (pos (known (values c)))
aggregate_of (by.Sum c) rows values = together plus (values c)
aggregate_of (by.Min c) rows values = together lesser (values c)
aggregate_of (by.Max c) rows values = together greater (values c)

-- ---- numbers of 64 bits, which a SUM may read

-- the numbers in the rows have 64 bits
abbrev pub AreShort : List Row → Type 0
AreShort rows = AllByRecursion (AllByRecursion IsShort) rows

-- so have all numbers of the tables
abbrev pub AreShortTables : Tables → Type 0
AreShortTables D = (t : ℕ) → AreShort (D.rows t)

-- an aggregate may read a row, whose value at each place is given: a SUM reads no number past 64 bits
abbrev pub MayRead : Aggregate → (ℕ → Value) → Type 0
MayRead by.CountRows row = Unit {0}
MayRead (by.Count c) row = Unit {0}
MayRead (by.Sum c) row = IsShort (row c)
MayRead (by.Min c) row = Unit {0}
MayRead (by.Max c) row = Unit {0}

-- ---- one value more

-- the column that an aggregate reads; COUNT(*) reads none, and any serves
abbrev pub column_of : Aggregate → ℕ
column_of by.CountRows = 0
column_of (by.Count c) = c
column_of (by.Sum c) = c
column_of (by.Min c) = c
column_of (by.Max c) = c

-- what a COUNT or a SUM adds for a value
abbrev pub summand : Aggregate → Value → Value
summand by.CountRows v = value.Int (pos 1)
summand (by.Count c) v = if is_null v then value.Null else value.Int (pos 1)
summand (by.Sum c) v = v
summand (by.Min c) v = value.Null
summand (by.Max c) v = value.Null

-- an aggregate of one value more, given that of the values before it
abbrev pub one_more : Aggregate → Value → Value → Value
one_more by.CountRows v w = plus (summand by.CountRows v) w
one_more (by.Count c) v w = plus (summand (by.Count c) v) w
one_more (by.Sum c) v w = plus (summand (by.Sum c) v) w
one_more (by.Min c) v w = lesser v w
one_more (by.Max c) v w = greater v w

-- how large a number is; what is no number adds nothing
abbrev pub magnitude : Value → ℕ
magnitude value.Null = 0
magnitude (value.Int n) = unsigned_abs n
magnitude (value.Text t) = 0

-- how large a COUNT or a SUM is
abbrev pub size_of : Aggregate → Value → ℕ
size_of by.CountRows v = magnitude v
size_of (by.Count c) v = magnitude v
size_of (by.Sum c) v = magnitude v
size_of (by.Min c) v = 0
size_of (by.Max c) v = 0

-- ---- groups

-- the rows that are the same at the keys' places, and their values there
pub record Group : Type 0 where
  pub key : Row
  pub rows : List Row

-- an aggregate of a group's rows
abbrev pub aggregate : Aggregate → List Row → Value
aggregate a rows = aggregate_of a (length rows) (λ place. map (value_at place) rows)

-- the group of a key
abbrev pub group_of : List ℕ → List Row → Row → Group
group_of keys rows key = record { key = key; rows = filter (λ r. same_rows key (values_at keys r)) rows }

-- the groups of the rows by their values at the keys' places; without keys all rows are one group, also where there are none
abbrev pub groups : List ℕ → List Row → List Group
groups [] rows = record { key = []; rows = rows } ∷ []
groups (k ∷ keys) rows = map (group_of (k ∷ keys) rows) (distinct (map (values_at (k ∷ keys)) rows))

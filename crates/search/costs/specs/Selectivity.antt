-- Which share of rows makes a condition true, in millionths. That a share is guessed from the form of a condition, and from the different
-- keys of a column where they are known: Selinger et al., Access path selection in a relational database management system, 1979. The
-- numbers are this project's own.
use Rattle.std.specs.Prelude.{ℕ, ◌+◌, ◌-◌, ◌*◌, ◌/◌, max, List, ◌∷◌, map, fold, Option, Some, None}
use Rattle.std.specs.List.{position}
use Rattle.std.specs.Int.{div_ceil}
use Rattle.values.specs.declared.truth.Comparison.{Comparison}
use Rattle.values.specs.declared.truth.Comparison.TheVariants as by
use Rattle.query.specs.declared.query.TableInstance.{TableInstance}
use Rattle.algebra.specs.declared.condition.Term.{Term}
use Rattle.algebra.specs.declared.condition.Term.TheVariants as term
use Rattle.algebra.specs.declared.condition.Condition.{Condition, fold-Condition}
use Rattle.algebra.specs.declared.condition.Condition.TheOpen.{Condition-F}
use Rattle.statistics.specs.declared.counts.Statistics.{Statistics}
use Rattle.costs.specs.Numbers.{per_million}
use Rattle.costs.specs.Tables.{column_keys_of, keys_of, owner, is_over}

-- ---- keys

-- the different keys of a column: those of the first index of its table over the column alone, or else its own, where they are known
abbrev pub keys_by : Statistics → TableInstance → ℕ → Option ℕ → Option ℕ
keys_by S t place None = column_keys_of S t place
keys_by S t place (Some index) = Some (keys_of S t index)

abbrev pub instance_keys : Statistics → TableInstance → ℕ → Option ℕ
instance_keys S t c = keys_by S t (c - t.first_column) (position (is_over (c - t.first_column)) t.entry.indexes)

abbrev pub owner_keys : Statistics → Option TableInstance → ℕ → Option ℕ
owner_keys S None c = None
owner_keys S (Some t) c = instance_keys S t c

abbrev pub column_keys : Statistics → List TableInstance → ℕ → Option ℕ
column_keys S instances c = owner_keys S (owner instances c) c

abbrev pub term_keys : Statistics → List TableInstance → Term → Option ℕ
term_keys S instances (term.Column c) = column_keys S instances c
term_keys S instances (term.Literal v) = None

-- the greater of two numbers, or the one that there is
abbrev pub greater : Option ℕ → Option ℕ → Option ℕ
greater None b = b
greater (Some a) None = Some a
greater (Some a) (Some b) = Some (max a b)

-- one key of so many, which are at least 1; a tenth where they aren't known
abbrev pub share_of_key : Option ℕ → ℕ
share_of_key None = 100000
share_of_key (Some keys) = div_ceil 1000000 (max 1 keys)

-- ---- conditions

-- all but a share
abbrev pub others : ℕ → ℕ
others share = 1000000 - share

-- of a comparison, where the equality of its terms has this share
abbrev pub compared : Comparison → ℕ → ℕ
compared by.Equal share = share
compared by.NotEqual share = others share
compared by.Less share = 333334
compared by.LessOrEqual share = 333334
compared by.Greater share = 333334
compared by.GreaterOrEqual share = 333334

-- both of two, as if the one told nothing of the other; and one of two
abbrev pub both : ℕ → ℕ → ℕ
both first second = per_million first second

unfoldable pub either : ℕ → ℕ → ℕ
either first second = first + second - first * second / 1000000

abbrev pub all_of : List ℕ → ℕ
all_of shares = fold both 1000000 shares

abbrev pub any_of : List ℕ → ℕ
any_of shares = fold either 0 shares

abbrev pub selectivity_layer : Statistics → List TableInstance → Condition-F ℕ → ℕ
selectivity_layer S instances (Condition-F.Compare c a b) = compared c (share_of_key (greater (term_keys S instances a) (term_keys S instances b)))
selectivity_layer S instances (Condition-F.IsNull a) = 100000
selectivity_layer S instances (Condition-F.Not share) = others share
selectivity_layer S instances (Condition-F.And a b more) = all_of (a ∷ b ∷ more)
selectivity_layer S instances (Condition-F.Or a b more) = any_of (a ∷ b ∷ more)
selectivity_layer S instances (Condition-F.Exists g) = 500000
selectivity_layer S instances (Condition-F.In a g k) = 500000

unfoldable pub selectivity : Statistics → List TableInstance → Condition → ℕ
selectivity S instances = fold-Condition ℕ (selectivity_layer S instances)

-- of conditions that must all be true
abbrev pub list_selectivity : Statistics → List TableInstance → List Condition → ℕ
list_selectivity S instances C = all_of (map (selectivity S instances) C)

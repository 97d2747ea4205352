-- The total order of values: Null, then numbers, then texts by their bytes (this project's profile of SQL).
use Rattle.std.specs.Prelude.{Bool, if◌then◌else◌, List, [], ◌∷◌}
use Rattle.std.specs.declared.cmp.Ordering.{Ordering}
use Rattle.std.specs.declared.cmp.Ordering.TheVariants.{Less, Equal, Greater}
use Rattle.std.specs.Ordering.{nat_cmp, int_cmp, is_eq, then_cmp, flip_args}
use Rattle.std.specs.Cmp.Lexicographic.{slice_cmp}
use Rattle.values.specs.declared.value.Value.{Value}
use Rattle.values.specs.declared.value.Value.TheVariants.{Null, Int, Text}

abbrev pub order : Value → Value → Ordering
order Null Null = Equal
order Null (Int n) = Less
order Null (Text t) = Less
order (Int m) Null = Greater
order (Int m) (Int n) = int_cmp m n
order (Int m) (Text t) = Less
order (Text s) Null = Greater
order (Text s) (Int n) = Greater
order (Text s) (Text t) = slice_cmp nat_cmp s t

-- the order under a key, turned round under DESC
abbrev pub directed : Bool → Value → Value → Ordering
directed descending = if descending then flip_args order else order

-- the order by some keys, given that by each: a later key decides where the earlier ones do not
abbrev pub by_keys : {K X : Type 0} → (K → X → X → Ordering) → List K → X → X → Ordering
by_keys by_key [] = λ a b. Equal
by_keys by_key (k ∷ keys) = then_cmp (by_key k) (by_keys by_key keys)

-- equal in the order, so Null is the same as Null
abbrev pub same : Value → Value → Bool
same a b = is_eq (order a b)

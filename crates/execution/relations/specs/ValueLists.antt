-- The values that rows have in a column, each listed once.
use Rattle.std.specs.Prelude.{◌≡◌, List, [], ◌∷◌, map, Option, IfSome}
use Rattle.std.proofs.Props.{props}
use Rattle.values.specs.declared.truth.Comparison.TheVariants as by
use Rattle.values.specs.declared.truth.Truth.{Truth}
use Rattle.values.specs.declared.value.Value.{Value}
use Rattle.values.specs.Cells.{value_of}
use Rattle.values.specs.Truth.{compare}
use Rattle.query.specs.Meaning.{any_of}
use Rattle.algebra.specs.Bags.{Bag, Env}
use Rattle.relations.specs.Relations.{rows_of}
use Rattle.relations.specs.declared.relation.Relation.{Relation}
use Rattle.relations.specs.declared.value_lists.ValueList.{ValueList}

-- whether a value equals one of some values
abbrev pub among : Value → List Value → Truth
among v values = any_of (map (compare by.Equal v) values)

abbrev pub values_in : ValueList → List Value
values_in l = map value_of l.values.keys

-- each value is among the listed ones as it is among those that the rows have in the column, in each environment
abbrev pub IsListed : Bag → ValueList → Type 0
IsListed rows l = (e : Env) (v : Value) → any_of (map (λ s. compare by.Equal v (s l.column)) (rows e)) ≡ among v (values_in l)

-- each list is of the relation with its number
abbrev pub AreListed : List Relation → List (Option ValueList) → Type 0
AreListed [] lists = Unit {0}
AreListed (r ∷ relations) [] = Unit {0}
AreListed (r ∷ relations) (found ∷ lists) = IfSome found (IsListed (rows_of r)) × AreListed relations lists

-- it has one proof at most
pub AreListed-prop : (relations : List Relation) (lists : List (Option ValueList)) → IsProp (AreListed relations lists)
AreListed-prop [] lists = hlevel props
AreListed-prop (r ∷ relations) [] = hlevel props
AreListed-prop (r ∷ relations) (found ∷ lists) = let later = AreListed-prop relations lists in hlevel (props, later)

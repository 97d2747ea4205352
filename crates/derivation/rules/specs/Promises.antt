-- When rules are tried: by what they promise of their results.
-- Promise: Graefe, The Cascades framework for query optimization, 1995.
use Rattle.std.specs.Prelude.{ℕ, Bool, true, false, not, ◌&&◌, List}
use Rattle.std.specs.List.{list_any}
use Rattle.algebra.specs.declared.condition.Condition.{Condition}
use Rattle.props.specs.Knowledge.{Knowledge}
use Rattle.rules.specs.declared.promise.Promise.{Promise}
use Rattle.rules.specs.declared.promise.Promise.TheVariants.{Connected, Products}
use Rattle.rules.specs.Conjuncts.{is_apart_from}

-- a join of what conditions connect, or else a product
abbrev pub of_join : Bool → Promise
of_join true = Connected
of_join false = Products

-- whether a condition is about columns of both classes
abbrev pub connects : Knowledge → ℕ → ℕ → Condition → Bool
connects K g h c = not (is_apart_from K g c) && not (is_apart_from K h c)

abbrev pub are_connected : Knowledge → List Condition → ℕ → ℕ → Bool
are_connected K C g h = list_any (connects K g h) C

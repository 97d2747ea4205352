-- Orders by several keys.
use Rattle.std.specs.Prelude.{List, [], ◌∷◌}
use Rattle.std.specs.Ordering.{ordering_then}
use Rattle.std.specs.declared.cmp.Ordering.{Ordering}
use Rattle.std.specs.declared.cmp.Ordering.TheVariants.{Equal}

-- the first order but equal that one of the keys gives
abbrev pub first_decided : {K : Type 0} → (K → Ordering) → List K → Ordering
first_decided order [] = Equal
first_decided order (k ∷ keys) = ordering_then (order k) (first_decided order keys)

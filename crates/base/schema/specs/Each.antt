-- Items read one after the other.
use Rattle.std.specs.Prelude.{List, [], ◌∷◌, Result, Ok}
use Rattle.values.specs.Faults.{◌>>=◌}

-- what is read of each item, or the first fault
unfoldable pub each : {A B R : Type 0} → (A → Result B R) → List A → Result (List B) R
each f [] = Ok []
each f (x ∷ xs) = do
  first ← f x
  others ← each f xs
  Ok (first ∷ others)

-- R holds of the items of two lists, place by place
abbrev pub Pairs : {A B : Type 0} → (A → B → Type 0) → List A → List B → Type 0
Pairs R [] [] = Unit {0}
Pairs R [] (y ∷ ys) = ⊥
Pairs R (x ∷ xs) [] = ⊥
Pairs R (x ∷ xs) (y ∷ ys) = R x y × Pairs R xs ys

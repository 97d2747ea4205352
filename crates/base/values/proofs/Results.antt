-- A chain of steps that gave an answer.
use Rattle.std.proofs.Common.{◌≡◌, refl, Bool, true, false, Option, Some, None, Result, Ok, Err}
use Rattle.values.specs.Faults.{◌>>=◌, wanted, wanted_if}

-- both steps gave theirs
pub both_ok : {A B R : Type 0} (r : Result A R) (f : A → Result B R) (y : B) → (r >>= f) ≡ Ok y → (x : A) × (r ≡ Ok x) × (f x ≡ Ok y)
both_ok (Ok x) f y e = (x, refl, e)
both_ok (Err z) f y e = cc

pub wanted_ok : {A R : Type 0} (z : R) (o : Option A) (x : A) → wanted z o ≡ Ok x → o ≡ Some x
wanted_ok z None x e = cc
wanted_ok z (Some y) x e = cc

pub wanted_if_ok : {A R : Type 0} (z : R) (b : Bool) (x y : A) → wanted_if z b x ≡ Ok y → (b ≡ true) × (x ≡ y)
wanted_if_ok z true x y e = (refl, cc)
wanted_if_ok z false x y e = cc

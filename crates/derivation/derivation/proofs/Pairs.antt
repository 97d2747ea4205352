-- What is found in pairs.
use Rattle.std.proofs.Common.{◌≡◌, refl, ap, Option, Some, None}

abbrev first_or : {X Y : Type 0} → X → Option (X × Y) → X
first_or x None = x
first_or x (Some p) = p.0

abbrev second_or : {X Y : Type 0} → Y → Option (X × Y) → Y
second_or y None = y
second_or y (Some p) = p.1

pub first-is : {X Y : Type 0} (x a : X) (y b : Y) → ◌≡◌ {A = Option (X × Y)} (Some (x, y)) (Some (a, b)) → x ≡ a
first-is x a y b is = ap (first_or x) is

pub second-is : {X Y : Type 0} (x a : X) (y b : Y) → ◌≡◌ {A = Option (X × Y)} (Some (x, y)) (Some (a, b)) → y ≡ b
second-is x a y b is = ap (second_or y) is

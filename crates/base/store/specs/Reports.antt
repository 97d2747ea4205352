-- What a call's answer and its refusal say; running out of memory says nothing.
use Rattle.std.specs.Prelude.{Result, Ok, Err}
use Rattle.values.specs.declared.fault.Fault.{Fault}
use Rattle.values.specs.declared.fault.Fault.TheVariants.{Memory, Refused}

abbrev pub Reports : {X R : Type 0} → (X → Type 0) → (R → Type 0) → Result X (Fault R) → Type 0
Reports P Q (Ok x) = P x
Reports P Q (Err Memory) = Unit {0}
Reports P Q (Err (Refused r)) = Q r

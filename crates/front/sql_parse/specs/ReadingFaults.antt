-- What a refusal of a text says.
use Rattle.values.specs.declared.fault.Fault.{Fault}
use Rattle.values.specs.declared.fault.Fault.TheVariants.{Memory, Refused}

-- a fact of what is refused, where a fault isn't out of memory
abbrev pub IfRefused : {R : Type 0} → Fault R → (R → Type 0) → Type 0
IfRefused Memory P = Unit {0}
IfRefused (Refused r) P = P r

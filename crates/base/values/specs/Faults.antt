-- A call gives what a specification reads, or reports its fault.
use Rattle.std.specs.Prelude.{◌≡◌, Result, Ok, Err, Option, Some, None, Bool, if◌then◌else◌}
use Rattle.values.specs.declared.fault.Fault.{Fault}
use Rattle.values.specs.declared.fault.Fault.TheVariants.{Memory, Refused}

-- what is read next, unless there was a fault
infixl 10 ◌>>=◌
abbrev pub ◌>>=◌ : {A B R : Type 0} → Result A R → (A → Result B R) → Result B R
(Ok x) >>= f = f x
(Err e) >>= f = Err e

-- the fault is that of the specification; running out of memory says nothing
abbrev pub Fails : {R Y : Type 0} → Fault R → Result Y R → Type 0
Fails Memory read = Unit {0}
Fails (Refused r) read = read ≡ Err r

-- the answer, seen by view, is that of the specification, and so is the fault
abbrev pub Gives : {R X Y : Type 0} → (X → Y) → Result X (Fault R) → Result Y R → Type 0
Gives view (Ok x) read = read ≡ Ok (view x)
Gives view (Err e) read = Fails e read

-- the value that is wanted there, or the fault that there is none
abbrev pub wanted : {A R : Type 0} → R → Option A → Result A R
wanted r None = Err r
wanted r (Some x) = Ok x

abbrev pub wanted_if : {A R : Type 0} → R → Bool → A → Result A R
wanted_if r b x = if b then Ok x else Err r

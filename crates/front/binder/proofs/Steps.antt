-- One step, and what is made of its value: its fault is reported, and its value is handed on.
use Rattle.std.proofs.Common.{◌≡◌, Result, Ok, Err, ap, ◌∙◌}
use Rattle.values.specs.declared.fault.Fault.{Fault}
use Rattle.values.specs.declared.fault.Fault.TheVariants as fault
use Rattle.values.specs.Faults.{◌>>=◌, Fails, Gives}

pub reported : {A B R : Type 0} (e : Fault R) (read : Result A R) (next : A → Result B R) (whole : Result B R) → whole ≡ (read >>= next) → Fails e read → Fails e whole
reported fault.Memory read next whole is h = tt
reported (fault.Refused r) read next whole is h = is ∙ ap (λ x. x >>= next) h

pub handed : {A B R : Type 0} (read : Result A R) (next : A → Result B R) (whole : Result B R) (x : A) → whole ≡ (read >>= next) → read ≡ Ok x → whole ≡ next x
handed read next whole x is h = is ∙ ap (λ y. y >>= next) h

-- a call's answer is handed on as it is, but for how it is seen
pub seen : {X Y Z R : Type 0} (view : X → Y) (next : Y → Z) (answer : Result X (Fault R)) (read : Result Y R) (whole : Result Z R) → whole ≡ (read >>= λ y. Ok (next y)) → Gives view answer read
    → Gives (λ x. next (view x)) answer whole
seen view next (Ok x) read whole is h = is ∙ ap (λ y. y >>= λ z. Ok (next z)) h
seen view next (Err e) read whole is h = reported e read (λ y. Ok (next y)) whole is h

pub same : {X Y R : Type 0} (view : X → Y) (answer : Result X (Fault R)) (read whole : Result Y R) → whole ≡ read → Gives view answer read → Gives view answer whole
same view (Ok x) read whole is h = is ∙ h
same view (Err fault.Memory) read whole is h = tt
same view (Err (fault.Refused r)) read whole is h = is ∙ h

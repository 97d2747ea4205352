-- What a `?` returns early is no value: what a function promises of its value, or of what it changed, holds there.
use Rattle.std.proofs.Common.{Result, Ok, Err, IsErrAnd, IfOk, OnOk}

pub no_value : {T E : Type 0} (r : Result T E) (Q : E → Type 0) (P : T → Type 0) → IsErrAnd r Q → IfOk r P
no_value (Ok x) Q P h = absurd h
no_value (Err y) Q P h = tt

pub no_change : {T E : Type 0} (r : Result T E) (Q : E → Type 0) (P : Type 0) → IsErrAnd r Q → OnOk r P
no_change (Ok x) Q P h = absurd h
no_change (Err y) Q P h = tt

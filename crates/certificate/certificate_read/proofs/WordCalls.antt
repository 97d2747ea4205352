-- Calls that end with the fault of another, or with less than it gives.
use Rattle.std.proofs.Common.{◌≡◌, Result, Ok, Err, MatchResult, sym, ◌∙◌, ap, subst}
use Rattle.std.proofs.lemmas.Result.{err_from_is_err_and}
use Rattle.std.specs.Result.{IsErrAnd}

-- a call ends with the fault of another, where that only runs out of memory
pub fails : {V E : Type 0} {m : E} (P : V → Type 0) (r : Result V E) (fault : E) → IsErrAnd r (λ given. given ≡ fault) → fault ≡ m → MatchResult r P (λ fault. fault ≡ m)
fails {m = m} P r fault e memory =
    let x = err_from_is_err_and r e in
    subst (λ r. MatchResult r P (λ fault. fault ≡ m)) (sym (x.1 ∙ ap (λ fault. Err fault) x.2)) memory

pub gives_less : {V E : Type 0} (m : E) (P Q : V → Type 0) (r : Result V E) → ((v : V) → P v → Q v) → MatchResult r P (λ fault. fault ≡ m) → MatchResult r Q (λ fault. fault ≡ m)
gives_less m P Q (Ok v) less h = less v h
gives_less m P Q (Err e) less h = h

-- Requirements, and the faults of those that don't hold.
use Rattle.std.proofs.Common.{◌≡◌, refl, ap, ◌∙◌, ℕ, Bool, true, false, List, [], ◌++◌}
use Rattle.binder.specs.declared.fault.BindReason.{BindReason}
use Rattle.binder.specs.declared.fault.BindRefusal.{BindRefusal}
use Rattle.binder.specs.Parts.{unless}

pub held : (b : Bool) (reason : BindReason) (at : ℕ) → unless b reason at ≡ [] → b ≡ true
held true reason at none = refl
held false reason at none = cc none

pub required : (b : Bool) (reason : BindReason) (at : ℕ) → b ≡ true → unless b reason at ≡ []
required true reason at is = refl
required false reason at is = cc is

pub no-faults : (fs gs : List BindRefusal) → fs ≡ [] → gs ≡ [] → fs ++ gs ≡ []
no-faults fs gs none also = ap (λ x. x ++ gs) none ∙ also

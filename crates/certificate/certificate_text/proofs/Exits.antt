-- Results that a function goes on with, or leaves at.
use Rattle.std.proofs.Common.{◌≡◌, Result, Ok, Err, Option, Some, None, refl, sym, ◌∙◌, ap, subst, is_ok, is_some}
use Rattle.std.proofs.lemmas.Bool.{false≢true}
use Rattle.std.proofs.lemmas.Result.{err_from_is_err_and}
use Rattle.std.specs.Option.{unwrap_or}
use Rattle.std.specs.Result.{result_ok, IsErrAnd}
use Rattle.values.specs.declared.fault.Fault.{Fault}
use Rattle.values.specs.declared.fault.Fault.TheVariants.{Memory, Refused}
use Rattle.values.specs.Faults.{Fails, Gives}

pub not_both : {A E : Type 0} (r : Result A E) (e : E) (x : A) → r ≡ Err e → r ≡ Ok x → ⊥
not_both r e x f g = false≢true (sym (ap is_ok f) ∙ ap is_ok g)

pub same_ok : {A E : Type 0} (r : Result A E) (x y : A) → r ≡ Ok x → r ≡ Ok y → x ≡ y
same_ok r x y f g = ap (λ r. unwrap_or (result_ok r) x) (sym f ∙ g)

pub not_none : {A : Type 0} (r : Option A) (x : A) → r ≡ None → r ≡ Some x → ⊥
not_none r x f g = false≢true (sym (ap is_some f) ∙ ap is_some g)

pub same_some : {A : Type 0} (r : Option A) (x y : A) → r ≡ Some x → r ≡ Some y → x ≡ y
same_some r x y f g = ap (λ r. unwrap_or r x) (sym f ∙ g)

pub same_found : {A E : Type 0} (r : Result (Option A) E) (found : Option A) (x y : A) → r ≡ Ok (Some x) → r ≡ Ok found → found ≡ Some y → x ≡ y
same_found r found x y f g h = same_some found x y (same_ok r found (Some x) g f) h

pub found_none : {A E : Type 0} (r : Result (Option A) E) (found : Option A) (x : A) → r ≡ Ok (Some x) → r ≡ Ok found → found ≡ None → ⊥
found_none r found x f g h = not_none found x h (same_ok r found (Some x) g f)

-- what holds of a fault holds of the result that hands it on
pub holds_of_fault : {A E : Type 0} (P : Result A E → Type 0) (r : Result A E) (fault : E) → IsErrAnd r (λ given. given ≡ fault) → P (Err fault) → P r
holds_of_fault P r fault e h = let x = err_from_is_err_and r e in subst P (sym (x.1 ∙ ap Err x.2)) h

-- a fault that may be there is handed on
pub handed_on : {R X Y Z : Type 0} (view : X → Y) (r : Result X (Fault R)) (fault : Fault R) (z : Z) (y : Y) → IsErrAnd r (λ given. given ≡ fault) → Fails fault (Ok z) → Gives view r (Ok y)
handed_on {R} {X} {Y} {Z} view r fault z y e h =
    let x = err_from_is_err_and r e in
    subst (λ r. Gives view r (Ok y)) (sym (x.1 ∙ ap Err x.2)) (by fault h) where
      by : (fault : Fault R) → Fails fault (Ok z) → Fails fault (Ok y)
      by Memory h = tt
      by (Refused r) h = absurd (not_both (Ok z) r z h refl)

-- What holds of a result where it is given, step by step.
use Rattle.std.proofs.Common.{◌≡◌, refl, Bool, true, false, Option, Some, None, Result, Ok, Err}
use Rattle.std.specs.Result.{IfOk}
use Rattle.values.specs.Faults.{◌>>=◌, wanted, wanted_if}

-- P holds of what is given
abbrev pub Given : {A R : Type 0} → (A → Type 0) → Result A R → Type 0
Given P r = IfOk r P

-- Q holds of what comes of two steps, if P holds of what the first gives, and the second makes Q of it
pub and-then : {A B R : Type 0} (P : A → Type 0) (Q : B → Type 0) (r : Result A R) (f : A → Result B R) → Given P r → ((x : A) → P x → Given Q (f x)) → Given Q (r >>= f)
and-then P Q (Ok x) f first next = next x first
and-then P Q (Err e) f first next = tt

pub weaker : {A R : Type 0} (P Q : A → Type 0) (r : Result A R) → Given P r → ((x : A) → P x → Q x) → Given Q r
weaker P Q (Ok x) given next = next x given
weaker P Q (Err e) given next = tt

pub given-wanted : {A R : Type 0} (P : A → Type 0) (e : R) (o : Option A) → ((x : A) → o ≡ Some x → P x) → Given P (wanted e o)
given-wanted P e None holds = tt
given-wanted P e (Some x) holds = holds x refl

pub given-if : {A R : Type 0} (P : A → Type 0) (e : R) (b : Bool) (x : A) → (b ≡ true → P x) → Given P (wanted_if e b x)
given-if P e true x holds = holds refl
given-if P e false x holds = tt

-- the result may be given by an equation
pub given-at : {A R : Type 0} (P : A → Type 0) (r s : Result A R) → r ≡ s → Given P s → Given P r
given-at P r s is given = rw is given

pub given-ok : {A R : Type 0} (P : A → Type 0) (r : Result A R) (x : A) → r ≡ Ok x → Given P r → P x
given-ok P r x is given = rw is at given

pub given-from : {A R : Type 0} (P : A → Type 0) (r : Result A R) → ((x : A) → r ≡ Ok x → P x) → Given P r
given-from P (Ok x) holds = holds x refl
given-from P (Err e) holds = tt

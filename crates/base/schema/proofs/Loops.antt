-- Items read one after the other, as a loop goes over them.
use Rattle.std.proofs.Common.{◌≡◌, ℕ, ◌+◌, ◌<◌, ◌≤◌, List, [], ◌∷◌, ◌++◌, length, drop, get_or, map, Result, Ok, Err, refl, sym, ap, ◌∙◌, append_assoc}
use Rattle.std.proofs.lemmas.List.{append-nil, drop_all}
use Rattle.values.specs.declared.fault.Fault.{Fault}
use Rattle.values.specs.declared.fault.Fault.TheVariants as fault
use Rattle.values.specs.Faults.{◌>>=◌, Fails}
use Rattle.values.proofs.Lists.{drop_next}
use Rattle.schema.specs.Each.{each}

-- what was read before, and what is still read
abbrev pub after : {B R : Type 0} → List B → Result (List B) R → Result (List B) R
after front read = read >>= λ x. Ok (front ++ x)

pub regroup : {B R : Type 0} (front : List B) (b : B) (read : Result (List B) R) → after front (read >>= λ x. Ok (b ∷ x)) ≡ after (front ++ b ∷ []) read
regroup front b (Ok x) = ap Ok (simp append_assoc)
regroup front b (Err f) = refl

pub goes_on : {A B R : Type 0} (f : A → Result B R) (front : List B) (xs : List A) (i : ℕ) (x : A) (b : B) (total : Result (List B) R) → i < length xs → x ≡ get_or xs i x → f x ≡ Ok b
    → after front (each f (drop i xs)) ≡ total → after (front ++ b ∷ []) (each f (drop (i + 1) xs)) ≡ total
unfolding each
goes_on f front xs i x b total lt at h so_far =
    let one : after front (each f (drop i xs)) ≡ after (front ++ b ∷ []) (each f (drop (i + 1) xs)) =
    rw (drop_next xs i x lt at, h) (regroup front b (each f (drop (i + 1) xs))) in
    sym one ∙ so_far

pub ends : {A B R : Type 0} (f : A → Result B R) (e : Fault R) (front : List B) (xs : List A) (i : ℕ) (x : A) (total : Result (List B) R) → i < length xs → x ≡ get_or xs i x → Fails e (f x)
    → after front (each f (drop i xs)) ≡ total → Fails e total
unfolding each
ends f fault.Memory front xs i x total lt at h so_far = tt
ends f (fault.Refused e) front xs i x total lt at h so_far =
    let one : after front (each f (drop i xs)) ≡ Err e = rw (drop_next xs i x lt at, h) refl in
    sym so_far ∙ one

pub is_done : {A B R : Type 0} (f : A → Result B R) (front : List B) (xs : List A) (i : ℕ) (total : Result (List B) R) → length xs ≤ i → after front (each f (drop i xs)) ≡ total → total ≡ Ok front
unfolding each
is_done f front xs i total le so_far =
    let one : after front (each f (drop i xs)) ≡ Ok front = rw (drop_all i xs le) (ap Ok (append-nil front)) in
    sym so_far ∙ one

-- items that are seen otherwise
pub each_seen : {A B C R : Type 0} (f : B → Result C R) (see : A → B) (xs : List A) → each f (map see xs) ≡ each (λ x. f (see x)) xs
unfolding each
each_seen f see [] = refl
each_seen f see (x ∷ xs) = rw (each_seen f see xs) refl

-- What a reading that gave an answer read on its way.
use Rattle.std.proofs.Common.{◌≡◌, ◌≢◌, ℕ, zero, suc, ◌<◌, List, [], ◌∷◌, length, get_or, slice_index_or, map, Bool, true, false, cond, Some, None, Result, Ok, refl, sym, ap, ◌∙◌, arith, bytes_eq, nat_lt}
use Rattle.std.proofs.lemmas.Slice.Eq.{bytes_eq-Decides}
use Rattle.std.proofs.lemmas.Bool.{ltb-true, ltb-false, and_parts}
use Rattle.std.proofs.lemmas.List.{length-map, get_or-map}
use Rattle.std.proofs.lemmas.List.Sums.{fails_before_first, passes_at_first}
use Rattle.std.specs.List.{AllByRecursion, position, position_or_len}
use Rattle.std.specs.Option.{is_none}
use Rattle.std.proofs.lemmas.Option.{cond_some}
use Rattle.values.specs.Faults.{◌>>=◌}
use Rattle.values.proofs.Results.{both_ok}
use Rattle.schema.specs.Each.{each, Pairs}
use Rattle.schema.specs.Names.{Name, place_of, are_different}
use Rattle.schema.specs.Schemas.{AreDifferent}

-- ---- items that were read one after the other

pub each_ok : {A B R : Type 0} (f : A → Result B R) (xs : List A) (ys : List B) → each f xs ≡ Ok ys → Pairs (λ x y. f x ≡ Ok y) xs ys
unfolding each
each_ok f [] [] e = tt
each_ok f [] (y ∷ ys) e = cc e
each_ok {B = B} {R = R} f (x ∷ xs) [] e =
    let (b, p, q) = both_ok (f x) (λ first. let more : Result (List B) R = each f xs >>= λ others. Ok (first ∷ others) in more) [] e in
    let (bs, u, v) = both_ok (each f xs) (λ others. let whole : Result (List B) R = Ok (b ∷ others) in whole) [] q in
    cc v
each_ok {B = B} {R = R} f (x ∷ xs) (y ∷ ys) e =
    let (b, p, q) = both_ok (f x) (λ first. let more : Result (List B) R = each f xs >>= λ others. Ok (first ∷ others) in more) (y ∷ ys) e in
    let (bs, u, v) = both_ok (each f xs) (λ others. let whole : Result (List B) R = Ok (b ∷ others) in whole) (y ∷ ys) q in
    (p ∙ ap Ok (cc v), each_ok f xs ys (u ∙ ap Ok (cc v)))

pub pairs_length : {A B : Type 0} (R : A → B → Type 0) (xs : List A) (ys : List B) → Pairs R xs ys → length xs ≡ length ys
pairs_length R [] [] h = refl
pairs_length R [] (y ∷ ys) h = absurd h
pairs_length R (x ∷ xs) [] h = absurd h
pairs_length R (x ∷ xs) (y ∷ ys) h = ap suc (pairs_length R xs ys h.1)

pub pairs_at : {A B : Type 0} (R : A → B → Type 0) (xs : List A) (ys : List B) (i : ℕ) (d : A) (e : B) → i < length ys → Pairs R xs ys → R (get_or xs i d) (get_or ys i e)
pairs_at R [] [] i d e lt h = absurd (omega arith)
pairs_at R [] (y ∷ ys) i d e lt h = absurd h
pairs_at R (x ∷ xs) [] i d e lt h = absurd h
pairs_at R (x ∷ xs) (y ∷ ys) zero d e lt h = h.0
pairs_at R (x ∷ xs) (y ∷ ys) (suc i) d e lt h = pairs_at R xs ys i d e (omega arith) h.1

pub pairs_right : {A B : Type 0} {R : A → B → Type 0} {Q : B → Type 0} (f : (x : A) (y : B) → R x y → Q y) (xs : List A) (ys : List B) → Pairs R xs ys → AllByRecursion Q ys
pairs_right f [] [] h = tt
pairs_right f [] (y ∷ ys) h = absurd h
pairs_right f (x ∷ xs) [] h = absurd h
pairs_right f (x ∷ xs) (y ∷ ys) h = (f x y h.0, pairs_right f xs ys h.1)

-- ---- names and places

none_past : (b : Bool) (n : ℕ) → is_none (cond b (Some n) None) ≡ true → b ≡ false
none_past true n e = cc e
none_past false n e = refl

none_of : {A : Type 0} (p : A → Bool) (xs : List A) (k : ℕ) (d : A) → is_none (position p xs) ≡ true → k < length xs → p (get_or xs k d) ≡ false
none_of p xs k d e lt =
    let past = ltb-false (position_or_len p xs) (length xs) (none_past (nat_lt (position_or_len p xs) (length xs)) (position_or_len p xs) e) in
    fails_before_first p xs k d (omega arith)

found : {A : Type 0} (p : A → Bool) (xs : List A) (i : ℕ) (d : A) → position p xs ≡ Some i → (i < length xs) × (p (get_or xs i d) ≡ true)
found p xs i d e =
    let r = cond_some (nat_lt (position_or_len p xs) (length xs)) (position_or_len p xs) i e in
    let lt : position_or_len p xs < length xs = ltb-true (position_or_len p xs) (length xs) r.0 in
    (rw (← r.1) lt, ap (λ (j : ℕ). p (get_or xs j d)) (sym r.1) ∙ passes_at_first p xs d lt)

-- the column with the name is the one at its place
pub place_ok : {A : Type 0} (name_of : A → Name) (xs : List A) (name : Name) (i : ℕ) → place_of name_of xs name ≡ Some i → (i < length xs) × (slice_index_or (map name_of xs) i [] ≡ name)
place_ok name_of [] name i e = cc e
place_ok name_of (x ∷ xs) name i e =
    let r = found (λ y. bytes_eq (name_of y) name) (x ∷ xs) i x e in
    (r.0, get_or-map name_of (x ∷ xs) i x [] r.0 ∙ (bytes_eq-Decides (name_of (get_or (x ∷ xs) i x)) name).0 r.1)

first_other : {A : Type 0} (name_of : A → Name) (x : A) (xs : List A) (j : ℕ) → is_none (place_of name_of xs (name_of x)) ≡ true → j < length xs → name_of x ≢ slice_index_or (map name_of xs) j []
first_other name_of x xs j e lt same =
    let no = none_of (λ y. bytes_eq (name_of y) (name_of x)) xs j x e lt in
    let yes = (bytes_eq-Decides (name_of (get_or xs j x)) (name_of x)).1 (sym (same ∙ get_or-map name_of xs j x [] lt)) in
    cc (no, yes)

two_places : {A : Type 0} (name_of : A → Name) (x : A) (xs : List A) (i j : ℕ) → i < j → j < length (map name_of (x ∷ xs)) → ((k : ℕ) → k < length xs → name_of x ≢ slice_index_or (map name_of xs) k [])
    → AreDifferent (map name_of xs) → slice_index_or (map name_of (x ∷ xs)) i [] ≢ slice_index_or (map name_of (x ∷ xs)) j []
two_places name_of x xs i zero lt low first more same = omega arith
two_places name_of x xs zero (suc j) lt low first more same = let size = length-map xs name_of in first j (omega arith) same
two_places name_of x xs (suc i) (suc j) lt low first more same = more i j (omega arith) (omega arith) same

pub different_ok : {A : Type 0} (name_of : A → Name) (xs : List A) → are_different name_of xs ≡ true → AreDifferent (map name_of xs)
unfolding are_different
different_ok name_of [] e = λ i j lt low same. omega arith
different_ok name_of (x ∷ xs) e =
    let r = and_parts (is_none (place_of name_of xs (name_of x))) (are_different name_of xs) e in
    λ i j lt low same. two_places name_of x xs i j lt low (λ k below. first_other name_of x xs k r.0 below) (different_ok name_of xs r.1) same

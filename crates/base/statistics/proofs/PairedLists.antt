-- Two lists item beside item, as a loop goes over both.
use Rattle.std.proofs.Common.{◌≡◌, ap, sym, ◌∙◌, ℕ, ◌+◌, ◌<◌, List, [], ◌∷◌, ◌++◌, length, get_or, map, min, take, arith}
use Rattle.std.specs.List.{range_with_len, zip}
use Rattle.std.proofs.lemmas.List.{take_all}
use Rattle.std.proofs.lemmas.List.FromFn.{get_or-range_with_len, length-range_with_len}
use Rattle.std.proofs.lemmas.Slice.Zip.{get_or-zip, length-zip}
use Rattle.values.proofs.Lists.{map_next}

pub pairs-more : {A B C : Type 0} (f : A × B → C) (xs : List A) (ys : List B) (n : ℕ) (x : A) (y : B) → n < length xs → n < length ys → x ≡ get_or xs n x → y ≡ get_or ys n y
    → map f (take (n + 1) (zip xs ys)) ≡ map f (take n (zip xs ys)) ++ f (x, y) ∷ []
pairs-more f xs ys n x y below under first second =
    let within : n < length (zip xs ys) = omega (arith, length-zip xs ys, below, under) in
    map_next f (zip xs ys) n (x, y) within (ap (λ a. (a, y)) first ∙ ap (λ b. (get_or xs n x, b)) second ∙ sym (get_or-zip xs ys n (x, y) below under))

pub pairs-all : {A B : Type 0} (xs : List A) (ys : List B) (n : ℕ) → n ≡ min (length xs) (length ys) → take n (zip xs ys) ≡ zip xs ys
pairs-all xs ys n all = take_all n (zip xs ys) (omega (arith, length-zip xs ys, all))

-- ---- with their numbers

pub numbered-more : {A B C : Type 0} (f : ℕ × (A × B) → C) (xs : List A) (ys : List B) (n : ℕ) (x : A) (y : B) → n < length xs → n < length ys → x ≡ get_or xs n x → y ≡ get_or ys n y
    → map f (take (n + 1) (zip (range_with_len 0 (length xs)) (zip xs ys))) ≡ map f (take n (zip (range_with_len 0 (length xs)) (zip xs ys))) ++ f (n, (x, y)) ∷ []
numbered-more f xs ys n x y below under first second =
    let size = length-range_with_len 0 (length xs) in
    let zipped = length-zip xs ys in
    pairs-more f (range_with_len 0 (length xs)) (zip xs ys) n n (x, y) (omega (arith, size, below)) (omega (arith, zipped, below, under)) (sym (get_or-range_with_len 0 (length xs) n n below ∙ omega arith))
    (ap (λ a. (a, y)) first ∙ ap (λ b. (get_or xs n x, b)) second ∙ sym (get_or-zip xs ys n (x, y) below under))

pub numbered-all : {A B : Type 0} (xs : List A) (ys : List B) (n : ℕ) → n ≡ min (length xs) (length ys) → take n (zip (range_with_len 0 (length xs)) (zip xs ys)) ≡ zip (range_with_len 0 (length xs)) (zip xs ys)
numbered-all xs ys n all =
    let size = length-range_with_len 0 (length xs) in
    let zipped = length-zip xs ys in
    pairs-all (range_with_len 0 (length xs)) (zip xs ys) n (omega (arith, size, zipped, all))

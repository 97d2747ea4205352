-- Rows by their numbers.
use Rattle.std.proofs.Common.{◌≡◌, refl, ap, sym, ◌∙◌, ℕ, zero, suc, ◌+◌, ◌-◌, ◌<◌, ◌≤◌, Bool, true, false, if◌then◌else◌, List, [], ◌∷◌, ◌++◌, length, get_or, map, flat_map, filter, append-nil, append_assoc, arith, add-one, zero-add}
use Rattle.std.specs.List.{AllByRecursion, list_any, range_with_len}
use Rattle.std.proofs.lemmas.List.{get_or-map, length-map, map-append}
use Rattle.std.proofs.lemmas.List.FromFn.{get_or-range_with_len, length-range_with_len}
use Rattle.std.proofs.lemmas.List.Folds.{list_any-append, list_any_at}
use Rattle.std.proofs.lemmas.List.Concat.{flat_map-append}
use Rattle.std.proofs.lemmas.List.Elements.{filter-append}
use mathlib.Core.List.{map-map}
use Rattle.schema.specs.Databases.{Row}
use Rattle.relations.specs.Parts.{row_at}
use Rattle.store.proofs.TextPlaces.{range_alike}
use Rattle.store.proofs.IndexLists.{numbers_more}

-- ---- the numbers up to an end

pub range-shift : (a n : ℕ) → range_with_len (suc a) n ≡ map suc (range_with_len a n)
range-shift a zero = refl
range-shift a (suc n) = ap (λ l. suc a ∷ l) (ap (λ b. range_with_len b n) (add-one (suc a)) ∙ range-shift (suc a) n ∙ ap (λ b. map suc (range_with_len b n)) (sym (add-one a)))

-- items in their order are those with the numbers up to the end
pub by-number : {X Y : Type 0} (g : X → Y) (xs : List X) (d : X) → map (λ n. g (get_or xs n d)) (range_with_len 0 (length xs)) ≡ map g xs
by-number g [] d = refl
by-number g (x ∷ xs) d =
    ap (λ l. g x ∷ l) (ap (map (λ n. g (get_or (x ∷ xs) n d))) (range-shift 0 (length xs)) ∙ map-map (λ n. g (get_or (x ∷ xs) n d)) suc (range_with_len 0 (length xs)) ∙ by-number g xs d)

pub map_number : {Y : Type 0} (f : ℕ → Y) (n : ℕ) → map f (range_with_len 0 (n + 1)) ≡ map f (range_with_len 0 n) ++ f n ∷ []
map_number f n = ap (map f) (numbers_more n) ∙ map-append f (range_with_len 0 n) (n ∷ [])

pub filter_number : (p : ℕ → Bool) (n : ℕ) → filter p (range_with_len 0 (n + 1)) ≡ filter p (range_with_len 0 n) ++ (if p n then n ∷ [] else [])
filter_number p n = ap (filter p) (numbers_more n) ∙ filter-append p (range_with_len 0 n) (n ∷ [])

pub any_number : (p : ℕ → Bool) (n : ℕ) → list_any p (range_with_len 0 n) ≡ false → p n ≡ false → list_any p (range_with_len 0 (n + 1)) ≡ false
any_number p n before here = ap (list_any p) (numbers_more n) ∙ list_any-append p (range_with_len 0 n) (n ∷ []) ∙ rw (before, here) refl

-- one of them settles the answer
pub any_found : (p : ℕ → Bool) (n end : ℕ) → n < end → p n ≡ true → list_any p (range_with_len 0 end) ≡ true
any_found p n end below here =
    list_any_at p (range_with_len 0 end) n 0 (let many = length-range_with_len 0 end in omega (arith, below, many)) (ap p (get_or-range_with_len 0 end n 0 below ∙ zero-add n) ∙ here)

pub flat_map_number : {Y : Type 0} (f : ℕ → List Y) (n : ℕ) → flat_map f (range_with_len 0 (n + 1)) ≡ flat_map f (range_with_len 0 n) ++ f n
flat_map_number f n = ap (flat_map f) (numbers_more n) ∙ flat_map-append f (range_with_len 0 n) (n ∷ []) ∙ ap (λ l. flat_map f (range_with_len 0 n) ++ l) (append-nil (f n))

-- the numbers up to one, and those from it on
pub range_split : (a n : ℕ) → range_with_len 0 (a + n) ≡ range_with_len 0 a ++ range_with_len a n
range_split a zero = ap (range_with_len 0) (omega arith) ∙ sym (append-nil (range_with_len 0 a))
range_split a (suc n) =
    let more : a + suc n ≡ a + 1 + n = omega arith in
    ap (range_with_len 0) more ∙ range_split (a + 1) n ∙ ap (λ l. l ++ range_with_len (a + 1) n) (numbers_more a) ∙ append_assoc (range_with_len 0 a) (a ∷ []) (range_with_len (a + 1) n)

-- so many from one on, and those behind them
pub range_parts : (a m k : ℕ) → range_with_len a (m + k) ≡ range_with_len a m ++ range_with_len (a + m) k
range_parts a zero k = ap (range_with_len a) (zero-add k) ∙ ap (λ b. range_with_len b k) (omega arith)
range_parts a (suc m) k =
    let more : suc m + k ≡ suc (m + k) = omega arith in
    let on : a + 1 + m ≡ a + suc m = omega arith in
    ap (range_with_len a) more ∙ ap (λ l. a ∷ l) (range_parts (a + 1) m k ∙ ap (λ b. range_with_len (a + 1) m ++ range_with_len b k) on)

-- the numbers from one on below an end are those up to another and those from it on
pub range_between : (start next end : ℕ) → start ≤ next → next ≤ end → range_with_len start (end - start) ≡ range_with_len start (next - start) ++ range_with_len next (end - next)
range_between start next end low within =
    let parts : end - start ≡ (next - start) + (end - next) = omega (arith, low, within) in
    let on : start + (next - start) ≡ next = omega (arith, low) in
    ap (range_with_len start) parts ∙ range_parts start (next - start) (end - next) ∙ ap (λ b. range_with_len start (next - start) ++ range_with_len b (end - next)) on

-- one number more
pub range_next : (start next : ℕ) → start ≤ next → range_with_len start (next + 1 - start) ≡ range_with_len start (next - start) ++ next ∷ []
range_next start next low =
    let one : next + 1 - next ≡ 1 = omega arith in
    range_between start next (next + 1) low (omega arith) ∙ ap (λ n. range_with_len start (next - start) ++ range_with_len next n) one

pub flat_map_next_number : {Y : Type 0} (f : ℕ → List Y) (start next : ℕ) → start ≤ next → flat_map f (range_with_len start (next + 1 - start)) ≡ flat_map f (range_with_len start (next - start)) ++ f next
flat_map_next_number f start next low =
    ap (flat_map f) (range_next start next low) ∙ flat_map-append f (range_with_len start (next - start)) (next ∷ []) ∙ ap (λ l. flat_map f (range_with_len start (next - start)) ++ l) (append-nil (f next))

pub filter_split : (p : ℕ → Bool) (a n : ℕ) → filter p (range_with_len 0 a) ++ filter p (range_with_len a n) ≡ filter p (range_with_len 0 (a + n))
filter_split p a n = sym (ap (filter p) (range_split a n) ∙ filter-append p (range_with_len 0 a) (range_with_len a n))

-- ---- rows that are chosen

-- as many rows in each part
pub even-chosen : (numbers : List ℕ) (parts : List (List Row)) → AllByRecursion (λ part. length part ≡ length numbers) (map (λ part. map (λ n. get_or part n []) numbers) parts)
even-chosen numbers [] = tt
even-chosen numbers (part ∷ parts) = (length-map numbers (λ n. get_or part n []), even-chosen numbers parts)

pub chosen-row : (parts : List (List Row)) (numbers : List ℕ) (k : ℕ) → k < length numbers → row_at (map (λ part. map (λ n. get_or part n []) numbers) parts) k ≡ row_at parts (get_or numbers k 0)
chosen-row [] numbers k below = refl
chosen-row (part ∷ parts) numbers k below =
    rw (get_or-map (λ n. get_or part n []) numbers k 0 [] below, chosen-row parts numbers k below) refl

pub chosen-rows : {Y : Type 0} (f : List Row → Y) (parts : List (List Row)) (numbers : List ℕ)
    → map (λ k. f (row_at (map (λ part. map (λ n. get_or part n []) numbers) parts) k)) (range_with_len 0 (length numbers)) ≡ map (λ n. f (row_at parts n)) numbers
chosen-rows f parts numbers =
    range_alike (λ k. f (row_at (map (λ part. map (λ n. get_or part n []) numbers) parts) k)) (λ k. f (row_at parts (get_or numbers k 0))) 0 (length numbers) (λ i low high. ap f (chosen-row parts numbers i (omega (arith, high))))
    ∙ by-number (λ n. f (row_at parts n)) numbers 0

-- rows beside others
pub row-append : (left right : List (List Row)) (n : ℕ) → row_at (left ++ right) n ≡ row_at left n ++ row_at right n
row-append left right n = map-append (λ (part : List Row). get_or part n []) left right

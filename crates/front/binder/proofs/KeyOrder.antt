-- The keys of ORDER BY, as a loop keeps them.
use Rattle.std.proofs.Common.{◌≡◌, refl, ℕ, ◌+◌, ◌<◌, ◌≤◌, ◌==◌, Bool, true, false, not, ◌&&◌, ◌||◌, List, [], ◌∷◌, ◌++◌, length, drop, get_or, map, filter, Result, Ok, Err, ap, sym, subst, ◌∙◌, append_assoc, arith, rules}
use Rattle.std.specs.List.{list_any}
use Rattle.std.proofs.lemmas.List.{append-nil, drop_all}
use Rattle.std.proofs.lemmas.Bool.Decides.{nat_tests}
use Rattle.std.proofs.lemmas.List.Folds.{list_any-append}
use Rattle.std.proofs.Math.Bool.{or-false}
use Rattle.values.specs.declared.fault.Fault.{Fault}
use Rattle.values.specs.declared.fault.Fault.TheVariants as fault
use Rattle.values.specs.Faults.{◌>>=◌, Fails}
use Rattle.values.proofs.Lists.{drop_next}
use Rattle.schema.specs.Each.{each}
use Rattle.query.specs.declared.query.SortKey.{SortKey}
use Rattle.binder.specs.declared.fault.BindRefusal.{BindRefusal}
use Rattle.binder.specs.Ordering.{without_repeats}

-- whether an output is a key
abbrev pub is_in : List SortKey → ℕ → Bool
is_in order i = list_any (λ k. k.item == i) order

-- whether an output is among those of the keys
pub among-in : (order : List SortKey) (i : ℕ) → list_any (λ k. k == i) (map (λ k. k.item) order) ≡ is_in order i
among-in [] i = refl
among-in (k ∷ order) i = ap (λ b. (k.item == i) || b) (among-in order i)

-- the keys so far, and those of the rest that are not among them
abbrev pub with_rest : List SortKey → List SortKey → List SortKey
with_rest order ks = order ++ filter (λ l. not (is_in order l.item)) (without_repeats ks)

both-step : {A : Type 0} (p q r : A → Bool) (x : A) (xs : List A) → r x ≡ (q x && p x) → filter p (filter q xs) ≡ filter r xs → filter p (filter q (x ∷ xs)) ≡ filter r (x ∷ xs)
both-step p q r x xs h before = grind (arith, rules)

filter-both : {A : Type 0} (p q r : A → Bool) (xs : List A) → ((x : A) → r x ≡ (q x && p x)) → filter p (filter q xs) ≡ filter r xs
filter-both p q r [] h = refl
filter-both p q r (x ∷ xs) h = both-step p q r x xs (h x) (filter-both p q r xs h)

in-more : (order : List SortKey) (k : SortKey) (i : ℕ) → is_in (order ++ k ∷ []) i ≡ (is_in order i || (k.item == i))
in-more order k i = list_any-append (λ j. j.item == i) order (k ∷ []) ∙ ap (λ b. is_in order i || b) (or-false (k.item == i))

neither : (a b : Bool) → not (a || b) ≡ (not b && not a)
neither true true = refl
neither true false = refl
neither false true = refl
neither false false = refl

same_at : (order : List SortKey) (k : ℕ) (i : ℕ) → (k == i) ≡ true → is_in order k ≡ true → is_in order i ≡ true
same_at order k i e h = let same : k ≡ i = grind (arith, nat_tests) in subst (λ j. is_in order j ≡ true) same h

absorbed : (in_order same : Bool) → (same ≡ true → in_order ≡ true) → not in_order ≡ (not same && not in_order)
absorbed true true h = refl
absorbed true false h = refl
absorbed false true h = let bad = h refl in cc bad
absorbed false false h = refl

-- a key that is there already
pub kept : (order : List SortKey) (k : SortKey) (ks : List SortKey) → is_in order k.item ≡ true → with_rest order (k ∷ ks) ≡ with_rest order ks
unfolding without_repeats
kept order k ks h =
    let passes : SortKey → Bool = λ l. not (is_in order l.item) in
    let others : SortKey → Bool = λ l. not (k.item == l.item) in
    let front : filter passes (k ∷ filter others (without_repeats ks)) ≡ filter passes (filter others (without_repeats ks)) = grind (arith, rules) in
    let rest : filter passes (filter others (without_repeats ks)) ≡ filter passes (without_repeats ks) =
    filter-both passes others passes (without_repeats ks) (λ l. absorbed (is_in order l.item) (k.item == l.item) (λ e. same_at order k.item l.item e h)) in
    ap (λ xs. order ++ xs) (front ∙ rest)

-- a key that isn't there
pub added : (order : List SortKey) (k : SortKey) (ks : List SortKey) → is_in order k.item ≡ false → with_rest order (k ∷ ks) ≡ with_rest (order ++ k ∷ []) ks
unfolding without_repeats
added order k ks h =
    let passes : SortKey → Bool = λ l. not (is_in order l.item) in
    let others : SortKey → Bool = λ l. not (k.item == l.item) in
    let more : SortKey → Bool = λ l. not (is_in (order ++ k ∷ []) l.item) in
    let front : filter passes (k ∷ filter others (without_repeats ks)) ≡ k ∷ filter passes (filter others (without_repeats ks)) = grind (arith, rules) in
    let rest : filter passes (filter others (without_repeats ks)) ≡ filter more (without_repeats ks) =
    filter-both passes others more (without_repeats ks) (λ l. ap not (in-more order k l.item) ∙ neither (is_in order l.item) (k.item == l.item)) in
    ap (λ xs. order ++ xs) (front ∙ ap (λ xs. k ∷ xs) rest) ∙ simp append_assoc

-- ---- one key after the other

abbrev pub finished : List SortKey → Result (List SortKey) BindRefusal → Result (List SortKey) BindRefusal
finished order read = read >>= λ ks. Ok (with_rest order ks)

all_pass : (ks : List SortKey) → filter (λ l. not (is_in [] l.item)) ks ≡ ks
all_pass [] = refl
all_pass (k ∷ ks) = ap (λ xs. k ∷ xs) (all_pass ks)

pub keys_begin : (read : Result (List SortKey) BindRefusal) → finished [] read ≡ (read >>= λ bound. Ok (without_repeats bound))
keys_begin (Ok ks) = ap Ok (all_pass (without_repeats ks))
keys_begin (Err e) = refl

finished-kept : (order : List SortKey) (k : SortKey) (read : Result (List SortKey) BindRefusal) → is_in order k.item ≡ true → finished order (read >>= λ ks. Ok (k ∷ ks)) ≡ finished order read
finished-kept order k (Ok ks) h = ap Ok (kept order k ks h)
finished-kept order k (Err e) h = refl

finished-added : (order : List SortKey) (k : SortKey) (read : Result (List SortKey) BindRefusal) → is_in order k.item ≡ false → finished order (read >>= λ ks. Ok (k ∷ ks)) ≡ finished (order ++ k ∷ []) read
finished-added order k (Ok ks) h = ap Ok (added order k ks h)
finished-added order k (Err e) h = refl

pub keys_keep : {A : Type 0} (f : A → Result SortKey BindRefusal) (order : List SortKey) (xs : List A) (i : ℕ) (x : A) (k : SortKey) (total : Result (List SortKey) BindRefusal)
    → i < length xs → x ≡ get_or xs i x → f x ≡ Ok k → is_in order k.item ≡ true → finished order (each f (drop i xs)) ≡ total → finished order (each f (drop (i + 1) xs)) ≡ total
unfolding each
keys_keep f order xs i x k total lt at h there so_far =
    let one : finished order (each f (drop i xs)) ≡ finished order (each f (drop (i + 1) xs)) = rw (drop_next xs i x lt at, h) (finished-kept order k (each f (drop (i + 1) xs)) there) in
    sym one ∙ so_far

pub keys_add : {A : Type 0} (f : A → Result SortKey BindRefusal) (order : List SortKey) (xs : List A) (i : ℕ) (x : A) (k : SortKey) (total : Result (List SortKey) BindRefusal)
    → i < length xs → x ≡ get_or xs i x → f x ≡ Ok k → is_in order k.item ≡ false → finished order (each f (drop i xs)) ≡ total → finished (order ++ k ∷ []) (each f (drop (i + 1) xs)) ≡ total
unfolding each
keys_add f order xs i x k total lt at h there so_far =
    let one : finished order (each f (drop i xs)) ≡ finished (order ++ k ∷ []) (each f (drop (i + 1) xs)) = rw (drop_next xs i x lt at, h) (finished-added order k (each f (drop (i + 1) xs)) there) in
    sym one ∙ so_far

pub keys_end : {A : Type 0} (f : A → Result SortKey BindRefusal) (e : Fault BindRefusal) (order : List SortKey) (xs : List A) (i : ℕ) (x : A) (total : Result (List SortKey) BindRefusal)
    → i < length xs → x ≡ get_or xs i x → Fails e (f x) → finished order (each f (drop i xs)) ≡ total → Fails e total
unfolding each
keys_end f fault.Memory order xs i x total lt at h so_far = tt
keys_end f (fault.Refused e) order xs i x total lt at h so_far =
    let one : finished order (each f (drop i xs)) ≡ Err e = rw (drop_next xs i x lt at, h) refl in
    sym so_far ∙ one

pub keys_done : {A : Type 0} (f : A → Result SortKey BindRefusal) (order : List SortKey) (xs : List A) (i : ℕ) (total : Result (List SortKey) BindRefusal)
    → length xs ≤ i → finished order (each f (drop i xs)) ≡ total → total ≡ Ok order
unfolding each without_repeats
keys_done f order xs i total le so_far =
    let one : finished order (each f (drop i xs)) ≡ Ok order = rw (drop_all i xs le) (ap Ok (append-nil order)) in
    sym so_far ∙ one

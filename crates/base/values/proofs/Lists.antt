-- Lists: the item that a loop has come to, what holds of each item, and filters.
use Rattle.std.proofs.Common.{◌≡◌, refl, sym, ap, ◌∙◌, subst, ℕ, zero, suc, ◌+◌, ◌<◌, Bool, true, false, if◌then◌else◌, List, [], ◌∷◌, ◌++◌, length, get_or, take, drop, map, flat_map, filter, Some, append-nil, arith}
use Rattle.std.specs.List.{AllByRecursion, list_all, slice_get}
use Rattle.std.proofs.lemmas.Bool.{and_parts}
use Rattle.std.proofs.lemmas.List.{drop_more, map_more, take_more}
use Rattle.std.proofs.lemmas.List.Concat.{flat_map-append}
use Rattle.std.proofs.lemmas.List.Elements.{filter-append}

-- ---- the item that a loop has come to

pub take_next : {X : Type 0} (xs : List X) (i : ℕ) (x : X) → i < length xs → x ≡ get_or xs i x → take (i + 1) xs ≡ take i xs ++ x ∷ []
take_next xs i x below is = take_more xs i x below ∙ ap (λ y. take i xs ++ y ∷ []) (sym is)

pub drop_next : {X : Type 0} (xs : List X) (i : ℕ) (x : X) → i < length xs → x ≡ get_or xs i x → drop i xs ≡ x ∷ drop (i + 1) xs
drop_next xs i x below is = drop_more xs i x below ∙ ap (λ y. y ∷ drop (i + 1) xs) (sym is)

pub map_next : {X Y : Type 0} (f : X → Y) (xs : List X) (i : ℕ) (x : X) → i < length xs → x ≡ get_or xs i x → map f (take (i + 1) xs) ≡ map f (take i xs) ++ f x ∷ []
map_next f xs i x below is = map_more f xs i x below ∙ ap (λ y. map f (take i xs) ++ f y ∷ []) (sym is)

pub flat_map_next : {X Y : Type 0} (f : X → List Y) (xs : List X) (i : ℕ) (x : X) → i < length xs → x ≡ get_or xs i x → flat_map f (take (i + 1) xs) ≡ flat_map f (take i xs) ++ f x
flat_map_next f xs i x below is =
    ap (flat_map f) (take_next xs i x below is) ∙ flat_map-append f (take i xs) (x ∷ []) ∙ ap (λ ys. flat_map f (take i xs) ++ ys) (append-nil (f x))

-- the item behind others
pub slice_get_behind : {X : Type 0} (front : List X) (x : X) (more : List X) → slice_get (front ++ x ∷ more) (length front) ≡ Some x
slice_get_behind [] x more = refl
slice_get_behind (y ∷ front) x more = slice_get_behind front x more

-- ---- what holds of each item

pub all_weaker : {X : Type 0} (P Q : X → Type 0) → ((x : X) → P x → Q x) → (xs : List X) → AllByRecursion P xs → AllByRecursion Q xs
all_weaker P Q h [] all = tt
all_weaker P Q h (x ∷ xs) all = (h x all.0, all_weaker P Q h xs all.1)

pub all_append : {X : Type 0} (P : X → Type 0) (xs ys : List X) → AllByRecursion P xs → AllByRecursion P ys → AllByRecursion P (xs ++ ys)
all_append P [] ys left right = right
all_append P (x ∷ xs) ys left right = (left.0, all_append P xs ys left.1 right)

pub all_at : {X : Type 0} (P : X → Type 0) (xs : List X) (i : ℕ) (d : X) → i < length xs → AllByRecursion P xs → P (get_or xs i d)
all_at P [] i d below all = absurd (omega (arith, below))
all_at P (x ∷ xs) zero d below all = all.0
all_at P (x ∷ xs) (suc i) d below all = all_at P xs i d (omega (arith, below)) all.1

-- a test that passes each item, and what it shows of an item
pub all_passed : {X : Type 0} (p : X → Bool) (P : X → Type 0) → ((x : X) → p x ≡ true → P x) → (xs : List X) → list_all p xs ≡ true → AllByRecursion P xs
all_passed p P h [] all = tt
all_passed p P h (x ∷ xs) all = let parts = and_parts (p x) (list_all p xs) all in (h x parts.0, all_passed p P h xs parts.1)

pub passes_at : {X : Type 0} (p : X → Bool) (xs : List X) (i : ℕ) (x : X) → list_all p xs ≡ true → slice_get xs i ≡ Some x → p x ≡ true
passes_at p [] i x all at = cc
passes_at p (y ∷ xs) zero x all at = let is : y ≡ x = cc in subst (λ z. p z ≡ true) is (and_parts _ _ all).0
passes_at p (y ∷ xs) (suc i) x all at = passes_at p xs i x (and_parts _ _ all).1 at

-- ---- filters

pub filter_all : {X : Type 0} (xs : List X) → filter (λ x. true) xs ≡ xs
filter_all [] = refl
filter_all (x ∷ xs) = ap (λ ys. x ∷ ys) (filter_all xs)

pub filter-map : {X Y : Type 0} (p : Y → Bool) (f : X → Y) (xs : List X) → filter p (map f xs) ≡ map f (filter (λ x. p (f x)) xs)
filter-map p f [] = refl
filter-map p f (x ∷ xs) = rw (filter-map p f xs) (by (p (f x)))
  where
    by : (b : Bool) → (if b then f x ∷ map f (filter (λ z. p (f z)) xs) else map f (filter (λ z. p (f z)) xs)) ≡ map f (if b then x ∷ filter (λ z. p (f z)) xs else filter (λ z. p (f z)) xs)
    by true = refl
    by false = refl

-- one more item, which is kept or left out
pub filter_kept : {X : Type 0} (p : X → Bool) (xs : List X) (x : X) → p x ≡ true → filter p (xs ++ x ∷ []) ≡ filter p xs ++ x ∷ []
filter_kept p xs x passes = filter-append p xs (x ∷ []) ∙ ap (λ b. filter p xs ++ (if b then x ∷ [] else [])) passes

pub filter_left : {X : Type 0} (p : X → Bool) (xs : List X) (x : X) → p x ≡ false → filter p (xs ++ x ∷ []) ≡ filter p xs
filter_left p xs x fails = filter-append p xs (x ∷ []) ∙ ap (λ b. filter p xs ++ (if b then x ∷ [] else [])) fails ∙ append-nil (filter p xs)

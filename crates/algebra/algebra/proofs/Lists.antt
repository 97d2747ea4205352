-- Lists under maps.
use Rattle.std.proofs.Common.{◌≡◌, refl, ap, sym, ◌∙◌, Bool, true, false, not, ◌&&◌, ◌||◌, if◌then◌else◌, List, [], ◌∷◌, map, filter, flat_map, ℕ, ◌+◌, ◌<◌, length, get_or, fold, take}
use Rattle.std.specs.List.{AllByRecursion, list_all, list_any}
use Rattle.std.proofs.lemmas.List.{map-append}
use Rattle.std.proofs.lemmas.List.Sums.{fold-append}
use Rattle.values.proofs.Each.{all_filter}
use Rattle.values.proofs.Lists.{filter-map, map_next}

pub two : {X Y Z : Type 0} (f : X → Y → Z) {a b : X} {c d : Y} → a ≡ b → c ≡ d → f a c ≡ f b d
two f e h = rw (e, h) refl

pub cons-same : {X : Type 0} {x y : X} {xs ys : List X} → x ≡ y → xs ≡ ys → x ∷ xs ≡ y ∷ ys
cons-same e f = rw (e, f) refl

pub map-same : {X Y : Type 0} (P : X → Type 0) (f g : X → Y) (xs : List X) → ((x : X) → P x → f x ≡ g x) → AllByRecursion P xs → map f xs ≡ map g xs
map-same P f g [] same all = refl
map-same P f g (x ∷ xs) same all = two (λ y ys. y ∷ ys) (same x all.0) (map-same P f g xs same all.1)

-- a filter passes through a map
pub through : {X Y : Type 0} (P : X → Type 0) (g : X → Y) (p : Y → Bool) (q : X → Bool) (xs : List X) → ((x : X) → P x → p (g x) ≡ q x) → AllByRecursion P xs → filter p (map g xs) ≡ map g (filter q xs)
through P g p q [] same all = refl
through P g p q (x ∷ xs) same all = rw (same x all.0, through P g p q xs same all.1) (by (q x))
  where
    by : (b : Bool) → (if b then g x ∷ map g (filter q xs) else map g (filter q xs)) ≡ map g (if b then x ∷ filter q xs else filter q xs)
    by true = refl
    by false = refl

-- nested loops pass through a map
pub loops : {X Y Z W : Type 0} (P : X → Type 0) (F : Y → List W) (g : X → Y) (G : Z → W) (H : X → List Z) (xs : List X)
    → ((x : X) → P x → F (g x) ≡ map G (H x)) → AllByRecursion P xs → flat_map F (map g xs) ≡ map G (flat_map H xs)
loops P F g G H [] same all = refl
loops P F g G H (x ∷ xs) same all = rw (same x all.0, loops P F g G H xs same all.1) (sym (map-append G (H x) (flat_map H xs)))

pub all-map : {X Y : Type 0} (P : X → Type 0) (Q : Y → Type 0) (g : X → Y) (xs : List X) → ((x : X) → P x → Q (g x)) → AllByRecursion P xs → AllByRecursion Q (map g xs)
all-map P Q g [] h all = tt
all-map P Q g (x ∷ xs) h all = (h x all.0, all-map P Q g xs h all.1)

pub all-each : {X : Type 0} (P : X → Type 0) → ((x : X) → P x) → (xs : List X) → AllByRecursion P xs
all-each P h [] = tt
all-each P h (x ∷ xs) = (h x, all-each P h xs)

-- a list of which each fails is empty
pub none-pass : {X : Type 0} (xs : List X) → list_all (λ x. false) xs ≡ true → xs ≡ []
none-pass [] all = refl
none-pass (x ∷ xs) all = cc all

-- one passes where not all fail
pub any_not : {X : Type 0} (p : X → Bool) (xs : List X) → list_any p xs ≡ not (list_all (λ x. not (p x)) xs)
any_not p [] = refl
any_not p (x ∷ xs) = ap (λ b. p x || b) (any_not p xs) ∙ at (p x) (list_all (λ x. not (p x)) xs)
  where
    at : (a b : Bool) → (a || not b) ≡ not (not a && b)
    at true b = refl
    at false b = refl

pub all-map-same : {X Y : Type 0} (f : X → Y) (p : Y → Bool) (q : X → Bool) (xs : List X) → ((x : X) → p (f x) ≡ q x) → list_all p (map f xs) ≡ list_all q xs
all-map-same f p q [] same = refl
all-map-same f p q (x ∷ xs) same = rw (same x, all-map-same f p q xs same) refl

-- ---- one of each

-- one of each by a test, as first seen
abbrev pub distinct_by : {X : Type 0} → (X → X → Bool) → List X → List X
distinct_by same [] = []
distinct_by same (x ∷ xs) = x ∷ filter (λ y. not (same x y)) (distinct_by same xs)

filter-same : {X : Type 0} (P : X → Type 0) (p q : X → Bool) (xs : List X) → ((x : X) → P x → p x ≡ q x) → AllByRecursion P xs → filter p xs ≡ filter q xs
filter-same P p q [] same all = refl
filter-same P p q (x ∷ xs) same all = rw (same x all.0, filter-same P p q xs same all.1) refl

pub all-distinct : {X : Type 0} (P : X → Type 0) (same : X → X → Bool) (xs : List X) → AllByRecursion P xs → AllByRecursion P (distinct_by same xs)
all-distinct P same [] all = tt
all-distinct P same (x ∷ xs) all = (all.0, all_filter P (λ y. not (same x y)) (distinct_by same xs) (all-distinct P same xs all.1))

pub distinct-map : {X Y : Type 0} (g : X → Y) (same : Y → Y → Bool) (xs : List X) → distinct_by same (map g xs) ≡ map g (distinct_by (λ x y. same (g x) (g y)) xs)
distinct-map g same [] = refl
distinct-map g same (x ∷ xs) =
    ap (λ ys. g x ∷ filter (λ y. not (same (g x) y)) ys) (distinct-map g same xs) ∙ ap (λ ys. g x ∷ ys) (filter-map (λ y. not (same (g x) y)) g (distinct_by (λ x y. same (g x) (g y)) xs))

pub distinct-same : {X : Type 0} (P : X → Type 0) (same other : X → X → Bool) (xs : List X) → ((x y : X) → P x → P y → same x y ≡ other x y) → AllByRecursion P xs → distinct_by same xs ≡ distinct_by other xs
distinct-same P same other [] h all = refl
distinct-same P same other (x ∷ xs) h all =
    ap (λ ys. x ∷ filter (λ y. not (same x y)) ys) (distinct-same P same other xs h all.1)
    ∙ ap (λ ys. x ∷ ys) (filter-same P (λ y. not (same x y)) (λ y. not (other x y)) (distinct_by other xs) (λ y k. ap not (h x y all.0 k)) (all-distinct P other xs all.1))

-- a fold that takes one more element
pub fold-next : {X Y Z : Type 0} (f : Z → Y → Z) (a : Z) (g : X → Y) (xs : List X) (i : ℕ) (x : X) → i < length xs → x ≡ get_or xs i x
    → fold f a (map g (take (i + 1) xs)) ≡ f (fold f a (map g (take i xs))) (g x)
fold-next f a g xs i x below is = ap (fold f a) (map_next g xs i x below is) ∙ fold-append f a (map g (take i xs)) (g x ∷ [])

-- Lists in order, and that a stable sort is the only one: a list that is sorted and stable is what `sorted` gives.
use Rattle.std.proofs.Common.{◌⊎◌, inl, inr, ◌≡◌, refl, ap, sym, ◌∙◌, suc, ◌+◌, Bool, true, false, not, ◌&&◌, cond, if◌then◌else◌, List, [], ◌∷◌, map, filter, arith}
use Rattle.std.specs.declared.cmp.Ordering.{Ordering}
use Rattle.std.specs.declared.cmp.Ordering.TheVariants.{Less, Equal, Greater}
use Rattle.std.specs.Ordering.{is_lt, is_gt, is_eq, ordering_reverse}
use Rattle.std.specs.Cmp.{IsTotalOrder}
use Rattle.std.specs.List.{AllByRecursion}
use Rattle.std.specs.List.Sorted.{IsSortedBy, IsStableBy, ties}
use Rattle.std.proofs.lemmas.Cmp.{upto, tied_itself, alike_right}
use Rattle.values.proofs.Lists.{all_weaker}
use Rattle.values.proofs.Orders.{is_gt-reverse, not_gt-reverse, is_eq-equal}
use Rattle.physical.specs.Sorts.{put_sorted, sorted}

-- ---- lists in order

-- the element goes after none of the list
abbrev pub Precedes : {X : Type 0} → (X → X → Ordering) → X → List X → Type 0
Precedes cmp x ys = AllByRecursion (λ y. is_gt (cmp x y) ≡ false) ys

-- each element goes after none that stands behind it
abbrev pub Ascends : {X : Type 0} → (X → X → Ordering) → List X → Type 0
Ascends cmp [] = Unit {0}
Ascends cmp (x ∷ xs) = Precedes cmp x xs × Ascends cmp xs

-- ---- a sort commutes with a map of the elements

map-choice : {X Y : Type 0} (f : X → Y) (b : Bool) (xs ys : List X) → map f (if b then xs else ys) ≡ (if b then map f xs else map f ys)
map-choice f true xs ys = refl
map-choice f false xs ys = refl

map-put_sorted : {X Y : Type 0} (f : X → Y) (cmp : Y → Y → Ordering) (x : X) (ys : List X) → map f (put_sorted (λ a b. cmp (f a) (f b)) x ys) ≡ put_sorted cmp (f x) (map f ys)
map-put_sorted f cmp x [] = refl
map-put_sorted f cmp x (y ∷ ys) =
    map-choice f (is_gt (cmp (f x) (f y))) _ _
    ∙ ap (λ l. if is_gt (cmp (f x) (f y)) then f y ∷ l else f x ∷ f y ∷ map f ys) (map-put_sorted f cmp x ys)

pub map-sorted : {X Y : Type 0} (f : X → Y) (cmp : Y → Y → Ordering) (xs : List X) → map f (sorted (λ a b. cmp (f a) (f b)) xs) ≡ sorted cmp (map f xs)
map-sorted f cmp [] = refl
map-sorted f cmp (x ∷ xs) = map-put_sorted f cmp x (sorted (λ a b. cmp (f a) (f b)) xs) ∙ ap (put_sorted cmp (f x)) (map-sorted f cmp xs)

-- ---- a sort gives order, and leaves those that tie as they stood

module _ {X : Type 0} (cmp : X → X → Ordering) (total : IsTotalOrder cmp) where
  abbrev lt : X → X → Bool
  lt a b = is_lt (cmp a b)

  gt-back : (x y : X) → is_gt (cmp x y) ≡ true → is_gt (cmp y x) ≡ false
  gt-back x y h = ap is_gt (total.antisymm y x) ∙ not_gt-reverse (cmp x y) h

  -- what goes after none of a list's front goes after none of the list
  precedes-along : (x y : X) (ys : List X) → is_gt (cmp x y) ≡ false → Precedes cmp y ys → Precedes cmp x ys
  precedes-along x y ys h all = all_weaker _ _ (λ z k. upto total x y z h k) ys all

  all-put_sorted : (P : X → Type 0) (x : X) (ys : List X) → P x → AllByRecursion P ys → AllByRecursion P (put_sorted cmp x ys)
  all-put_sorted P x [] here all = (here, tt)
  all-put_sorted P x (y ∷ ys) here all = by (is_gt (cmp x y)) (all-put_sorted P x ys here all.1)
    where
      by : (b : Bool) → AllByRecursion P (put_sorted cmp x ys) → AllByRecursion P (if b then y ∷ put_sorted cmp x ys else x ∷ y ∷ ys)
      by true later = (all.0, later)
      by false later = (here, all)

  ascends-put_sorted : (x : X) (ys : List X) → Ascends cmp ys → Ascends cmp (put_sorted cmp x ys)
  ascends-put_sorted x [] up = (tt, tt)
  ascends-put_sorted x (y ∷ ys) up = by (is_gt (cmp x y)) refl (ascends-put_sorted x ys up.1)
    where
      by : (b : Bool) → is_gt (cmp x y) ≡ b → Ascends cmp (put_sorted cmp x ys) → Ascends cmp (if b then y ∷ put_sorted cmp x ys else x ∷ y ∷ ys)
      by true is later = (all-put_sorted (λ z. is_gt (cmp y z) ≡ false) x ys (gt-back x y is) up.0, later)
      by false is later = ((is, precedes-along x y ys is up.0), up)

  pub ascends-sorted : (xs : List X) → Ascends cmp (sorted cmp xs)
  ascends-sorted [] = tt
  ascends-sorted (x ∷ xs) = ascends-put_sorted x (sorted cmp xs) (ascends-sorted xs)

  -- two elements tie where they are equal in the order
  ties-eq : (a b : X) → ties lt a b ≡ is_eq (cmp a b)
  ties-eq a b = ap (λ o. not (is_lt (cmp a b)) && not (is_lt o)) (total.antisymm b a) ∙ by (cmp a b)
    where
      by : (o : Ordering) → (not (is_lt o) && not (is_lt (ordering_reverse o))) ≡ is_eq o
      by Less = refl
      by Equal = refl
      by Greater = refl

  ties-itself : (x : X) → ties lt x x ≡ true
  ties-itself x = ties-eq x x ∙ ap is_eq (tied_itself total x)

  -- of two elements that differ in the order one ties with an element at most
  ties-one : (t x y : X) → is_gt (cmp x y) ≡ true → ties lt t x ≡ true → ties lt t y ≡ false
  ties-one t x y gt tie =
      ties-eq t y ∙ ap is_eq (total.congr t x y (is_eq-equal (cmp t x) (sym (ties-eq t x) ∙ tie))) ∙ gt-eq (cmp x y) gt
    where
      gt-eq : (o : Ordering) → is_gt o ≡ true → is_eq o ≡ false
      gt-eq Less h = cc
      gt-eq Equal h = cc
      gt-eq Greater h = refl

  filter-swap : (p : X → Bool) (x y : X) (ys : List X) → (p x ≡ true → p y ≡ false) → filter p (y ∷ x ∷ ys) ≡ filter p (x ∷ y ∷ ys)
  filter-swap p x y ys h = by (p x) (p y) h
    where
      by : (a b : Bool) → (a ≡ true → b ≡ false)
          → cond b (y ∷ cond a (x ∷ filter p ys) (filter p ys)) (cond a (x ∷ filter p ys) (filter p ys)) ≡ cond a (x ∷ cond b (y ∷ filter p ys) (filter p ys)) (cond b (y ∷ filter p ys) (filter p ys))
      by true true h = cc (h refl)
      by true false h = refl
      by false b h = refl

  filter-put_sorted : (t x : X) (ys : List X) → filter (ties lt t) (put_sorted cmp x ys) ≡ filter (ties lt t) (x ∷ ys)
  filter-put_sorted t x [] = refl
  filter-put_sorted t x (y ∷ ys) = by (is_gt (cmp x y)) refl (filter-put_sorted t x ys)
    where
      by : (b : Bool) → is_gt (cmp x y) ≡ b → filter (ties lt t) (put_sorted cmp x ys) ≡ filter (ties lt t) (x ∷ ys)
          → filter (ties lt t) (if b then y ∷ put_sorted cmp x ys else x ∷ y ∷ ys) ≡ filter (ties lt t) (x ∷ y ∷ ys)
      by true is later = ap (λ l. cond (ties lt t y) (y ∷ l) l) later ∙ filter-swap (ties lt t) x y ys (ties-one t x y is)
      by false is later = refl

  pub stable-sorted : (xs : List X) → IsStableBy lt xs (sorted cmp xs)
  stable-sorted [] t = refl
  stable-sorted (x ∷ xs) t = filter-put_sorted t x (sorted cmp xs) ∙ ap (λ l. cond (ties lt t x) (x ∷ l) l) (stable-sorted xs t)

  -- ---- no other list is in order and stable

  -- nothing ties with what goes before all
  no-ties : (t : X) (ys : List X) → AllByRecursion (λ y. cmp t y ≡ Less) ys → filter (ties lt t) ys ≡ []
  no-ties t [] all = refl
  no-ties t (y ∷ ys) all = let off : ties lt t y ≡ false = ties-eq t y ∙ ap is_eq all.0 in rw off (no-ties t ys all.1)

  less-along : (o : Ordering) → is_gt o ≡ false → (o ≡ Less) ⊎ (o ≡ Equal)
  less-along Less h = inl refl
  less-along Equal h = inr refl
  less-along Greater h = cc

  less-upto : (t z y : X) → cmp t z ≡ Less → is_gt (cmp z y) ≡ false → cmp t y ≡ Less
  less-upto t z y h k = elim (less-along (cmp z y) k) [
    | inl l ↦ total.trans t z y h l
    | inr e ↦ sym (alike_right total z y t e) ∙ h
  ]

  -- the front of the one list goes before the front of the other: then it ties with nothing there
  front-missed : (y z : X) (ys zs : List X) → cmp y z ≡ Less → Precedes cmp z zs → filter (ties lt y) (y ∷ ys) ≡ filter (ties lt y) (z ∷ zs) → ⊥
  front-missed y z ys zs less low same =
      let none : filter (ties lt y) (z ∷ zs) ≡ [] = no-ties y (z ∷ zs) (less, all_weaker _ _ (λ w k. less-upto y z w less k) zs low) in
      let front : filter (ties lt y) (y ∷ ys) ≡ y ∷ filter (ties lt y) ys = ap (λ b. cond b (y ∷ filter (ties lt y) ys) (filter (ties lt y) ys)) (ties-itself y) in
      cc

  cancel : (b : Bool) (x : X) (ys zs : List X) → cond b (x ∷ ys) ys ≡ cond b (x ∷ zs) zs → ys ≡ zs
  cancel true x ys zs h = cc
  cancel false x ys zs h = h

  pub ascends-unique : (ys zs : List X) → Ascends cmp ys → Ascends cmp zs → ((t : X) → filter (ties lt t) ys ≡ filter (ties lt t) zs) → ys ≡ zs
  ascends-unique [] [] up vp same = refl
  ascends-unique [] (z ∷ zs) up vp same = absurd (let e : [] ≡ cond (ties lt z z) (z ∷ filter (ties lt z) zs) (filter (ties lt z) zs) = same z in let f : [] ≡ z ∷ filter (ties lt z) zs = rw (ties-itself z) at e in cc)
  ascends-unique (y ∷ ys) [] up vp same = absurd (let e : cond (ties lt y y) (y ∷ filter (ties lt y) ys) (filter (ties lt y) ys) ≡ [] = same y in let f : y ∷ filter (ties lt y) ys ≡ [] = rw (ties-itself y) at e in cc)
  ascends-unique (y ∷ ys) (z ∷ zs) up vp same = by (cmp y z) refl (ascends-unique ys zs up.1 vp.1)
    where
      fronts : cmp y z ≡ Equal → y ≡ z
      fronts tie =
          let one : filter (ties lt y) (y ∷ ys) ≡ y ∷ filter (ties lt y) ys = ap (λ b. cond b (y ∷ filter (ties lt y) ys) (filter (ties lt y) ys)) (ties-itself y) in
          let two : filter (ties lt y) (z ∷ zs) ≡ z ∷ filter (ties lt y) zs = ap (λ b. cond b (z ∷ filter (ties lt y) zs) (filter (ties lt y) zs)) (ties-eq y z ∙ ap is_eq tie) in
          let both : y ∷ filter (ties lt y) ys ≡ z ∷ filter (ties lt y) zs = sym one ∙ same y ∙ two in
          cc

      by : (o : Ordering) → cmp y z ≡ o → (((t : X) → filter (ties lt t) ys ≡ filter (ties lt t) zs) → ys ≡ zs) → y ∷ ys ≡ z ∷ zs
      by Less is later = absurd (front-missed y z ys zs is vp.0 (same y))
      by Equal is later =
          let e : y ≡ z = fronts is in
          let rest : ys ≡ zs = later (λ t. cancel (ties lt t z) z _ _ (sym (ap (λ w. cond (ties lt t w) (w ∷ filter (ties lt t) ys) (filter (ties lt t) ys)) e) ∙ same t)) in
          cc
      by Greater is later = absurd (front-missed z y zs ys (total.antisymm z y ∙ ap ordering_reverse is) up.0 (sym (same z)))

  -- ---- what a stable sort of std ensures

  pub ascends-from_sorted : (ys : List X) → IsSortedBy lt ys → Ascends cmp ys
  ascends-from_sorted [] up = tt
  ascends-from_sorted (a ∷ []) up = (tt, tt)
  ascends-from_sorted (a ∷ b ∷ ys) up =
      let rest : Ascends cmp (b ∷ ys) = ascends-from_sorted (b ∷ ys) later in
      ((first, precedes-along a b ys first rest.0), rest)
    where
      first : is_gt (cmp a b) ≡ false
      first = ap is_gt (total.antisymm a b) ∙ is_gt-reverse (cmp b a) ∙ up 0 a (omega arith) (omega arith)

      later : IsSortedBy lt (b ∷ ys)
      later k d low high = let e : suc k + 1 ≡ suc (k + 1) = omega arith in let h = up (suc k) d (omega arith) (omega arith) in rw e at h

  -- a sorted and stable list is the sorted list
  pub sorted-unique : (xs ys : List X) → IsSortedBy lt ys → IsStableBy lt xs ys → ys ≡ sorted cmp xs
  sorted-unique xs ys up stable = ascends-unique ys (sorted cmp xs) (ascends-from_sorted ys up) (ascends-sorted xs) (λ t. stable t ∙ sym (stable-sorted xs t))

-- Lists item by item.
use Rattle.std.proofs.Common.{◌≡◌, ℕ, zero, suc, ◌+◌, ◌<◌, List, [], ◌∷◌, ◌++◌, length, map, Option, Some, slice_get, get_or, refl, sym, ap, ◌∙◌, arith, subst, set, ◌⊎◌, inl, inr, ⊎_elim}
use Rattle.std.proofs.lemmas.Bool.{cases_eq}
use Rattle.std.proofs.lemmas.Option.{slice_get_read}
use Rattle.std.specs.List.{AllZip}

pub some_inj : {A : Type 0} (x y : A) → Some x ≡ Some y → x ≡ y
some_inj x y e = cc

-- what two readings of one thing give is the same
pub same_read : {A : Type 0} (found : Option A) (x y : A) → found ≡ Some x → found ≡ Some y → x ≡ y
same_read found x y e f = some_inj x y (sym e ∙ f)

pub there : {A : Type 0} (xs : List A) (i : ℕ) → i < length xs → (x : A) × (slice_get xs i ≡ Some x)
there [] i lt = absurd (omega (arith, lt))
there (x ∷ xs) zero lt = (x, refl)
there (x ∷ xs) (suc i) lt = there xs i (omega (arith, lt))

pub lt_cases : (k n : ℕ) → k < n + 1 → (k < n) ⊎ (k ≡ n)
lt_cases k n lt = ⊎_elim (λ e. inr e) (λ ne. inl (omega arith)) (cases_eq k n)

module _ {A B : Type 0} (R : A → B → Type 0) where
  pub zip_push : (xs : List A) (ys : List B) (x : A) (y : B) → AllZip R xs ys → R x y → AllZip R (xs ++ x ∷ []) (ys ++ y ∷ [])
  zip_push [] [] x y h r = (r, tt)
  zip_push [] (b ∷ ys) x y h r = absurd h
  zip_push (a ∷ xs) [] x y h r = absurd h
  zip_push (a ∷ xs) (b ∷ ys) x y h r = (h.0, zip_push xs ys x y h.1 r)

  -- what one list has at a place is tied to something
  pub zip_at : (xs : List A) (ys : List B) (i : ℕ) (x : A) → AllZip R xs ys → slice_get xs i ≡ Some x → (y : B) × R x y
  zip_at [] [] i x h e = absurd (cc)
  zip_at [] (b ∷ ys) i x h e = absurd h
  zip_at (a ∷ xs) [] i x h e = absurd h
  zip_at (a ∷ xs) (b ∷ ys) zero x h e = let same : a ≡ x = cc in (b, subst (λ v. R v b) same h.0)
  zip_at (a ∷ xs) (b ∷ ys) (suc i) x h e = zip_at xs ys i x h.1 e

pub zip_weaker : {A B : Type 0} (R S : A → B → Type 0) → ((a : A) (b : B) → R a b → S a b) → (xs : List A) (ys : List B) → AllZip R xs ys → AllZip S xs ys
zip_weaker R S f [] [] h = tt
zip_weaker R S f [] (b ∷ ys) h = absurd h
zip_weaker R S f (a ∷ xs) [] h = absurd h
zip_weaker R S f (a ∷ xs) (b ∷ ys) h = (f a b h.0, zip_weaker R S f xs ys h.1)

-- what is tied to one list is tied to each other
pub zip_join : {A B C : Type 0} (R : A → B → Type 0) (S : A → C → Type 0) (T : B → C → Type 0) → ((a : A) (b : B) (c : C) → R a b → S a c → T b c)
    → (xs : List A) (bs : List B) (cs : List C) → AllZip R xs bs → AllZip S xs cs → AllZip T bs cs
zip_join R S T f [] [] [] h k = tt
zip_join R S T f [] [] (c ∷ cs) h k = absurd k
zip_join R S T f [] (b ∷ bs) cs h k = absurd h
zip_join R S T f (a ∷ xs) [] cs h k = absurd h
zip_join R S T f (a ∷ xs) (b ∷ bs) [] h k = absurd k
zip_join R S T f (a ∷ xs) (b ∷ bs) (c ∷ cs) h k = (f a b c h.0 k.0, zip_join R S T f xs bs cs h.1 k.1)

pub zip_length : {A B : Type 0} (R : A → B → Type 0) (xs : List A) (ys : List B) → AllZip R xs ys → length xs ≡ length ys
zip_length R [] [] h = refl
zip_length R [] (b ∷ ys) h = absurd h
zip_length R (a ∷ xs) [] h = absurd h
zip_length R (a ∷ xs) (b ∷ ys) h = ap suc (zip_length R xs ys h.1)

pub map_push : {A B : Type 0} (f : A → B) (xs : List A) (x : A) → map f (xs ++ x ∷ []) ≡ map f xs ++ f x ∷ []
map_push f [] x = refl
map_push f (a ∷ xs) x = ap (λ v. f a ∷ v) (map_push f xs x)

pub get-append : {A : Type 0} (xs ys : List A) (k : ℕ) (x : A) → slice_get xs k ≡ Some x → slice_get (xs ++ ys) k ≡ Some x
get-append [] ys k x e = absurd (cc)
get-append (a ∷ xs) ys zero x e = e
get-append (a ∷ xs) ys (suc k) x e = get-append xs ys k x e

pub get-last : {A : Type 0} (xs : List A) (x : A) → slice_get (xs ++ x ∷ []) (length xs) ≡ Some x
get-last [] x = refl
get-last (a ∷ xs) x = get-last xs x

-- what stands in a longer list stood before, or is the last
pub get-push : {A : Type 0} (xs : List A) (x y : A) (k : ℕ) → slice_get (xs ++ x ∷ []) k ≡ Some y → (slice_get xs k ≡ Some y) ⊎ ((k ≡ length xs) × (x ≡ y))
get-push [] x y zero e = inr (refl, cc)
get-push [] x y (suc k) e = absurd (cc)
get-push (a ∷ xs) x y zero e = inl e
get-push (a ∷ xs) x y (suc k) e = ⊎_elim (λ h. inl h) (λ h. inr (ap suc h.0, h.1)) (get-push xs x y k e)

pub get-set : {A : Type 0} (xs : List A) (n : ℕ) (v : A) (i : ℕ) → n < length xs → ((i ≡ n) × (slice_get (set xs n v) i ≡ Some v)) ⊎ (slice_get (set xs n v) i ≡ slice_get xs i)
get-set [] n v i lt = inr refl
get-set (x ∷ xs) zero v zero lt = inl (refl, refl)
get-set (x ∷ xs) zero v (suc i) lt = inr refl
get-set (x ∷ xs) (suc n) v zero lt = inr refl
get-set (x ∷ xs) (suc n) v (suc i) lt = ⊎_elim (λ h. inl (ap suc h.0, h.1)) (λ h. inr h) (get-set xs n v i (omega arith))

-- what was read at a place and copied
pub get-copy : {A : Type 0} (xs : List A) (i : ℕ) (read copy : A) → i < length xs → read ≡ get_or xs i read → copy ≡ read → slice_get xs i ≡ Some copy
get-copy xs i read copy lt is same = slice_get_read xs (length xs) i read refl lt is ∙ ap (λ x. Some x) (sym same)

-- Two lists, place by place, while a loop goes along them.
use Rattle.std.proofs.Common.{◌≡◌, refl, ap, subst, ℕ, zero, suc, ◌+◌, ◌<◌, ◌≤◌, List, [], ◌∷◌, ◌++◌, length, get_or, set, arith}
use Rattle.std.specs.List.{AllZip}

module _ {X Y : Type 0} where
  -- one place more
  pub zip-push : (P : X → Y → Type 0) (xs : List X) (ys : List Y) (x : X) (y : Y) → AllZip P xs ys → P x y → AllZip P (xs ++ x ∷ []) (ys ++ y ∷ [])
  zip-push P [] [] x y all here = (here, tt)
  zip-push P [] (b ∷ ys) x y all here = absurd all
  zip-push P (a ∷ xs) [] x y all here = absurd all
  zip-push P (a ∷ xs) (b ∷ ys) x y all here = (all.0, zip-push P xs ys x y all.1 here)

  pub zip-length : (P : X → Y → Type 0) (xs : List X) (ys : List Y) → AllZip P xs ys → length ys ≡ length xs
  zip-length P [] [] all = refl
  zip-length P [] (b ∷ ys) all = absurd all
  zip-length P (a ∷ xs) [] all = absurd all
  zip-length P (a ∷ xs) (b ∷ ys) all = ap suc (zip-length P xs ys all.1)

  pub zip-at : (P : X → Y → Type 0) (xs : List X) (ys : List Y) (i : ℕ) (d : X) (e : Y) → AllZip P xs ys → i < length xs → P (get_or xs i d) (get_or ys i e)
  zip-at P [] [] i d e all below = absurd (omega (arith, below))
  zip-at P [] (b ∷ ys) i d e all below = absurd all
  zip-at P (a ∷ xs) [] i d e all below = absurd all
  zip-at P (a ∷ xs) (b ∷ ys) zero d e all below = all.0
  zip-at P (a ∷ xs) (b ∷ ys) (suc i) d e all below = zip-at P xs ys i d e all.1 (omega (arith, below))

module _ {X Y : Type 0} (P Q : X → Y → Type 0) where
  -- the first places are done, the others still to do
  abbrev pub ZipTo : ℕ → List X → List Y → Type 0
  ZipTo i [] [] = Unit {0}
  ZipTo i [] (y ∷ ys) = ⊥
  ZipTo i (x ∷ xs) [] = ⊥
  ZipTo zero (x ∷ xs) (y ∷ ys) = Q x y × ZipTo zero xs ys
  ZipTo (suc i) (x ∷ xs) (y ∷ ys) = P x y × ZipTo i xs ys

  pub zip-begun : (xs : List X) (ys : List Y) → AllZip Q xs ys → ZipTo zero xs ys
  zip-begun [] [] all = tt
  zip-begun [] (y ∷ ys) all = absurd all
  zip-begun (x ∷ xs) [] all = absurd all
  zip-begun (x ∷ xs) (y ∷ ys) all = (all.0, zip-begun xs ys all.1)

  pub zip-done : (i : ℕ) (xs : List X) (ys : List Y) → length xs ≤ i → ZipTo i xs ys → AllZip P xs ys
  zip-done i [] [] past all = tt
  zip-done i [] (y ∷ ys) past all = absurd all
  zip-done i (x ∷ xs) [] past all = absurd all
  zip-done zero (x ∷ xs) (y ∷ ys) past all = absurd (omega (arith, past))
  zip-done (suc i) (x ∷ xs) (y ∷ ys) past all = (all.0, zip-done i xs ys (omega (arith, past)) all.1)

  pub zip-to-length : (i : ℕ) (xs : List X) (ys : List Y) → ZipTo i xs ys → length ys ≡ length xs
  zip-to-length i [] [] all = refl
  zip-to-length i [] (y ∷ ys) all = absurd all
  zip-to-length i (x ∷ xs) [] all = absurd all
  zip-to-length zero (x ∷ xs) (y ∷ ys) all = ap suc (zip-to-length zero xs ys all.1)
  zip-to-length (suc i) (x ∷ xs) (y ∷ ys) all = ap suc (zip-to-length i xs ys all.1)

  -- the place that comes next
  pub zip-next : (i : ℕ) (xs : List X) (ys : List Y) (d : X) (e : Y) → i < length xs → ZipTo i xs ys → Q (get_or xs i d) (get_or ys i e)
  zip-next i [] [] d e below all = absurd (omega (arith, below))
  zip-next i [] (y ∷ ys) d e below all = absurd all
  zip-next i (x ∷ xs) [] d e below all = absurd all
  zip-next zero (x ∷ xs) (y ∷ ys) d e below all = all.0
  zip-next (suc i) (x ∷ xs) (y ∷ ys) d e below all = zip-next i xs ys d e (omega (arith, below)) all.1

  -- it is done by what is put there
  pub zip-set : (i : ℕ) (xs : List X) (ys : List Y) (d : X) (y : Y) → i < length xs → P (get_or xs i d) y → ZipTo i xs ys → ZipTo (suc i) xs (set ys i y)
  zip-set i [] [] d y below here all = tt
  zip-set i [] (b ∷ ys) d y below here all = absurd all
  zip-set i (x ∷ xs) [] d y below here all = absurd all
  zip-set zero (x ∷ xs) (b ∷ ys) d y below here all = (here, all.1)
  zip-set (suc i) (x ∷ xs) (b ∷ ys) d y below here all = (all.0, zip-set i xs ys d y (omega (arith, below)) here all.1)

  pub zip-set-next : (i : ℕ) (xs : List X) (ys : List Y) (d : X) (y : Y) → i < length xs → P (get_or xs i d) y → ZipTo i xs ys → ZipTo (i + 1) xs (set ys i y)
  zip-set-next i xs ys d y below here all = let next : suc i ≡ i + 1 = omega arith in subst (λ n. ZipTo n xs (set ys i y)) next (zip-set i xs ys d y below here all)

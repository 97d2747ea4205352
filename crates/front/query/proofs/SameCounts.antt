-- Two lists in which each row stands equally often: what is put together of them, whatever the order, is the same.
use Rattle.std.proofs.Common.{inl, inr, ◌≡◌, refl, ◌+◌, ◌<◌, Bool, if◌then◌else◌, min, List, [], ◌∷◌, ◌++◌, map, filter, ap, sym, ◌∙◌, arith}
use Rattle.schema.specs.Databases.{Row}
use Rattle.query.specs.Rows.{same_rows, count, distinct}
use Rattle.query.proofs.Counting.{counted-either, same_rows-refl, counted-first, count-append, count-filter, count-distinct}

abbrev pub SameCounts : List Row → List Row → Type 0
SameCounts L M = (s : Row) → count s L ≡ count s M

-- ---- a fold whose steps may be exchanged

-- the list has the row at some place
split-at : (x : Row) (M : List Row) → 0 < count x M → (A : List Row) × (B : List Row) × (M ≡ A ++ x ∷ B)
split-at x [] h = absurd (omega arith)
split-at x (m ∷ M) h = elim (counted-either x m M h) [
  | inl e ↦ ([], M, ap (λ y. y ∷ M) (sym e))
  | inr c ↦ let found = split-at x M c in (m ∷ found.0, found.1, ap (λ y. m ∷ y) found.2)
]

none-first : (m : Row) (M : List Row) → SameCounts [] (m ∷ M) → ⊥
none-first m M h = let e : 0 ≡ (if same_rows m m then 1 else 0) + count m M = h m in let f : 0 ≡ 1 + count m M = rw (same_rows-refl m) at e in omega arith

first-counted : (x : Row) (L M : List Row) → SameCounts (x ∷ L) M → 0 < count x M
first-counted x L M h = rw (← h x) (counted-first x L)

without : (x : Row) (L M : List Row) → SameCounts (x ∷ L) M → (A B : List Row) → M ≡ A ++ x ∷ B → SameCounts L (A ++ B)
without x L M h A B is s = let e : (if same_rows s x then 1 else 0) + count s L ≡ count s (A ++ x ∷ B) = h s ∙ ap (count s) is in omega (arith, count-append s A (x ∷ B), count-append s A B)

-- a fold: what a list gives is a step from what the list without its first row gives
pub record IsFold {X : Type 0} (F : List Row → X) (step : Row → X → X) : Type 0 where
  pub first : (x : Row) (L : List Row) → F (x ∷ L) ≡ step x (F L)
  pub swap : (a x : Row) (m : X) → step a (step x m) ≡ step x (step a m)

moved : {X : Type 0} (F : List Row → X) (step : Row → X → X) → IsFold F step → (A : List Row) (x : Row) (B : List Row) → F (A ++ x ∷ B) ≡ F (x ∷ (A ++ B))
moved F step is [] x B = refl
moved F step is (a ∷ A) x B =
    is.first a (A ++ x ∷ B) ∙ ap (step a) (moved F step is A x B ∙ is.first x (A ++ B)) ∙ is.swap a x (F (A ++ B)) ∙ ap (step x) (sym (is.first a (A ++ B))) ∙ sym (is.first x (a ∷ (A ++ B)))

pub same-fold : {X : Type 0} (F : List Row → X) (step : Row → X → X) → IsFold F step → (L M : List Row) → SameCounts L M → F L ≡ F M
same-fold F step is [] [] h = refl
same-fold F step is [] (m ∷ M) h = absurd (none-first m M h)
same-fold F step is (x ∷ L) M h =
    let parts = split-at x M (first-counted x L M h) in
    let A : List Row = parts.0 in
    let B : List Row = parts.1 in
    is.first x L ∙ ap (step x) (same-fold F step is L (A ++ B) (without x L M h A B parts.2)) ∙ sym (is.first x (A ++ B)) ∙ sym (moved F step is A x B) ∙ ap F (sym parts.2)

-- ---- lists made of lists

pub same-map : (f : Row → Row) (L M : List Row) → SameCounts L M → SameCounts (map f L) (map f M)
same-map f L M h r = same-fold (λ K. count r (map f K)) (λ x n. (if same_rows r (f x) then 1 else 0) + n) (record { first = λ x K. refl; swap = λ a x n. omega arith }) L M h

pub same-filter : (p : Row → Bool) (L M : List Row) → SameCounts L M → SameCounts (filter p L) (filter p M)
same-filter p L M h r = count-filter p r L ∙ ap (λ n. if p r then n else 0) (h r) ∙ sym (count-filter p r M)

pub same-distinct : (L M : List Row) → SameCounts L M → SameCounts (distinct L) (distinct M)
same-distinct L M h r = count-distinct r L ∙ ap (min 1) (h r) ∙ sym (count-distinct r M)

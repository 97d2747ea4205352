-- The operators keep rows that fit: selections, joins, projections and distinct rows.
use Rattle.std.proofs.Common.{◌≡◌, refl, ap, sym, ◌∙◌, ℕ, ◌==◌, Bool, true, not, ◌||◌, List, [], ◌∷◌, map, filter, flat_map}
use Rattle.std.proofs.lemmas.Bool.{eq-eqb, or_left, or_right}
use mathlib.Core.List.{map-map}
use Rattle.values.proofs.Lists.{filter-map}
use Rattle.values.specs.Order.{same}
use Rattle.query.specs.Meaning.{or_else_row}
use Rattle.algebra.specs.Columns.{ColumnSet, has}
use Rattle.algebra.specs.Bags.{Env, Test, Bag, lay, nulls, same_on, select, matches, has_match, join, left_join, keep, distinct_on, distinct}
use Rattle.laws.specs.Fitting.{SameIn, Fits}
use Rattle.laws.proofs.Overlays.{lay-over, lay-within, lay-both, mapped, kept, some, looped, by_rows}

-- a test agrees on a row over environments that read the same in the free columns
abbrev pub Agrees : ColumnSet → ColumnSet → Test → Type 0
Agrees K F p = (e d : Env) → SameIn F e d → (r : Env) → p (lay K r d) ≡ p (lay K r e)

pub select-fits : (K F : ColumnSet) (p : Test) (x : Bag) → Agrees K F p → Fits K F x → Fits K F (select p x)
select-fits K F p x agrees fits e d on =
    by_rows K F x fits e d on (filter p) (λ L. map (λ r. lay K r d) (filter p L))
    (kept (λ r. lay K r d) (λ r. lay K r e) (λ r. lay K r d) p p (agrees e d on) (λ r. sym (lay-over K r e d)))

-- ---- joins

module _ (A B F : ColumnSet) (p : Test) (a b : Bag) where
  abbrev both : ColumnSet
  both c = A c || B c

  -- a pair of rows that are laid over an environment
  pair : (e s r : Env) → lay B (lay B s e) (lay A r e) ≡ lay both (lay B s r) e
  pair e s r = lay-over B s e (lay A r e) ∙ lay-both A B s r e

  module _ (agrees : Agrees both F p) (left : Fits A F a) (right : Fits B F b) (e d : Env) (on : SameIn F e d) where
    pair-passes : (r s : Env) → p (lay B (lay B s d) (lay A r d)) ≡ p (lay B (lay B s e) (lay A r e))
    pair-passes r s = ap p (pair d s r) ∙ agrees e d on (lay B s r) ∙ ap p (sym (pair e s r))

    -- a left row's pairs
    pairs : (r : Env) → matches p B (b d) (lay A r d) ≡ map (λ t. lay both t d) (matches p B (b e) (lay A r e))
    pairs r =
        by_rows B F b right e d on (λ M. matches p B M (lay A r d)) (λ M. map (λ t. lay both t d) (matches p B M (lay A r e))) (λ M.
        ap (filter p) (map-map (λ s. lay B s (lay A r d)) (λ s. lay B s d) M)
        ∙ kept (λ s. lay B (lay B s d) (lay A r d)) (λ s. lay B (lay B s e) (lay A r e)) (λ t. lay both t d) p p (pair-passes r)
        (λ s. pair d s r ∙ sym (lay-over both (lay B s r) e d) ∙ ap (λ t. lay both t d) (sym (pair e s r))) M
        ∙ ap (λ L. map (λ t. lay both t d) (filter p L)) (sym (map-map (λ s. lay B s (lay A r e)) (λ s. lay B s e) M)))

    pub join-rows : join p B a b d ≡ map (λ t. lay both t d) (join p B a b e)
    join-rows =
        by_rows A F a left e d on (flat_map (matches p B (b d))) (λ L. map (λ t. lay both t d) (flat_map (matches p B (b e)) L))
        (looped (λ r. lay A r d) (λ r. lay A r e) (λ t. lay both t d) (matches p B (b d)) (matches p B (b e)) pairs)

    padded : (r : Env) (L : List Env) → or_else_row (lay B nulls (lay A r d)) (map (λ t. lay both t d) L) ≡ map (λ t. lay both t d) (or_else_row (lay B nulls (lay A r e)) L)
    padded r [] = ap (λ t. t ∷ []) (lay-both A B nulls r d ∙ sym (lay-over both (lay B nulls r) e d) ∙ ap (λ t. lay both t d) (sym (lay-both A B nulls r e)))
    padded r (t ∷ L) = refl

    pub left_join-rows : left_join p B a b d ≡ map (λ t. lay both t d) (left_join p B a b e)
    left_join-rows =
        by_rows A F a left e d on (flat_map (λ r. or_else_row (lay B nulls r) (matches p B (b d) r))) (λ L. map (λ t. lay both t d) (flat_map (λ r. or_else_row (lay B nulls r) (matches p B (b e) r)) L))
        (looped (λ r. lay A r d) (λ r. lay A r e) (λ t. lay both t d) _ _ (λ r. ap (or_else_row (lay B nulls (lay A r d))) (pairs r) ∙ padded r (matches p B (b e) (lay A r e))))

    match-agrees : (r : Env) → has_match p B (b d) (lay A r d) ≡ has_match p B (b e) (lay A r e)
    match-agrees r =
        by_rows B F b right e d on (λ M. has_match p B M (lay A r d)) (λ M. has_match p B M (lay A r e))
        (some (λ s. lay B s d) (λ s. lay B s e) _ _ (pair-passes r))

    -- the left rows of which a test of whether there is a match says so
    pub matched-rows : (t : Bool → Bool) → filter (λ r. t (has_match p B (b d) r)) (a d) ≡ map (λ r. lay A r d) (filter (λ r. t (has_match p B (b e) r)) (a e))
    matched-rows t =
        by_rows A F a left e d on (filter (λ r. t (has_match p B (b d) r))) (λ L. map (λ r. lay A r d) (filter (λ r. t (has_match p B (b e) r)) L))
        (kept (λ r. lay A r d) (λ r. lay A r e) (λ r. lay A r d) _ _ (λ r. ap t (match-agrees r)) (λ r. sym (lay-over A r e d)))

-- ---- fewer columns, and one row of each kind

pub keep-fits : (K X F : ColumnSet) (x : Bag) → ((c : ℕ) → K c ≡ true → X c ≡ true) → Fits X F x → Fits K F (keep K x)
keep-fits K X F x sub fits e d on =
    ap (map (λ r. lay K r d)) (fits e d on) ∙ map-map (λ r. lay K r d) (λ r. lay X r d) (x e)
    ∙ mapped _ (λ r. lay K r d) (λ r. lay K r e) (λ r. lay-within K X sub r d d ∙ sym (lay-over K r e d)) (x e)

module _ (K : List ℕ) (X : ColumnSet) (d : Env) where
  abbrev laid : Env → Env
  laid r = lay X r d

  -- rows that are laid are the same where they were
  pub same_on-laid : ((c : ℕ) → has K c ≡ true → X c ≡ true) → (r s : Env) → same_on K (laid r) (laid s) ≡ same_on K r s
  same_on-laid sub r s = at K sub
    where
      at : (K : List ℕ) → ((c : ℕ) → has K c ≡ true → X c ≡ true) → same_on K (laid r) (laid s) ≡ same_on K r s
      at [] sub = refl
      at (k ∷ K) sub = rw (sub k (or_left (k == k) (has K k) (eq-eqb k k refl)), at K (λ c in_. sub c (or_right (k == c) (has K c) in_))) refl

  pub filter-laid : (p q : Test) → ((r : Env) → p (laid r) ≡ q r) → (L : List Env) → filter p (map laid L) ≡ map laid (filter q L)
  filter-laid p q same L = filter-map p laid L ∙ ap (λ (t : Test). map laid (filter t L)) (λ i r. same r i)

  pub distinct_on-laid : ((c : ℕ) → has K c ≡ true → X c ≡ true) → (L : List Env) → distinct_on K (map laid L) ≡ map laid (distinct_on K L)
  distinct_on-laid sub [] = refl
  distinct_on-laid sub (r ∷ L) =
      ap (λ M. laid r ∷ filter (λ s. not (same_on K (laid r) s)) M) (distinct_on-laid sub L)
      ∙ ap (λ M. laid r ∷ M) (filter-laid _ _ (λ s. ap not (same_on-laid sub r s)) (distinct_on K L))

pub distinct-fits : (K : List ℕ) (F : ColumnSet) (x : Bag) → Fits (has K) F x → Fits (has K) F (distinct K x)
distinct-fits K F x fits =
    keep-fits (has K) (has K) F (λ e. distinct_on K (x e)) (λ c in_. in_)
    (λ e d on. ap (distinct_on K) (fits e d on) ∙ distinct_on-laid K (has K) d (λ c in_. in_) (x e))

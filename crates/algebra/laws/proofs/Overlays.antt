-- Rows laid over environments, and what is made of rows that fit.
use Rattle.std.proofs.Common.{◌≡◌, refl, ap, sym, ◌∙◌, inl, inr, ℕ, Bool, true, false, ◌||◌, ◌==◌, if◌then◌else◌, List, [], ◌∷◌, map, filter, flat_map}
use Rattle.std.specs.List.{list_any}
use Rattle.std.proofs.lemmas.Bool.{and_parts, cases_Bool, eqb-true}
use Rattle.std.proofs.lemmas.List.{map-append}
use Rattle.values.specs.declared.value.Value.{Value}
use Rattle.algebra.specs.Columns.{ColumnSet, has, is_subset}
use Rattle.algebra.specs.Bags.{Env, Test, Bag, lay}
use Rattle.algebra.proofs.Lists.{two, cons-same}
use Rattle.laws.specs.Fitting.{SameIn, Fits}

-- ---- rows

pub pointwise : {r s : Env} → ((c : ℕ) → r c ≡ s c) → r ≡ s
pointwise h = λ i c. h c i

-- rows that are equal in a set of columns and outside of it
pub by_columns : (K : ColumnSet) (r s : Env) → ((c : ℕ) → K c ≡ true → r c ≡ s c) → ((c : ℕ) → K c ≡ false → r c ≡ s c) → r ≡ s
by_columns K r s inside outside = pointwise (λ c. elim (cases_Bool (K c)) [ inl is ↦ inside c is | inr isnt ↦ outside c isnt ])

-- of two overlays with the same columns the first one counts
pub lay-over : (K : ColumnSet) (r e d : Env) → lay K (lay K r e) d ≡ lay K r d
lay-over K r e d = by_columns K _ _ (λ c is. rw is refl) (λ c isnt. rw isnt refl)

-- an overlay with fewer columns
pub lay-within : (K X : ColumnSet) → ((c : ℕ) → K c ≡ true → X c ≡ true) → (r e d : Env) → lay K (lay X r e) d ≡ lay K r d
lay-within K X sub r e d = by_columns K _ _ (λ c is. rw (is, sub c is) refl) (λ c isnt. rw isnt refl)

-- an overlay on an overlay, as one
pub lay-both : (A B : ColumnSet) (s r e : Env) → lay B s (lay A r e) ≡ lay (λ c. A c || B c) (lay B s r) e
lay-both A B s r e = pointwise (λ c. at (A c) (B c) (s c) (r c) (e c))
  where
    at : (a b : Bool) (x y z : Value) → (if b then x else if a then y else z) ≡ (if a || b then (if b then x else y) else z)
    at true true x y z = refl
    at true false x y z = refl
    at false true x y z = refl
    at false false x y z = refl

-- what passes of all columns of a list passes of each
pub in_subset : (K X : List ℕ) → is_subset K X ≡ true → (c : ℕ) → has K c ≡ true → has X c ≡ true
in_subset [] X all c in_ = cc
in_subset (k ∷ K) X all c in_ = let parts = and_parts (has X k) (is_subset K X) all in by (k == c) refl (in_subset K X parts.1 c) in_
  where
    by : (b : Bool) → (k == c) ≡ b → (has K c ≡ true → has X c ≡ true) → (b || has K c) ≡ true → has X c ≡ true
    by true is later in_ = ap (has X) (sym (eqb-true k c is)) ∙ (and_parts (has X k) (is_subset K X) all).0
    by false isnt later in_ = later in_

-- ---- lists of rows that are made of one list in two ways

pub mapped : {X : Type 0} (f : X → Env) (G : Env → Env) (h : X → Env) → ((x : X) → f x ≡ G (h x)) → (L : List X) → map f L ≡ map G (map h L)
mapped f G h same [] = refl
mapped f G h same (x ∷ L) = cons-same (same x) (mapped f G h same L)

-- tests that agree keep the same rows
pub kept : (g k G : Env → Env) (t u : Test) → ((r : Env) → t (g r) ≡ u (k r)) → ((r : Env) → g r ≡ G (k r)) → (L : List Env) → filter t (map g L) ≡ map G (filter u (map k L))
kept g k G t u test row [] = refl
kept g k G t u test row (r ∷ L) = rw (test r, kept g k G t u test row L) (by (u (k r)))
  where
    by : (b : Bool) → (if b then g r ∷ map G (filter u (map k L)) else map G (filter u (map k L))) ≡ map G (if b then k r ∷ filter u (map k L) else filter u (map k L))
    by true = cons-same (row r) refl
    by false = refl

-- and find one where they do
pub some : (g k : Env → Env) (t u : Test) → ((r : Env) → t (g r) ≡ u (k r)) → (L : List Env) → list_any t (map g L) ≡ list_any u (map k L)
some g k t u test [] = refl
some g k t u test (r ∷ L) = two (λ a b. a || b) (test r) (some g k t u test L)

-- nested loops whose inner rows agree
pub looped : (g k G : Env → Env) (F H : Env → List Env) → ((r : Env) → F (g r) ≡ map G (H (k r))) → (L : List Env) → flat_map F (map g L) ≡ map G (flat_map H (map k L))
looped g k G F H same [] = refl
looped g k G F H same (r ∷ L) = rw (same r, looped g k G F H same L) (sym (map-append G (H (k r)) (flat_map H (map k L))))

-- ---- rows that fit

pub itself : (F : ColumnSet) (e : Env) → SameIn F e e
itself F e c in_ = refl

-- a set of free columns may be larger
pub more_free : (K F H : ColumnSet) (x : Bag) → ((c : ℕ) → F c ≡ true → H c ≡ true) → Fits K F x → Fits K H x
more_free K F H x sub fits e d on = fits e d (λ c in_. on c (sub c in_))

-- what is made of the rows in two environments, by what is made of rows laid over the one and over the other
pub by_rows : {Y : Type 0} (K F : ColumnSet) (x : Bag) → Fits K F x → (e d : Env) → SameIn F e d → (f h : List Env → Y)
    → ((L : List Env) → f (map (λ r. lay K r d) L) ≡ h (map (λ r. lay K r e) L)) → f (x d) ≡ h (x e)
by_rows K F x fits e d on f h same = ap f (fits e d on) ∙ same (x e) ∙ ap h (sym (fits e e (itself F e)))

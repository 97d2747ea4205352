-- Joins, selections and projections change places.
use Rattle.std.proofs.Common.{◌≡◌, refl, ap, sym, ◌∙◌, inl, inr, ℕ, Bool, true, false, not, ◌||◌, ◌&&◌, if◌then◌else◌}
use Rattle.std.proofs.lemmas.Bool.{cases_Bool, or_left, or_right}
use Rattle.values.specs.declared.value.Value.{Value}
use Rattle.algebra.specs.Columns.{ColumnSet}
use Rattle.algebra.specs.Bags.{Env, Test, Bag, total, SameBag, lay, has_match, select, join, keep}
use Rattle.algebra.proofs.BagSums.{if_passes, total-map, total-filter, total-same}
use Rattle.algebra.proofs.Ordered.{and-turn}
use Rattle.laws.specs.Rewriting.{IsBoth, AreApart, JoinsCommute, JoinsAssociate, SelectsMerge, SelectsGoBelow, SelectsGoIn, ConditionsGoBelow, SelectsGoBelowSemi, SelectsGoBelowAnti, KeepsMerge, KeepOfAll, KeepsGoBelow}
use Rattle.laws.proofs.JoinSums.{when_both, when_swap, total_when, total_swap, total_join, total_laid}
use Rattle.laws.proofs.Overlays.{pointwise, lay-within}

-- ---- joins

lay_swap : (A B : ColumnSet) → AreApart A B → (r s e : Env) → lay B s (lay A r e) ≡ lay A r (lay B s e)
lay_swap A B apart r s e = pointwise (λ c. at (A c) (B c) (apart c) (r c) (s c) (e c))
  where
    at : (a b : Bool) → (a ≡ true → b ≡ false) → (x y z : Value) → (if b then y else if a then x else z) ≡ (if a then x else if b then y else z)
    at true true h x y z = cc (h refl)
    at true false h x y z = refl
    at false b h x y z = refl

pub joins_commute : JoinsCommute
joins_commute p A B F G a b fits_a fits_b apart e f =
    let k : Env → ℕ = if_passes p f in
    total_join f p B a b e
    ∙ total_laid A F a fits_a e _
    ∙ total-same _ _ (λ r. total-same _ _ (λ s. ap k (lay_swap A B apart r s e)) (b e)) (a e)
    ∙ total_swap (λ r s. k (lay A r (lay B s e))) (a e) (b e)
    ∙ sym (total_laid B G b fits_b e (λ s. total (λ r. k (lay A r s)) (a e)))
    ∙ sym (total_join f p A b a e)

-- a row of the second and third list over one of the first
module _ (A B C : ColumnSet) (r s t e : Env) where
  abbrev outer : Env
  outer = lay C t (lay B (lay B s e) (lay A r e))

  abbrev inner : Env
  inner = lay C t (lay B s e)

  abbrev both : ColumnSet
  both k = B k || C k

  -- three rows laid in either order
  three : outer ≡ lay both inner (lay A r e)
  three = pointwise (λ k. at (A k) (B k) (C k) (r k) (s k) (t k) (e k))
    where
      at : (a b c : Bool) (x y z w : Value) → (if c then z else if b then (if b then y else w) else if a then x else w) ≡ (if b || c then (if c then z else if b then y else w) else if a then x else w)
      at a true true x y z w = refl
      at a true false x y z w = refl
      at a false true x y z w = refl
      at a false false x y z w = refl

  -- they differ in columns of the first alone
  over : outer ≡ lay A outer inner
  over = pointwise (λ k. at (A k) (B k) (C k) (r k) (s k) (t k) (e k))
    where
      at : (a b c : Bool) (x y z w : Value) → (if c then z else if b then (if b then y else w) else if a then x else w)
          ≡ (if a then (if c then z else if b then (if b then y else w) else if a then x else w) else if c then z else if b then y else w)
      at true b c x y z w = refl
      at false true true x y z w = refl
      at false true false x y z w = refl
      at false false true x y z w = refl
      at false false false x y z w = refl

pub joins_associate : JoinsAssociate
joins_associate c d p q A B C F G x y z fits_x fits_y parts ignores_c ignores_p e f =
    total_join f d C (join c B x y) z e
    ∙ total_join (λ u. total (λ t. if_passes d f (lay C t u)) (z e)) c B x y e
    ∙ total_laid A F x fits_x e _
    ∙ total-same _ _ (λ r. total_laid B G y fits_y e _ ∙ total-same _ _ (pairs r) (y e) ∙ sym (inner_rows r)) (x e)
    ∙ sym (total_laid A F x fits_x e _)
    ∙ sym (total_join f q (λ k. B k || C k) x (join p C y z) e)
  where
    -- the conditions on three rows
    at : (c' d' p' q' : Bool) (n : ℕ) → (c' && d') ≡ (p' && q') → (if c' then (if d' then n else 0) else 0) ≡ (if p' then (if q' then n else 0) else 0)
    at c' d' p' q' n is = sym (when_both c' d' n) ∙ ap (λ b. if b then n else 0) is ∙ when_both p' q' n

    pairs : (r s : Env) → (if c (lay B (lay B s e) (lay A r e)) then total (λ t. if_passes d f (lay C t (lay B (lay B s e) (lay A r e)))) (z e) else 0)
        ≡ total (λ t. if p (lay C t (lay B s e)) then if_passes q f (lay (λ k. B k || C k) (lay C t (lay B s e)) (lay A r e)) else 0) (z e)
    pairs r s =
        sym (total_when (c (lay B (lay B s e) (lay A r e))) _ (z e))
        ∙ total-same _ _ (λ t.
        ap (λ b. if b then if_passes d f (outer A B C r s t e) else 0) (sym (ignores_c (lay B (lay B s e) (lay A r e)) t))
        ∙ at _ _ _ _ (f (outer A B C r s t e)) (parts (outer A B C r s t e))
        ∙ ap (λ b. if b then if_passes q f (outer A B C r s t e) else 0) (ap p (over A B C r s t e) ∙ ignores_p (inner A B C r s t e) (outer A B C r s t e))
        ∙ ap (λ u. if p (inner A B C r s t e) then if_passes q f u else 0) (three A B C r s t e)) (z e)

    inner_rows : (r : Env) → total (λ u. if_passes q f (lay (λ k. B k || C k) u (lay A r e))) (join p C y z e)
        ≡ total (λ s. total (λ t. if p (lay C t (lay B s e)) then if_passes q f (lay (λ k. B k || C k) (lay C t (lay B s e)) (lay A r e)) else 0) (z e)) (y e)
    inner_rows r = total_join _ p C y z e ∙ total_laid B G y fits_y e _

-- ---- selections

pub selects_merge : SelectsMerge
selects_merge c d q x both e f =
    total-filter f c (select d x e) ∙ total-filter (if_passes c f) d (x e)
    ∙ total-same _ _ (λ r. sym (when_both (d r) (c r) (f r)) ∙ ap (λ b. if b then f r else 0) (turn (d r) (c r) ∙ sym (both r))) (x e)
    ∙ sym (total-filter f q (x e))
  where
    turn : (a b : Bool) → (a && b) ≡ (b && a)
    turn true true = refl
    turn true false = refl
    turn false true = refl
    turn false false = refl

pub conditions_go_below : ConditionsGoBelow
conditions_go_below d p q B a b both ignores e f =
    total_join f d B a b e
    ∙ total-same _ _ (λ r. total-same _ _ (each r) (b e) ∙ total_when (p r) (λ s. if_passes q f (lay B s r)) (b e)) (a e)
    ∙ sym (total-filter _ p (a e))
    ∙ sym (total_join f q B (select p a) b e)
  where
    each : (r s : Env) → if_passes d f (lay B s r) ≡ (if p r then if_passes q f (lay B s r) else 0)
    each r s = ap (λ b. if b then f (lay B s r) else 0) (both (lay B s r)) ∙ when_both _ _ (f (lay B s r)) ∙ ap (λ b. if b then if_passes q f (lay B s r) else 0) (ignores r s)

-- pairs that are selected are pairs of both conditions
select_join : (c d j : Test) (B : ColumnSet) (a b : Bag) → IsBoth j d c → SameBag (select c (join d B a b)) (join j B a b)
select_join c d j B a b both e f =
    total-filter f c (join d B a b e) ∙ total_join (if_passes c f) d B a b e
    ∙ total-same _ _ (λ r. total-same _ _ (λ s. sym (when_both (d (lay B s r)) (c (lay B s r)) (f (lay B s r))) ∙ ap (λ v. if v then f (lay B s r) else 0) (sym (both (lay B s r)))) (b e)) (a e)
    ∙ sym (total_join f j B a b e)

and_group : (a b c : Bool) → (a && (b && c)) ≡ ((a && b) && c)
and_group true b c = refl
and_group false b c = refl

pub selects_go_below : SelectsGoBelow
selects_go_below c d p q B a b both ignores e f =
    select_join c d (λ r. d r && c r) B a b (λ r. refl) e f
    ∙ conditions_go_below (λ r. d r && c r) p (λ r. d r && q r) B a b (λ r. ap (λ v. d r && v) (both r) ∙ and-turn (d r) (p r) (q r)) ignores e f
    ∙ sym (select_join q d (λ r. d r && q r) B (select p a) b (λ r. refl) e f)

pub selects_go_in : SelectsGoIn
selects_go_in c d j p q B a b both with_p e f =
    select_join c d (λ r. j r && q r) B a b (λ r. sym (ap (λ v. d r && v) (both r) ∙ and_group (d r) (p r) (q r) ∙ ap (λ v. v && q r) (sym (with_p r)))) e f
    ∙ sym (select_join q j (λ r. j r && q r) B a b (λ r. refl) e f)

-- two selections change places
select_swap : (p q : Env → Test) (a : Bag) → SameBag (λ e. select (p e) (λ e. select (q e) a e) e) (λ e. select (q e) (λ e. select (p e) a e) e)
select_swap p q a e f =
    total-filter f (p e) (select (q e) a e) ∙ total-filter (if_passes (p e) f) (q e) (a e)
    ∙ total-same _ _ (λ r. when_swap (q e r) (p e r) (f r)) (a e)
    ∙ sym (total-filter f (q e) (select (p e) a e) ∙ total-filter (if_passes (q e) f) (p e) (a e))

pub selects_go_below_semi : SelectsGoBelowSemi
selects_go_below_semi c p B a b = select_swap (λ e. c) (λ e. has_match p B (b e)) a

pub selects_go_below_anti : SelectsGoBelowAnti
selects_go_below_anti c p B a b = select_swap (λ e. c) (λ e r. not (has_match p B (b e) r)) a

-- ---- projections

pub keeps_merge : KeepsMerge
keeps_merge S T x within e f =
    total-map f (λ r. lay S r e) (keep T x e) ∙ total-map (λ r. f (lay S r e)) (λ r. lay T r e) (x e)
    ∙ total-same _ _ (λ r. ap f (lay-within S T within r e e)) (x e)
    ∙ sym (total-map f (λ r. lay S r e) (x e))

pub keep_of_all : KeepOfAll
keep_of_all S F x fits e f = total-map f (λ r. lay S r e) (x e) ∙ sym (total_laid S F x fits e f)

-- a row of the left side projected to the columns that are needed
module _ (S T M A B : ColumnSet) (needed : (c : ℕ) → A c ≡ true → T c ≡ (S c || M c)) (r s e : Env) where
  abbrev whole : Env
  whole = lay B s (lay A r e)

  abbrev cut : Env
  cut = lay B s (lay T (lay A r e) e)

  -- reads the same in what is needed
  alike : (c : ℕ) → (S c || M c) ≡ true → whole c ≡ cut c
  alike c in_ = at (A c) (B c) (T c) (λ is. needed c is ∙ in_) (r c) (s c) (e c)
    where
      at : (a b t : Bool) → (a ≡ true → t ≡ true) → (x y z : Value) → (if b then y else if a then x else z) ≡ (if b then y else if t then (if a then x else z) else z)
      at a true t h x y z = refl
      at true false true h x y z = refl
      at true false false h x y z = cc (h refl)
      at false false true h x y z = refl
      at false false false h x y z = refl

pub keeps_go_below : KeepsGoBelow
keeps_go_below S T M A B F p a b fits reads needed e f =
    total-map f (λ r. lay S r e) (join p B a b e)
    ∙ total_join _ p B a b e
    ∙ total_laid A F a fits e _
    ∙ total-same _ _ (λ r. total-same _ _ (each r) (b e)) (a e)
    ∙ sym (total_laid A F a fits e _)
    ∙ sym (total-map f (λ r. lay S r e) (join p B (keep T a) b e) ∙ total_join _ p B (keep T a) b e ∙ total-map _ (λ r. lay T r e) (a e))
  where
    kept : (r s : Env) → lay S (whole S T M A B needed r s e) e ≡ lay S (cut S T M A B needed r s e) e
    kept r s = pointwise (λ c. elim (cases_Bool (S c)) [
      | inl is ↦ rw is (alike S T M A B needed r s e c (or_left (S c) (M c) is))
      | inr isnt ↦ rw isnt refl
    ])

    two : {b d : Bool} {m n : ℕ} → b ≡ d → m ≡ n → (if b then m else 0) ≡ (if d then n else 0)
    two g h = rw (g, h) refl

    each : (r s : Env) → (if p (lay B s (lay A r e)) then f (lay S (lay B s (lay A r e)) e) else 0) ≡ (if p (lay B s (lay T (lay A r e) e)) then f (lay S (lay B s (lay T (lay A r e) e)) e) else 0)
    each r s = two (reads _ _ (λ c in_. alike S T M A B needed r s e c (or_right (S c) (M c) in_))) (ap f (kept r s))

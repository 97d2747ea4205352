-- Semijoins and antijoins beside inner joins: the laws of bags.
use Rattle.std.proofs.Common.{◌≡◌, refl, ap, sym, ◌∙◌, ℕ, ◌+◌, ◌≤◌, Bool, true, false, not, ◌||◌, if◌then◌else◌, List, [], ◌∷◌, arith}
use Rattle.std.specs.List.{list_any}
use Rattle.values.specs.declared.value.Value.{Value}
use Rattle.algebra.specs.Columns.{ColumnSet}
use Rattle.algebra.specs.Bags.{Env, Test, Bag, total, SameBag, lay, has_match, select, join, semi, anti, keep}
use Rattle.algebra.proofs.BagSums.{if_passes, total-map, total-filter, total-same}
use Rattle.algebra.proofs.Lists.{two}
use Rattle.laws.specs.Fitting.{Fits}
use Rattle.laws.specs.Keys.{count, IsSingle}
use Rattle.laws.specs.Rewriting.{Ignores, AreApart}
use Rattle.laws.proofs.JoinSums.{when_swap, total_when, total_join, total_laid}
use Rattle.laws.proofs.KeyCounts.{total_none}
use Rattle.laws.proofs.Overlays.{pointwise, by_columns}

-- a test that each environment has of rows, and that ignores the right side, is asked of the left side first
tests_go_below_join : (t : Env → Test) (c : Test) (B : ColumnSet) (a b : Bag) → ((e : Env) → Ignores B (t e)) → SameBag (λ e. select (t e) (join c B a b) e) (join c B (λ e. select (t e) a e) b)
tests_go_below_join t c B a b ignores e f =
    total-filter f (t e) (join c B a b e)
    ∙ total_join (if_passes (t e) f) c B a b e
    ∙ total-same _ _ row (a e)
    ∙ sym (total_join f c B (λ e. select (t e) a e) b e ∙ total-filter _ (t e) (a e))
  where
    row : (r : Env) → total (λ s. if_passes c (if_passes (t e) f) (lay B s r)) (b e) ≡ (if t e r then total (λ s. if_passes c f (lay B s r)) (b e) else 0)
    row r =
        total-same _ _ (λ s. ap (λ v. if c (lay B s r) then (if v then f (lay B s r) else 0) else 0) (ignores e r s) ∙ when_swap (c (lay B s r)) (t e r) _) (b e)
        ∙ total_when (t e r) _ (b e)

-- conditions that ignore a set of columns find the same matches, whatever a row has there
matches-ignore : (d : Test) (B C : ColumnSet) → AreApart B C → Ignores B d → (rows : List Env) → Ignores B (has_match d C rows)
matches-ignore d B C apart ignores rows r s = each rows
  where
    -- it doesn't matter which side is laid first
    laid : (u : Env) → lay C u (lay B s r) ≡ lay B s (lay C u r)
    laid u = pointwise (λ k. at (B k) (C k) (s k) (u k) (r k) (apart k))
      where
        at : (x y : Bool) (v w t : Value) → (x ≡ true → y ≡ false) → (if y then w else if x then v else t) ≡ (if x then v else if y then w else t)
        at true true v w t h = cc (h refl)
        at true false v w t h = refl
        at false y v w t h = refl

    each : (us : List Env) → list_any (λ u. d (lay C u (lay B s r))) us ≡ list_any (λ u. d (lay C u r)) us
    each [] = refl
    each (u ∷ us) = two (λ x y. x || y) (ap d (laid u) ∙ ignores (lay C u r) s) (each us)

-- ---- a semijoin or an antijoin changes places with an inner join

-- the conditions don't mention the side that the inner join brings
pub semijoins_go_below_joins : (c d : Test) (B C : ColumnSet) (a b z : Bag) → AreApart B C → Ignores B d → SameBag (semi d C (join c B a b) z) (join c B (semi d C a z) b)
semijoins_go_below_joins c d B C a b z apart ignores = tests_go_below_join (λ e. has_match d C (z e)) c B a b (λ e. matches-ignore d B C apart ignores (z e))

pub antijoins_go_below_joins : (c d : Test) (B C : ColumnSet) (a b z : Bag) → AreApart B C → Ignores B d → SameBag (anti d C (join c B a b) z) (join c B (anti d C a z) b)
antijoins_go_below_joins c d B C a b z apart ignores =
    tests_go_below_join (λ e r. not (has_match d C (z e) r)) c B a b (λ e r s. ap not (matches-ignore d B C apart ignores (z e) r s))

-- ---- a semijoin that is a projection of a join

-- a sum over the one row that passes counts where there is such a row
once : (p : Test) (n : ℕ) (rows : List Env) → count p rows ≤ 1 → total (λ s. if p s then n else 0) rows ≡ (if list_any p rows then n else 0)
once p n [] le = refl
once p n (x ∷ rows) le = by (p x) (once p n rows) le
  where
    none : count p rows ≡ 0 → total (λ s. if p s then n else 0) rows ≡ 0
    none zero = total_none p (λ s. if p s then n else 0) (λ r fails. rw fails refl) rows zero

    by : (b : Bool) → (count p rows ≤ 1 → total (λ s. if p s then n else 0) rows ≡ (if list_any p rows then n else 0)) → (if b then 1 else 0) + count p rows ≤ 1
        → (if b then n else 0) + total (λ s. if p s then n else 0) rows ≡ (if b || list_any p rows then n else 0)
    by true later le = omega (arith, none (omega (arith, le)))
    by false later le = let rest = later (omega (arith, le)) in omega (arith, rest)

-- no left row finds two rows of the right side
pub semijoins_are_joins : (d : Test) (A B F : ColumnSet) (a b : Bag) → Fits A F a → AreApart A B → IsSingle d B b → SameBag (semi d B a b) (keep A (join d B a b))
semijoins_are_joins d A B F a b fits apart single e f =
    total-filter f (has_match d B (b e)) (a e)
    ∙ total_laid A F a fits e _
    ∙ total-same _ _ row (a e)
    ∙ sym (total-map f (λ r. lay A r e) (join d B a b e) ∙ total_join _ d B a b e ∙ total_laid A F a fits e _)
  where
    -- a row with its match is the row alone in the left side's columns
    alone : (r s : Env) → lay A (lay B s (lay A r e)) e ≡ lay A r e
    alone r s = by_columns A _ _ (λ c is. rw (is, apart c is) refl) (λ c isnt. rw isnt refl)

    row : (r : Env) → (if has_match d B (b e) (lay A r e) then f (lay A r e) else 0) ≡ total (λ s. if d (lay B s (lay A r e)) then f (lay A (lay B s (lay A r e)) e) else 0) (b e)
    row r =
        sym (once (λ s. d (lay B s (lay A r e))) (f (lay A r e)) (b e) (single e (lay A r e)))
        ∙ total-same _ _ (λ s. ap (λ w. if d (lay B s (lay A r e)) then f w else 0) (sym (alone r s))) (b e)

-- ---- antijoins that ask the same of all pairs

-- sums and tests that agree but of bad rows, where there are none
total_but : (bad : Test) (f g : Env → ℕ) → ((r : Env) → bad r ≡ false → f r ≡ g r) → (rows : List Env) → count bad rows ≡ 0 → total f rows ≡ total g rows
total_but bad f g same [] none = refl
total_but bad f g same (r ∷ rows) none = by (bad r) refl none (total_but bad f g same rows)
  where
    by : (b : Bool) → bad r ≡ b → (if b then 1 else 0) + count bad rows ≡ 0 → (count bad rows ≡ 0 → total f rows ≡ total g rows) → f r + total f rows ≡ g r + total g rows
    by true is none later = absurd (omega (arith, none))
    by false is none later = omega (arith, same r is, later (omega (arith, none)))

any_but : (bad p q : Test) → ((r : Env) → bad r ≡ false → p r ≡ q r) → (rows : List Env) → count bad rows ≡ 0 → list_any p rows ≡ list_any q rows
any_but bad p q same [] none = refl
any_but bad p q same (r ∷ rows) none = by (bad r) refl none (any_but bad p q same rows)
  where
    by : (b : Bool) → bad r ≡ b → (if b then 1 else 0) + count bad rows ≡ 0 → (count bad rows ≡ 0 → list_any p rows ≡ list_any q rows) → (p r || list_any p rows) ≡ (q r || list_any q rows)
    by true is none later = absurd (omega (arith, none))
    by false is none later = two (λ x y. x || y) (same r is) (later (omega (arith, none)))

-- the conditions agree of pairs of rows that aren't bad, and no row is
pub antijoins_agree : (p q v w : Test) (B : ColumnSet) (a b : Bag) → ((e : Env) → count v (a e) ≡ 0) → ((e : Env) → count w (b e) ≡ 0)
    → ((r s : Env) → v r ≡ false → w s ≡ false → p (lay B s r) ≡ q (lay B s r)) → SameBag (anti p B a b) (anti q B a b)
antijoins_agree p q v w B a b left right same e f =
    total-filter f _ (a e)
    ∙ total_but v _ _ (λ r fine. ap (λ t. if not t then f r else 0) (any_but w (λ s. p (lay B s r)) (λ s. q (lay B s r)) (λ s good. same r s fine good) (b e) (right e))) (a e) (left e)
    ∙ sym (total-filter f _ (a e))

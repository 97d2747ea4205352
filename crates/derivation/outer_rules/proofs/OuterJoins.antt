-- Outer joins with selections above and below them.
-- Null rejection: Galindo-Legaria and Rosenthal, Outerjoin simplification and reordering for query optimization, ACM TODS 22(1), 1997.
use Rattle.std.proofs.Common.{◌≡◌, refl, ap, sym, ◌∙◌, ℕ, ◌+◌, ◌≤◌, ◌==◌, Bool, true, false, not, ◌&&◌, ◌||◌, if◌then◌else◌, List, [], ◌∷◌, arith}
use Rattle.std.specs.List.{list_any}
use Rattle.std.proofs.lemmas.Bool.{ne_eqb}
use Rattle.values.specs.declared.value.Value.{Value}
use Rattle.values.specs.declared.value.Value.TheVariants as value
use Rattle.query.specs.Meaning.{or_else_row}
use Rattle.algebra.specs.Columns.{ColumnSet}
use Rattle.algebra.specs.Bags.{Env, Test, Bag, total, SameBag, lay, nulls, matches, has_match, select, join, left_join, anti, keep}
use Rattle.algebra.proofs.BagSums.{if_passes, total-map, total-filter, total-flat_map, total-same, total-plus}
use Rattle.laws.specs.Fitting.{Fits}
use Rattle.laws.specs.Keys.{count, IsSingle}
use Rattle.laws.specs.Rewriting.{IsBoth, Ignores, AreApart}
use Rattle.laws.proofs.JoinSums.{when_both, when_swap, total_when, total_swap, total_join, total_laid}
use Rattle.laws.proofs.KeyCounts.{total_none, total_left}
use Rattle.laws.proofs.Overlays.{pointwise, by_columns, lay-over}
use Rattle.props.specs.Outcomes.{IsNullIn}

-- a padded row has Null in the right side's columns
pub padded-null : (B : ColumnSet) (r : Env) → IsNullIn B (lay B nulls r)
padded-null B r k is = ap (λ b. if b then value.Null else r k) is

-- a selection that no padded row passes has the rows of the inner join
pub outer_joins_are_inner : (c d : Test) (B : ColumnSet) (a b : Bag) → ((r : Env) → c (lay B nulls r) ≡ false) → SameBag (select c (left_join d B a b)) (select c (join d B a b))
outer_joins_are_inner c d B a b rejects e f =
    total-filter f c (left_join d B a b e)
    ∙ total-flat_map (if_passes c f) (λ r. or_else_row (lay B nulls r) (matches d B (b e) r)) (a e)
    ∙ total-same _ _ (λ r. unpadded (lay B nulls r) (matches d B (b e) r) (rejects r)) (a e)
    ∙ sym (total-flat_map (if_passes c f) (matches d B (b e)) (a e))
    ∙ sym (total-filter f c (join d B a b e))
  where
    unpadded : (pad : Env) (rows : List Env) → c pad ≡ false → total (if_passes c f) (or_else_row pad rows) ≡ total (if_passes c f) rows
    unpadded pad [] rejected = rw rejected refl
    unpadded pad (r ∷ rows) rejected = refl

-- ---- a selection goes below, to the left side

-- a part of the conditions that ignores the right side is asked of the left side
pub selects_go_below_left_join : (c d p q : Test) (B : ColumnSet) (a b : Bag) → IsBoth c p q → Ignores B p → SameBag (select c (left_join d B a b)) (select q (left_join d B (select p a) b))
selects_go_below_left_join c d p q B a b both ignores e f =
    total-filter f c (left_join d B a b e)
    ∙ total_left (if_passes c f) d B a b e
    ∙ total-same _ _ row (a e)
    ∙ sym (total-filter f q (left_join d B (select p a) b e) ∙ total_left (if_passes q f) d B (select p a) b e ∙ total-filter _ p (a e))
  where
    -- of a row of the left side as it stands in the join
    laid : (r s : Env) → if_passes c f (lay B s r) ≡ (if p r then if_passes q f (lay B s r) else 0)
    laid r s = ap (λ v. if v then f (lay B s r) else 0) (both (lay B s r)) ∙ when_both _ _ (f (lay B s r)) ∙ ap (λ v. if v then if_passes q f (lay B s r) else 0) (ignores r s)

    pairs : (r : Env) → total (λ s. if_passes d (if_passes c f) (lay B s r)) (b e) ≡ (if p r then total (λ s. if_passes d (if_passes q f) (lay B s r)) (b e) else 0)
    pairs r = total-same _ _ (λ s. ap (λ n. if d (lay B s r) then n else 0) (laid r s) ∙ when_swap (d (lay B s r)) (p r) _) (b e) ∙ total_when (p r) _ (b e)

    sum : {m k : ℕ} (n l : ℕ) (t v : Bool) → m ≡ (if t then n else 0) → k ≡ (if t then l else 0) → m + (if v then k else 0) ≡ (if t then n + (if v then l else 0) else 0)
    sum n l true v g h = rw (g, h) refl
    sum n l false true g h = omega (arith, g, h)
    sum n l false false g h = omega (arith, g)

    row : (r : Env) → total (λ s. if_passes d (if_passes c f) (lay B s r)) (b e) + (if total (λ s. if d (lay B s r) then 1 else 0) (b e) == 0 then if_passes c f (lay B nulls r) else 0)
        ≡ (if p r then total (λ s. if_passes d (if_passes q f) (lay B s r)) (b e) + (if total (λ s. if d (lay B s r) then 1 else 0) (b e) == 0 then if_passes q f (lay B nulls r) else 0) else 0)
    row r = sum _ _ (p r) (total (λ s. if d (lay B s r) then 1 else 0) (b e) == 0) (pairs r) (laid r nulls)

-- ---- a part of the condition goes below, to the right side

-- a part of the condition that ignores the left side is asked of the right side
pub conditions_go_below_left_join : (d p q : Test) (A B F G : ColumnSet) (a b : Bag) → Fits A F a → Fits B G b → IsBoth d p q → Ignores A p → SameBag (left_join d B a b) (left_join q B a (select p b))
conditions_go_below_left_join d p q A B F G a b fits_a fits_b both ignores e f =
    total_left f d B a b e
    ∙ total_laid A F a fits_a e _
    ∙ total-same _ _ (λ r. two _ (pairs f r) (pairs (λ w. 1) r)) (a e)
    ∙ sym (total_left f q B a (select p b) e ∙ total_laid A F a fits_a e _)
  where
    two : {m n k l : ℕ} (x : ℕ) → m ≡ n → k ≡ l → m + (if k == 0 then x else 0) ≡ n + (if l == 0 then x else 0)
    two x g h = rw (g, h) refl

    -- a pair and its right row differ in the left side's columns alone
    over : (r s : Env) → lay B s (lay A r e) ≡ lay A (lay B s (lay A r e)) (lay B s e)
    over r s = pointwise (λ c. at (A c) (B c) (r c) (s c) (e c))
      where
        at : (x y : Bool) (u v w : Value) → (if y then v else if x then u else w) ≡ (if x then (if y then v else if x then u else w) else if y then v else w)
        at true y u v w = refl
        at false y u v w = refl

    each : (g : Env → ℕ) (r s : Env) → if_passes d g (lay B s (lay A r e)) ≡ (if p (lay B s e) then if_passes q g (lay B (lay B s e) (lay A r e)) else 0)
    each g r s =
        ap (λ v. if v then g (lay B s (lay A r e)) else 0) (both (lay B s (lay A r e)))
        ∙ when_both _ _ (g (lay B s (lay A r e)))
        ∙ ap (λ v. if v then if_passes q g (lay B s (lay A r e)) else 0) (ap p (over r s) ∙ ignores (lay B s e) (lay B s (lay A r e)))
        ∙ ap (λ w. if p (lay B s e) then if_passes q g w else 0) (sym (lay-over B s e (lay A r e)))

    pairs : (g : Env → ℕ) (r : Env) → total (λ s. if_passes d g (lay B s (lay A r e))) (b e) ≡ total (λ s. if_passes q g (lay B s (lay A r e))) (select p b e)
    pairs g r =
        total-same _ _ (each g r) (b e)
        ∙ sym (total_laid B G b fits_b e (λ s. if p s then if_passes q g (lay B s (lay A r e)) else 0))
        ∙ sym (total-filter _ p (b e))

-- ---- a projection of the left side

-- a sum over the one row that passes, or over another in its place
once : (p : Test) (n : ℕ) (rows : List Env) → count p rows ≤ 1 → total (λ s. if p s then n else 0) rows + (if count p rows == 0 then n else 0) ≡ n
once p n [] le = omega arith
once p n (x ∷ rows) le = by (p x) (once p n rows) le
  where
    by : (b : Bool) → (count p rows ≤ 1 → total (λ s. if p s then n else 0) rows + (if count p rows == 0 then n else 0) ≡ n) → (if b then 1 else 0) + count p rows ≤ 1
        → (if b then n else 0) + total (λ s. if p s then n else 0) rows + (if (if b then 1 else 0) + count p rows == 0 then n else 0) ≡ n
    by true later le =
        let zero : count p rows ≡ 0 = omega (arith, le) in
        let none : total (λ s. if p s then n else 0) rows ≡ 0 = total_none p (λ s. if p s then n else 0) (λ r fails. rw fails refl) rows zero in
        rw (zero, none) (omega arith)
    by false later le =
        let less : count p rows ≤ 1 = omega (arith, le) in
        let same : 0 + count p rows ≡ count p rows = omega arith in
        rw same (omega (arith, later less))

-- no column of the right side is kept, and no left row finds two of its rows
pub keeps_of_left_sides : (S B : ColumnSet) (d : Test) (a b : Bag) → AreApart S B → IsSingle d B b → SameBag (keep S (left_join d B a b)) (keep S a)
keeps_of_left_sides S B d a b apart single e f =
    total-map f (λ r. lay S r e) (left_join d B a b e)
    ∙ total_left (λ r. f (lay S r e)) d B a b e
    ∙ total-same _ _ row (a e)
    ∙ sym (total-map f (λ r. lay S r e) (a e))
  where
    alike : (r s : Env) → f (lay S (lay B s r) e) ≡ f (lay S r e)
    alike r s = ap f (by_columns S _ _ (λ c is. rw (is, apart c is) refl) (λ c isnt. rw isnt refl))

    sum : {m n k l : ℕ} (t : Bool) → m ≡ n → k ≡ l → m + (if t then k else 0) ≡ n + (if t then l else 0)
    sum t g h = rw (g, h) refl

    row : (r : Env) → total (λ s. if_passes d (λ w. f (lay S w e)) (lay B s r)) (b e) + (if count (λ s. d (lay B s r)) (b e) == 0 then f (lay S (lay B nulls r) e) else 0) ≡ f (lay S r e)
    row r =
        sum (count (λ s. d (lay B s r)) (b e) == 0) (total-same _ _ (λ s. ap (λ n. if d (lay B s r) then n else 0) (alike r s)) (b e)) (alike r nulls)
        ∙ once (λ s. d (lay B s r)) (f (lay S r e)) (b e) (single e r)

-- ---- an outer join changes places with an inner one

-- neither condition mentions the side that the other join brings
pub left_joins_go_below_joins : (c d : Test) (B C : ColumnSet) (a b z : Bag) → AreApart B C → Ignores B d → Ignores C c → SameBag (left_join d C (join c B a b) z) (join c B (left_join d C a z) b)
left_joins_go_below_joins c d B C a b z apart ignores_b ignores_c e f =
    total_left f d C (join c B a b) z e
    ∙ total_join _ c B a b e
    ∙ total-same _ _ row (a e)
    ∙ sym (total_join f c B (left_join d C a z) b e ∙ total_left _ d C a z e)
  where
    -- it doesn't matter which side is laid first
    laid : (r s u : Env) → lay C u (lay B s r) ≡ lay B s (lay C u r)
    laid r s u = pointwise (λ k. at (B k) (C k) (s k) (u k) (r k) (apart k))
      where
        at : (x y : Bool) (v w t : Value) → (x ≡ true → y ≡ false) → (if y then w else if x then v else t) ≡ (if x then v else if y then w else t)
        at true true v w t h = cc (h refl)
        at true false v w t h = refl
        at false y v w t h = refl

    c-is : (r s u : Env) → c (lay B s r) ≡ c (lay B s (lay C u r))
    c-is r s u = sym (ignores_c (lay B s r) u) ∙ ap c (laid r s u)

    d-is : (r s u : Env) → d (lay C u (lay B s r)) ≡ d (lay C u r)
    d-is r s u = ap d (laid r s u) ∙ ignores_b (lay C u r) s

    -- the rows of the inner join that a row finds
    pairs : Env → ℕ
    pairs w = total (λ s. if_passes c f (lay B s w)) (b e)

    is_padded : Env → Bool
    is_padded w = count (λ u. d (lay C u w)) (z e) == 0

    padded-is : (r s : Env) → is_padded (lay B s r) ≡ is_padded r
    padded-is r s = ap (λ n. n == 0) (total-same _ _ (λ u. ap (λ v. if v then 1 else 0) (d-is r s u)) (z e))

    when-sum : (t : Bool) (m n : ℕ) → (if t then m + n else 0) ≡ (if t then m else 0) + (if t then n else 0)
    when-sum true m n = refl
    when-sum false m n = refl

    sum : {m n k l : ℕ} → m ≡ n → k ≡ l → m + k ≡ n + l
    sum g h = rw (g, h) refl

    turned : (t v : Bool) {x y : Bool} {m n : ℕ} → t ≡ x → v ≡ y → m ≡ n → (if t then (if v then m else 0) else 0) ≡ (if y then (if x then n else 0) else 0)
    turned t v {x} {y} {m} {n} g h k = rw (g, h, k) (when_swap x y n)

    each : (r s : Env) → (if c (lay B s r) then total (λ u. if_passes d f (lay C u (lay B s r))) (z e) + (if is_padded (lay B s r) then f (lay C nulls (lay B s r)) else 0) else 0)
        ≡ total (λ u. if d (lay C u r) then if_passes c f (lay B s (lay C u r)) else 0) (z e) + (if is_padded r then if_passes c f (lay B s (lay C nulls r)) else 0)
    each r s =
        when-sum (c (lay B s r)) _ _
        ∙ sum (sym (total_when (c (lay B s r)) _ (z e)) ∙ total-same _ _ (λ u. turned _ _ (c-is r s u) (d-is r s u) (ap f (laid r s u))) (z e))
        (turned _ _ (c-is r s nulls) (padded-is r s) (ap f (laid r s nulls)))

    row : (r : Env) → total (λ s. if c (lay B s r) then total (λ u. if_passes d f (lay C u (lay B s r))) (z e) + (if is_padded (lay B s r) then f (lay C nulls (lay B s r)) else 0) else 0) (b e)
        ≡ total (λ u. if_passes d pairs (lay C u r)) (z e) + (if is_padded r then pairs (lay C nulls r) else 0)
    row r =
        total-same _ _ (each r) (b e)
        ∙ total-plus (λ s. total (λ u. if d (lay C u r) then if_passes c f (lay B s (lay C u r)) else 0) (z e)) _ (b e)
        ∙ sum (total_swap (λ s u. if d (lay C u r) then if_passes c f (lay B s (lay C u r)) else 0) (b e) (z e) ∙ total-same _ _ (λ u. total_when (d (lay C u r)) _ (b e)) (z e))
        (total_when (is_padded r) _ (b e))

-- ---- the rows that find none

-- no row of the list passes where none is counted
none-passes : (p : Test) (rows : List Env) → (count p rows == 0) ≡ not (list_any p rows)
none-passes p [] = refl
none-passes p (r ∷ rows) = by (p r) (none-passes p rows)
  where
    more : {m : ℕ} (n : ℕ) → m ≡ 0 + n → (m == 0) ≡ (n == 0)
    more n is = ap (λ k. k == 0) (omega (arith, is))

    by : (b : Bool) → (count p rows == 0) ≡ not (list_any p rows) → ((if b then 1 else 0) + count p rows == 0) ≡ not (b || list_any p rows)
    by true later = ne_eqb _ _ (λ h. omega (arith, h))
    by false later = more (count p rows) refl ∙ later

-- a part of the conditions passes padded rows, and no row with one that it found
pub outer_joins_are_anti : (S B : ColumnSet) (c d p n : Test) (a b : Bag) → AreApart S B → IsBoth c p n → Ignores B p → ((r : Env) → n (lay B nulls r) ≡ true)
    → ((e r : Env) → count (λ s. d (lay B s r) && n (lay B s r)) (b e) ≡ 0) → SameBag (keep S (select c (left_join d B a b))) (keep S (select p (anti d B a b)))
outer_joins_are_anti S B c d p n a b apart both ignores padded none e f =
    total-map f (λ r. lay S r e) (select c (left_join d B a b) e)
    ∙ total-filter g c (left_join d B a b e)
    ∙ total_left (if_passes c g) d B a b e
    ∙ total-same _ _ row (a e)
    ∙ sym (total-map f (λ r. lay S r e) (select p (anti d B a b) e)
    ∙ total-filter g p (anti d B a b e)
    ∙ total-filter (if_passes p g) (λ r. not (has_match d B (b e) r)) (a e))
  where
    g : Env → ℕ
    g r = f (lay S r e)

    found : (r : Env) → total (λ s. if_passes d (if_passes c g) (lay B s r)) (b e) ≡ 0
    found r = total_none (λ s. d (lay B s r) && n (lay B s r)) _ (λ s fails. rw (both (lay B s r)) (by (d (lay B s r)) (p (lay B s r)) (n (lay B s r)) (g (lay B s r)) fails)) (b e) (none e r)
      where
        by : (x y z : Bool) (m : ℕ) → (x && z) ≡ false → (if x then (if y && z then m else 0) else 0) ≡ 0
        by true true true m fails = cc
        by true true false m fails = refl
        by true false z m fails = refl
        by false y z m fails = refl

    left : (r : Env) → if_passes c g (lay B nulls r) ≡ if_passes p g r
    left r = rw (both (lay B nulls r), ignores r nulls, padded r) (by (p r) (ap f (by_columns S _ _ (λ k is. rw (is, apart k is) refl) (λ k isnt. rw isnt refl))))
      where
        by : (x : Bool) → g (lay B nulls r) ≡ g r → (if x && true then g (lay B nulls r) else 0) ≡ (if x then g r else 0)
        by true is = is
        by false is = refl

    row : (r : Env) → total (λ s. if_passes d (if_passes c g) (lay B s r)) (b e) + (if count (λ s. d (lay B s r)) (b e) == 0 then if_passes c g (lay B nulls r) else 0)
        ≡ (if not (has_match d B (b e) r) then if_passes p g r else 0)
    row r = rw (found r, none-passes (λ s. d (lay B s r)) (b e), left r) (omega arith)

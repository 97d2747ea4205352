-- How often a row comes out of the nested loops of a join.
use Rattle.std.proofs.Common.{◌≡◌, refl, ℕ, ◌+◌, ◌*◌, ◌-◌, Bool, true, false, ◌&&◌, if◌then◌else◌, List, [], ◌∷◌, ◌++◌, length, filter, flat_map, ap, sym, ◌∙◌, arith, rules, length-append}
use Rattle.std.proofs.lemmas.Bool.{and_parts, and_from}
use Rattle.std.proofs.lemmas.List.{take-append-drop, take_at, drop_at}
use Rattle.schema.specs.Databases.{Row, HaveWidth}
use Rattle.query.specs.Rows.{Env, Tables, same_rows, count, nulls}
use Rattle.query.specs.Meaning.{CondMeaning, passes, pairs_of, matches, padded, or_else_row, is_empty}
use Rattle.query.specs.Laws.{left_part, right_part}
use Rattle.query.proofs.Counting.{same_rows-equal, same_rows-from, count-append, count-filter}
use Rattle.query.proofs.Widths.{length-nulls}

-- ---- a row's parts

left-append : (l r : Row) (w : ℕ) → length r ≡ w → left_part w (l ++ r) ≡ l
left-append l r w h = take_at l r _ (omega (arith, length-append l r))

right-append : (l r : Row) (w : ℕ) → length r ≡ w → right_part w (l ++ r) ≡ r
right-append l r w h = drop_at l r _ (omega (arith, length-append l r))

parts : (w : ℕ) (s : Row) → left_part w s ++ right_part w s ≡ s
parts w s = take-append-drop (length s - w) s

same_bool : (b c : Bool) → (b ≡ true → c ≡ true) → (c ≡ true → b ≡ true) → b ≡ c
same_bool true c f g = sym (f refl)
same_bool false true f g = g refl
same_bool false false f g = refl

-- a row is a pair where its parts are those of the pair
same-pair : (w : ℕ) (s l r : Row) → length r ≡ w → same_rows s (l ++ r) ≡ same_rows (left_part w s) l && same_rows (right_part w s) r
same-pair w s l r h = same_bool _ _
    (λ e. let same = same_rows-equal s (l ++ r) e in
    and_from _ _ (same_rows-from _ l (ap (left_part w) same ∙ left-append l r w h)) (same_rows-from _ r (ap (right_part w) same ∙ right-append l r w h)))
    (λ e. let both = and_parts (same_rows (left_part w s) l) _ e in
    let a = same_rows-equal (left_part w s) l both.0 in
    let b = same_rows-equal (right_part w s) r both.1 in
    same_rows-from s (l ++ r) (sym (parts w s) ∙ ap (λ x. x ++ right_part w s) a ∙ ap (λ x. l ++ x) b))

-- ---- pairs

pairs-step : (a b : Bool) (n m : ℕ) → m ≡ (if a then n else 0) → (if a && b then 1 else 0) + m ≡ (if a then (if b then 1 else 0) + n else 0)
pairs-step true true n m h = omega arith
pairs-step true false n m h = omega arith
pairs-step false b n m h = omega arith

count-pairs_of : (w : ℕ) (s l : Row) (R : List Row) → HaveWidth w R → count s (pairs_of l R) ≡ (if same_rows (left_part w s) l then count (right_part w s) R else 0)
count-pairs_of w s l [] h = grind (arith, rules)
count-pairs_of w s l (r ∷ R) h =
    ap (λ b. (if b then 1 else 0) + count s (pairs_of l R)) (same-pair w s l r h.0)
    ∙ pairs-step (same_rows (left_part w s) l) (same_rows (right_part w s) r) (count (right_part w s) R) _ (count-pairs_of w s l R h.1)

product-step : (a : Bool) (k m n : ℕ) → n ≡ m * k → (if a then k else 0) + n ≡ ((if a then 1 else 0) + m) * k
product-step true k m n h = grind (arith)
product-step false k m n h = omega arith

-- each left row with each right row
pub count-product : (w : ℕ) (s : Row) (R : List Row) → HaveWidth w R → (L : List Row) → count s (flat_map (λ l. pairs_of l R) L) ≡ count (left_part w s) L * count (right_part w s) R
count-product w s R h [] = omega arith
count-product w s R h (l ∷ L) =
    count-append s (pairs_of l R) (flat_map (λ l. pairs_of l R) L)
    ∙ ap (λ n. n + count s (flat_map (λ l. pairs_of l R) L)) (count-pairs_of w s l R h)
    ∙ product-step (same_rows (left_part w s) l) _ _ _ (count-product w s R h L)

-- ---- a join

if-sum : (b : Bool) (m n : ℕ) → (if b then m else 0) + (if b then n else 0) ≡ (if b then m + n else 0)
if-sum true m n = refl
if-sum false m n = refl

count-filtered : (p : Row → Bool) (f : Row → List Row) (s : Row) (L : List Row) → count s (flat_map (λ l. filter p (f l)) L) ≡ (if p s then count s (flat_map f L) else 0)
count-filtered p f s [] = grind (arith, rules)
count-filtered p f s (l ∷ L) =
    count-append s (filter p (f l)) (flat_map (λ l. filter p (f l)) L)
    ∙ ap (λ n. n + count s (flat_map (λ l. filter p (f l)) L)) (count-filter p s (f l))
    ∙ ap (λ n. (if p s then count s (f l) else 0) + n) (count-filtered p f s L)
    ∙ if-sum (p s) (count s (f l)) (count s (flat_map f L))
    ∙ ap (λ n. if p s then n else 0) (sym (count-append s (f l) (flat_map f L)))

-- how often a pair comes whose ON holds
abbrev pub joined : CondMeaning → ℕ → Tables → Env → Row → List Row → ℕ
joined on t D e s L = if passes on D e s then count (left_part (D.width t) s) L * count (right_part (D.width t) s) (D.rows t) else 0

pub count-join : (on : CondMeaning) (t : ℕ) (D : Tables) (e : Env) (s : Row) (L : List Row) → HaveWidth (D.width t) (D.rows t)
    → count s (flat_map (matches on t D e) L) ≡ joined on t D e s L
count-join on t D e s L h =
    count-filtered (passes on D e) (λ l. pairs_of l (D.rows t)) s L
    ∙ ap (λ n. if passes on D e s then n else 0) (count-product (D.width t) s (D.rows t) h L)

-- ---- a left join

-- the row is a left row without a match, with Nulls beside it
abbrev pub is_padded : CondMeaning → ℕ → Tables → Env → Row → Bool
is_padded on t D e s = same_rows (right_part (D.width t) s) (nulls (D.width t)) && is_empty (matches on t D e (left_part (D.width t) s))

-- once, if the test holds
abbrev pub one_if : Bool → ℕ
one_if b = if b then 1 else 0

count-or_else : (s pad : Row) (M : List Row) → count s (or_else_row pad M) ≡ count s M + one_if (is_empty M && same_rows s pad)
count-or_else s pad [] = omega arith
count-or_else s pad (m ∷ M) = omega arith

padded-case : (a b u v : Bool) → (a ≡ true → u ≡ v) → one_if (u && (a && b)) ≡ (if a then one_if (b && v) else 0)
padded-case true true true v h = ap one_if (h refl)
padded-case true true false v h = ap one_if (h refl)
padded-case true false true v h = refl
padded-case true false false v h = refl
padded-case false b true v h = refl
padded-case false b false v h = refl

count-padded : (on : CondMeaning) (t : ℕ) (D : Tables) (e : Env) (s l : Row)
    → count s (padded on t D e l) ≡ count s (matches on t D e l) + (if same_rows (left_part (D.width t) s) l then one_if (is_padded on t D e s) else 0)
count-padded on t D e s l =
    let w = D.width t in
    count-or_else s (l ++ nulls w) (matches on t D e l)
    ∙ ap (λ b. count s (matches on t D e l) + one_if (is_empty (matches on t D e l) && b)) (same-pair w s l (nulls w) (length-nulls w))
    ∙ ap (λ n. count s (matches on t D e l) + n) (padded-case (same_rows (left_part w s) l) (same_rows (right_part w s) (nulls w)) _ _
    (λ a. ap (λ x. is_empty (matches on t D e x)) (sym (same_rows-equal (left_part w s) l a))))

left-step : (a : Bool) (x y k m n : ℕ) → n ≡ y + m * k → (x + (if a then k else 0)) + n ≡ (x + y) + ((if a then 1 else 0) + m) * k
left-step true x y k m n h = grind (arith)
left-step false x y k m n h = omega arith

-- the join, and in addition each left row without a match
pub count-left_join : (on : CondMeaning) (t : ℕ) (D : Tables) (e : Env) (s : Row) (L : List Row)
    → count s (flat_map (padded on t D e) L) ≡ count s (flat_map (matches on t D e) L) + count (left_part (D.width t) s) L * one_if (is_padded on t D e s)
count-left_join on t D e s [] = omega arith
count-left_join on t D e s (l ∷ L) =
    count-append s (padded on t D e l) (flat_map (padded on t D e) L)
    ∙ ap (λ n. n + count s (flat_map (padded on t D e) L)) (count-padded on t D e s l)
    ∙ left-step (same_rows (left_part (D.width t) s) l) (count s (matches on t D e l)) (count s (flat_map (matches on t D e) L)) (one_if (is_padded on t D e s)) (count (left_part (D.width t) s) L) _ (count-left_join on t D e s L)
    ∙ ap (λ n. n + count (left_part (D.width t) s) (l ∷ L) * one_if (is_padded on t D e s)) (sym (count-append s (matches on t D e l) (flat_map (matches on t D e) L)))

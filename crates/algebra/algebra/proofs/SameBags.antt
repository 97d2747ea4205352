-- Every operator keeps the same bags: rows that come as often in one as in the other give rows that do.
use Rattle.std.proofs.Common.{◌≡◌, refl, ap, sym, ◌∙◌, inr, ℕ, ◌+◌, ◌==◌, Bool, true, false, not, ◌||◌, if◌then◌else◌, List, [], ◌∷◌, map, filter, flat_map, arith}
use Rattle.std.specs.List.{list_any}
use Rattle.std.proofs.lemmas.Bool.{ne_eqb}
use Rattle.algebra.specs.Columns.{ColumnSet, has}
use Rattle.query.specs.Meaning.{or_else_row}
use Rattle.algebra.specs.Bags.{Env, Test, Bag, total, SameRows, SameBag, lay, nulls, same_on, select, matches, has_match, join, left_join, semi, anti, keep, distinct_on, distinct, group}
use Rattle.algebra.proofs.BagSums.{if_passes, count_passing, total-map, total-filter, total-flat_map, total-same, total-or_else_row}
use Rattle.algebra.proofs.UniqueRows.{GoesBy, same_on-along, same_on-reads, total-kinds}

-- ---- the same rows

pub same_bag-trans : (a b c : Bag) → SameBag a b → SameBag b c → SameBag a c
same_bag-trans a b c h k e f = h e f ∙ k e f

-- bags that are equal in each environment
pub same_bag-equal : (a b : Bag) → ((e : Env) → a e ≡ b e) → SameBag a b
same_bag-equal a b h e f = ap (total f) (h e)

-- ---- what goes by how often each row comes

any-count : (p : Test) (xs : List Env) → list_any p xs ≡ not (count_passing p xs == 0)
any-count p [] = refl
any-count p (x ∷ xs) = by (p x) (any-count p xs)
  where
    by : (b : Bool) → list_any p xs ≡ not (count_passing p xs == 0) → (b || list_any p xs) ≡ not ((if b then 1 else 0) + count_passing p xs == 0)
    by true later = let some : (1 + count_passing p xs == 0) ≡ false = ne_eqb _ _ (λ h. omega arith) in ap not (sym some)
    by false later = let plain : count_passing p xs ≡ 0 + count_passing p xs = omega arith in later ∙ ap (λ n. not (n == 0)) plain

-- whether a row passes
pub any-same : (p : Test) (xs ys : List Env) → SameRows xs ys → list_any p xs ≡ list_any p ys
any-same p xs ys h = any-count p xs ∙ ap (λ n. not (n == 0)) (h (λ r. if p r then 1 else 0)) ∙ sym (any-count p ys)

pub rows-mapped : (g : Env → Env) (xs ys : List Env) → SameRows xs ys → SameRows (map g xs) (map g ys)
rows-mapped g xs ys h f = total-map f g xs ∙ h (λ r. f (g r)) ∙ sym (total-map f g ys)

pub rows-filtered : (p : Test) (xs ys : List Env) → SameRows xs ys → SameRows (filter p xs) (filter p ys)
rows-filtered p xs ys h f = total-filter f p xs ∙ h (if_passes p f) ∙ sym (total-filter f p ys)

pub rows-laid_out : (g k : Env → List Env) (xs ys : List Env) → ((r : Env) → SameRows (g r) (k r)) → SameRows xs ys → SameRows (flat_map g xs) (flat_map k ys)
rows-laid_out g k xs ys each h f =
    total-flat_map f g xs ∙ total-same _ _ (λ r. each r f) xs ∙ h (λ r. total f (k r)) ∙ sym (total-flat_map f k ys)

rows-or_else : (pad : Env) (xs ys : List Env) → SameRows xs ys → SameRows (or_else_row pad xs) (or_else_row pad ys)
rows-or_else pad xs ys h f =
    total-or_else_row f pad xs ∙ both (h f) (h (λ r. 1)) ∙ sym (total-or_else_row f pad ys)
  where
    both : {m n k l : ℕ} → m ≡ n → k ≡ l → m + (if k == 0 then f pad else 0) ≡ n + (if l == 0 then f pad else 0)
    both p q = rw (p, q) refl

-- ---- select, join, left_join, semi, anti, keep

-- tests that are equal at each row
abbrev pub SameTest : Test → Test → Type 0
SameTest p q = (r : Env) → p r ≡ q r

filter-same : (p q : Test) → SameTest p q → (xs : List Env) → filter p xs ≡ filter q xs
filter-same p q h xs = ap (λ (t : Test). filter t xs) (λ i r. h r i)

pub select-same : (p q : Test) (a b : Bag) → SameTest p q → SameBag a b → SameBag (select p a) (select q b)
select-same p q a b tests h e f = ap (total f) (filter-same p q tests (a e)) ∙ rows-filtered q (a e) (b e) (h e) f

matches-same : (p q : Test) (right : ColumnSet) (xs ys : List Env) → SameTest p q → SameRows xs ys → (r : Env) → SameRows (matches p right xs r) (matches q right ys r)
matches-same p q right xs ys tests h r f =
    ap (total f) (filter-same p q tests (map (λ s. lay right s r) xs)) ∙ rows-filtered q _ _ (rows-mapped (λ s. lay right s r) xs ys h) f

pub join-same : (p q : Test) (right : ColumnSet) (a b c d : Bag) → SameTest p q → SameBag a b → SameBag c d → SameBag (join p right a c) (join q right b d)
join-same p q right a b c d tests h k e = rows-laid_out _ _ (a e) (b e) (matches-same p q right (c e) (d e) tests (k e)) (h e)

pub left_join-same : (p q : Test) (right : ColumnSet) (a b c d : Bag) → SameTest p q → SameBag a b → SameBag c d → SameBag (left_join p right a c) (left_join q right b d)
left_join-same p q right a b c d tests h k e =
    rows-laid_out _ _ (a e) (b e) (λ r. rows-or_else (lay right nulls r) _ _ (matches-same p q right (c e) (d e) tests (k e) r)) (h e)

match-same : (p q : Test) (right : ColumnSet) (xs ys : List Env) → SameTest p q → SameRows xs ys → (r : Env) → has_match p right xs r ≡ has_match q right ys r
match-same p q right xs ys tests h r =
    ap (λ (t : Test). list_any (λ s. t (lay right s r)) xs) (λ i r. tests r i) ∙ any-same (λ s. q (lay right s r)) xs ys h

pub semi-same : (p q : Test) (right : ColumnSet) (a b c d : Bag) → SameTest p q → SameBag a b → SameBag c d → SameBag (semi p right a c) (semi q right b d)
semi-same p q right a b c d tests h k e f =
    ap (total f) (filter-same _ _ (match-same p q right (c e) (d e) tests (k e)) (a e)) ∙ rows-filtered (has_match q right (d e)) (a e) (b e) (h e) f

pub anti-same : (p q : Test) (right : ColumnSet) (a b c d : Bag) → SameTest p q → SameBag a b → SameBag c d → SameBag (anti p right a c) (anti q right b d)
anti-same p q right a b c d tests h k e f =
    ap (total f) (filter-same _ _ (λ r. ap not (match-same p q right (c e) (d e) tests (k e) r)) (a e))
    ∙ rows-filtered (λ r. not (has_match q right (d e) r)) (a e) (b e) (h e) f

pub keep-same : (K : ColumnSet) (a b : Bag) → SameBag a b → SameBag (keep K a) (keep K b)
keep-same K a b h e = rows-mapped (λ r. lay K r e) (a e) (b e) (h e)

-- ---- distinct, group

-- rows that are the same in the columns are one row when projected to them
pub lay-alike : (K : List ℕ) (r s e : Env) → same_on K r s ≡ true → lay (has K) r e ≡ lay (has K) s e
lay-alike K r s e h = λ i c. at c i
  where
    by : (c : ℕ) (b : Bool) → (b ≡ true → r c ≡ s c) → (if b then r c else e c) ≡ (if b then s c else e c)
    by c true h = h refl
    by c false h = refl

    at : (c : ℕ) → (if has K c then r c else e c) ≡ (if has K c then s c else e c)
    at c = by c (has K c) (λ in_. same_on-reads K r s c h in_)

pub distinct-same : (K : List ℕ) (a b : Bag) → SameBag a b → SameBag (distinct K a) (distinct K b)
distinct-same K a b h e f =
    total-map f (λ r. lay (has K) r e) (distinct_on K (a e))
    ∙ total-kinds K (λ r. f (lay (has K) r e)) (λ r s alike. ap f (lay-alike K r s e alike)) (a e) (b e) (λ r. inr (any-same (same_on K r) (a e) (b e) (h e)))
    ∙ sym (total-map f (λ r. lay (has K) r e) (distinct_on K (b e)))

-- what is made of rows goes by how often each comes
abbrev pub GoesByRows : (List Env → Env → Env) → Type 0
GoesByRows add = (xs ys : List Env) → SameRows xs ys → (r : Env) → add xs r ≡ add ys r

-- the row of the group of a row with the key
abbrev group_row : List ℕ → (List Env → Env → Env) → List Env → Env → Env → Env
group_row K add xs e r = add (filter (same_on K r) xs) (lay (has K) r e)

grouped-same : (K : List ℕ) (add : List Env → Env → Env) → GoesByRows add → (xs ys : List Env) → SameRows xs ys → (e : Env)
    → SameRows (map (group_row K add xs e) (distinct_on K xs)) (map (group_row K add ys e) (distinct_on K ys))
grouped-same K add goes xs ys h e f =
    total-map f (group_row K add xs e) (distinct_on K xs)
    ∙ total-same _ _ (λ r. ap f (goes _ _ (rows-filtered (same_on K r) xs ys h) (lay (has K) r e))) (distinct_on K xs)
    ∙ total-kinds K (λ r. f (group_row K add ys e r)) alike xs ys (λ r. inr (any-same (same_on K r) xs ys h))
    ∙ sym (total-map f (group_row K add ys e) (distinct_on K ys))
  where
    alike : GoesBy K (λ r. f (group_row K add ys e r))
    alike r s is =
        ap (λ (t : Test). f (add (filter t ys) (lay (has K) r e))) (λ i t. same_on-along K r s t is i)
        ∙ ap (λ t. f (add (filter (same_on K s) ys) t)) (lay-alike K r s e is)

pub group-same : (K : List ℕ) (add : List Env → Env → Env) → GoesByRows add → (a b : Bag) → SameBag a b → SameBag (group K add a) (group K add b)
group-same [] add goes a b h e f = ap (λ r. f r + 0) (goes (a e) (b e) (h e) e)
group-same (k ∷ K) add goes a b h e f = grouped-same (k ∷ K) add goes (a e) (b e) (h e) e f

-- The laws by which expressions are rewritten, on bags of rows.
-- Garcia-Molina, Ullman, Widom: Database Systems, The Complete Book, section 16.2 (algebraic laws for improving query plans).
use Rattle.std.specs.Prelude.{◌≡◌, ℕ, true, false, ◌&&◌, ◌||◌, List, ◌∷◌}
use Rattle.algebra.specs.Columns.{ColumnSet, has, is_subset}
use Rattle.algebra.specs.Bags.{Env, Test, Bag, SameBag, lay, select, join, semi, anti, keep, distinct, group}
use Rattle.laws.specs.Fitting.{Fits}
use Rattle.laws.specs.Keys.{IsStrongKey}

-- the test doesn't depend on the columns
abbrev pub Ignores : ColumnSet → Test → Type 0
Ignores B p = (r s : Env) → p (lay B s r) ≡ p r

-- the test depends on the columns alone
abbrev pub ReadsOnly : ColumnSet → Test → Type 0
ReadsOnly M p = (r s : Env) → ((c : ℕ) → M c ≡ true → r c ≡ s c) → p r ≡ p s

-- the first test passes where both others do
abbrev pub IsBoth : Test → Test → Test → Type 0
IsBoth c p q = (r : Env) → c r ≡ (p r && q r)

-- the sets share no column
abbrev pub AreApart : ColumnSet → ColumnSet → Type 0
AreApart A B = (c : ℕ) → A c ≡ true → B c ≡ false

-- each column of the first set is in the second
abbrev pub IsWithin : ColumnSet → ColumnSet → Type 0
IsWithin A B = (c : ℕ) → A c ≡ true → B c ≡ true

-- ---- joins

abbrev pub JoinsCommute : Type 0
JoinsCommute = (p : Test) (A B F G : ColumnSet) (a b : Bag) → Fits A F a → Fits B G b → AreApart A B → SameBag (join p B a b) (join p A b a)

abbrev pub JoinsAssociate : Type 0
JoinsAssociate = (c d p q : Test) (A B C F G : ColumnSet) (x y z : Bag) → Fits A F x → Fits B G y
    → ((r : Env) → (c r && d r) ≡ (p r && q r)) → Ignores C c → Ignores A p
    → SameBag (join d C (join c B x y) z) (join q (λ k. B k || C k) x (join p C y z))

-- ---- selections

abbrev pub SelectsMerge : Type 0
SelectsMerge = (c d q : Test) (x : Bag) → IsBoth q c d → SameBag (select c (select d x)) (select q x)

-- a part of the conditions that ignores the right side is asked of the left side
abbrev pub SelectsGoBelow : Type 0
SelectsGoBelow = (c d p q : Test) (B : ColumnSet) (a b : Bag) → IsBoth c p q → Ignores B p
    → SameBag (select c (join d B a b)) (select q (join d B (select p a) b))

-- a part of the conditions is asked of the pairs
abbrev pub SelectsGoIn : Type 0
SelectsGoIn = (c d j p q : Test) (B : ColumnSet) (a b : Bag) → IsBoth c p q → IsBoth j d p → SameBag (select c (join d B a b)) (select q (join j B a b))

abbrev pub ConditionsGoBelow : Type 0
ConditionsGoBelow = (d p q : Test) (B : ColumnSet) (a b : Bag) → IsBoth d p q → Ignores B p → SameBag (join d B a b) (join q B (select p a) b)

abbrev pub SelectsGoBelowSemi : Type 0
SelectsGoBelowSemi = (c p : Test) (B : ColumnSet) (a b : Bag) → SameBag (select c (semi p B a b)) (semi p B (select c a) b)

abbrev pub SelectsGoBelowAnti : Type 0
SelectsGoBelowAnti = (c p : Test) (B : ColumnSet) (a b : Bag) → SameBag (select c (anti p B a b)) (anti p B (select c a) b)

-- ---- projections

abbrev pub KeepsMerge : Type 0
KeepsMerge = (S T : ColumnSet) (x : Bag) → IsWithin S T → SameBag (keep S (keep T x)) (keep S x)

abbrev pub KeepOfAll : Type 0
KeepOfAll = (S F : ColumnSet) (x : Bag) → Fits S F x → SameBag (keep S x) x

-- of the left side those columns are needed that are kept or read by the condition
abbrev pub KeepsGoBelow : Type 0
KeepsGoBelow = (S T M A B F : ColumnSet) (p : Test) (a b : Bag) → Fits A F a → ReadsOnly M p → ((c : ℕ) → A c ≡ true → T c ≡ (S c || M c))
    → SameBag (keep S (join p B a b)) (keep S (join p B (keep T a) b))

-- ---- distinct rows and groups

-- each row stands once already
abbrev pub DistinctOfKeyed : Type 0
DistinctOfKeyed = (K L : List ℕ) (F : ColumnSet) (x : Bag) → Fits (has L) F x → is_subset K L ≡ true → IsStrongKey K x → SameBag (distinct L x) x

-- groups without aggregates are the different keys
abbrev pub GroupsAreDistinct : Type 0
GroupsAreDistinct = (k : ℕ) (K : List ℕ) (x : Bag) → SameBag (group (k ∷ K) (λ rows r. r) x) (distinct (k ∷ K) (keep (has (k ∷ K)) x))

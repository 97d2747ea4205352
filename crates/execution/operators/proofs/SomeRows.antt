-- Whether there is a row, through the operators of the algebra.
use Rattle.std.proofs.Common.{◌≡◌, refl, ap, sym, ◌∙◌, ℕ, zero, suc, ◌==◌, Bool, true, false, not, ◌||◌, cond, if◌then◌else◌, List, [], ◌∷◌, ◌++◌, map, filter, flat_map, arith}
use Rattle.std.proofs.lemmas.Bool.{ne_eqb}
use Rattle.std.specs.List.{list_any, range_with_len}
use Rattle.std.specs.declared.cmp.Ordering.{Ordering}
use Rattle.std.specs.Ordering.{is_gt}
use Rattle.values.specs.Truth.{is_true}
use Rattle.values.proofs.Lists.{filter-map}
use Rattle.query.specs.Meaning.{or_else_row}
use Rattle.algebra.specs.Columns.{has}
use Rattle.algebra.specs.declared.condition.Condition.{Condition}
use Rattle.algebra.specs.Bags.{Bag, Env, lay, nulls, matches, distinct_on, group, same_on}
use Rattle.algebra.specs.Conditions.{is_empty}
use Rattle.physical.specs.declared.plan.Matching.TheVariants.{Left}
use Rattle.physical.specs.Outputs.{is_match, join_rows}
use Rattle.physical.specs.Sorts.{put_sorted, sorted}
use Rattle.relations.specs.declared.pair_tests.PairTest.{PairTest}
use Rattle.relations.specs.declared.relation.Relation.{Relation}
use Rattle.relations.specs.declared.resolved.Test.{Test}
use Rattle.relations.specs.PairTests.{pair_truth, pairs_pass}
use Rattle.relations.specs.Parts.{row_at}
use Rattle.relations.specs.Relations.{numbered_env, numbers_of, rows_of}
use Rattle.relations.specs.Resolved.{all_pass, test_truth}
use Rattle.relations.proofs.Tests.{alike}
use Rattle.operators.specs.Existence.{has_some}
use Rattle.schema.specs.Databases.{Row}

pub some-rows : (rows : List Env) → not (is_empty rows) ≡ has_some rows
some-rows [] = refl
some-rows (r ∷ rows) = refl

pub some-map : {X Y : Type 0} (f : X → Y) (xs : List X) → has_some (map f xs) ≡ has_some xs
some-map f [] = refl
some-map f (x ∷ xs) = refl

pub some-filter : {X : Type 0} (p : X → Bool) (xs : List X) → has_some (filter p xs) ≡ list_any p xs
some-filter p [] = refl
some-filter p (x ∷ xs) = by (p x) (some-filter p xs)
  where
    by : (b : Bool) → has_some (filter p xs) ≡ list_any p xs → has_some (cond b (x ∷ filter p xs) (filter p xs)) ≡ (b || list_any p xs)
    by true later = refl
    by false later = later

some-put : {X : Type 0} (cmp : X → X → Ordering) (x : X) (ys : List X) → has_some (put_sorted cmp x ys) ≡ true
some-put cmp x [] = refl
some-put cmp x (y ∷ ys) = by (is_gt (cmp x y))
  where
    by : (b : Bool) → has_some (if b then y ∷ put_sorted cmp x ys else x ∷ y ∷ ys) ≡ true
    by true = refl
    by false = refl

pub some-sorted : {X : Type 0} (cmp : X → X → Ordering) (xs : List X) → has_some (sorted cmp xs) ≡ has_some xs
some-sorted cmp [] = refl
some-sorted cmp (x ∷ xs) = some-put cmp x (sorted cmp xs)

pub some-distinct : (K : List ℕ) (rows : List Env) → has_some (distinct_on K rows) ≡ has_some rows
some-distinct K [] = refl
some-distinct K (r ∷ rows) = refl

-- groups with keys, and without
pub some-group : (K : List ℕ) (add : List Env → Env → Env) (x : Bag) (e : Env) → has_some K ≡ true → has_some (group K add x e) ≡ has_some (x e)
some-group [] add x e keyed = cc
some-group (k ∷ K) add x e keyed = some-map (λ r. add (filter (same_on (k ∷ K) r) (x e)) (lay (has (k ∷ K)) r e)) (distinct_on (k ∷ K) (x e)) ∙ some-distinct (k ∷ K) (x e)

pub some-group-of-all : (K : List ℕ) (add : List Env → Env → Env) (x : Bag) (e : Env) → has_some K ≡ false → has_some (group K add x e) ≡ true
some-group-of-all [] add x e unkeyed = refl
some-group-of-all (k ∷ K) add x e unkeyed = cc

some-padded : {X Y : Type 0} (pad : X → Y) (f : X → List Y) (xs : List X) → has_some (flat_map (λ x. or_else_row (pad x) (f x)) xs) ≡ has_some xs
some-padded pad f [] = refl
some-padded {X} {Y} pad f (x ∷ xs) = by (f x)
  where
    by : (ys : List Y) → has_some (or_else_row (pad x) ys ++ flat_map (λ x. or_else_row (pad x) (f x)) xs) ≡ true
    by [] = refl
    by (y ∷ ys) = refl

-- a left join keeps each left row
pub some-left : (C : List Condition) (K : List ℕ) (a b : Bag) (e : Env) → has_some (join_rows (Left C) K a b e) ≡ has_some (a e)
some-left C K a b e = some-padded (λ r. lay (has K) nulls r) (λ r. matches (is_match (Left C)) (has K) (b e) r) (a e)

-- ---- relations

above : (n : ℕ) → (suc n == 0) ≡ false
above n = ne_eqb (suc n) 0 (λ same. omega (arith, same))

some-numbers : (n : ℕ) → has_some (range_with_len 0 n) ≡ not (n == 0)
some-numbers zero = refl
some-numbers (suc n) = sym (ap not (above n))

pub some-counted : (r : Relation) (e : Env) → has_some (rows_of r e) ≡ not (r.rows.count == 0)
some-counted r e = some-map (numbered_env r e) (numbers_of r) ∙ some-numbers r.rows.count

-- the rows that pass a test, by their numbers
pub some-numbered : (p : Env → Bool) (r : Relation) (e : Env) → list_any (λ n. p (numbered_env r e n)) (numbers_of r) ≡ has_some (filter p (rows_of r e))
some-numbered p r e = sym (some-filter (λ n. p (numbered_env r e n)) (numbers_of r)) ∙ sym (some-map (numbered_env r e) (filter (λ n. p (numbered_env r e n)) (numbers_of r))) ∙ ap has_some (sym (filter-map p (numbered_env r e) (numbers_of r)))

-- tests whose columns are looked up pass where the tests do
pub looked-up-alike : (right : Relation) (left : List Row) (i j : ℕ) (tests : List Test) (columns : List PairTest) → map (λ t. pair_truth t i j) columns ≡ map (λ t. test_truth t left (row_at right.rows.parts.items j)) tests → pairs_pass columns i j ≡ all_pass right left tests j
looked-up-alike right left i j tests columns same = alike is_true (λ t. pair_truth t i j) (λ t. test_truth t left (row_at right.rows.parts.items j)) columns tests same

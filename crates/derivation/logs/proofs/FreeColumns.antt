-- The columns that an expression reads of its environment, put together.
use Rattle.std.proofs.Common.{◌≡◌, refl, ap, sym, ◌∙◌, ℕ, ◌+◌, ◌<◌, Bool, true, false, not, ◌&&◌, ◌||◌, ◌==◌, List, [], length, take, get_or}
use Rattle.std.proofs.lemmas.Bool.{eqb-true}
use Rattle.std.proofs.lemmas.List.Folds.{list_any_more}
use Rattle.std.proofs.Math.Bool.{or-false, or_assoc}
use Rattle.algebra.specs.Columns.{ColumnSet, has}
use Rattle.algebra.specs.GivenColumns.{HasAlso}

-- one more column of a list, unless it passes
pub lacking-more : (passes : ColumnSet) (xs : List ℕ) (i : ℕ) (old mid new : List ℕ) → i < length xs
    → HasAlso mid old (λ k. has (take i xs) k && not (passes k)) → HasAlso new mid (λ k. (get_or xs i 0 == k) && not (passes (get_or xs i 0)))
    → HasAlso new old (λ k. has (take (i + 1) xs) k && not (passes k))
lacking-more passes xs i old mid new lt before more k =
    more k ∙ ap (λ b. b || ((x == k) && not (passes x))) (before k) ∙ or_assoc (has old k) _ _ ∙ ap (λ b. has old k || b) (by (x == k) refl)
    ∙ ap (λ b. has old k || (b && not (passes k))) (sym (list_any_more (λ y. y == k) xs i 0 lt))
  where
    x : ℕ
    x = get_or xs i 0

    over : (a b c : Bool) → ((a && c) || (b && c)) ≡ ((a || b) && c)
    over true true true = refl
    over true true false = refl
    over true false true = refl
    over true false false = refl
    over false b c = refl

    by : (b : Bool) → (x == k) ≡ b → ((has (take i xs) k && not (passes k)) || (b && not (passes x))) ≡ ((has (take i xs) k || b) && not (passes k))
    by true is = ap (λ y. (has (take i xs) k && not (passes k)) || not (passes y)) (eqb-true x k is) ∙ over (has (take i xs) k) true (not (passes k))
    by false is = or-false _ ∙ ap (λ b. b && not (passes k)) (sym (or-false (has (take i xs) k)))

-- the free columns of two lists of classes, and then others
pub put-together : (p q r : ColumnSet) (one two three : List ℕ) → HasAlso one [] p → HasAlso two one q → HasAlso three two r → (k : ℕ) → has three k ≡ ((p k || q k) || r k)
put-together p q r one two three a b c k = c k ∙ ap (λ x. x || r k) (b k ∙ ap (λ x. x || q k) (a k))

-- Numbers of expressions, put together from those of their parts; and that roots change nothing in those of conditions.
use Rattle.std.proofs.Common.{◌≡◌, refl, ap, sym, ◌∙◌, subst, ℕ, ◌+◌, ◌*◌, ◌/◌, ◌%◌, ◌<◌, ◌≤◌, Bool, true, false, if◌then◌else◌, List, [], ◌∷◌, ◌++◌, length, map, take, get_or, Option, option_to_list, arith}
use Rattle.std.specs.List.{fold, sum_by}
use Rattle.std.proofs.lemmas.List.{map-append}
use Rattle.std.proofs.lemmas.List.Sums.{fold-append, fold_more, sum_by-append}
use Rattle.std.proofs.Math.Nat.{mod-add-div, add-mul-mod_self_left}
use Rattle.algebra.specs.declared.condition.Condition.{Condition}
use Rattle.algebra.specs.declared.expr.Expr.{Expr}
use Rattle.algebra.specs.declared.expr.Expr.TheVariants.{Get, Select, Join, LeftJoin, Semi, Anti, Keep, Distinct, Group}
use Rattle.algebra.specs.Alike.{rooted, rooted_conjuncts}
use Rattle.algebra.specs.ConjunctOrder.{AreConjuncts}
use Rattle.algebra.specs.ConjunctParts.{has_no_class}
use Rattle.algebra.specs.Expressions.{children, conditions}
use Rattle.closure.specs.Numbers.{reduced, mixed, mixed_all, condition_number, conditions_number, kept_columns, expression_number}
use Rattle.closure.proofs.RootedConjuncts.{rooted_sum}

-- ---- remainders

remainder-more : (p a b : ℕ) → (a % p + b) % p ≡ (a + b) % p
remainder-more p a b = sym (add-mul-mod_self_left (a % p + b) p (a / p)) ∙ ap (λ n. n % p) (let whole : a % p + p * (a / p) ≡ a = mod-add-div a p in omega (arith, whole))

reduced-more : (a b : ℕ) → reduced (reduced a + b) ≡ reduced (a + b)
unfolding reduced
reduced-more a b = remainder-more 4294967291 a b

pub reduced_both : (a b : ℕ) → reduced (reduced a + reduced b) ≡ reduced (a + b)
reduced_both a b =
    let turned : a + reduced b ≡ reduced b + a = omega arith in
    let back : b + a ≡ a + b = omega arith in
    reduced-more a (reduced b) ∙ ap reduced turned ∙ reduced-more b a ∙ ap reduced back

-- ---- conditions

pub no_conditions : 0 ≡ conditions_number []
unfolding reduced
no_conditions = refl

-- one condition more of a list
pub one_more : (C : List Condition) (i : ℕ) (d : Condition) (sum n : ℕ) → i < length C → sum ≡ conditions_number (take i C) → n ≡ condition_number (get_or C i d)
    → reduced (sum + n) ≡ conditions_number (take (i + 1) C)
one_more C i d sum n lt is more =
    ap (λ m. reduced (m + n)) is ∙ reduced-more (sum_by condition_number (take i C)) n ∙ ap (λ m. reduced (sum_by condition_number (take i C) + m)) more
    ∙ sym (ap reduced (fold_more (λ a c. a + condition_number c) 0 C i d lt))

-- what names classes has no number
light : (c : Condition) → has_no_class c ≡ false → condition_number c ≡ 0
light c is = rw is refl

pub rooted_number : (root : ℕ → ℕ) (C : List Condition) (n : ℕ) → AreConjuncts C → n ≡ conditions_number C → n ≡ conditions_number (rooted_conjuncts root C)
rooted_number root C n are is = is ∙ ap reduced (sym (rooted_sum root condition_number light C are))

pub both_numbers : (C D : List Condition) (m n : ℕ) → m ≡ conditions_number C → n ≡ conditions_number D → reduced (m + n) ≡ conditions_number (C ++ D)
both_numbers C D m n first second =
    ap (λ k. reduced (k + n)) first ∙ ap (λ k. reduced (conditions_number C + k)) second ∙ reduced_both (sum_by condition_number C) (sum_by condition_number D)
    ∙ ap reduced (sym (sum_by-append condition_number C D))

-- ---- expressions

pub rooted-children : (root : ℕ → ℕ) (x : Expr) → children (rooted root x) ≡ map root (children x)
rooted-children root (Get o) = refl
rooted-children root (Select C x) = refl
rooted-children root (Join C a b) = refl
rooted-children root (LeftJoin C a b) = refl
rooted-children root (Semi C a b) = refl
rooted-children root (Anti S M a b) = refl
rooted-children root (Keep L x) = refl
rooted-children root (Distinct x) = refl
rooted-children root (Group L G x) = refl

rooted-columns : (root : ℕ → ℕ) (x : Expr) → kept_columns (rooted root x) ≡ kept_columns x
rooted-columns root (Get o) = refl
rooted-columns root (Select C x) = refl
rooted-columns root (Join C a b) = refl
rooted-columns root (LeftJoin C a b) = refl
rooted-columns root (Semi C a b) = refl
rooted-columns root (Anti S M a b) = refl
rooted-columns root (Keep L x) = refl
rooted-columns root (Distinct x) = refl
rooted-columns root (Group L G x) = refl

-- the number of an expression with roots: its conditions', with its inputs' roots and its columns
pub number_is : (root : ℕ → ℕ) (x : Expr) (first second : Option ℕ) (s a b n : ℕ) → option_to_list first ++ option_to_list second ≡ children x → s ≡ conditions_number (conditions (rooted root x))
    → a ≡ mixed_all s (map root (option_to_list first)) → b ≡ mixed_all a (map root (option_to_list second)) → n ≡ mixed_all b (kept_columns x) → n ≡ expression_number (rooted root x)
unfolding expression_number
number_is root x first second s a b n inputs conditions_ one other all =
    let g = map root (option_to_list first) in
    let h = map root (option_to_list second) in
    let both : map root (children x) ≡ g ++ h = ap (map root) (sym inputs) ∙ map-append root (option_to_list first) (option_to_list second) in
    all ∙ ap (λ m. mixed_all m (kept_columns x)) (other ∙ ap (λ m. mixed_all m h) one ∙ sym (fold-append mixed s g h) ∙ ap (mixed_all s) (sym both) ∙ ap (mixed_all s) (sym (rooted-children root x)))
    ∙ sym (fold-append mixed s (children (rooted root x)) (kept_columns x)) ∙ ap (λ L. mixed_all s (children (rooted root x) ++ L)) (sym (rooted-columns root x))
    ∙ ap (λ m. mixed_all m (children (rooted root x) ++ kept_columns (rooted root x))) conditions_

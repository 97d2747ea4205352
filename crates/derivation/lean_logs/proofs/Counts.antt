-- How many operators a shape has, and what room is left behind them.
use Rattle.std.proofs.Common.{◌≡◌, ap, sym, ◌∙◌, subst, ℕ, ◌+◌, ◌<◌, List, Option, None, IfSome}
use Rattle.algebra.specs.declared.condition.Condition.{Condition}
use Rattle.algebra.specs.declared.expr.Aggregation.{Aggregation}
use Rattle.rules.specs.declared.shape.Shape.{Shape, roll-Shape, fold-roll-Shape, map-Shape}
use Rattle.rules.specs.declared.shape.Shape.TheOpen.{Shape-F}
use Rattle.rules.specs.declared.shape.Shape.TheVariants.{rolls-Class, rolls-Select, rolls-Join, rolls-LeftJoin, rolls-Semi, rolls-Anti, rolls-Keep, rolls-Distinct, rolls-Group}
use Rattle.rules.specs.declared.shape.Shape.TheVariants as shape
use Rattle.bindings.specs.Shallow.{count_layer, operator_count}

count-at : (x : Shape-F Shape) (s : Shape) → roll-Shape x ≡ s → operator_count s ≡ count_layer (map-Shape Shape ℕ operator_count x)
unfolding operator_count
count-at x s is = ap operator_count (sym is) ∙ fold-roll-Shape ℕ count_layer x

pub class_counts : (g : ℕ) → operator_count (shape.Class g) ≡ 0
class_counts g = count-at (Shape-F.Class g) _ (rolls-Class g)

pub select_counts : (C : List Condition) (x : Shape) → operator_count (shape.Select C x) ≡ 1 + operator_count x
select_counts C x = count-at (Shape-F.Select C x) _ (rolls-Select C x)

pub keep_counts : (K : List ℕ) (x : Shape) → operator_count (shape.Keep K x) ≡ 1 + operator_count x
keep_counts K x = count-at (Shape-F.Keep K x) _ (rolls-Keep K x)

pub distinct_counts : (x : Shape) → operator_count (shape.Distinct x) ≡ 1 + operator_count x
distinct_counts x = count-at (Shape-F.Distinct x) _ (rolls-Distinct x)

pub group_counts : (L : List ℕ) (G : List Aggregation) (x : Shape) → operator_count (shape.Group L G x) ≡ 1 + operator_count x
group_counts L G x = count-at (Shape-F.Group L G x) _ (rolls-Group L G x)

pub join_counts : (C : List Condition) (x y : Shape) → operator_count (shape.Join C x y) ≡ 1 + (operator_count x + operator_count y)
join_counts C x y = count-at (Shape-F.Join C x y) _ (rolls-Join C x y)

pub left_join_counts : (C : List Condition) (x y : Shape) → operator_count (shape.LeftJoin C x y) ≡ 1 + (operator_count x + operator_count y)
left_join_counts C x y = count-at (Shape-F.LeftJoin C x y) _ (rolls-LeftJoin C x y)

pub semi_counts : (C : List Condition) (x y : Shape) → operator_count (shape.Semi C x y) ≡ 1 + (operator_count x + operator_count y)
semi_counts C x y = count-at (Shape-F.Semi C x y) _ (rolls-Semi C x y)

pub anti_counts : (S M : List Condition) (x y : Shape) → operator_count (shape.Anti S M x y) ≡ 1 + (operator_count x + operator_count y)
anti_counts S M x y = count-at (Shape-F.Anti S M x y) _ (rolls-Anti S M x y)

-- ---- room

pub same_room : (n m room : ℕ) (r : Option ℕ) → n ≡ m → IfSome r (λ left. m + left ≡ room) → IfSome r (λ left. n + left ≡ room)
same_room n m room r is left = subst (λ k. IfSome r (λ left. k + left ≡ room)) (sym is) left

pub same_none : (n m room : ℕ) (r : Option ℕ) → n ≡ m → (r ≡ None → room < m) → r ≡ None → room < n
same_none n m room r is none = subst (λ k. r ≡ None → room < k) (sym is) none

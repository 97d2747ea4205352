-- The sides of a join of a join share no column, and its conditions may be told apart list by list.
use Rattle.std.proofs.Common.{◌≡◌, refl, ap, ◌∙◌, ℕ, Bool, true, false, ◌&&◌, List, ◌++◌}
use Rattle.std.specs.List.{list_all}
use Rattle.std.proofs.lemmas.Bool.{and_parts}
use Rattle.std.proofs.lemmas.List.Folds.{list_all-append}
use Rattle.query.specs.declared.query.TableInstance.{TableInstance}
use Rattle.algebra.specs.declared.condition.Condition.{Condition}
use Rattle.algebra.specs.declared.expr.Aggregation.{Aggregation}
use Rattle.algebra.specs.Columns.{has, rising, are_disjoint}
use Rattle.algebra.specs.Expressions.{names_own, is_plain, sides_formed}
use Rattle.laws.specs.Rewriting.{AreApart}
use Rattle.props.specs.Knowledge.{Knowledge}
use Rattle.rules.specs.Conjuncts.{is_apart_from}
use Rattle.rules.proofs.Conditions.{disjoint-apart}
use Rattle.rules.proofs.FormedShapes.{in-second}
use Rattle.semijoin_rules.specs.SemijoinBelowJoin.{change_places}

pub sides-apart : (instances : List TableInstance) (own : List Aggregation) (K : Knowledge) (D : List Condition) (a b : ℕ)
    → (names_own instances own D && sides_formed D (K.columns a) (K.columns b)) ≡ true → AreApart (has (K.columns a)) (has (K.columns b))
sides-apart instances own K D a b formed =
    disjoint-apart (K.columns a) (K.columns b)
    (and_parts (is_plain D) (are_disjoint (K.columns a) (K.columns b)) (and_parts (names_own instances own D) (sides_formed D (K.columns a) (K.columns b)) formed).1).1

-- the right side of the join below, and that of what stands above
pub right-apart : (K : Knowledge) (x z a b : ℕ) → AreApart (has (K.columns x)) (has (K.columns z)) → K.columns x ≡ rising (K.columns a ++ K.columns b)
    → AreApart (has (K.columns b)) (has (K.columns z))
right-apart K x z a b apart here c in_ = apart c (ap (λ X. has X c) here ∙ in-second (K.columns a) (K.columns b) c in_)

-- an antijoin's lists change places where the one does and the other doesn't mention the inner right side
pub lists_change_places : (K : Knowledge) (C N M : List Condition) (b z : ℕ) → change_places K C (N ++ M) b z ≡ (change_places K C N b z && list_all (is_apart_from K b) M)
lists_change_places K C N M b z =
    ap (λ t. t && list_all (is_apart_from K z) C) (list_all-append (is_apart_from K b) N M)
    ∙ turned (list_all (is_apart_from K b) N) (list_all (is_apart_from K b) M) (list_all (is_apart_from K z) C)
  where
    turned : (t u v : Bool) → ((t && u) && v) ≡ ((t && v) && u)
    turned true true true = refl
    turned true true false = refl
    turned true false true = refl
    turned true false false = refl
    turned false u v = refl

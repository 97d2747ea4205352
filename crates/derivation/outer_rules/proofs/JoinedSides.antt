-- The sides of a join of a join share no column, and may be put together in either order.
use Rattle.std.proofs.Common.{◌≡◌, refl, ap, sym, ◌∙◌, ℕ, Bool, true, false, not, ◌&&◌, List, ◌++◌}
use Rattle.std.proofs.lemmas.Bool.{and_parts}
use Rattle.query.specs.declared.query.TableInstance.{TableInstance}
use Rattle.algebra.specs.declared.condition.Condition.{Condition}
use Rattle.algebra.specs.declared.expr.Aggregation.{Aggregation}
use Rattle.algebra.specs.Columns.{ColumnSet, has, rising, are_disjoint}
use Rattle.algebra.specs.Expressions.{names_own, is_plain, sides_formed}
use Rattle.laws.specs.Rewriting.{AreApart}
use Rattle.props.specs.Knowledge.{Knowledge}
use Rattle.rules.proofs.Conditions.{disjoint-apart}
use Rattle.rules.proofs.FormedShapes as shapes

pub turned-sides : (A B : ColumnSet) → AreApart A B → AreApart B A
turned-sides A B apart c in_ = at (A c) (B c) (apart c) in_
  where
    at : (x y : Bool) → (x ≡ true → y ≡ false) → y ≡ true → x ≡ false
    at true true h is = cc (h refl)
    at true false h is = cc
    at false y h is = refl

-- the right side of the join below and the right side of the join above
pub right-sides : (instances : List TableInstance) (own : List Aggregation) (K : Knowledge) (D : List Condition) (x z a b : ℕ)
    → (names_own instances own D && sides_formed D (K.columns x) (K.columns z)) ≡ true → K.columns x ≡ rising (K.columns a ++ K.columns b)
    → AreApart (has (K.columns b)) (has (K.columns z))
right-sides instances own K D x z a b formed here c in_ =
    let sides = and_parts (is_plain D) (are_disjoint (K.columns x) (K.columns z)) (and_parts (names_own instances own D) (sides_formed D (K.columns x) (K.columns z)) formed).1 in
    disjoint-apart (K.columns x) (K.columns z) sides.1 c (ap (λ X. has X c) here ∙ shapes.in-second (K.columns a) (K.columns b) c in_)

pub rising-swapped : (A B C : List ℕ) → rising (rising (A ++ B) ++ C) ≡ rising (rising (A ++ C) ++ B)
rising-swapped A B C = shapes.rising-along A B C ∙ ap (λ X. rising (A ++ X)) (shapes.rising-turned B C) ∙ sym (shapes.rising-along A C B)

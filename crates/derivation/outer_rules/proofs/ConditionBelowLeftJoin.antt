-- Pushdown of an outer join's condition: its laws.
use Rattle.std.proofs.Common.{List, refl, Ok}
use Rattle.values.specs.Faults.{◌>>=◌}
use Rattle.algebra.specs.declared.expr.Expr.TheVariants.{LeftJoin}
use Rattle.algebra.specs.declared.condition.Condition.{Condition}
use Rattle.algebra.specs.Columns.{has}
use Rattle.algebra.specs.Conditions.{holds}
use Rattle.algebra.specs.Expressions.{Classes}
use Rattle.algebra.specs.ConjunctParts.{part, rest}
use Rattle.algebra.proofs.Lists.{two}
use Rattle.props.specs.Knowledge.{with_rows}
use Rattle.rules.specs.declared.shape.Shape.TheVariants as shape
use Rattle.rules.specs.declared.pattern.Operator.TheVariants as operator
use Rattle.rules.specs.declared.pattern.Operators.TheVariants.{Only}
use Rattle.rules.specs.Conjuncts.{is_apart_from, wanted_some}
use Rattle.outer_rules.specs.ConditionBelowLeftJoin as spec
use Rattle.rules.specs.Soundness.{IsSound}
use Rattle.rules.specs.Formed.{IsFormed}
use Rattle.rules.specs.Patterns.{KeepsTo}
use Rattle.rules.specs.Stability.{IsStable}
use Rattle.rules.proofs.Conditions.{part-ignores, split-holds, some-given}
use Rattle.rules.proofs.MatchedLines.{OneIsSound, given, one-sound}
use Rattle.rules.proofs.ShapeMeanings.{class-is, select-is, left_join-is, has-bag}
use Rattle.rules.proofs.FormedLines.{OneIsFormed, one-formed, given-is, joined, class-stands, select-stands, left_join-stands, part-are, rest-are}
use Rattle.rules.proofs.PatternedLines.{OneKeepsTo, one-keeps}
use Rattle.rules.proofs.StableLines.{OneIsStable, one-stable, sides, part-apart, rest-apart}
use Rattle.rules.proofs.FormedShapes.{rest-plain}
use Rattle.outer_rules.proofs.OuterJoins.{conditions_go_below_left_join}

lowered-sound : OneIsSound spec.lowered_below
lowered-sound K W (LeftJoin D a b) s stands is =
    given K W _ _ s (some-given P _ s is) (has-bag V _ _ _ (left_join-is V R _ _ _ _ (class-is V a) (select-is V P _ _ (class-is V b)))
    (conditions_go_below_left_join (holds W.rows D) (holds W.rows P) (holds W.rows R) (has (K.columns a)) (has (K.columns b)) (K.free a) (K.free b) (W.rows a) (W.rows b)
    (stands.classes.fits a) (stands.classes.fits b) (split-holds W.rows (is_apart_from K a) D) (part-ignores K a W.rows stands.classes.fits D)))
  where
    V : Classes
    V = with_rows K W.rows

    P : List Condition
    P = part (is_apart_from K a) D

    R : List Condition
    R = rest (is_apart_from K a) D
lowered-sound K W x s stands is = cc

pub condition_below_left_join_sound : IsSound spec.condition_below_left_join
condition_below_left_join_sound = one-sound spec.lowered_below lowered-sound

-- ---- its pattern

lowered-keeps : OneKeepsTo (Only operator.LeftJoin) spec.lowered_below
lowered-keeps K (LeftJoin D a b) other = cc
lowered-keeps K x other = refl

pub condition_below_left_join_keeps : KeepsTo spec.pattern spec.condition_below_left_join
condition_below_left_join_keeps = one-keeps (Only operator.LeftJoin) spec.lowered_below lowered-keeps

-- ---- what it gives is well formed

lowered-formed : OneIsFormed spec.lowered_below
lowered-formed S (LeftJoin D a b) s stands rise is =
    let j = joined S D a b stands.known stands.formed in
    let p = is_apart_from S.classes a in
    given-is S _ s _ _ (some-given (part p D) _ s is) refl
    (left_join-stands S (rest p D) _ _ _ _ (class-stands S a j.left) (select-stands S (part p D) _ _ (class-stands S b j.right) (part-are S p D j.are))
    (rest-are S p D j.are) (rest-plain p D j.plain) j.apart)
lowered-formed S x s stands rise is = cc

pub condition_below_left_join_formed : IsFormed spec.condition_below_left_join
condition_below_left_join_formed = one-formed spec.lowered_below lowered-formed

-- ---- it depends on the classes that its lines name

lowered-stable : OneIsStable spec.lowered_below
lowered-stable p K L agree (LeftJoin D a b) known =
    let j = sides p a b D known in
    two (λ P R. wanted_some P >>= λ P. Ok (shape.LeftJoin R (shape.Class a) (shape.Select P (shape.Class b)))) (part-apart p K L agree a j.0 D j.2) (rest-apart p K L agree a j.0 D j.2)
lowered-stable p K L agree x known = refl

pub condition_below_left_join_stable : IsStable spec.condition_below_left_join
condition_below_left_join_stable = one-stable spec.lowered_below lowered-stable

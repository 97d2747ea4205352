-- Pushdown of a join's condition: its laws.
use Rattle.std.proofs.Common.{List, refl, Ok}
use Rattle.values.specs.Faults.{◌>>=◌}
use Rattle.algebra.specs.declared.expr.Expr.TheVariants.{Join}
use Rattle.algebra.specs.declared.condition.Condition.{Condition}
use Rattle.algebra.specs.Columns.{has}
use Rattle.algebra.specs.Conditions.{holds}
use Rattle.algebra.specs.Expressions.{Classes}
use Rattle.algebra.specs.ConjunctParts.{part, rest}
use Rattle.algebra.proofs.Lists.{two}
use Rattle.laws.proofs.Rewrites as law
use Rattle.props.specs.Knowledge.{with_rows}
use Rattle.rules.specs.declared.shape.Shape.TheVariants as shape
use Rattle.rules.specs.declared.pattern.Operator.TheVariants as operator
use Rattle.rules.specs.declared.pattern.Operators.TheVariants.{Only}
use Rattle.rules.specs.Conjuncts.{is_apart_from, wanted_some}
use Rattle.plain_rules.specs.ConditionBelowJoin as spec
use Rattle.rules.specs.Soundness.{IsSound}
use Rattle.rules.specs.Formed.{IsFormed}
use Rattle.rules.specs.Patterns.{KeepsTo}
use Rattle.rules.specs.Stability.{IsStable}
use Rattle.rules.proofs.Conditions.{part-ignores, split-holds, some-given}
use Rattle.rules.proofs.MatchedLines.{OneIsSound, given, one-sound}
use Rattle.rules.proofs.ShapeMeanings.{class-is, select-is, join-is, has-bag}
use Rattle.rules.proofs.FormedLines.{OneIsFormed, one-formed, given-is, joined, class-stands, select-stands, join-stands, part-are, rest-are}
use Rattle.rules.proofs.PatternedLines.{OneKeepsTo, one-keeps}
use Rattle.rules.proofs.StableLines.{OneIsStable, one-stable, sides, part-apart, rest-apart}
use Rattle.rules.proofs.FormedShapes.{rest-plain}

lowered-sound : OneIsSound spec.lowered_below
lowered-sound K W (Join D a b) s stands is =
    given K W _ _ s (some-given P _ s is) (has-bag V _ _ _ (join-is V R _ _ _ _ (select-is V P _ _ (class-is V a)) (class-is V b))
    (law.conditions_go_below (holds W.rows D) (holds W.rows P) (holds W.rows R) (has (K.columns b)) (W.rows a) (W.rows b)
    (split-holds W.rows (is_apart_from K b) D) (part-ignores K b W.rows stands.classes.fits D)))
  where
    V : Classes
    V = with_rows K W.rows

    P : List Condition
    P = part (is_apart_from K b) D

    R : List Condition
    R = rest (is_apart_from K b) D
lowered-sound K W x s stands is = cc

pub condition_below_join_sound : IsSound spec.condition_below_join
condition_below_join_sound = one-sound spec.lowered_below lowered-sound

-- ---- its pattern

lowered-keeps : OneKeepsTo (Only operator.Join) spec.lowered_below
lowered-keeps K (Join D a b) other = cc
lowered-keeps K x other = refl

pub condition_below_join_keeps : KeepsTo spec.pattern spec.condition_below_join
condition_below_join_keeps = one-keeps (Only operator.Join) spec.lowered_below lowered-keeps

-- ---- what it gives is well formed

lowered-formed : OneIsFormed spec.lowered_below
lowered-formed S (Join D a b) s stands rise is =
    let j = joined S D a b stands.known stands.formed in
    let p = is_apart_from S.classes b in
    given-is S _ s _ _ (some-given (part p D) _ s is) refl
    (join-stands S (rest p D) _ _ _ _ (select-stands S (part p D) _ _ (class-stands S a j.left) (part-are S p D j.are)) (class-stands S b j.right)
    (rest-are S p D j.are) (rest-plain p D j.plain) j.apart)
lowered-formed S x s stands rise is = cc

pub condition_below_join_formed : IsFormed spec.condition_below_join
condition_below_join_formed = one-formed spec.lowered_below lowered-formed

-- ---- it depends on the classes that its lines name

lowered-stable : OneIsStable spec.lowered_below
lowered-stable p K L agree (Join D a b) known =
    let j = sides p a b D known in
    two (λ P R. wanted_some P >>= λ P. Ok (shape.Join R (shape.Select P (shape.Class a)) (shape.Class b))) (part-apart p K L agree b j.1 D j.2) (rest-apart p K L agree b j.1 D j.2)
lowered-stable p K L agree x known = refl

pub condition_below_join_stable : IsStable spec.condition_below_join
condition_below_join_stable = one-stable spec.lowered_below lowered-stable

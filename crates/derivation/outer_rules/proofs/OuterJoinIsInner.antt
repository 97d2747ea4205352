-- An outer join whose padded rows are rejected is an inner join: its laws.
use Rattle.std.proofs.Common.{◌≡◌, refl, ap, sym, ℕ, true, List, [], Result, Ok}
use Rattle.algebra.specs.declared.expr.Expr.TheVariants.{Select, LeftJoin}
use Rattle.algebra.specs.Columns.{ColumnSet, has}
use Rattle.algebra.specs.Bags.{lay, nulls}
use Rattle.algebra.specs.Conditions.{holds}
use Rattle.algebra.specs.Expressions.{Classes}
use Rattle.algebra.proofs.SameBags.{same_bag-trans, select-same}
use Rattle.props.specs.Knowledge.{with_rows}
use Rattle.props.specs.Outcomes.{never_true}
use Rattle.props.proofs.SoundOutcomes.{never_true_is_sound}
use Rattle.rules.specs.declared.shape.Shape.{Shape}
use Rattle.rules.specs.declared.shape.Shape.TheVariants as shape
use Rattle.rules.specs.declared.unfit.Unfit.{Unfit}
use Rattle.rules.specs.declared.pattern.Operator.TheVariants as operator
use Rattle.rules.specs.declared.pattern.Operators.TheVariants.{Only}
use Rattle.rules.specs.declared.unfit.Unfit.TheVariants.{Condition as FailedCondition}
use Rattle.values.specs.Faults.{wanted_if}
use Rattle.outer_rules.specs.OuterJoinIsInner as spec
use Rattle.rules.specs.Soundness.{IsSound}
use Rattle.rules.specs.Formed.{IsFormed}
use Rattle.rules.specs.Patterns.{KeepsTo}
use Rattle.rules.specs.Stability.{IsStable}
use Rattle.rules.proofs.Conditions.{if-given}
use Rattle.rules.proofs.MatchedLines.{TwoAreSound, given, two-sound}
use Rattle.rules.proofs.ShapeMeanings.{class-is, select-is, join-is, has-bag}
use Rattle.rules.proofs.FormedLines.{TwoAreFormed, two-formed, given-is, select-are, joined, class-stands, select-stands, join-stands}
use Rattle.rules.proofs.PatternedLines.{TwoKeepTo, two-keep}
use Rattle.rules.proofs.StableLines.{TwoAreStable, two-stable, sides}
use Rattle.outer_rules.proofs.OuterJoins.{padded-null, outer_joins_are_inner}

inner-sound : TwoAreSound spec.inner
inner-sound K W (Select C x) (LeftJoin D a b) s stands below is =
    given K W _ _ s rejects.1 (has-bag V _ _ _ (select-is V C _ _ (join-is V D _ _ _ _ (class-is V a) (class-is V b))) (same_bag-trans _ _ _
    (select-same (holds W.rows C) (holds W.rows C) _ _ (λ r. refl) (below.rows x [] refl))
    (outer_joins_are_inner (holds W.rows C) (holds W.rows D) B (W.rows a) (W.rows b) (λ r. never_true_is_sound C B W.rows (lay B nulls r) (padded-null B r) rejects.0))))
  where
    V : Classes
    V = with_rows K W.rows

    B : ColumnSet
    B = has (K.columns b)

    rejects : (never_true C B ≡ true) × (◌≡◌ {A = Result Shape Unfit} (Ok (shape.Select C (shape.Join D (shape.Class a) (shape.Class b)))) (Ok s))
    rejects = if-given (never_true C B) _ s is
inner-sound K W x y s stands below is = cc

pub outer_join_is_inner_sound : IsSound spec.outer_join_is_inner
outer_join_is_inner_sound = two-sound spec.inner inner-sound

-- ---- its pattern

inner-keeps : TwoKeepTo (Only operator.Select) (Only operator.LeftJoin) spec.inner
inner-keeps K (Select C x) (LeftJoin D a b) other = cc
inner-keeps K x y other = refl

pub outer_join_is_inner_keeps : KeepsTo spec.pattern spec.outer_join_is_inner
outer_join_is_inner_keeps = two-keep (Only operator.Select) (Only operator.LeftJoin) spec.inner inner-keeps

-- ---- what it gives is well formed

inner-formed : TwoAreFormed spec.inner
inner-formed S (Select C x) (LeftJoin D a b) s stands next same is =
    let i = joined S D a b next.known next.formed in
    given-is S _ s _ _ (if-given (spec.reject_nulls S.classes C b) _ s is).1 (sym (same x [] refl))
    (select-stands S C _ _ (join-stands S D _ _ _ _ (class-stands S a i.left) (class-stands S b i.right) i.are i.plain i.apart) (select-are S C x stands))
inner-formed S x y s stands next same is = cc

pub outer_join_is_inner_formed : IsFormed spec.outer_join_is_inner
outer_join_is_inner_formed = two-formed spec.inner inner-formed

-- ---- it depends on the classes that its lines name

inner-stable : TwoAreStable spec.inner
inner-stable p K L agree (Select C x) (LeftJoin D a b) known next =
    ap (λ (B : List ℕ). wanted_if FailedCondition (never_true C (has B)) (shape.Select C (shape.Join D (shape.Class a) (shape.Class b)))) (agree.columns b (sides p a b D next).1)
inner-stable p K L agree x y known next = refl

pub outer_join_is_inner_stable : IsStable spec.outer_join_is_inner
outer_join_is_inner_stable = two-stable spec.inner inner-stable

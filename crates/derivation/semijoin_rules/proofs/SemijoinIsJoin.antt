-- A semijoin that is a projection of a join: its laws.
use Rattle.std.proofs.Common.{refl, ap, ◌∙◌, ℕ, ◌||◌, List, ◌++◌}
use Rattle.std.specs.List.{list_any}
use Rattle.values.specs.Faults.{wanted_if}
use Rattle.algebra.specs.declared.expr.Expr.TheVariants.{Semi}
use Rattle.algebra.specs.Columns.{has, rising}
use Rattle.algebra.specs.Conditions.{holds}
use Rattle.algebra.specs.Expressions.{Classes}
use Rattle.algebra.proofs.Lists.{two}
use Rattle.algebra.proofs.MentionedColumns.{all_has}
use Rattle.props.specs.declared.fact.FactSets.{FactSets}
use Rattle.props.specs.Given.{are_pinned, is_single}
use Rattle.props.specs.Knowledge.{with_rows}
use Rattle.props.proofs.GivenFacts.{single}
use Rattle.rules.specs.declared.shape.Shape.TheVariants as shape
use Rattle.rules.specs.declared.pattern.Operator.TheVariants as operator
use Rattle.rules.specs.declared.pattern.Operators.TheVariants.{Only}
use Rattle.rules.specs.declared.unfit.Unfit.TheVariants.{Condition as FailedCondition}
use Rattle.rules.specs.Soundness.{IsSound}
use Rattle.rules.specs.Formed.{IsFormed}
use Rattle.rules.specs.Patterns.{KeepsTo}
use Rattle.rules.specs.Stability.{IsStable}
use Rattle.semijoin_rules.specs.SemijoinIsJoin as spec
use Rattle.rules.proofs.Conditions.{if-given}
use Rattle.rules.proofs.MatchedLines.{OneIsSound, given, one-sound}
use Rattle.rules.proofs.ShapeMeanings.{class-is, join-is, keep-is, has-bag}
use Rattle.rules.proofs.FormedLines.{OneIsFormed, one-formed, given-is, joined, class-stands, join-stands, keep-stands}
use Rattle.rules.proofs.FormedShapes.{in-first}
use Rattle.rules.proofs.PatternedLines.{OneKeepsTo, one-keeps}
use Rattle.rules.proofs.StableLines.{OneIsStable, one-stable, sides}
use Rattle.semijoin_rules.proofs.JoinedSides.{sides-apart}
use Rattle.semijoin_rules.proofs.Semijoins.{semijoins_are_joins}

joined-sound : OneIsSound spec.joined_of
joined-sound K W (Semi D a b) s stands is =
    let fit = if-given (is_single K b D) _ s is in
    given K W _ _ s fit.1 (has-bag V _ _ _ (keep-is V (K.columns a) _ _ (join-is V D _ _ _ _ (class-is V a) (class-is V b)))
    (semijoins_are_joins (holds W.rows D) (has (K.columns a)) (has (K.columns b)) (K.free a) (W.rows a) (W.rows b) (stands.classes.fits a)
    (sides-apart W.instances W.own K D a b stands.formed) (single K W.rows stands.classes b D fit.0)))
  where
    V : Classes
    V = with_rows K W.rows
joined-sound K W x s stands is = cc

pub semijoin_is_join_sound : IsSound spec.semijoin_is_join
semijoin_is_join_sound = one-sound spec.joined_of joined-sound

-- ---- its pattern

joined-keeps : OneKeepsTo (Only operator.Semi) spec.joined_of
joined-keeps K (Semi D a b) other = cc
joined-keeps K x other = refl

pub semijoin_is_join_keeps : KeepsTo spec.pattern spec.semijoin_is_join
semijoin_is_join_keeps = one-keeps (Only operator.Semi) spec.joined_of joined-keeps

-- ---- what it gives is well formed

joined-formed : OneIsFormed spec.joined_of
joined-formed S (Semi D a b) s stands rise is =
    let j = joined S D a b stands.known stands.formed in
    given-is S _ s _ _ (if-given (is_single S.classes b D) _ s is).1 refl
    (keep-stands S (B a) _ _ (join-stands S D _ _ _ _ (class-stands S a j.left) (class-stands S b j.right) j.are j.plain j.apart)
    (all_has (has (rising (B a ++ B b))) (B a) (λ k in_. in-first (B a) (B b) k in_)))
  where
    B : ℕ → List ℕ
    B = S.classes.columns
joined-formed S x s stands rise is = cc

pub semijoin_is_join_formed : IsFormed spec.semijoin_is_join
semijoin_is_join_formed = one-formed spec.joined_of joined-formed

-- ---- it depends on the classes that its lines name

joined-stable : OneIsStable spec.joined_of
joined-stable p K L agree (Semi D a b) known =
    let j = sides p a b D known in
    two (λ (B : List ℕ) (F : FactSets). wanted_if FailedCondition (list_any (are_pinned B D) F.weak_keys || list_any (are_pinned B D) F.strong_keys)
    (shape.Keep (K.columns a) (shape.Join D (shape.Class a) (shape.Class b)))) (agree.columns b j.1) (agree.facts b j.1)
    ∙ ap (λ A. wanted_if FailedCondition (is_single L b D) (shape.Keep A (shape.Join D (shape.Class a) (shape.Class b)))) (agree.columns a j.0)
joined-stable p K L agree x known = refl

pub semijoin_is_join_stable : IsStable spec.semijoin_is_join
semijoin_is_join_stable = one-stable spec.joined_of joined-stable

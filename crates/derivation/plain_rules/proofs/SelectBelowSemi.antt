-- Pushdown below semijoins and antijoins: its laws.
use Rattle.std.proofs.Common.{refl, ◌&&◌, [], sym, ◌++◌}
use Rattle.algebra.specs.declared.expr.Expr.TheVariants.{Select, Semi, Anti}
use Rattle.algebra.specs.Columns.{has}
use Rattle.algebra.specs.Conditions.{holds, allows}
use Rattle.algebra.specs.Expressions.{Classes}
use Rattle.algebra.proofs.SameBags.{same_bag-trans, select-same}
use Rattle.laws.proofs.Rewrites as law
use Rattle.props.specs.Knowledge.{with_rows}
use Rattle.rules.specs.declared.pattern.Operator.TheVariants as operator
use Rattle.rules.specs.declared.pattern.Operators.TheVariants.{Only, Either}
use Rattle.plain_rules.specs.SelectBelowSemi as spec
use Rattle.rules.specs.Soundness.{IsSound}
use Rattle.rules.specs.Formed.{IsFormed}
use Rattle.rules.specs.Patterns.{KeepsTo}
use Rattle.rules.specs.Stability.{IsStable}
use Rattle.rules.proofs.MatchedLines.{TwoAreSound, given, two-sound}
use Rattle.rules.proofs.ShapeMeanings.{class-is, select-is, semi-is, anti-is, has-bag}
use Rattle.rules.proofs.FormedLines.{TwoAreFormed, two-formed, given-is, select-are, joined, class-stands, select-stands, anti-stands, semi-stands}
use Rattle.rules.proofs.PatternedLines.{TwoKeepTo, two-keep}
use Rattle.rules.proofs.StableLines.{TwoAreStable, two-stable}

below-sound : TwoAreSound spec.below_semi
below-sound K W (Select C x) (Semi D a b) s stands below is =
    given K W _ _ s is (has-bag V _ _ _ (semi-is V D _ _ _ _ (select-is V C _ _ (class-is V a)) (class-is V b)) (same_bag-trans _ _ _
    (select-same (holds W.rows C) (holds W.rows C) _ _ (λ r. refl) (below.rows x [] refl))
    (law.selects_go_below_semi (holds W.rows C) (holds W.rows D) (has (K.columns b)) (W.rows a) (W.rows b))))
  where
    V : Classes
    V = with_rows K W.rows
below-sound K W (Select C x) (Anti S M a b) s stands below is =
    given K W _ _ s is (has-bag V _ _ _ (anti-is V S M _ _ _ _ (select-is V C _ _ (class-is V a)) (class-is V b)) (same_bag-trans _ _ _
    (select-same (holds W.rows C) (holds W.rows C) _ _ (λ r. refl) (below.rows x [] refl))
    (law.selects_go_below_anti (holds W.rows C) (λ r. holds W.rows S r && allows W.rows M r) (has (K.columns b)) (W.rows a) (W.rows b))))
  where
    V : Classes
    V = with_rows K W.rows
below-sound K W x y s stands below is = cc

pub select_below_semi_sound : IsSound spec.select_below_semi
select_below_semi_sound = two-sound spec.below_semi below-sound

-- ---- its pattern

below-keeps : TwoKeepTo (Only operator.Select) (Either operator.Semi operator.Anti) spec.below_semi
below-keeps K (Select C x) (Semi D a b) other = cc
below-keeps K (Select C x) (Anti N M a b) other = cc
below-keeps K x y other = refl

pub select_below_semi_keeps : KeepsTo spec.pattern spec.select_below_semi
select_below_semi_keeps = two-keep (Only operator.Select) (Either operator.Semi operator.Anti) spec.below_semi below-keeps

-- ---- what it gives is well formed

below-formed : TwoAreFormed spec.below_semi
below-formed S (Select C x) (Semi D a b) s stands next same is =
    let i = joined S D a b next.known next.formed in
    given-is S _ s _ _ is (sym (same x [] refl))
    (semi-stands S D _ _ _ _ (select-stands S C _ _ (class-stands S a i.left) (select-are S C x stands)) (class-stands S b i.right) i.are i.plain i.apart)
below-formed S (Select C x) (Anti N M a b) s stands next same is =
    let i = joined S (N ++ M) a b next.known next.formed in
    given-is S _ s _ _ is (sym (same x [] refl))
    (anti-stands S N M _ _ _ _ (select-stands S C _ _ (class-stands S a i.left) (select-are S C x stands)) (class-stands S b i.right) i.are i.plain i.apart)
below-formed S x y s stands next same is = cc

pub select_below_semi_formed : IsFormed spec.select_below_semi
select_below_semi_formed = two-formed spec.below_semi below-formed

-- ---- it depends on the classes that its lines name

below-stable : TwoAreStable spec.below_semi
below-stable p K L agree (Select C x) (Semi D a b) known next = refl
below-stable p K L agree (Select C x) (Anti N M a b) known next = refl
below-stable p K L agree x y known next = refl

pub select_below_semi_stable : IsStable spec.select_below_semi
select_below_semi_stable = two-stable spec.below_semi below-stable

-- On the right side of a join two selections are one: its laws.
use Rattle.std.proofs.Common.{◌≡◌, refl, ap, sym, ◌∙◌, subst, ◌++◌}
use Rattle.algebra.specs.declared.expr.Expr.TheVariants.{Select, Join}
use Rattle.algebra.specs.Bags.{SameBag, join, select}
use Rattle.algebra.specs.Columns.{has, rising}
use Rattle.algebra.specs.Conditions.{holds}
use Rattle.algebra.specs.ConjunctParts.{union}
use Rattle.algebra.specs.Expressions.{Classes}
use Rattle.algebra.proofs.ConjunctSplits.{union_holds}
use Rattle.algebra.proofs.SameBags.{same_bag-trans, join-same, select-same}
use Rattle.laws.proofs.Rewrites as law
use Rattle.props.specs.Knowledge.{with_rows}
use Rattle.rules.specs.declared.pattern.Input.TheVariants.{First, Second}
use Rattle.rules.specs.declared.pattern.Operator.TheVariants as operator
use Rattle.rules.specs.declared.pattern.Operators.TheVariants.{Only}
use Rattle.rules.specs.Soundness.{IsSound}
use Rattle.rules.specs.Formed.{IsFormed}
use Rattle.rules.specs.Patterns.{KeepsTo}
use Rattle.rules.specs.Stability.{IsStable}
use Rattle.rules.proofs.FormedBindings.{ThreeOverAreFormed, three_over-formed}
use Rattle.rules.proofs.FormedLines.{given-is, first-founded, select-are, joined, class-stands, select-stands, join-stands, union-are}
use Rattle.rules.proofs.FormedShapes.{AreApart}
use Rattle.rules.proofs.MatchedLines.{given}
use Rattle.rules.proofs.PatternedBindings.{ThreeOverKeepTo, three_over-keep}
use Rattle.rules.proofs.ShapeMeanings.{class-is, select-is, join-is, has-bag}
use Rattle.rules.proofs.SoundBindings.{ThreeOverAreSound, three_over-sound}
use Rattle.rules.proofs.StableBindings.{ThreeOverAreStable, three_over-stable}
use Rattle.pattern_rules.specs.RightSelectsMerge as spec

merged-sound : ThreeOverAreSound Second First spec.merged
merged-sound K W (Join E a b) (Select C x) (Select D y) s stands below lower is =
    given K W _ _ s is (has-bag V _ _ _ (join-is V E _ _ _ _ (class-is V a) (select-is V (union C D) _ _ (class-is V y)))
    (subst (λ B. SameBag (join (holds W.rows E) (has (K.columns b)) (W.rows a) (W.rows b)) (join (holds W.rows E) (has B) (W.rows a) (select (holds W.rows (union C D)) (W.rows y))))
    (below.columns b refl ∙ lower.columns x refl)
    (join-same (holds W.rows E) (holds W.rows E) (has (K.columns b)) _ _ _ _ (λ r. refl) (λ e f. refl) (same_bag-trans _ _ _ (below.rows b refl) (same_bag-trans _ _ _
    (select-same (holds W.rows C) (holds W.rows C) _ _ (λ r. refl) (lower.rows x refl))
    (law.selects_merge (holds W.rows C) (holds W.rows D) (holds W.rows (union C D)) (W.rows y) (union_holds W.rows C D)))))))
  where
    V : Classes
    V = with_rows K W.rows
merged-sound K W x y z s stands below lower is = cc

pub right_selects_merge_sound : IsSound spec.right_selects_merge
right_selects_merge_sound = three_over-sound Second First spec.merged merged-sound

-- ---- its pattern

merged-keeps : ThreeOverKeepTo (Only operator.Join) (Only operator.Select) (Only operator.Select) spec.merged
merged-keeps K (Join E a b) (Select C x) (Select D y) other = cc
merged-keeps K x y z other = refl

pub right_selects_merge_keeps : KeepsTo spec.pattern spec.right_selects_merge
right_selects_merge_keeps = three_over-keep Second First (Only operator.Join) (Only operator.Select) (Only operator.Select) spec.merged merged-keeps

-- ---- what it gives is well formed

merged-formed : ThreeOverAreFormed Second First spec.merged
merged-formed S (Join E a b) (Select C x) (Select D y) s stands below lower is =
    let i = joined S E a b stands.known stands.formed in
    let same : S.classes.columns b ≡ S.classes.columns y = below.columns b refl ∙ lower.columns x refl in
    given-is S _ s _ _ is (ap (λ B. rising (S.classes.columns a ++ B)) (sym same))
    (join-stands S E _ _ _ _ (class-stands S a i.left)
    (select-stands S (union C D) _ _ (class-stands S y (first-founded S y _ lower.stands.known)) (union-are S C D (select-are S C x below.stands) (select-are S D y lower.stands)))
    i.are i.plain (subst (AreApart (S.classes.columns a)) same i.apart))
merged-formed S x y z s stands below lower is = cc

pub right_selects_merge_formed : IsFormed spec.right_selects_merge
right_selects_merge_formed = three_over-formed Second First spec.merged merged-formed

-- ---- it depends on the classes that its lines name

merged-stable : ThreeOverAreStable spec.merged
merged-stable p K L agree (Join E a b) (Select C x) (Select D y) known next last = refl
merged-stable p K L agree x y z known next last = refl

pub right_selects_merge_stable : IsStable spec.right_selects_merge
right_selects_merge_stable = three_over-stable Second First spec.merged merged-stable

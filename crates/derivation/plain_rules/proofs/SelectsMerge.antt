-- Two selections are one: its laws.
use Rattle.std.proofs.Common.{refl, [], sym}
use Rattle.algebra.specs.declared.expr.Expr.TheVariants.{Select}
use Rattle.algebra.specs.Conditions.{holds}
use Rattle.algebra.specs.ConjunctParts.{union}
use Rattle.algebra.proofs.ConjunctSplits.{union_holds}
use Rattle.algebra.proofs.SameBags.{same_bag-trans, select-same}
use Rattle.laws.proofs.Rewrites as law
use Rattle.props.specs.Knowledge.{with_rows}
use Rattle.rules.specs.declared.pattern.Operator.TheVariants as operator
use Rattle.rules.specs.declared.pattern.Operators.TheVariants.{Only}
use Rattle.plain_rules.specs.SelectsMerge as spec
use Rattle.rules.specs.Soundness.{IsSound}
use Rattle.rules.specs.Formed.{IsFormed}
use Rattle.rules.specs.Patterns.{KeepsTo}
use Rattle.rules.specs.Stability.{IsStable}
use Rattle.rules.proofs.MatchedLines.{TwoAreSound, given, two-sound}
use Rattle.rules.proofs.ShapeMeanings.{class-is, select-is, has-bag}
use Rattle.rules.proofs.FormedLines.{TwoAreFormed, two-formed, given-is, first-founded, select-are, class-stands, select-stands, union-are}
use Rattle.rules.proofs.PatternedLines.{TwoKeepTo, two-keep}
use Rattle.rules.proofs.StableLines.{TwoAreStable, two-stable}

merged-sound : TwoAreSound spec.merged
merged-sound K W (Select C x) (Select D y) s stands below is =
    given K W _ _ s is (has-bag (with_rows K W.rows) _ _ _ (select-is _ (union C D) _ _ (class-is _ y)) (same_bag-trans _ _ _
    (select-same (holds W.rows C) (holds W.rows C) _ _ (λ r. refl) (below.rows x [] refl))
    (law.selects_merge (holds W.rows C) (holds W.rows D) (holds W.rows (union C D)) (W.rows y) (union_holds W.rows C D))))
merged-sound K W x y s stands below is = cc

pub selects_merge_sound : IsSound spec.selects_merge
selects_merge_sound = two-sound spec.merged merged-sound

-- ---- its pattern

merged-keeps : TwoKeepTo (Only operator.Select) (Only operator.Select) spec.merged
merged-keeps K (Select C x) (Select D y) other = cc
merged-keeps K x y other = refl

pub selects_merge_keeps : KeepsTo spec.pattern spec.selects_merge
selects_merge_keeps = two-keep (Only operator.Select) (Only operator.Select) spec.merged merged-keeps

-- ---- what it gives is well formed

merged-formed : TwoAreFormed spec.merged
merged-formed S (Select C x) (Select D y) s stands next same is =
    given-is S _ s _ _ is (sym (same x [] refl))
    (select-stands S (union C D) _ _ (class-stands S y (first-founded S y _ next.known)) (union-are S C D (select-are S C x stands) (select-are S D y next)))
merged-formed S x y s stands next same is = cc

pub selects_merge_formed : IsFormed spec.selects_merge
selects_merge_formed = two-formed spec.merged merged-formed

-- ---- it depends on the classes that its lines name

merged-stable : TwoAreStable spec.merged
merged-stable p K L agree (Select C x) (Select D y) known next = refl
merged-stable p K L agree x y known next = refl

pub selects_merge_stable : IsStable spec.selects_merge
selects_merge_stable = two-stable spec.merged merged-stable

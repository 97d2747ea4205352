-- Two projections are one: its laws.
use Rattle.std.proofs.Common.{◌≡◌, refl, ap, sym, ◌∙◌, true, []}
use Rattle.algebra.specs.declared.expr.Expr.TheVariants.{Keep}
use Rattle.algebra.specs.Columns.{has, is_subset}
use Rattle.algebra.proofs.SameBags.{same_bag-trans, keep-same}
use Rattle.laws.proofs.Rewrites as law
use Rattle.laws.proofs.Overlays.{in_subset}
use Rattle.props.specs.Knowledge.{with_rows}
use Rattle.rules.specs.declared.pattern.Operator.TheVariants as operator
use Rattle.rules.specs.declared.pattern.Operators.TheVariants.{Only}
use Rattle.plain_rules.specs.KeepsMerge as spec
use Rattle.rules.specs.Soundness.{IsSound}
use Rattle.rules.specs.Formed.{IsFormed}
use Rattle.rules.specs.Patterns.{KeepsTo}
use Rattle.rules.specs.Stability.{IsStable}
use Rattle.rules.proofs.MatchedLines.{TwoAreSound, given, two-sound}
use Rattle.rules.proofs.ShapeMeanings.{class-is, keep-is, has-bag}
use Rattle.rules.proofs.FormedLines.{TwoAreFormed, two-formed, given-is, first-founded, class-stands, keep-stands}
use Rattle.rules.proofs.PatternedLines.{TwoKeepTo, two-keep}
use Rattle.rules.proofs.StableLines.{TwoAreStable, two-stable}
use Rattle.rules.proofs.FormedShapes.{subset-along}

merged-sound : TwoAreSound spec.merged
merged-sound K W (Keep L x) (Keep N y) s stands below is =
    let within : is_subset L (K.columns x) ≡ true = stands.formed in
    let there : is_subset L N ≡ true = sym (ap (is_subset L) (below.columns x [] refl)) ∙ within in
    given K W _ _ s is (has-bag (with_rows K W.rows) _ _ _ (keep-is _ L _ _ (class-is _ y)) (same_bag-trans _ _ _
    (keep-same (has L) _ _ (below.rows x [] refl))
    (law.keeps_merge (has L) (has N) (W.rows y) (in_subset L N there))))
merged-sound K W x y s stands below is = cc

pub keeps_merge_sound : IsSound spec.keeps_merge
keeps_merge_sound = two-sound spec.merged merged-sound

-- ---- its pattern

merged-keeps : TwoKeepTo (Only operator.Keep) (Only operator.Keep) spec.merged
merged-keeps K (Keep L x) (Keep N y) other = cc
merged-keeps K x y other = refl

pub keeps_merge_keeps : KeepsTo spec.pattern spec.keeps_merge
keeps_merge_keeps = two-keep (Only operator.Keep) (Only operator.Keep) spec.merged merged-keeps

-- ---- what it gives is well formed

merged-formed : TwoAreFormed spec.merged
merged-formed S (Keep L x) (Keep N y) s stands next same is =
    given-is S _ s _ _ is refl (keep-stands S L _ _ (class-stands S y (first-founded S y _ next.known))
    (subset-along L N (S.classes.columns y) (sym (ap (is_subset L) (same x [] refl)) ∙ stands.formed) next.formed))
merged-formed S x y s stands next same is = cc

pub keeps_merge_formed : IsFormed spec.keeps_merge
keeps_merge_formed = two-formed spec.merged merged-formed

-- ---- it depends on the classes that its lines name

merged-stable : TwoAreStable spec.merged
merged-stable p K L agree (Keep N x) (Keep J y) known next = refl
merged-stable p K L agree x y known next = refl

pub keeps_merge_stable : IsStable spec.keeps_merge
keeps_merge_stable = two-stable spec.merged merged-stable

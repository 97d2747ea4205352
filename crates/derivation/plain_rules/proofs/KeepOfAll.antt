-- A projection to all columns changes nothing: its laws.
use Rattle.std.proofs.Common.{◌≡◌, subst, ℕ, refl, ap, sym, true}
use Rattle.std.specs.Cmp.{both_ways}
use Rattle.std.proofs.lemmas.Bool.{and_parts}
use Rattle.values.specs.Faults.{wanted_if}
use Rattle.algebra.specs.declared.expr.Expr.TheVariants.{Keep}
use Rattle.algebra.specs.Columns.{has, is_subset, is_same_set}
use Rattle.laws.specs.Fitting.{Fits}
use Rattle.laws.proofs.Rewrites as law
use Rattle.laws.proofs.Overlays.{in_subset}
use Rattle.props.specs.Knowledge.{with_rows}
use Rattle.rules.specs.declared.shape.Shape.TheVariants as shape
use Rattle.rules.specs.declared.pattern.Operator.TheVariants as operator
use Rattle.rules.specs.declared.pattern.Operators.TheVariants.{Only}
use Rattle.rules.specs.declared.unfit.Unfit.TheVariants.{Condition as FailedCondition}
use Rattle.plain_rules.specs.KeepOfAll as spec
use Rattle.rules.specs.Soundness.{IsSound}
use Rattle.rules.specs.Formed.{IsFormed}
use Rattle.rules.specs.Patterns.{KeepsTo}
use Rattle.rules.specs.Stability.{IsStable}
use Rattle.rules.proofs.Conditions.{if-given}
use Rattle.rules.proofs.MatchedLines.{OneIsSound, given, one-sound}
use Rattle.rules.proofs.ShapeMeanings.{class-is, has-bag}
use Rattle.rules.proofs.FormedLines.{OneIsFormed, one-formed, given-is, first-founded, class-stands}
use Rattle.rules.proofs.PatternedLines.{OneKeepsTo, one-keeps}
use Rattle.rules.proofs.StableLines.{OneIsStable, one-stable, first-passes}
use Rattle.rules.proofs.FormedShapes.{same-increasing}

dropped-sound : OneIsSound spec.dropped
dropped-sound K W (Keep L x) s stands is =
    let all = if-given (is_same_set L (K.columns x)) _ s is in
    let parts = and_parts (is_subset L (K.columns x)) (is_subset (K.columns x) L) all.0 in
    let one : (c : ℕ) → has (K.columns x) c ≡ has L c = λ c. both_ways _ _ (in_subset (K.columns x) L parts.1 c) (in_subset L (K.columns x) parts.0 c) in
    given K W _ _ s all.1 (has-bag (with_rows K W.rows) _ _ _ (class-is _ x)
    (law.keep_of_all (has L) (K.free x) (W.rows x) (subst (λ B. Fits B (K.free x) (W.rows x)) (λ i c. one c i) (stands.classes.fits x))))
dropped-sound K W x s stands is = cc

pub keep_of_all_sound : IsSound spec.keep_of_all
keep_of_all_sound = one-sound spec.dropped dropped-sound

-- ---- its pattern

dropped-keeps : OneKeepsTo (Only operator.Keep) spec.dropped
dropped-keeps K (Keep L x) other = cc
dropped-keeps K x other = refl

pub keep_of_all_keeps : KeepsTo spec.pattern spec.keep_of_all
keep_of_all_keeps = one-keeps (Only operator.Keep) spec.dropped dropped-keeps

-- ---- what it gives is well formed

dropped-formed : OneIsFormed spec.dropped
dropped-formed S (Keep L x) s stands rise is =
    let it = if-given (is_same_set L (S.classes.columns x)) _ s is in
    given-is S _ s _ _ it.1 (sym (same-increasing L (S.classes.columns x) rise.0 rise.1 it.0)) (class-stands S x (first-founded S x true stands.known))
dropped-formed S x s stands rise is = cc

pub keep_of_all_formed : IsFormed spec.keep_of_all
keep_of_all_formed = one-formed spec.dropped dropped-formed

-- ---- it depends on the classes that its lines name

dropped-stable : OneIsStable spec.dropped
dropped-stable p K L agree (Keep N x) known = ap (λ M. wanted_if FailedCondition (is_same_set N M) (shape.Class x)) (agree.columns x (first-passes p x true known))
dropped-stable p K L agree x known = refl

pub keep_of_all_stable : IsStable spec.keep_of_all
keep_of_all_stable = one-stable spec.dropped dropped-stable

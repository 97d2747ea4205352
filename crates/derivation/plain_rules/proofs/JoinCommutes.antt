-- Join commutativity: its laws.
use Rattle.std.proofs.Common.{refl}
use Rattle.std.proofs.lemmas.Bool.{and_parts}
use Rattle.algebra.specs.declared.expr.Expr.TheVariants.{Join}
use Rattle.algebra.specs.Columns.{has, are_disjoint}
use Rattle.algebra.specs.Conditions.{holds}
use Rattle.algebra.specs.Expressions.{names_own, is_plain, sides_formed}
use Rattle.laws.proofs.Rewrites as law
use Rattle.props.specs.Knowledge.{with_rows}
use Rattle.rules.specs.declared.pattern.Operator.TheVariants as operator
use Rattle.rules.specs.declared.pattern.Operators.TheVariants.{Only}
use Rattle.plain_rules.specs.JoinCommutes as spec
use Rattle.rules.specs.Soundness.{IsSound}
use Rattle.rules.specs.Patterns.{KeepsTo}
use Rattle.rules.specs.Formed.{IsFormed}
use Rattle.rules.specs.Stability.{IsStable}
use Rattle.rules.proofs.Conditions.{disjoint-apart}
use Rattle.rules.proofs.MatchedLines.{OneIsSound, given, one-sound}
use Rattle.rules.proofs.PatternedLines.{OneKeepsTo, one-keeps}
use Rattle.rules.proofs.ShapeMeanings.{class-is, join-is, has-bag}
use Rattle.rules.proofs.FormedLines.{OneIsFormed, one-formed, given-is, joined, class-stands, join-stands}
use Rattle.rules.proofs.StableLines.{OneIsStable, one-stable}
use Rattle.rules.proofs.FormedShapes.{apart-turned, rising-turned}

turned-sound : OneIsSound (λ K. spec.turned)
turned-sound K W (Join C a b) s stands is =
    let parts = and_parts (names_own W.instances W.own C) (sides_formed C (K.columns a) (K.columns b)) stands.formed in
    let sides = and_parts (is_plain C) (are_disjoint (K.columns a) (K.columns b)) parts.1 in
    given K W _ _ s is (has-bag (with_rows K W.rows) _ _ _ (join-is _ C _ _ _ _ (class-is _ b) (class-is _ a))
    (law.joins_commute (holds W.rows C) (has (K.columns a)) (has (K.columns b)) (K.free a) (K.free b) (W.rows a) (W.rows b) (stands.classes.fits a) (stands.classes.fits b) (disjoint-apart _ _ sides.1)))
turned-sound K W x s stands is = cc

pub join_commutes_sound : IsSound spec.join_commutes
join_commutes_sound = one-sound (λ K. spec.turned) turned-sound

-- ---- its pattern

turned-keeps : OneKeepsTo (Only operator.Join) (λ K. spec.turned)
turned-keeps K (Join C a b) other = cc
turned-keeps K x other = refl

pub join_commutes_keeps : KeepsTo spec.pattern spec.join_commutes
join_commutes_keeps = one-keeps (Only operator.Join) (λ K. spec.turned) turned-keeps

-- ---- what it gives is well formed

turned-formed : OneIsFormed (λ K. spec.turned)
turned-formed S (Join C a b) s stands rise is =
    let j = joined S C a b stands.known stands.formed in
    given-is S _ s _ _ is (rising-turned (S.classes.columns b) (S.classes.columns a))
    (join-stands S C _ _ _ _ (class-stands S b j.right) (class-stands S a j.left) j.are j.plain (apart-turned _ _ j.apart))
turned-formed S x s stands rise is = cc

pub join_commutes_formed : IsFormed spec.join_commutes
join_commutes_formed = one-formed (λ K. spec.turned) turned-formed

-- ---- it depends on the classes that its lines name

turned-stable : OneIsStable (λ K. spec.turned)
turned-stable p K L agree x known = refl

pub join_commutes_stable : IsStable spec.join_commutes
join_commutes_stable = one-stable (λ K. spec.turned) turned-stable

-- GROUP BY without aggregates: its laws.
use Rattle.std.proofs.Common.{[], ◌∷◌, refl, ap, sym, ◌∙◌, true, append-nil}
use Rattle.std.proofs.lemmas.Bool.{and_parts}
use Rattle.algebra.specs.declared.expr.Expr.TheVariants.{Group}
use Rattle.algebra.specs.Columns.{rising}
use Rattle.algebra.proofs.Sets.{rising-again}
use Rattle.laws.proofs.DistinctRows as distinct_law
use Rattle.props.specs.Knowledge.{with_rows}
use Rattle.rules.specs.declared.pattern.Operator.TheVariants as operator
use Rattle.rules.specs.declared.pattern.Operators.TheVariants.{Only}
use Rattle.plain_rules.specs.GroupIsDistinct as spec
use Rattle.rules.specs.Soundness.{IsSound}
use Rattle.rules.specs.Formed.{IsFormed}
use Rattle.rules.specs.Patterns.{KeepsTo}
use Rattle.rules.specs.Stability.{IsStable}
use Rattle.rules.proofs.MatchedLines.{OneIsSound, given, one-sound}
use Rattle.rules.proofs.ShapeMeanings.{class-is, keep-is, distinct-is, has-bag}
use Rattle.rules.proofs.FormedLines.{OneIsFormed, one-formed, given-is, first-founded, class-stands, keep-stands, distinct-stands}
use Rattle.rules.proofs.PatternedLines.{OneKeepsTo, one-keeps}
use Rattle.rules.proofs.StableLines.{OneIsStable, one-stable}

groups-sound : OneIsSound spec.as_distinct
groups-sound K W (Group (k ∷ L) [] x) s stands is =
    given K W _ _ s is (has-bag (with_rows K W.rows) _ _ _ (distinct-is _ _ _ (keep-is _ (k ∷ L) _ _ (class-is _ x))) (distinct_law.groups_are_distinct k L (W.rows x)))
groups-sound K W (Group [] [] x) s stands is = cc
groups-sound K W (Group L (a ∷ G) x) s stands is = cc
groups-sound K W x s stands is = cc

pub group_is_distinct_sound : IsSound spec.group_is_distinct
group_is_distinct_sound = one-sound spec.as_distinct groups-sound

-- ---- its pattern

groups-keeps : OneKeepsTo (Only operator.Group) spec.as_distinct
groups-keeps K (Group L G x) other = cc
groups-keeps K x other = refl

pub group_is_distinct_keeps : KeepsTo spec.pattern spec.group_is_distinct
group_is_distinct_keeps = one-keeps (Only operator.Group) spec.as_distinct groups-keeps

-- ---- what it gives is well formed

groups-formed : OneIsFormed spec.as_distinct
groups-formed S (Group (k ∷ L) [] x) s stands rise is =
    given-is S _ s _ _ is (sym (ap rising (append-nil (k ∷ L)) ∙ rising-again (k ∷ L) rise))
    (distinct-stands S _ _ (keep-stands S (k ∷ L) _ _ (class-stands S x (first-founded S x true stands.known)) (and_parts _ _ (and_parts _ _ stands.formed).0).0))
groups-formed S (Group [] [] x) s stands rise is = cc
groups-formed S (Group L (a ∷ G) x) s stands rise is = cc
groups-formed S x s stands rise is = cc

pub group_is_distinct_formed : IsFormed spec.group_is_distinct
group_is_distinct_formed = one-formed spec.as_distinct groups-formed

-- ---- it depends on the classes that its lines name

groups-stable : OneIsStable spec.as_distinct
groups-stable p K L agree (Group N [] x) known = refl
groups-stable p K L agree x known = refl

pub group_is_distinct_stable : IsStable spec.group_is_distinct
group_is_distinct_stable = one-stable spec.as_distinct groups-stable

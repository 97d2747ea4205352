-- A selection goes into a join's condition: its laws.
use Rattle.std.proofs.Common.{refl, List, [], sym, false}
use Rattle.algebra.specs.declared.expr.Expr.TheVariants.{Select, Join}
use Rattle.algebra.specs.declared.condition.Condition.{Condition}
use Rattle.algebra.specs.Columns.{has}
use Rattle.algebra.specs.Conditions.{holds}
use Rattle.algebra.specs.Expressions.{Classes}
use Rattle.algebra.specs.ConjunctParts.{union, part, rest, has_no_class}
use Rattle.algebra.proofs.ConjunctSplits.{union_holds}
use Rattle.algebra.proofs.SameBags.{same_bag-trans, select-same}
use Rattle.laws.proofs.Rewrites as law
use Rattle.laws.proofs.Ignored.{part-passes}
use Rattle.props.specs.Knowledge.{with_rows}
use Rattle.rules.specs.declared.pattern.Operator.TheVariants as operator
use Rattle.rules.specs.declared.pattern.Operators.TheVariants.{Only}
use Rattle.plain_rules.specs.SelectIntoJoin as spec
use Rattle.rules.specs.Soundness.{IsSound}
use Rattle.rules.specs.Formed.{IsFormed}
use Rattle.rules.specs.Patterns.{KeepsTo}
use Rattle.rules.specs.Stability.{IsStable}
use Rattle.rules.proofs.Conditions.{split-holds, some-given}
use Rattle.rules.proofs.MatchedLines.{TwoAreSound, given, two-sound}
use Rattle.rules.proofs.ShapeMeanings.{class-is, join-is, selected-same}
use Rattle.rules.proofs.FormedLines.{TwoAreFormed, two-formed, given-is, select-are, joined, class-stands, selected-stands, join-stands, part-are, rest-are, union-are}
use Rattle.rules.proofs.PatternedLines.{TwoKeepTo, two-keep}
use Rattle.rules.proofs.StableLines.{TwoAreStable, two-stable}
use Rattle.rules.proofs.FormedShapes.{classes-union}

into-sound : TwoAreSound spec.into_join
into-sound K W (Select C x) (Join D a b) s stands below is =
    given K W _ _ s (some-given P _ s is) (same_bag-trans _ _ _
    (select-same (holds W.rows C) (holds W.rows C) _ _ (λ r. refl) (below.rows x [] refl)) (same_bag-trans _ _ _
    (law.selects_go_in (holds W.rows C) (holds W.rows D) (holds W.rows (union D P)) (holds W.rows P) (holds W.rows R) (has (K.columns b)) (W.rows a) (W.rows b)
    (split-holds W.rows has_no_class C) (union_holds W.rows D P))
    (selected-same V R _ _ (join-is V (union D P) _ _ _ _ (class-is V a) (class-is V b)))))
  where
    V : Classes
    V = with_rows K W.rows

    P : List Condition
    P = part has_no_class C

    R : List Condition
    R = rest has_no_class C
into-sound K W x y s stands below is = cc

pub select_into_join_sound : IsSound spec.select_into_join
select_into_join_sound = two-sound spec.into_join into-sound

-- ---- its pattern

into-keeps : TwoKeepTo (Only operator.Select) (Only operator.Join) spec.into_join
into-keeps K (Select C x) (Join D a b) other = cc
into-keeps K x y other = refl

pub select_into_join_keeps : KeepsTo spec.pattern spec.select_into_join
select_into_join_keeps = two-keep (Only operator.Select) (Only operator.Join) spec.into_join into-keeps

-- ---- what it gives is well formed

into-formed : TwoAreFormed spec.into_join
into-formed S (Select C x) (Join D a b) s stands next same is =
    let i = joined S D a b next.known next.formed in
    let are = select-are S C x stands in
    given-is S _ s _ _ (some-given (part has_no_class C) _ s is) (sym (same x [] refl)) (selected-stands S (rest has_no_class C) _ _
    (join-stands S (union D (part has_no_class C)) _ _ _ _ (class-stands S a i.left) (class-stands S b i.right) (union-are S D (part has_no_class C) i.are (part-are S has_no_class C are))
    (classes-union (λ g. false) D (part has_no_class C) i.plain (part-passes has_no_class C)) i.apart) (rest-are S has_no_class C are))
into-formed S x y s stands next same is = cc

pub select_into_join_formed : IsFormed spec.select_into_join
select_into_join_formed = two-formed spec.into_join into-formed

-- ---- it depends on the classes that its lines name

into-stable : TwoAreStable spec.into_join
into-stable p K L agree (Select C x) (Join D a b) known next = refl
into-stable p K L agree x y known next = refl

pub select_into_join_stable : IsStable spec.select_into_join
select_into_join_stable = two-stable spec.into_join into-stable

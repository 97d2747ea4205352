-- An outer join that goes below an inner join: its laws.
use Rattle.std.proofs.Common.{◌≡◌, refl, ap, sym, ◌∙◌, subst, ℕ, true, ◌&&◌, List, [], ◌∷◌, ◌++◌}
use Rattle.std.specs.List.{list_all}
use Rattle.std.proofs.lemmas.Bool.{and_parts}
use Rattle.values.specs.Faults.{wanted_if}
use Rattle.algebra.specs.declared.expr.Expr.TheVariants.{Join, LeftJoin}
use Rattle.algebra.specs.Columns.{has, rising}
use Rattle.algebra.specs.Conditions.{holds}
use Rattle.algebra.specs.Expressions.{Classes}
use Rattle.algebra.proofs.Lists.{two}
use Rattle.algebra.proofs.SameBags.{same_bag-trans, left_join-same}
use Rattle.props.specs.Knowledge.{with_rows}
use Rattle.rules.specs.declared.shape.Shape.TheVariants as shape
use Rattle.rules.specs.declared.pattern.Operator.TheVariants as operator
use Rattle.rules.specs.declared.pattern.Operators.TheVariants.{Only}
use Rattle.rules.specs.declared.unfit.Unfit.TheVariants.{Condition as FailedCondition}
use Rattle.rules.specs.Conjuncts.{is_apart_from}
use Rattle.rules.specs.Soundness.{IsSound}
use Rattle.rules.specs.Formed.{IsFormed}
use Rattle.rules.specs.Patterns.{KeepsTo}
use Rattle.rules.specs.Stability.{IsStable}
use Rattle.outer_rules.specs.LeftJoinBelowJoin as spec
use Rattle.rules.proofs.Conditions.{apart-ignores, if-given}
use Rattle.rules.proofs.MatchedLines.{TwoAreSound, given, two-sound}
use Rattle.rules.proofs.ShapeMeanings.{class-is, join-is, left_join-is, has-bag}
use Rattle.rules.proofs.FormedLines.{TwoAreFormed, two-formed, given-is, joined, class-stands, join-stands, left_join-stands, Joined}
use Rattle.rules.proofs.FormedShapes.{AreApart, apart-both, apart-turned, apart-of_first, apart-of_second}
use Rattle.rules.proofs.PatternedLines.{TwoKeepTo, two-keep}
use Rattle.rules.proofs.StableLines.{TwoAreStable, two-stable, sides, all-same, apart-same}
use Rattle.outer_rules.proofs.OuterJoins.{left_joins_go_below_joins}
use Rattle.outer_rules.proofs.JoinedSides.{right-sides, rising-swapped}

lowered-sound : TwoAreSound spec.lowered_below
lowered-sound K W (LeftJoin D x z) (Join C a b) s stands below is =
    let fit = if-given (spec.change_places K C D b z) _ s is in
    let parts = and_parts (list_all (is_apart_from K b) D) (list_all (is_apart_from K z) C) fit.0 in
    given K W _ _ s fit.1 (has-bag V _ _ _ (join-is V C _ _ _ _ (left_join-is V D _ _ _ _ (class-is V a) (class-is V z)) (class-is V b)) (same_bag-trans _ _ _
    (left_join-same (holds W.rows D) (holds W.rows D) (has (K.columns z)) _ _ (W.rows z) (W.rows z) (λ r. refl) (below.rows x (z ∷ []) refl) (λ e f. refl))
    (left_joins_go_below_joins (holds W.rows C) (holds W.rows D) (has (K.columns b)) (has (K.columns z)) (W.rows a) (W.rows b) (W.rows z)
    (right-sides W.instances W.own K D x z a b stands.formed (below.columns x (z ∷ []) refl))
    (apart-ignores K b W.rows stands.classes.fits D parts.0) (apart-ignores K z W.rows stands.classes.fits C parts.1))))
  where
    V : Classes
    V = with_rows K W.rows
lowered-sound K W x y s stands below is = cc

pub left_join_below_join_sound : IsSound spec.left_join_below_join
left_join_below_join_sound = two-sound spec.lowered_below lowered-sound

-- ---- its pattern

lowered-keeps : TwoKeepTo (Only operator.LeftJoin) (Only operator.Join) spec.lowered_below
lowered-keeps K (LeftJoin D x z) (Join C a b) other = cc
lowered-keeps K x y other = refl

pub left_join_below_join_keeps : KeepsTo spec.pattern spec.left_join_below_join
left_join_below_join_keeps = two-keep (Only operator.LeftJoin) (Only operator.Join) spec.lowered_below lowered-keeps

-- ---- what it gives is well formed

lowered-formed : TwoAreFormed spec.lowered_below
lowered-formed S (LeftJoin D x z) (Join C a b) s stands next same is =
    given-is S _ s _ _ (if-given (spec.change_places S.classes C D b z) _ s is).1 (sym turned)
    (join-stands S C _ _ _ _
    (left_join-stands S D _ _ _ _ (class-stands S a i.left) (class-stands S z j.right) j.are j.plain (apart-of_first (B a) (B b) (B z) apart))
    (class-stands S b i.right) i.are i.plain
    (apart-turned _ _ (apart-both _ _ _ (apart-turned _ _ i.apart) (apart-of_second (B a) (B b) (B z) apart))))
  where
    B : ℕ → List ℕ
    B = S.classes.columns

    j : Joined S D x z
    j = joined S D x z stands.known stands.formed

    i : Joined S C a b
    i = joined S C a b next.known next.formed

    here : B x ≡ rising (B a ++ B b)
    here = same x (z ∷ []) refl

    apart : AreApart (rising (B a ++ B b)) (B z)
    apart = subst (λ X. AreApart X (B z)) here j.apart

    turned : rising (B x ++ B z) ≡ rising (rising (B a ++ B z) ++ B b)
    turned = ap (λ X. rising (X ++ B z)) here ∙ rising-swapped (B a) (B b) (B z)
lowered-formed S x y s stands next same is = cc

pub left_join_below_join_formed : IsFormed spec.left_join_below_join
left_join_below_join_formed = two-formed spec.lowered_below lowered-formed

-- ---- it depends on the classes that its lines name

lowered-stable : TwoAreStable spec.lowered_below
lowered-stable p K L agree (LeftJoin D x z) (Join C a b) known next =
    let j = sides p x z D known in
    let i = sides p a b C next in
    two (λ t u. wanted_if FailedCondition (t && u) (shape.Join C (shape.LeftJoin D (shape.Class a) (shape.Class z)) (shape.Class b)))
    (all-same p K L agree (is_apart_from K b) (is_apart_from L b) (apart-same p K L agree b i.1) D j.2)
    (all-same p K L agree (is_apart_from K z) (is_apart_from L z) (apart-same p K L agree z j.1) C i.2)
lowered-stable p K L agree x y known next = refl

pub left_join_below_join_stable : IsStable spec.left_join_below_join
left_join_below_join_stable = two-stable spec.lowered_below lowered-stable

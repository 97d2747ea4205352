-- An outer join that an inner join goes below: its laws.
use Rattle.std.proofs.Common.{◌≡◌, refl, ap, sym, ◌∙◌, subst, ℕ, true, ◌&&◌, List, [], ◌∷◌, ◌++◌}
use Rattle.std.specs.List.{list_all}
use Rattle.std.proofs.lemmas.Bool.{and_parts}
use Rattle.values.specs.Faults.{wanted_if}
use Rattle.algebra.specs.declared.expr.Expr.TheVariants.{Join, LeftJoin}
use Rattle.algebra.specs.Columns.{has, rising}
use Rattle.algebra.specs.Conditions.{holds}
use Rattle.algebra.specs.Expressions.{Classes}
use Rattle.algebra.proofs.Lists.{two}
use Rattle.algebra.proofs.SameBags.{same_bag-trans, join-same}
use Rattle.props.specs.Knowledge.{with_rows}
use Rattle.rules.specs.declared.shape.Shape.TheVariants as shape
use Rattle.rules.specs.declared.pattern.Operator.TheVariants as operator
use Rattle.rules.specs.declared.pattern.Operators.TheVariants.{Only}
use Rattle.rules.specs.declared.unfit.Unfit.TheVariants.{Condition as FailedCondition}
use Rattle.rules.specs.Conjuncts.{is_apart_from}
use Rattle.rules.specs.Soundness.{IsSound}
use Rattle.rules.specs.Formed.{IsFormed}
use Rattle.rules.specs.Patterns.{KeepsTo}
use Rattle.rules.specs.Stability.{IsStable}
use Rattle.outer_rules.specs.LeftJoinBelowJoin.{change_places}
use Rattle.outer_rules.specs.LeftJoinAboveJoin as spec
use Rattle.rules.proofs.Conditions.{apart-ignores, if-given}
use Rattle.rules.proofs.MatchedLines.{TwoAreSound, given, two-sound}
use Rattle.rules.proofs.ShapeMeanings.{class-is, join-is, left_join-is, has-bag}
use Rattle.rules.proofs.FormedLines.{TwoAreFormed, two-formed, given-is, joined, class-stands, join-stands, left_join-stands, Joined}
use Rattle.rules.proofs.FormedShapes.{AreApart, apart-both, apart-turned, apart-of_first, apart-of_second}
use Rattle.rules.proofs.PatternedLines.{TwoKeepTo, two-keep}
use Rattle.rules.proofs.StableLines.{TwoAreStable, two-stable, sides, all-same, apart-same}
use Rattle.outer_rules.proofs.OuterJoins.{left_joins_go_below_joins}
use Rattle.outer_rules.proofs.JoinedSides.{right-sides, turned-sides, rising-swapped}

lifted-sound : TwoAreSound spec.lifted_above
lifted-sound K W (Join C x b) (LeftJoin D a z) s stands below is =
    let fit = if-given (change_places K C D b z) _ s is in
    let parts = and_parts (list_all (is_apart_from K b) D) (list_all (is_apart_from K z) C) fit.0 in
    given K W _ _ s fit.1 (has-bag V _ _ _ (left_join-is V D _ _ _ _ (join-is V C _ _ _ _ (class-is V a) (class-is V b)) (class-is V z)) (same_bag-trans _ _ _
    (join-same (holds W.rows C) (holds W.rows C) (has (K.columns b)) _ _ (W.rows b) (W.rows b) (λ r. refl) (below.rows x (b ∷ []) refl) (λ e f. refl))
    (λ e f. sym (left_joins_go_below_joins (holds W.rows C) (holds W.rows D) (has (K.columns b)) (has (K.columns z)) (W.rows a) (W.rows b) (W.rows z)
    (turned-sides _ _ (right-sides W.instances W.own K C x b a z stands.formed (below.columns x (b ∷ []) refl)))
    (apart-ignores K b W.rows stands.classes.fits D parts.0) (apart-ignores K z W.rows stands.classes.fits C parts.1) e f))))
  where
    V : Classes
    V = with_rows K W.rows
lifted-sound K W x y s stands below is = cc

pub left_join_above_join_sound : IsSound spec.left_join_above_join
left_join_above_join_sound = two-sound spec.lifted_above lifted-sound

-- ---- its pattern

lifted-keeps : TwoKeepTo (Only operator.Join) (Only operator.LeftJoin) spec.lifted_above
lifted-keeps K (Join C x b) (LeftJoin D a z) other = cc
lifted-keeps K x y other = refl

pub left_join_above_join_keeps : KeepsTo spec.pattern spec.left_join_above_join
left_join_above_join_keeps = two-keep (Only operator.Join) (Only operator.LeftJoin) spec.lifted_above lifted-keeps

-- ---- what it gives is well formed

lifted-formed : TwoAreFormed spec.lifted_above
lifted-formed S (Join C x b) (LeftJoin D a z) s stands next same is =
    given-is S _ s _ _ (if-given (change_places S.classes C D b z) _ s is).1 (sym turned)
    (left_join-stands S D _ _ _ _
    (join-stands S C _ _ _ _ (class-stands S a i.left) (class-stands S b j.right) j.are j.plain (apart-of_first (B a) (B z) (B b) apart))
    (class-stands S z i.right) i.are i.plain
    (apart-turned _ _ (apart-both _ _ _ (apart-turned _ _ i.apart) (apart-of_second (B a) (B z) (B b) apart))))
  where
    B : ℕ → List ℕ
    B = S.classes.columns

    j : Joined S C x b
    j = joined S C x b stands.known stands.formed

    i : Joined S D a z
    i = joined S D a z next.known next.formed

    here : B x ≡ rising (B a ++ B z)
    here = same x (b ∷ []) refl

    apart : AreApart (rising (B a ++ B z)) (B b)
    apart = subst (λ X. AreApart X (B b)) here j.apart

    turned : rising (B x ++ B b) ≡ rising (rising (B a ++ B b) ++ B z)
    turned = ap (λ X. rising (X ++ B b)) here ∙ rising-swapped (B a) (B z) (B b)
lifted-formed S x y s stands next same is = cc

pub left_join_above_join_formed : IsFormed spec.left_join_above_join
left_join_above_join_formed = two-formed spec.lifted_above lifted-formed

-- ---- it depends on the classes that its lines name

lifted-stable : TwoAreStable spec.lifted_above
lifted-stable p K L agree (Join C x b) (LeftJoin D a z) known next =
    let j = sides p x b C known in
    let i = sides p a z D next in
    two (λ t u. wanted_if FailedCondition (t && u) (shape.LeftJoin D (shape.Join C (shape.Class a) (shape.Class b)) (shape.Class z)))
    (all-same p K L agree (is_apart_from K b) (is_apart_from L b) (apart-same p K L agree b j.1) D i.2)
    (all-same p K L agree (is_apart_from K z) (is_apart_from L z) (apart-same p K L agree z i.1) C j.2)
lifted-stable p K L agree x y known next = refl

pub left_join_above_join_stable : IsStable spec.left_join_above_join
left_join_above_join_stable = two-stable spec.lifted_above lifted-stable

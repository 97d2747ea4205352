-- Join associativity: its laws.
use Rattle.std.proofs.Common.{◌≡◌, refl, sym, ◌∙◌, true, List, [], ◌∷◌, Result, Ok, ap, ℕ, Bool, false, subst, ◌++◌}
use Rattle.std.specs.List.{list_all}
use Rattle.values.specs.Faults.{wanted_if}
use Rattle.algebra.specs.declared.expr.Expr.TheVariants.{Join}
use Rattle.algebra.specs.declared.condition.Condition.{Condition}
use Rattle.algebra.specs.Columns.{has, rising}
use Rattle.algebra.specs.Conditions.{holds}
use Rattle.algebra.specs.Expressions.{Classes, is_plain, subqueries_pass}
use Rattle.algebra.specs.ConjunctParts.{union, part, rest}
use Rattle.algebra.specs.Bags.{join}
use Rattle.algebra.proofs.ConjunctSplits.{union_holds}
use Rattle.algebra.proofs.SameBags.{same_bag-trans, join-same, same_bag-equal}
use Rattle.algebra.proofs.Lists.{two}
use Rattle.laws.proofs.Rewrites as law
use Rattle.props.specs.Knowledge.{with_rows}
use Rattle.rules.specs.declared.shape.Shape.{Shape}
use Rattle.rules.specs.declared.shape.Shape.TheVariants as shape
use Rattle.rules.specs.declared.unfit.Unfit.{Unfit}
use Rattle.rules.specs.declared.pattern.Operator.TheVariants as operator
use Rattle.rules.specs.declared.pattern.Operators.TheVariants.{Only}
use Rattle.rules.specs.declared.unfit.Unfit.TheVariants.{Condition as FailedCondition}
use Rattle.rules.specs.Conjuncts.{is_apart_from}
use Rattle.plain_rules.specs.JoinAssociates as spec
use Rattle.rules.specs.Soundness.{IsSound}
use Rattle.rules.specs.Formed.{IsFormed}
use Rattle.rules.specs.Patterns.{KeepsTo}
use Rattle.rules.specs.Stability.{IsStable}
use Rattle.rules.proofs.Sets.{has-both}
use Rattle.rules.proofs.Conditions.{apart-ignores, part-ignores, split-holds, if-given}
use Rattle.rules.proofs.MatchedLines.{TwoAreSound, given, two-sound}
use Rattle.rules.proofs.ShapeMeanings.{class-is, join-is, has-bag}
use Rattle.rules.proofs.FormedLines.{TwoAreFormed, two-formed, given-is, joined, class-stands, join-stands, part-are, rest-are, Are, Joined, union-are}
use Rattle.rules.proofs.PatternedLines.{TwoKeepTo, two-keep}
use Rattle.rules.proofs.StableLines.{TwoAreStable, two-stable, sides, part-apart, rest-apart, all-same, apart-same}
use Rattle.rules.proofs.FormedShapes.{AreApart, apart-both, apart-of_first, apart-of_second, classes-union, part-plain, rest-plain, rising-along}

associated-sound : TwoAreSound spec.associated
associated-sound K W (Join D x z) (Join C a b) s stands below is =
    given K W _ _ s apart.1 (has-bag V _ _ _ (join-is V R _ _ _ _ (class-is V a) (join-is V P _ _ _ _ (class-is V b) (class-is V z))) (same_bag-trans _ _ _
    (join-same (holds W.rows D) (holds W.rows D) (has (K.columns z)) _ _ (W.rows z) (W.rows z) (λ r. refl) (below.rows x (z ∷ []) refl) (λ e f. refl)) (same_bag-trans _ _ _
    (law.joins_associate (holds W.rows C) (holds W.rows D) (holds W.rows P) (holds W.rows R) (has (K.columns a)) (has (K.columns b)) (has (K.columns z)) (K.free a) (K.free b)
    (W.rows a) (W.rows b) (W.rows z) (stands.classes.fits a) (stands.classes.fits b)
    (λ r. sym (union_holds W.rows C D r) ∙ split-holds W.rows (is_apart_from K a) (union C D) r)
    (apart-ignores K z W.rows stands.classes.fits C apart.0) (part-ignores K a W.rows stands.classes.fits (union C D)))
    (same_bag-equal _ _ (λ e. (λ i. join (holds W.rows R) (λ k. has-both (K.columns b) (K.columns z) k i) (W.rows a) (join (holds W.rows P) (has (K.columns z)) (W.rows b) (W.rows z)) e))))))
  where
    V : Classes
    V = with_rows K W.rows

    P : List Condition
    P = part (is_apart_from K a) (union C D)

    R : List Condition
    R = rest (is_apart_from K a) (union C D)

    apart : (list_all (is_apart_from K z) C ≡ true) × (◌≡◌ {A = Result Shape Unfit} (Ok (shape.Join R (shape.Class a) (shape.Join P (shape.Class b) (shape.Class z)))) (Ok s))
    apart = if-given (list_all (is_apart_from K z) C) _ s is
associated-sound K W x y s stands below is = cc

pub join_associates_sound : IsSound spec.join_associates
join_associates_sound = two-sound spec.associated associated-sound

-- ---- its pattern

associated-keeps : TwoKeepTo (Only operator.Join) (Only operator.Join) spec.associated
associated-keeps K (Join D x z) (Join C a b) other = cc
associated-keeps K x y other = refl

pub join_associates_keeps : KeepsTo spec.pattern spec.join_associates
join_associates_keeps = two-keep (Only operator.Join) (Only operator.Join) spec.associated associated-keeps

-- ---- what it gives is well formed

associated-formed : TwoAreFormed spec.associated
associated-formed S (Join D x z) (Join C a b) s stands next same is =
    given-is S _ s _ _ (if-given (list_all (is_apart_from S.classes z) C) _ s is).1
    (sym (ap (λ X. rising (X ++ B z)) here ∙ rising-along (B a) (B b) (B z)))
    (join-stands S (rest p (union C D)) _ _ _ _ (class-stands S a i.left)
    (join-stands S (part p (union C D)) _ _ _ _ (class-stands S b i.right) (class-stands S z j.right) (part-are S p _ are) (part-plain p _ plain) (apart-of_second (B a) (B b) (B z) apart))
    (rest-are S p _ are) (rest-plain p _ plain) (apart-both _ _ _ i.apart (apart-of_first (B a) (B b) (B z) apart)))
  where
    B : ℕ → List ℕ
    B = S.classes.columns

    p : Condition → Bool
    p = is_apart_from S.classes a

    j : Joined S D x z
    j = joined S D x z stands.known stands.formed

    i : Joined S C a b
    i = joined S C a b next.known next.formed

    are : Are S (union C D)
    are = union-are S C D i.are j.are

    plain : is_plain (union C D) ≡ true
    plain = classes-union (λ g. false) C D i.plain j.plain

    here : B x ≡ rising (B a ++ B b)
    here = same x (z ∷ []) refl

    apart : AreApart (rising (B a ++ B b)) (B z)
    apart = subst (λ X. AreApart X (B z)) here j.apart
associated-formed S x y s stands next same is = cc

pub join_associates_formed : IsFormed spec.join_associates
join_associates_formed = two-formed spec.associated associated-formed

-- ---- it depends on the classes that its lines name

associated-stable : TwoAreStable spec.associated
associated-stable p K L agree (Join C x z) (Join D a b) known next =
    let j = sides p x z C known in
    let i = sides p a b D next in
    let all : subqueries_pass p (union D C) ≡ true = classes-union p D C i.2 j.2 in
    ap (λ t. wanted_if FailedCondition t (shape.Join (rest (is_apart_from K a) (union D C)) (shape.Class a) (shape.Join (part (is_apart_from K a) (union D C)) (shape.Class b) (shape.Class z))))
    (all-same p K L agree (is_apart_from K z) (is_apart_from L z) (apart-same p K L agree z j.1) D i.2)
    ∙ two (λ R P. wanted_if FailedCondition (list_all (is_apart_from L z) D) (shape.Join R (shape.Class a) (shape.Join P (shape.Class b) (shape.Class z))))
    (rest-apart p K L agree a i.0 (union D C) all) (part-apart p K L agree a i.0 (union D C) all)
associated-stable p K L agree x y known next = refl

pub join_associates_stable : IsStable spec.join_associates
join_associates_stable = two-stable spec.associated associated-stable

-- On the right side of a join a selection without conjuncts changes nothing: its laws.
use Rattle.std.proofs.Common.{◌≡◌, refl, ap, sym, subst, true, List, [], ◌∷◌, ◌++◌, filter}
use Rattle.algebra.specs.declared.expr.Expr.TheVariants.{Select, Join}
use Rattle.algebra.specs.Bags.{Env, SameBag, join}
use Rattle.algebra.specs.Columns.{has, rising}
use Rattle.algebra.specs.Conditions.{holds}
use Rattle.algebra.specs.Expressions.{Classes}
use Rattle.algebra.proofs.SameBags.{same_bag-equal, same_bag-trans, join-same}
use Rattle.props.specs.Knowledge.{with_rows}
use Rattle.rules.specs.declared.pattern.Input.TheVariants.{Second}
use Rattle.rules.specs.declared.pattern.Operator.TheVariants as operator
use Rattle.rules.specs.declared.pattern.Operators.TheVariants.{Only}
use Rattle.rules.specs.Soundness.{IsSound}
use Rattle.rules.specs.Formed.{IsFormed}
use Rattle.rules.specs.Patterns.{KeepsTo}
use Rattle.rules.specs.Stability.{IsStable}
use Rattle.rules.proofs.FormedBindings.{TwoOverAreFormed, two_over-formed}
use Rattle.rules.proofs.FormedLines.{given-is, first-founded, joined, class-stands, join-stands}
use Rattle.rules.proofs.FormedShapes.{AreApart}
use Rattle.rules.proofs.MatchedLines.{given}
use Rattle.rules.proofs.PatternedBindings.{TwoOverKeepTo, two_over-keep}
use Rattle.rules.proofs.ShapeMeanings.{class-is, join-is, has-bag}
use Rattle.rules.proofs.SoundBindings.{TwoOverAreSound, two_over-sound}
use Rattle.rules.proofs.StableBindings.{TwoOverAreStable, two_over-stable}
use Rattle.pattern_rules.specs.RightSelectOfNone as spec

all : (rows : List Env) → filter (λ r. true) rows ≡ rows
all [] = refl
all (r ∷ rows) = ap (λ rs. r ∷ rs) (all rows)

dropped-sound : TwoOverAreSound Second spec.dropped
dropped-sound K W (Join D a b) (Select [] x) s stands below is =
    given K W _ _ s is (has-bag V _ _ _ (join-is V D _ _ _ _ (class-is V a) (class-is V x))
    (subst (λ B. SameBag (join (holds W.rows D) (has (K.columns b)) (W.rows a) (W.rows b)) (join (holds W.rows D) (has B) (W.rows a) (W.rows x))) (below.columns b refl)
    (join-same (holds W.rows D) (holds W.rows D) (has (K.columns b)) _ _ _ _ (λ r. refl) (λ e f. refl) (same_bag-trans _ _ _ (below.rows b refl) (same_bag-equal _ _ (λ e. all (W.rows x e)))))))
  where
    V : Classes
    V = with_rows K W.rows
dropped-sound K W x y s stands below is = cc

pub right_select_of_none_sound : IsSound spec.right_select_of_none
right_select_of_none_sound = two_over-sound Second spec.dropped dropped-sound

-- ---- its pattern

dropped-keeps : TwoOverKeepTo (Only operator.Join) (Only operator.Select) spec.dropped
dropped-keeps K (Join D a b) (Select [] x) other = cc
dropped-keeps K x y other = refl

pub right_select_of_none_keeps : KeepsTo spec.pattern spec.right_select_of_none
right_select_of_none_keeps = two_over-keep Second (Only operator.Join) (Only operator.Select) spec.dropped dropped-keeps

-- ---- what it gives is well formed

dropped-formed : TwoOverAreFormed Second spec.dropped
dropped-formed S (Join D a b) (Select [] x) s stands below is =
    let i = joined S D a b stands.known stands.formed in
    let same : S.classes.columns b ≡ S.classes.columns x = below.columns b refl in
    given-is S _ s _ _ is (ap (λ B. rising (S.classes.columns a ++ B)) (sym same))
    (join-stands S D _ _ _ _ (class-stands S a i.left) (class-stands S x (first-founded S x _ below.stands.known)) i.are i.plain (subst (AreApart (S.classes.columns a)) same i.apart))
dropped-formed S x y s stands below is = cc

pub right_select_of_none_formed : IsFormed spec.right_select_of_none
right_select_of_none_formed = two_over-formed Second spec.dropped dropped-formed

-- ---- it depends on the classes that its lines name

dropped-stable : TwoOverAreStable spec.dropped
dropped-stable p K L agree (Join D a b) (Select [] x) known next = refl
dropped-stable p K L agree x y known next = refl

pub right_select_of_none_stable : IsStable spec.right_select_of_none
right_select_of_none_stable = two_over-stable Second spec.dropped dropped-stable

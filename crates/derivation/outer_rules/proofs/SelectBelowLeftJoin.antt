-- Predicate pushdown below an outer join: its laws.
use Rattle.std.proofs.Common.{refl, List, [], sym, Ok}
use Rattle.std.proofs.lemmas.Bool.{and_parts}
use Rattle.values.specs.Faults.{◌>>=◌}
use Rattle.algebra.specs.declared.expr.Expr.TheVariants.{Select, LeftJoin}
use Rattle.algebra.specs.declared.condition.Condition.{Condition}
use Rattle.algebra.specs.Columns.{has}
use Rattle.algebra.specs.Conditions.{holds}
use Rattle.algebra.specs.Expressions.{Classes}
use Rattle.algebra.specs.ConjunctParts.{part, rest}
use Rattle.algebra.proofs.SameBags.{same_bag-trans, select-same}
use Rattle.algebra.proofs.Lists.{two}
use Rattle.props.specs.Knowledge.{with_rows}
use Rattle.rules.specs.declared.pattern.Operator.TheVariants as operator
use Rattle.rules.specs.declared.pattern.Operators.TheVariants.{Only}
use Rattle.rules.specs.declared.shape.Shape.TheVariants as shape
use Rattle.rules.specs.Conjuncts.{is_apart_from, wanted_some}
use Rattle.outer_rules.specs.SelectBelowLeftJoin as spec
use Rattle.rules.specs.Soundness.{IsSound}
use Rattle.rules.specs.Patterns.{KeepsTo}
use Rattle.rules.specs.Formed.{IsFormed}
use Rattle.rules.specs.Stability.{IsStable}
use Rattle.rules.specs.Shapes.{selected}
use Rattle.rules.proofs.Conditions.{part-ignores, split-holds, some-given}
use Rattle.rules.proofs.MatchedLines.{TwoAreSound, given, two-sound}
use Rattle.rules.proofs.PatternedLines.{TwoKeepTo, two-keep}
use Rattle.rules.proofs.ShapeMeanings.{class-is, select-is, left_join-is, selected-same}
use Rattle.rules.proofs.FormedLines.{TwoAreFormed, two-formed, given-is, select-are, joined, class-stands, select-stands, selected-stands, left_join-stands, part-are, rest-are}
use Rattle.rules.proofs.StableLines.{TwoAreStable, two-stable, sides, part-apart, rest-apart}
use Rattle.outer_rules.proofs.OuterJoins.{selects_go_below_left_join}

pushed-sound : TwoAreSound spec.pushed_below
pushed-sound K W (Select C x) (LeftJoin D a b) s stands below is =
    given K W _ _ s (some-given P _ s is) (same_bag-trans _ _ _
    (select-same _ _ _ _ (λ r. refl) (below.rows x [] refl)) (same_bag-trans _ _ _
    (selects_go_below_left_join (holds W.rows C) (holds W.rows D) (holds W.rows P) (holds W.rows R) (has (K.columns b)) (W.rows a) (W.rows b)
    (split-holds W.rows (is_apart_from K b) C) (part-ignores K b W.rows stands.classes.fits C))
    (selected-same V R _ _ (left_join-is V D _ _ _ _ (select-is V P _ _ (class-is V a)) (class-is V b)))))
  where
    V : Classes
    V = with_rows K W.rows

    P : List Condition
    P = part (is_apart_from K b) C

    R : List Condition
    R = rest (is_apart_from K b) C
pushed-sound K W x y s stands below is = cc

pub select_below_left_join_sound : IsSound spec.select_below_left_join
select_below_left_join_sound = two-sound spec.pushed_below pushed-sound

-- ---- its pattern

pushed-keeps : TwoKeepTo (Only operator.Select) (Only operator.LeftJoin) spec.pushed_below
pushed-keeps K (Select C x) (LeftJoin D a b) other = cc
pushed-keeps K x y other = refl

pub select_below_left_join_keeps : KeepsTo spec.pattern spec.select_below_left_join
select_below_left_join_keeps = two-keep (Only operator.Select) (Only operator.LeftJoin) spec.pushed_below pushed-keeps

-- ---- what it gives is well formed

pushed-formed : TwoAreFormed spec.pushed_below
pushed-formed S (Select C x) (LeftJoin D a b) s stands next same is =
    let i = joined S D a b next.known next.formed in
    let p = is_apart_from S.classes b in
    let are = select-are S C x stands in
    given-is S _ s _ _ (some-given (part p C) _ s is) (sym (same x [] refl)) (selected-stands S (rest p C) _ _
    (left_join-stands S D _ _ _ _ (select-stands S (part p C) _ _ (class-stands S a i.left) (part-are S p C are)) (class-stands S b i.right) i.are i.plain i.apart) (rest-are S p C are))
pushed-formed S x y s stands next same is = cc

pub select_below_left_join_formed : IsFormed spec.select_below_left_join
select_below_left_join_formed = two-formed spec.pushed_below pushed-formed

-- ---- it depends on the classes that its lines name

pushed-stable : TwoAreStable spec.pushed_below
pushed-stable p K L agree (Select C x) (LeftJoin D a b) known next =
    let i = sides p a b D next in
    let all = (and_parts _ _ known).1 in
    two (λ P R. wanted_some P >>= λ P. Ok (selected R (shape.LeftJoin D (shape.Select P (shape.Class a)) (shape.Class b)))) (part-apart p K L agree b i.1 C all) (rest-apart p K L agree b i.1 C all)
pushed-stable p K L agree x y known next = refl

pub select_below_left_join_stable : IsStable spec.select_below_left_join
select_below_left_join_stable = two-stable spec.pushed_below pushed-stable

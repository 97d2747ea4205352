-- What each rule gives has three operators at most.
use Rattle.std.proofs.Common.{◌≡◌, ap, sym, ◌∙◌, subst, ℕ, suc, ◌+◌, ◌≤◌, Bool, true, false, if◌then◌else◌, List, [], ◌∷◌, Option, Some, None, Result, Ok, Err, arith}
use Rattle.values.specs.Faults.{◌>>=◌, wanted, wanted_if}
use Rattle.algebra.specs.declared.condition.Condition.{Condition}
use Rattle.algebra.specs.declared.condition.Term.{Term}
use Rattle.algebra.specs.declared.expr.Aggregation.{Aggregation}
use Rattle.algebra.specs.declared.expr.Expr.{Expr}
use Rattle.algebra.specs.declared.expr.Expr.TheVariants as expr
use Rattle.props.specs.Knowledge.{Knowledge}
use Rattle.rules.specs.declared.pattern.Input.TheVariants.{First}
use Rattle.rules.specs.declared.shape.Shape.{Shape, roll-Shape, fold-roll-Shape, map-Shape}
use Rattle.rules.specs.declared.shape.Shape.TheOpen.{Shape-F}
use Rattle.rules.specs.declared.shape.Shape.TheVariants.{Class, Select, Join, LeftJoin, Semi, Anti, Keep, Distinct, Group, rolls-Class, rolls-Select, rolls-Join, rolls-LeftJoin, rolls-Semi, rolls-Anti, rolls-Keep, rolls-Distinct, rolls-Group}
use Rattle.rules.specs.declared.unfit.Unfit.{Unfit}
use Rattle.rules.specs.declared.unfit.Unfit.TheVariants.{Pattern}
use Rattle.rules.specs.Bindings.{SubqueryPick, ClassPick, three_lines_over, subquery, subquery_line, class_line}
use Rattle.rules.specs.Conjuncts.{wanted_some}
use Rattle.rules.specs.Matches.{Matched, one_line, two_lines}
use Rattle.rules.specs.Shapes.{selected}
use Rattle.outer_rules.specs.ConditionBelowLeftJoin as condition_below_left_join
use Rattle.outer_rules.specs.KeepOfLeftSide as keep_of_left_side
use Rattle.outer_rules.specs.LeftJoinAboveJoin as left_join_above_join
use Rattle.outer_rules.specs.LeftJoinBelowJoin as left_join_below_join
use Rattle.outer_rules.specs.OuterJoinIsAnti as outer_join_is_anti
use Rattle.outer_rules.specs.OuterJoinIsInner as outer_join_is_inner
use Rattle.outer_rules.specs.SelectBelowLeftJoin as select_below_left_join
use Rattle.plain_rules.specs.ConditionBelowJoin as condition_below_join
use Rattle.plain_rules.specs.DistinctOfKeyed as distinct_of_keyed
use Rattle.plain_rules.specs.GroupIsDistinct as group_is_distinct
use Rattle.plain_rules.specs.JoinAssociates as join_associates
use Rattle.plain_rules.specs.JoinCommutes as join_commutes
use Rattle.plain_rules.specs.KeepBelowJoin as keep_below_join
use Rattle.plain_rules.specs.KeepOfAll as keep_of_all
use Rattle.plain_rules.specs.KeepsMerge as keeps_merge
use Rattle.plain_rules.specs.SelectBelowGroup as select_below_group
use Rattle.plain_rules.specs.SelectBelowJoin as select_below_join
use Rattle.plain_rules.specs.SelectBelowSemi as select_below_semi
use Rattle.plain_rules.specs.SelectIntoJoin as select_into_join
use Rattle.plain_rules.specs.SelectsMerge as selects_merge
use Rattle.semijoin_rules.specs.AntijoinOfFilled as antijoin_of_filled
use Rattle.semijoin_rules.specs.SemijoinBelowJoin as semijoin_below_join
use Rattle.semijoin_rules.specs.SemijoinIsJoin as semijoin_is_join
use Rattle.subquery_rules.specs.SubqueryOfInput as subquery_of_input
use Rattle.subquery_rules.specs.Unnesting.{Unnesting, member, denied_member, is_exists, is_not_exists, others, exists_as_semi, not_exists_as_anti, member_as_semi, in_as_semi, member_as_anti, not_in_as_anti, alone, of_select}
use Rattle.book.specs.declared.names.RuleName.{RuleName}
use Rattle.book.specs.declared.names.RuleName.TheVariants.{JoinCommutes, JoinAssociates, SelectsMerge, SelectBelowJoin, SelectIntoJoin, ConditionBelowJoin, SelectBelowSemi, KeepsMerge, KeepOfAll, KeepBelowJoin, DistinctOfKeyed, GroupIsDistinct, SelectBelowGroup, OuterJoinIsInner, SelectBelowLeftJoin, ConditionBelowLeftJoin, LeftJoinBelowJoin, LeftJoinAboveJoin, KeepOfLeftSide, OuterJoinIsAnti, ExistsIsSemi, NotExistsIsAnti, InIsSemi, NotInIsAnti, AntijoinOfFilled, SubqueryOfInput, ExistsOfSelectIsSemi, NotExistsOfSelectIsAnti, InSelectIsSemi, NotInSelectIsAnti, SemijoinBelowJoin, SemijoinIsJoin}
use Rattle.book.specs.Book.{given_by}
use Rattle.bindings.specs.Shallow.{count_layer, operator_count, BookIsShallow}

-- ---- shapes

-- so many operators at most
record HasAtMost (n : ℕ) (s : Shape) : Type 0 where
  count : operator_count s ≤ n

count-at : (x : Shape-F Shape) (s : Shape) → roll-Shape x ≡ s → operator_count s ≡ count_layer (map-Shape Shape ℕ operator_count x)
unfolding operator_count
count-at x s is = ap operator_count (sym is) ∙ fold-roll-Shape ℕ count_layer x

class-has : (n g : ℕ) → HasAtMost n (Class g)
class-has n g = record { count = omega (arith, count-at (Shape-F.Class g) _ (rolls-Class g)) }

select-has : (n : ℕ) (C : List Condition) (x : Shape) → HasAtMost n x → HasAtMost (suc n) (Select C x)
select-has n C x has = record { count = omega (arith, count-at (Shape-F.Select C x) _ (rolls-Select C x), has.count) }

keep-has : (n : ℕ) (L : List ℕ) (x : Shape) → HasAtMost n x → HasAtMost (suc n) (Keep L x)
keep-has n L x has = record { count = omega (arith, count-at (Shape-F.Keep L x) _ (rolls-Keep L x), has.count) }

distinct-has : (n : ℕ) (x : Shape) → HasAtMost n x → HasAtMost (suc n) (Distinct x)
distinct-has n x has = record { count = omega (arith, count-at (Shape-F.Distinct x) _ (rolls-Distinct x), has.count) }

group-has : (n : ℕ) (L : List ℕ) (G : List Aggregation) (x : Shape) → HasAtMost n x → HasAtMost (suc n) (Group L G x)
group-has n L G x has = record { count = omega (arith, count-at (Shape-F.Group L G x) _ (rolls-Group L G x), has.count) }

join-has : (m n : ℕ) (C : List Condition) (a b : Shape) → HasAtMost m a → HasAtMost n b → HasAtMost (suc (m + n)) (Join C a b)
join-has m n C a b left right = record { count = omega (arith, count-at (Shape-F.Join C a b) _ (rolls-Join C a b), left.count, right.count) }

left_join-has : (m n : ℕ) (C : List Condition) (a b : Shape) → HasAtMost m a → HasAtMost n b → HasAtMost (suc (m + n)) (LeftJoin C a b)
left_join-has m n C a b left right = record { count = omega (arith, count-at (Shape-F.LeftJoin C a b) _ (rolls-LeftJoin C a b), left.count, right.count) }

semi-has : (m n : ℕ) (C : List Condition) (a b : Shape) → HasAtMost m a → HasAtMost n b → HasAtMost (suc (m + n)) (Semi C a b)
semi-has m n C a b left right = record { count = omega (arith, count-at (Shape-F.Semi C a b) _ (rolls-Semi C a b), left.count, right.count) }

anti-has : (m n : ℕ) (S M : List Condition) (a b : Shape) → HasAtMost m a → HasAtMost n b → HasAtMost (suc (m + n)) (Anti S M a b)
anti-has m n S M a b left right = record { count = omega (arith, count-at (Shape-F.Anti S M a b) _ (rolls-Anti S M a b), left.count, right.count) }

selected-has : (n : ℕ) (C : List Condition) (x : Shape) → HasAtMost n x → HasAtMost (suc n) (selected C x)
selected-has n [] x has = record { count = omega (arith, has.count) }
selected-has n (c ∷ C) x has = select-has n (c ∷ C) x has

-- ---- results

-- what is given, if something is, has three operators at most
abbrev Gives : Result Shape Unfit → Type 0
Gives (Ok s) = HasAtMost 3 s
Gives (Err u) = Unit {0}

gives-few : (r : Result Shape Unfit) → Gives r → (s : Shape) → r ≡ Ok s → operator_count s ≤ 3
gives-few (Ok t) few s is = subst (λ s. operator_count s ≤ 3) (let e : t ≡ s = cc in e) few.count
gives-few (Err u) few s is = cc

abbrev IsShallow : (Matched → Result Shape Unfit) → Type 0
IsShallow gives = (m : Matched) → Gives (gives m)

bound-shallow : {X : Type 0} (bound : Matched → Option X) (rewrite : Knowledge → X → Result Shape Unfit) → ((K : Knowledge) (x : X) → Gives (rewrite K x)) → IsShallow (λ m. wanted Pattern (bound m) >>= rewrite m.classes)
bound-shallow {X} bound rewrite all m = by (bound m)
  where
    by : (o : Option X) → Gives (wanted Pattern o >>= rewrite m.classes)
    by None = tt
    by (Some x) = all m.classes x

if-shallow : (u : Unfit) (b : Bool) (s : Shape) → HasAtMost 3 s → Gives (wanted_if u b s)
if-shallow u true s has = has
if-shallow u false s has = tt

some-shallow : (P : List Condition) (f : List Condition → Shape) → ((P : List Condition) → HasAtMost 3 (f P)) → Gives (wanted_some P >>= λ P. Ok (f P))
some-shallow [] f all = tt
some-shallow (c ∷ P) f all = all (c ∷ P)

-- ---- the plain rules

turned-shallow : (K : Knowledge) (x : Expr) → Gives (join_commutes.turned x)
turned-shallow K (expr.Join C a b) = join-has 2 0 _ _ _ (class-has 2 b) (class-has 0 a)
turned-shallow K x = tt

associated-shallow : (K : Knowledge) (x y : Expr) → Gives (join_associates.associated K x y)
associated-shallow K (expr.Join D x z) (expr.Join C a b) = if-shallow _ _ _ (join-has 1 1 _ _ _ (class-has 1 a) (join-has 0 0 _ _ _ (class-has 0 b) (class-has 0 z)))
associated-shallow K x y = tt

selects-shallow : (K : Knowledge) (x y : Expr) → Gives (selects_merge.merged K x y)
selects-shallow K (expr.Select C x) (expr.Select D y) = select-has 2 _ _ (class-has 2 y)
selects-shallow K x y = tt

pushed-shallow : (K : Knowledge) (x y : Expr) → Gives (select_below_join.pushed_below K x y)
pushed-shallow K (expr.Select C x) (expr.Join D a b) = some-shallow _ _ (λ P. selected-has 2 _ _ (join-has 1 0 _ _ _ (select-has 0 _ _ (class-has 0 a)) (class-has 0 b)))
pushed-shallow K x y = tt

into_join-shallow : (K : Knowledge) (x y : Expr) → Gives (select_into_join.into_join K x y)
into_join-shallow K (expr.Select C x) (expr.Join D a b) = some-shallow _ _ (λ P. selected-has 2 _ _ (join-has 1 0 _ _ _ (class-has 1 a) (class-has 0 b)))
into_join-shallow K x y = tt

lowered-shallow : (K : Knowledge) (x : Expr) → Gives (condition_below_join.lowered_below K x)
lowered-shallow K (expr.Join D a b) = some-shallow _ _ (λ P. join-has 2 0 _ _ _ (select-has 1 _ _ (class-has 1 a)) (class-has 0 b))
lowered-shallow K x = tt

below_semi-shallow : (K : Knowledge) (x y : Expr) → Gives (select_below_semi.below_semi K x y)
below_semi-shallow K (expr.Select C x) (expr.Semi D a b) = semi-has 2 0 _ _ _ (select-has 1 _ _ (class-has 1 a)) (class-has 0 b)
below_semi-shallow K (expr.Select C x) (expr.Anti S M a b) = anti-has 2 0 _ _ _ _ (select-has 1 _ _ (class-has 1 a)) (class-has 0 b)
below_semi-shallow K x y = tt

keeps-shallow : (K : Knowledge) (x y : Expr) → Gives (keeps_merge.merged K x y)
keeps-shallow K (expr.Keep L x) (expr.Keep J y) = keep-has 2 _ _ (class-has 2 y)
keeps-shallow K x y = tt

keep_dropped-shallow : (K : Knowledge) (x : Expr) → Gives (keep_of_all.dropped K x)
keep_dropped-shallow K (expr.Keep L x) = if-shallow _ _ _ (class-has 3 x)
keep_dropped-shallow K x = tt

narrowed-shallow : (K : Knowledge) (x y : Expr) → Gives (keep_below_join.narrowed_below K x y)
narrowed-shallow K (expr.Keep L x) (expr.Join D a b) = if-shallow _ _ _ (keep-has 2 _ _ (join-has 1 0 _ _ _ (keep-has 0 _ _ (class-has 0 a)) (class-has 0 b)))
narrowed-shallow K x y = tt

distinct_dropped-shallow : (K : Knowledge) (x : Expr) → Gives (distinct_of_keyed.dropped K x)
distinct_dropped-shallow K (expr.Distinct x) = if-shallow _ _ _ (class-has 3 x)
distinct_dropped-shallow K x = tt

keys-shallow : (L : List ℕ) (x : ℕ) → Gives (group_is_distinct.different_keys L x)
keys-shallow [] x = tt
keys-shallow (k ∷ L) x = distinct-has 2 _ (keep-has 1 _ _ (class-has 1 x))

grouped-shallow : (K : Knowledge) (x : Expr) → Gives (group_is_distinct.as_distinct K x)
grouped-shallow K (expr.Group L [] x) = keys-shallow L x
grouped-shallow K x = tt

keyed-shallow : (K : List ℕ) (P : List Condition) (f : List Condition → Shape) → ((P : List Condition) → HasAtMost 3 (f P)) → Gives (wanted_some P >>= λ P. select_below_group.if_keyed K (f P))
keyed-shallow K [] f all = tt
keyed-shallow [] (c ∷ P) f all = tt
keyed-shallow (k ∷ K) (c ∷ P) f all = all (c ∷ P)

group_pushed-shallow : (K : Knowledge) (x y : Expr) → Gives (select_below_group.pushed_below K x y)
group_pushed-shallow K (expr.Select C y) (expr.Group L G x) =
    keyed-shallow L (select_below_group.of_keys L C) (λ P. selected (select_below_group.of_others L C) (Group L G (Select P (Class x))))
    (λ P. selected-has 2 _ _ (group-has 1 _ _ _ (select-has 0 _ _ (class-has 0 x))))
group_pushed-shallow K x y = tt

-- ---- the rules of outer joins

inner-shallow : (K : Knowledge) (x y : Expr) → Gives (outer_join_is_inner.inner K x y)
inner-shallow K (expr.Select C x) (expr.LeftJoin D a b) = if-shallow _ _ _ (select-has 2 _ _ (join-has 1 0 _ _ _ (class-has 1 a) (class-has 0 b)))
inner-shallow K x y = tt

left_pushed-shallow : (K : Knowledge) (x y : Expr) → Gives (select_below_left_join.pushed_below K x y)
left_pushed-shallow K (expr.Select C x) (expr.LeftJoin D a b) = some-shallow _ _ (λ P. selected-has 2 _ _ (left_join-has 1 0 _ _ _ (select-has 0 _ _ (class-has 0 a)) (class-has 0 b)))
left_pushed-shallow K x y = tt

left_lowered-shallow : (K : Knowledge) (x : Expr) → Gives (condition_below_left_join.lowered_below K x)
left_lowered-shallow K (expr.LeftJoin D a b) = some-shallow _ _ (λ P. left_join-has 1 1 _ _ _ (class-has 1 a) (select-has 0 _ _ (class-has 0 b)))
left_lowered-shallow K x = tt

left_below-shallow : (K : Knowledge) (x y : Expr) → Gives (left_join_below_join.lowered_below K x y)
left_below-shallow K (expr.LeftJoin D x z) (expr.Join C a b) = if-shallow _ _ _ (join-has 2 0 _ _ _ (left_join-has 1 0 _ _ _ (class-has 1 a) (class-has 0 z)) (class-has 0 b))
left_below-shallow K x y = tt

left_above-shallow : (K : Knowledge) (x y : Expr) → Gives (left_join_above_join.lifted_above K x y)
left_above-shallow K (expr.Join C x b) (expr.LeftJoin D a z) = if-shallow _ _ _ (left_join-has 2 0 _ _ _ (join-has 1 0 _ _ _ (class-has 1 a) (class-has 0 b)) (class-has 0 z))
left_above-shallow K x y = tt

kept-shallow : (K : Knowledge) (x y : Expr) → Gives (keep_of_left_side.kept_of_left K x y)
kept-shallow K (expr.Keep S x) (expr.LeftJoin D a b) = if-shallow _ _ _ (keep-has 2 _ _ (class-has 2 a))
kept-shallow K x y = tt

unfound-shallow : (K : Knowledge) (x y z : Expr) → Gives (outer_join_is_anti.unfound_of K x y z)
unfound-shallow K (expr.Keep S x) (expr.Select C y) (expr.LeftJoin D a b) = if-shallow _ _ _ (keep-has 2 _ _ (selected-has 1 _ _ (anti-has 0 0 _ _ _ _ (class-has 0 a) (class-has 0 b))))
unfound-shallow K x y z = tt

-- ---- the rules of semijoins

decided-shallow : (K : Knowledge) (x : Expr) → Gives (antijoin_of_filled.decided_of K x)
decided-shallow K (expr.Anti N M a b) = some-shallow _ _ (λ P. anti-has 2 0 _ _ _ _ (class-has 2 a) (class-has 0 b))
decided-shallow K x = tt

semi_below-shallow : (K : Knowledge) (x y : Expr) → Gives (semijoin_below_join.lowered K x y)
semi_below-shallow K (expr.Semi D x z) (expr.Join C a b) = if-shallow _ _ _ (join-has 2 0 _ _ _ (semi-has 1 0 _ _ _ (class-has 1 a) (class-has 0 z)) (class-has 0 b))
semi_below-shallow K (expr.Anti N M x z) (expr.Join C a b) = if-shallow _ _ _ (join-has 2 0 _ _ _ (anti-has 1 0 _ _ _ _ (class-has 1 a) (class-has 0 z)) (class-has 0 b))
semi_below-shallow K x y = tt

joined-shallow : (K : Knowledge) (x : Expr) → Gives (semijoin_is_join.joined_of K x)
joined-shallow K (expr.Semi D a b) = if-shallow _ _ _ (keep-has 2 _ _ (join-has 1 0 _ _ _ (class-has 1 a) (class-has 0 b)))
joined-shallow K x = tt

-- ---- the rules of subqueries

rewrite-shallow : (K : Knowledge) (p : ClassPick) (x : Expr) → Gives (subquery_of_input.rewrite K p x)
rewrite-shallow K p (expr.Keep L y) = if-shallow _ _ _ (select-has 2 _ _ (class-has 2 p.input))
rewrite-shallow K p (expr.Distinct y) = select-has 2 _ _ (class-has 2 p.input)
rewrite-shallow K p x = tt

abbrev UnnestsShallow : Unnesting → Type 0
UnnestsShallow unnest = (K : Knowledge) (p : SubqueryPick) (P : List Condition) (b : ℕ) → Gives (unnest K p P b)

-- a semijoin or an antijoin, and a selection of the other conjuncts
semi_of-has : (p : SubqueryPick) (C : List Condition) (b : ℕ) → HasAtMost 3 (selected (others p) (Semi C (Class p.input) (Class b)))
semi_of-has p C b = selected-has 2 _ _ (semi-has 1 0 _ _ _ (class-has 1 p.input) (class-has 0 b))

anti_of-has : (p : SubqueryPick) (S M : List Condition) (b : ℕ) → HasAtMost 3 (selected (others p) (Anti S M (Class p.input) (Class b)))
anti_of-has p S M b = selected-has 2 _ _ (anti-has 1 0 _ _ _ _ (class-has 1 p.input) (class-has 0 b))

or-pattern : (b : Bool) (r : Result Shape Unfit) → Gives r → Gives (if b then r else Err Pattern)
or-pattern true r gives = gives
or-pattern false r gives = tt

exists-shallow : UnnestsShallow exists_as_semi
exists-shallow K p P b = or-pattern (is_exists p.condition) _ (if-shallow _ _ _ (semi_of-has p P b))

not_exists-shallow : UnnestsShallow not_exists_as_anti
not_exists-shallow K p P b = or-pattern (is_not_exists p.condition) _ (if-shallow _ _ _ (anti_of-has p P [] b))

member-semi : (K : Knowledge) (p : SubqueryPick) (P : List Condition) (b : ℕ) (m : Option (Term × ℕ)) → Gives (member_as_semi K p P b m)
member-semi K p P b None = tt
member-semi K p P b (Some m) = if-shallow _ _ _ (semi_of-has p _ b)

in-shallow : UnnestsShallow in_as_semi
in-shallow K p P b = member-semi K p P b (member p.condition)

member-anti : (K : Knowledge) (p : SubqueryPick) (P : List Condition) (b : ℕ) (m : Option (Term × ℕ)) → Gives (member_as_anti K p P b m)
member-anti K p P b None = tt
member-anti K p P b (Some m) = if-shallow _ _ _ (anti_of-has p P _ b)

not_in-shallow : UnnestsShallow not_in_as_anti
not_in-shallow K p P b = member-anti K p P b (denied_member p.condition)

alone-shallow : (unnest : Unnesting) → UnnestsShallow unnest → IsShallow (λ m. wanted Pattern (subquery m) >>= alone unnest m.classes)
alone-shallow unnest all = bound-shallow subquery (alone unnest) (λ K p. all K p [] p.class)

of_select-shallow : (unnest : Unnesting) → UnnestsShallow unnest → IsShallow (λ m. wanted Pattern (subquery_line m) >>= λ p. of_select unnest m.classes p.0 p.1)
of_select-shallow unnest all = bound-shallow subquery_line (λ K p. of_select unnest K p.0 p.1) (λ K p. by K p.0 p.1)
  where
    by : (K : Knowledge) (p : SubqueryPick) (x : Expr) → Gives (of_select unnest K p x)
    by K p (expr.Select P b) = all K p P b
    by K p x = tt

-- ---- the book

rule-shallow : (rule : RuleName) → IsShallow (given_by rule)
rule-shallow JoinCommutes = bound-shallow one_line (λ K. join_commutes.turned) turned-shallow
rule-shallow JoinAssociates = bound-shallow two_lines (λ K l. join_associates.associated K l.0 l.1) (λ K l. associated-shallow K l.0 l.1)
rule-shallow SelectsMerge = bound-shallow two_lines (λ K l. selects_merge.merged K l.0 l.1) (λ K l. selects-shallow K l.0 l.1)
rule-shallow SelectBelowJoin = bound-shallow two_lines (λ K l. select_below_join.pushed_below K l.0 l.1) (λ K l. pushed-shallow K l.0 l.1)
rule-shallow SelectIntoJoin = bound-shallow two_lines (λ K l. select_into_join.into_join K l.0 l.1) (λ K l. into_join-shallow K l.0 l.1)
rule-shallow ConditionBelowJoin = bound-shallow one_line condition_below_join.lowered_below lowered-shallow
rule-shallow SelectBelowSemi = bound-shallow two_lines (λ K l. select_below_semi.below_semi K l.0 l.1) (λ K l. below_semi-shallow K l.0 l.1)
rule-shallow KeepsMerge = bound-shallow two_lines (λ K l. keeps_merge.merged K l.0 l.1) (λ K l. keeps-shallow K l.0 l.1)
rule-shallow KeepOfAll = bound-shallow one_line keep_of_all.dropped keep_dropped-shallow
rule-shallow KeepBelowJoin = bound-shallow two_lines (λ K l. keep_below_join.narrowed_below K l.0 l.1) (λ K l. narrowed-shallow K l.0 l.1)
rule-shallow DistinctOfKeyed = bound-shallow one_line distinct_of_keyed.dropped distinct_dropped-shallow
rule-shallow GroupIsDistinct = bound-shallow one_line group_is_distinct.as_distinct grouped-shallow
rule-shallow SelectBelowGroup = bound-shallow two_lines (λ K l. select_below_group.pushed_below K l.0 l.1) (λ K l. group_pushed-shallow K l.0 l.1)
rule-shallow OuterJoinIsInner = bound-shallow two_lines (λ K l. outer_join_is_inner.inner K l.0 l.1) (λ K l. inner-shallow K l.0 l.1)
rule-shallow SelectBelowLeftJoin = bound-shallow two_lines (λ K l. select_below_left_join.pushed_below K l.0 l.1) (λ K l. left_pushed-shallow K l.0 l.1)
rule-shallow ConditionBelowLeftJoin = bound-shallow one_line condition_below_left_join.lowered_below left_lowered-shallow
rule-shallow LeftJoinBelowJoin = bound-shallow two_lines (λ K l. left_join_below_join.lowered_below K l.0 l.1) (λ K l. left_below-shallow K l.0 l.1)
rule-shallow LeftJoinAboveJoin = bound-shallow two_lines (λ K l. left_join_above_join.lifted_above K l.0 l.1) (λ K l. left_above-shallow K l.0 l.1)
rule-shallow KeepOfLeftSide = bound-shallow two_lines (λ K l. keep_of_left_side.kept_of_left K l.0 l.1) (λ K l. kept-shallow K l.0 l.1)
rule-shallow OuterJoinIsAnti = bound-shallow (three_lines_over First First) (λ K l. outer_join_is_anti.unfound_of K l.0 l.1 l.2) (λ K l. unfound-shallow K l.0 l.1 l.2)
rule-shallow ExistsIsSemi = alone-shallow exists_as_semi exists-shallow
rule-shallow NotExistsIsAnti = alone-shallow not_exists_as_anti not_exists-shallow
rule-shallow InIsSemi = alone-shallow in_as_semi in-shallow
rule-shallow NotInIsAnti = alone-shallow not_in_as_anti not_in-shallow
rule-shallow AntijoinOfFilled = bound-shallow one_line antijoin_of_filled.decided_of decided-shallow
rule-shallow SubqueryOfInput = bound-shallow class_line (λ K p. subquery_of_input.rewrite K p.0 p.1) (λ K p. rewrite-shallow K p.0 p.1)
rule-shallow ExistsOfSelectIsSemi = of_select-shallow exists_as_semi exists-shallow
rule-shallow NotExistsOfSelectIsAnti = of_select-shallow not_exists_as_anti not_exists-shallow
rule-shallow InSelectIsSemi = of_select-shallow in_as_semi in-shallow
rule-shallow NotInSelectIsAnti = of_select-shallow not_in_as_anti not_in-shallow
rule-shallow SemijoinBelowJoin = bound-shallow two_lines (λ K l. semijoin_below_join.lowered K l.0 l.1) (λ K l. semi_below-shallow K l.0 l.1)
rule-shallow SemijoinIsJoin = bound-shallow one_line semijoin_is_join.joined_of joined-shallow

pub book_shallow : BookIsShallow
book_shallow rule m s is = gives-few (given_by rule m) (rule-shallow rule m) s is

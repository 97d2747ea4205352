-- A semijoin or an antijoin that goes below an inner join: its laws.
use Rattle.std.proofs.Common.{◌≡◌, refl, ap, sym, ◌∙◌, subst, ℕ, Bool, true, false, not, ◌&&◌, List, [], ◌∷◌, ◌++◌}
use Rattle.std.specs.List.{list_all}
use Rattle.std.proofs.lemmas.Bool.{and_parts}
use Rattle.std.proofs.lemmas.List.Folds.{list_all-append}
use Rattle.values.specs.Faults.{wanted_if}
use Rattle.values.specs.Truth.{is_true, negation}
use Rattle.algebra.specs.declared.condition.Condition.{Condition}
use Rattle.algebra.specs.declared.expr.Expr.TheVariants.{Join, Semi, Anti}
use Rattle.algebra.specs.Columns.{ColumnSet, has, rising}
use Rattle.algebra.specs.Bags.{Test, Bag, lay}
use Rattle.algebra.specs.Conditions.{holds, allows, mentions}
use Rattle.algebra.specs.Expressions.{Classes, subqueries_pass}
use Rattle.algebra.proofs.Lists.{two}
use Rattle.algebra.proofs.MentionedColumns.{each_has}
use Rattle.algebra.proofs.SameBags.{same_bag-trans, semi-same, anti-same}
use Rattle.laws.specs.Fitting.{AreFitting}
use Rattle.laws.specs.Rewriting.{Ignores}
use Rattle.laws.proofs.Ignored.{off}
use Rattle.laws.proofs.Mentions.{conditions_read}
use Rattle.props.specs.Knowledge.{Knowledge, with_rows}
use Rattle.rules.specs.declared.shape.Shape.{Shape}
use Rattle.rules.specs.declared.shape.Shape.TheVariants as shape
use Rattle.rules.specs.declared.pattern.Operator.TheVariants as operator
use Rattle.rules.specs.declared.pattern.Operators.TheVariants.{Only, Either}
use Rattle.rules.specs.declared.unfit.Unfit.TheVariants.{Condition as FailedCondition}
use Rattle.rules.specs.Conjuncts.{is_apart_from}
use Rattle.rules.specs.Soundness.{IsSound}
use Rattle.rules.specs.Formed.{IsFormed}
use Rattle.rules.specs.Patterns.{KeepsTo}
use Rattle.rules.specs.Stability.{IsStable, Agree}
use Rattle.semijoin_rules.specs.SemijoinBelowJoin as spec
use Rattle.rules.proofs.Conditions.{apart-ignores, if-given}
use Rattle.rules.proofs.MatchedLines.{TwoAreSound, given, two-sound}
use Rattle.rules.proofs.ShapeMeanings.{class-is, join-is, semi-is, anti-is, has-bag}
use Rattle.rules.proofs.FormedLines.{Site, TwoAreFormed, two-formed, given-is, joined, class-stands, join-stands, semi-stands, anti-stands, Is, Joined}
use Rattle.rules.proofs.FormedShapes.{AreApart, apart-of_first}
use Rattle.rules.proofs.PatternedLines.{TwoKeepTo, two-keep}
use Rattle.rules.proofs.StableLines.{TwoAreStable, two-stable, sides, all-same, apart-same}
use Rattle.semijoin_rules.proofs.Semijoins.{semijoins_go_below_joins, antijoins_go_below_joins}
use Rattle.semijoin_rules.proofs.JoinedSides.{sides-apart, right-apart}

-- null-aware conditions that mention no column of the class are asked of rows whatever they have there
module _ (K : Knowledge) (g : ℕ) (rows : ℕ → Bag) (fits : AreFitting (with_rows K rows)) where
  abbrev G : ColumnSet
  G = has (K.columns g)

  unmentioned : (c : Condition) → is_apart_from K g c ≡ true → (k : ℕ) → mentions c K.columns K.free k ≡ true → G k ≡ false
  unmentioned c apart k in_ = none (G k) (mentions c K.columns K.free k) (each_has (λ j. not (mentions c K.columns K.free j)) (K.columns g) apart k) in_
    where
      none : (h m : Bool) → (h ≡ true → not m ≡ true) → m ≡ true → h ≡ false
      none true m without is = cc (without refl, is)
      none false m without is = refl

  allows-ignores : (M : List Condition) → list_all (is_apart_from K g) M ≡ true → Ignores G (allows rows M)
  allows-ignores [] apart r s = refl
  allows-ignores (c ∷ M) apart r s =
      let parts = and_parts (is_apart_from K g c) (list_all (is_apart_from K g) M) apart in
      two (λ t u. not (is_true (negation t)) && u) (conditions_read (with_rows K rows) fits c (lay G s r) r (λ k in_. off G s r k (unmentioned c parts.0 k in_))) (allows-ignores M parts.1 r s)

lowered-sound : TwoAreSound spec.lowered
lowered-sound K W (Semi D x z) (Join C a b) s stands below is =
    let fit = if-given (spec.change_places K C D b z) _ s is in
    let parts = and_parts (list_all (is_apart_from K b) D) (list_all (is_apart_from K z) C) fit.0 in
    given K W _ _ s fit.1 (has-bag V _ _ _ (join-is V C _ _ _ _ (semi-is V D _ _ _ _ (class-is V a) (class-is V z)) (class-is V b)) (same_bag-trans _ _ _
    (semi-same (holds W.rows D) (holds W.rows D) (has (K.columns z)) _ _ (W.rows z) (W.rows z) (λ r. refl) (below.rows x (z ∷ []) refl) (λ e f. refl))
    (semijoins_go_below_joins (holds W.rows C) (holds W.rows D) (has (K.columns b)) (has (K.columns z)) (W.rows a) (W.rows b) (W.rows z)
    (right-apart K x z a b (sides-apart W.instances W.own K D x z stands.formed) (below.columns x (z ∷ []) refl))
    (apart-ignores K b W.rows stands.classes.fits D parts.0))))
  where
    V : Classes
    V = with_rows K W.rows
lowered-sound K W (Anti N M x z) (Join C a b) s stands below is =
    let fit = if-given (spec.change_places K C (N ++ M) b z) _ s is in
    let parts = and_parts (list_all (is_apart_from K b) (N ++ M)) (list_all (is_apart_from K z) C) fit.0 in
    let lists = and_parts (list_all (is_apart_from K b) N) (list_all (is_apart_from K b) M) (sym (list_all-append (is_apart_from K b) N M) ∙ parts.0) in
    given K W _ _ s fit.1 (has-bag V _ _ _ (join-is V C _ _ _ _ (anti-is V N M _ _ _ _ (class-is V a) (class-is V z)) (class-is V b)) (same_bag-trans _ _ _
    (anti-same both both (has (K.columns z)) _ _ (W.rows z) (W.rows z) (λ r. refl) (below.rows x (z ∷ []) refl) (λ e f. refl))
    (antijoins_go_below_joins (holds W.rows C) both (has (K.columns b)) (has (K.columns z)) (W.rows a) (W.rows b) (W.rows z)
    (right-apart K x z a b (sides-apart W.instances W.own K (N ++ M) x z stands.formed) (below.columns x (z ∷ []) refl))
    (λ r s. two (λ t u. t && u) (apart-ignores K b W.rows stands.classes.fits N lists.0 r s) (allows-ignores K b W.rows stands.classes.fits M lists.1 r s)))))
  where
    V : Classes
    V = with_rows K W.rows

    both : Test
    both r = holds W.rows N r && allows W.rows M r
lowered-sound K W x y s stands below is = cc

pub semijoin_below_join_sound : IsSound spec.semijoin_below_join
semijoin_below_join_sound = two-sound spec.lowered lowered-sound

-- ---- its pattern

lowered-keeps : TwoKeepTo (Either operator.Semi operator.Anti) (Only operator.Join) spec.lowered
lowered-keeps K (Semi D x z) (Join C a b) other = cc
lowered-keeps K (Anti N M x z) (Join C a b) other = cc
lowered-keeps K x y other = refl

pub semijoin_below_join_keeps : KeepsTo spec.pattern spec.semijoin_below_join
semijoin_below_join_keeps = two-keep (Either operator.Semi operator.Anti) (Only operator.Join) spec.lowered lowered-keeps

-- ---- what it gives is well formed

module _ (S : Site) (D C : List Condition) (x z a b : ℕ) (j : Joined S D x z) (i : Joined S C a b) (here : S.classes.columns x ≡ rising (S.classes.columns a ++ S.classes.columns b)) where
  abbrev B : ℕ → List ℕ
  B = S.classes.columns

  apart : AreApart (rising (B a ++ B b)) (B z)
  apart = subst (λ X. AreApart X (B z)) here j.apart

  -- the side that the upper conditions mention
  below-apart : AreApart (B a) (B z)
  below-apart = apart-of_first (B a) (B b) (B z) apart

  -- what has its columns is joined with the other side
  joined-above : (below : Shape) → Is S below (B a) → Is S (shape.Join C below (shape.Class b)) (B x)
  joined-above below stands = given-is S _ _ _ _ refl (sym here) (join-stands S C _ _ _ _ stands (class-stands S b i.right) i.are i.plain i.apart)

lowered-formed : TwoAreFormed spec.lowered
lowered-formed S (Semi D x z) (Join C a b) s stands next same is =
    given-is S _ s _ _ (if-given (spec.change_places S.classes C D b z) _ s is).1 refl
    (joined-above S D C x z a b j i here _ (semi-stands S D _ _ _ _ (class-stands S a i.left) (class-stands S z j.right) j.are j.plain (below-apart S D C x z a b j i here)))
  where
    j : Joined S D x z
    j = joined S D x z stands.known stands.formed

    i : Joined S C a b
    i = joined S C a b next.known next.formed

    here : S.classes.columns x ≡ rising (S.classes.columns a ++ S.classes.columns b)
    here = same x (z ∷ []) refl
lowered-formed S (Anti N M x z) (Join C a b) s stands next same is =
    given-is S _ s _ _ (if-given (spec.change_places S.classes C (N ++ M) b z) _ s is).1 refl
    (joined-above S (N ++ M) C x z a b j i here _
    (anti-stands S N M _ _ _ _ (class-stands S a i.left) (class-stands S z j.right) j.are j.plain (below-apart S (N ++ M) C x z a b j i here)))
  where
    j : Joined S (N ++ M) x z
    j = joined S (N ++ M) x z stands.known stands.formed

    i : Joined S C a b
    i = joined S C a b next.known next.formed

    here : S.classes.columns x ≡ rising (S.classes.columns a ++ S.classes.columns b)
    here = same x (z ∷ []) refl
lowered-formed S x y s stands next same is = cc

pub semijoin_below_join_formed : IsFormed spec.semijoin_below_join
semijoin_below_join_formed = two-formed spec.lowered lowered-formed

-- ---- it depends on the classes that its lines name

places-same : (p : ℕ → Bool) (K L : Knowledge) → Agree p K L → (C D : List Condition) (b z : ℕ) → p b ≡ true → p z ≡ true → subqueries_pass p C ≡ true → subqueries_pass p D ≡ true
    → spec.change_places K C D b z ≡ spec.change_places L C D b z
places-same p K L agree C D b z right upper inner conditions =
    two (λ t u. t && u) (all-same p K L agree (is_apart_from K b) (is_apart_from L b) (apart-same p K L agree b right) D conditions)
    (all-same p K L agree (is_apart_from K z) (is_apart_from L z) (apart-same p K L agree z upper) C inner)

lowered-stable : TwoAreStable spec.lowered
lowered-stable p K L agree (Semi D x z) (Join C a b) known next =
    let j = sides p x z D known in
    let i = sides p a b C next in
    ap (λ t. wanted_if FailedCondition t (shape.Join C (shape.Semi D (shape.Class a) (shape.Class z)) (shape.Class b))) (places-same p K L agree C D b z i.1 j.1 i.2 j.2)
lowered-stable p K L agree (Anti N M x z) (Join C a b) known next =
    let j = sides p x z (N ++ M) known in
    let i = sides p a b C next in
    ap (λ t. wanted_if FailedCondition t (shape.Join C (shape.Anti N M (shape.Class a) (shape.Class z)) (shape.Class b))) (places-same p K L agree C (N ++ M) b z i.1 j.1 i.2 j.2)
lowered-stable p K L agree x y known next = refl

pub semijoin_below_join_stable : IsStable spec.semijoin_below_join
semijoin_below_join_stable = two-stable spec.lowered lowered-stable

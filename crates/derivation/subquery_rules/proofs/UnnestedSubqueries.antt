-- What is made of a picked subquery: its laws, whatever class its rows are a part of.
use Rattle.std.proofs.Common.{◌≡◌, refl, ap, sym, ◌∙◌, ℕ, Bool, true, false, not, ◌&&◌, if◌then◌else◌, List, [], ◌++◌, Result, Ok, Err, Option, Some, None}
use Rattle.std.specs.List.{list_all, list_any}
use Rattle.std.proofs.lemmas.Bool.{and_parts, and_from, not-true}
use Rattle.std.proofs.lemmas.List.Folds.{list_all-append}
use Rattle.std.proofs.Math.Bool.{and-true}
use Rattle.values.specs.declared.truth.Comparison.TheVariants as by_
use Rattle.values.specs.Faults.{wanted_if}
use Rattle.values.specs.Truth.{is_true}
use Rattle.algebra.specs.declared.condition.Condition.{Condition}
use Rattle.algebra.specs.declared.condition.Condition.TheVariants.{Compare, Exists, In}
use Rattle.algebra.specs.declared.condition.Term.{Term}
use Rattle.algebra.specs.declared.condition.Term.TheVariants as term
use Rattle.algebra.specs.Bags.{Env, SameBag, lay, select}
use Rattle.algebra.specs.Columns.{has, are_disjoint}
use Rattle.algebra.specs.Conditions.{truth, holds, allows, all_classes, all_columns, term_columns, term_passes}
use Rattle.algebra.specs.ConditionEquality.{same_condition}
use Rattle.algebra.specs.ConjunctParts.{rest, union}
use Rattle.algebra.specs.Expressions.{Classes, is_plain, is_query_column}
use Rattle.algebra.proofs.ConditionNames.{classes-Compare, classes-Exists, columns-Compare, columns-Not, columns-In}
use Rattle.algebra.proofs.ConnectiveParts.{conjuncts-classes, conjuncts-columns}
use Rattle.algebra.proofs.Lists.{two}
use Rattle.algebra.proofs.MentionedColumns.{each_has, mentions-Exists}
use Rattle.algebra.proofs.SameBags.{same_bag-trans}
use Rattle.laws.specs.Rewriting.{AreApart as HaveNone}
use Rattle.props.specs.Knowledge.{Knowledge, with_rows}
use Rattle.rules.specs.declared.shape.Shape.{Shape}
use Rattle.rules.specs.declared.shape.Shape.TheVariants.{Class, Semi, Anti}
use Rattle.rules.specs.declared.unfit.Unfit.{Unfit}
use Rattle.rules.specs.declared.unfit.Unfit.TheVariants.{Pattern, Condition as FailedCondition}
use Rattle.rules.specs.Bindings.{SubqueryPick}
use Rattle.rules.specs.Conjuncts.{is_apart_from}
use Rattle.rules.specs.Soundness.{World}
use Rattle.rules.specs.Stability.{Agree}
use Rattle.rules.proofs.BoundForms.{IsPicked, selection}
use Rattle.rules.proofs.Conditions.{if-given}
use Rattle.rules.proofs.FormedLines.{Site, MayStand, Is, Are, given-is, first-founded, select-are, class-stands, selected-stands, semi-stands, anti-stands, rest-are, union-are}
use Rattle.rules.proofs.FormedShapes.{AreApart, apart-at, classes-union}
use Rattle.rules.proofs.MatchedLines.{Stands, given, rows_of, shape_rows}
use Rattle.rules.proofs.Picks.{condition-passes}
use Rattle.rules.proofs.ShapeMeanings.{class-is, semi-is, anti-is, selected-same}
use Rattle.rules.proofs.StableLines.{apart-same}
use Rattle.subquery_rules.specs.Unnesting as spec
use Rattle.subquery_rules.specs.Unnesting.{Unnesting}
use Rattle.subquery_rules.proofs.FoundRows.{At, found_is_semi, unfound_is_anti}
use Rattle.subquery_rules.proofs.PickedConditions.{is_of-exists, is_of-not_exists, is_of-member, is_of-denied, picked-holds}
use Rattle.subquery_rules.proofs.SubqueryTruths.{exists-true, not_exists-true, in-true, not_in-true, ask_any, ask_equal, ask_maybe, equal-laid, maybe-laid}

-- ---- what the tests say

pub record Joins (K : Knowledge) (x : ℕ) (P : List Condition) (b : ℕ) : Type 0 where
  pub plain : is_plain P ≡ true
  pub apart : AreApart (K.columns x) (K.columns b)
  pub unread : HaveNone (has (K.columns x)) (K.free b)

joins : (K : Knowledge) (x : ℕ) (P : List Condition) (b : ℕ) → spec.can_join K x P b ≡ true → Joins K x P b
joins K x P b can =
    let parts = and_parts (is_plain P && are_disjoint (K.columns x) (K.columns b)) (is_apart_from K x (Exists b)) can in
    let sides = and_parts (is_plain P) (are_disjoint (K.columns x) (K.columns b)) parts.0 in
    record {
      plain = sides.0;
      apart = apart-at (K.columns x) (K.columns b) sides.1;
      unread = λ c in_. sym (mentions-Exists K.columns K.free c b) ∙ not-true _ (each_has _ (K.columns x) parts.1 c in_);
    }

across-apart : (cols : ℕ → List ℕ) (m : Term × ℕ) (b : ℕ) → spec.is_across cols m b ≡ true → are_disjoint (term_columns m.0) (cols b) ≡ true
across-apart cols m b across = (and_parts (has (cols b) m.1) (are_disjoint (term_columns m.0) (cols b)) across).1

-- what is given where a test of the form passes, and another
when-given : (v w : Bool) (t s : Shape) → (if v then wanted_if FailedCondition w t else Err Pattern) ≡ Ok s → (v ≡ true) × (w ≡ true) × (◌≡◌ {A = Result Shape Unfit} (Ok t) (Ok s))
when-given true w t s is = let both = if-given w t s is in (refl, both.0, both.1)
when-given false w t s is = cc

-- ---- it gives the same rows

-- the subquery's rows are those of a class that the conditions hold with
abbrev pub IsPart : World → SubqueryPick → List Condition → ℕ → Type 0
IsPart W p P b = SameBag (W.rows p.class) (select (holds W.rows P) (W.rows b))

abbrev pub UnnestsSound : Unnesting → Type 0
UnnestsSound unnest = (K : Knowledge) (W : World) (p : SubqueryPick) (P : List Condition) (b : ℕ) (s : Shape) → Stands K W (selection p) → IsPicked p → IsPart W p P b → unnest K p P b ≡ Ok s
    → SameBag (rows_of K W (selection p)) (shape_rows K W s)

module _ (K : Knowledge) (W : World) (p : SubqueryPick) (b : ℕ) (stands : Stands K W (selection p)) (picked : IsPicked p) (unread : HaveNone (has (K.columns p.input)) (K.free b)) (n : At) where
  abbrev V : Classes
  V = with_rows K W.rows

  semi-rows : (C : List Condition) → ((r s : Env) → n r (lay (has (K.columns b)) s r) ≡ holds W.rows C (lay (has (K.columns b)) s r)) → ((r : Env) → is_true (truth p.condition W.rows r) ≡ list_any (n r) (W.rows b r))
      → SameBag (rows_of K W (selection p)) (shape_rows K W (spec.semi_of p C b))
  semi-rows C alike told = same_bag-trans _ _ _
      (found_is_semi n (holds W.rows C) (has (K.columns p.input)) (has (K.columns b)) (K.free p.input) (K.free b) (W.rows p.input) (W.rows b) (stands.classes.fits p.input) (stands.classes.fits b) unread alike
      (holds W.rows p.conjuncts) (holds W.rows (spec.others p)) (λ r. picked-holds p picked W.rows r ∙ ap (λ v. v && holds W.rows (spec.others p) r) (told r)))
      (selected-same V (spec.others p) (Semi C (Class p.input) (Class b)) _ (semi-is V C _ _ _ _ (class-is V p.input) (class-is V b)))

  anti-rows : (S M : List Condition) → ((r s : Env) → n r (lay (has (K.columns b)) s r) ≡ (holds W.rows S (lay (has (K.columns b)) s r) && allows W.rows M (lay (has (K.columns b)) s r)))
      → ((r : Env) → is_true (truth p.condition W.rows r) ≡ not (list_any (n r) (W.rows b r))) → SameBag (rows_of K W (selection p)) (shape_rows K W (spec.anti_of p S M b))
  anti-rows S M alike told = same_bag-trans _ _ _
      (unfound_is_anti n (λ r. holds W.rows S r && allows W.rows M r) (has (K.columns p.input)) (has (K.columns b)) (K.free p.input) (K.free b) (W.rows p.input) (W.rows b) (stands.classes.fits p.input) (stands.classes.fits b) unread alike
      (holds W.rows p.conjuncts) (holds W.rows (spec.others p)) (λ r. picked-holds p picked W.rows r ∙ ap (λ v. v && holds W.rows (spec.others p) r) (told r)))
      (selected-same V (spec.others p) (Anti S M (Class p.input) (Class b)) _ (anti-is V S M _ _ _ _ (class-is V p.input) (class-is V b)))

pub exists-sound : UnnestsSound spec.exists_as_semi
exists-sound K W p P b s stands picked part is =
    let g = when-given (spec.is_exists p.condition) (spec.can_join K p.input P b) _ s is in
    given K W _ _ s g.2 (semi-rows K W p b stands picked (joins K p.input P b g.1).unread (ask_any W.rows p.class b P part) P (λ r s. and-true (holds W.rows P (lay (has (K.columns b)) s r)))
    (λ r. ap (λ c. is_true (truth c W.rows r)) (is_of-exists p picked g.0) ∙ exists-true W.rows p.class b P part r))

pub not_exists-sound : UnnestsSound spec.not_exists_as_anti
not_exists-sound K W p P b s stands picked part is =
    let g = when-given (spec.is_not_exists p.condition) (spec.can_join K p.input P b) _ s is in
    given K W _ _ s g.2 (anti-rows K W p b stands picked (joins K p.input P b g.1).unread (ask_any W.rows p.class b P part) P [] (λ r s. refl)
    (λ r. ap (λ c. is_true (truth c W.rows r)) (is_of-not_exists p picked g.0) ∙ not_exists-true W.rows p.class b P part r))

pub in-sound : UnnestsSound spec.in_as_semi
in-sound K W p P b s stands picked part is = by (spec.member p.condition) refl is
  where
    by : (o : Option (Term × ℕ)) → spec.member p.condition ≡ o → spec.member_as_semi K p P b o ≡ Ok s → SameBag (rows_of K W (selection p)) (shape_rows K W s)
    by None at is = cc
    by (Some m) at is =
        let g = if-given (spec.can_join K p.input P b && spec.is_across K.columns m b) _ s is in
        let tests = and_parts (spec.can_join K p.input P b) (spec.is_across K.columns m b) g.0 in
        given K W _ _ s g.1 (semi-rows K W p b stands picked (joins K p.input P b tests.0).unread (ask_equal W.rows p.class b P part m.0 m.1) (union P (spec.equated m))
        (equal-laid W.rows P (K.columns b) m.0 m.1 (across-apart K.columns m b tests.1))
        (λ r. ap (λ c. is_true (truth c W.rows r)) (is_of-member p picked m at) ∙ in-true W.rows p.class b P part m.0 m.1 r))

pub not_in-sound : UnnestsSound spec.not_in_as_anti
not_in-sound K W p P b s stands picked part is = by (spec.denied_member p.condition) refl is
  where
    by : (o : Option (Term × ℕ)) → spec.denied_member p.condition ≡ o → spec.member_as_anti K p P b o ≡ Ok s → SameBag (rows_of K W (selection p)) (shape_rows K W s)
    by None at is = cc
    by (Some m) at is =
        let g = if-given (spec.can_join K p.input P b && spec.is_across K.columns m b) _ s is in
        let tests = and_parts (spec.can_join K p.input P b) (spec.is_across K.columns m b) g.0 in
        given K W _ _ s g.1 (anti-rows K W p b stands picked (joins K p.input P b tests.0).unread (ask_maybe W.rows p.class b P part m.0 m.1) P (spec.equated m)
        (maybe-laid W.rows P (K.columns b) m.0 m.1 (across-apart K.columns m b tests.1))
        (λ r. ap (λ c. is_true (truth c W.rows r)) (is_of-denied p picked m at) ∙ not_in-true W.rows p.class b P part m.0 m.1 r))

-- ---- it is well formed

abbrev pub UnnestsFormed : Unnesting → Type 0
UnnestsFormed unnest = (S : Site) (p : SubqueryPick) (P : List Condition) (b : ℕ) (s : Shape) → MayStand S (selection p) → IsPicked p → S.founds b ≡ true → Are S P → unnest S.classes p P b ≡ Ok s
    → Is S s (S.classes.columns p.input)

module _ (S : Site) (p : SubqueryPick) (b : ℕ) (stands : MayStand S (selection p)) (founded : S.founds b ≡ true) (apart : AreApart (S.classes.columns p.input) (S.classes.columns b)) where
  others-are : Are S (spec.others p)
  others-are = union-are S [] (rest (λ d. same_condition d p.condition) p.conjuncts) (record { known = refl; named = refl }) (rest-are S _ p.conjuncts (select-are S p.conjuncts p.input stands))

  semi-formed : (C : List Condition) → Are S C → is_plain C ≡ true → Is S (spec.semi_of p C b) (S.classes.columns p.input)
  semi-formed C are plain = selected-stands S (spec.others p) _ _
      (semi-stands S C _ _ _ _ (class-stands S p.input (first-founded S p.input _ stands.known)) (class-stands S b founded) are plain apart) others-are

  anti-formed : (N M : List Condition) → Are S N → Are S M → is_plain N ≡ true → is_plain M ≡ true → Is S (spec.anti_of p N M b) (S.classes.columns p.input)
  anti-formed N M one other plain also = selected-stands S (spec.others p) _ _
      (anti-stands S N M _ _ _ _ (class-stands S p.input (first-founded S p.input _ stands.known)) (class-stands S b founded)
      (record { known = both (λ d. all_classes d S.founds) one.known other.known; named = both (λ d. all_columns d (is_query_column S.instances S.own)) one.named other.named })
      (both (λ d. all_classes d (λ g. false)) plain also) apart) others-are
    where
      both : (t : Condition → Bool) → list_all t N ≡ true → list_all t M ≡ true → list_all t (N ++ M) ≡ true
      both t h k = list_all-append t N M ∙ and_from _ _ h k

pub exists-formed : UnnestsFormed spec.exists_as_semi
exists-formed S p P b s stands picked founded are is =
    let g = when-given (spec.is_exists p.condition) (spec.can_join S.classes p.input P b) _ s is in
    let j = joins S.classes p.input P b g.1 in
    given-is S _ s _ _ g.2 refl (semi-formed S p b stands founded j.apart P are j.plain)

pub not_exists-formed : UnnestsFormed spec.not_exists_as_anti
not_exists-formed S p P b s stands picked founded are is =
    let g = when-given (spec.is_not_exists p.condition) (spec.can_join S.classes p.input P b) _ s is in
    let j = joins S.classes p.input P b g.1 in
    given-is S _ s _ _ g.2 refl (anti-formed S p b stands founded j.apart P [] are (record { known = refl; named = refl }) j.plain refl)

equated-plain : (m : Term × ℕ) (q : ℕ → Bool) → list_all (λ d. all_classes d q) (spec.equated m) ≡ true
equated-plain m q = conjuncts-classes (Compare by_.Equal m.0 (term.Column m.1)) q ∙ classes-Compare by_.Equal m.0 (term.Column m.1) q

-- an equality names what the IN does
equated-are : (S : Site) (m : Term × ℕ) → (term_passes (is_query_column S.instances S.own) m.0 && is_query_column S.instances S.own m.1) ≡ true → Are S (spec.equated m)
equated-are S m named =
    let q = is_query_column S.instances S.own in
    let parts = and_parts (term_passes q m.0) (q m.1) named in
    record {
      known = equated-plain m S.founds;
      named = conjuncts-columns (Compare by_.Equal m.0 (term.Column m.1)) q ∙ columns-Compare by_.Equal m.0 (term.Column m.1) q ∙ and_from _ _ parts.0 (and_from _ _ parts.1 refl);
    }

-- the picked condition names columns of the query
picked-named : (S : Site) (p : SubqueryPick) → MayStand S (selection p) → IsPicked p → all_columns p.condition (is_query_column S.instances S.own) ≡ true
picked-named S p stands picked = condition-passes (λ d. all_columns d (is_query_column S.instances S.own)) p picked (select-are S p.conjuncts p.input stands).named

pub in-formed : UnnestsFormed spec.in_as_semi
in-formed S p P b s stands picked founded are is = by (spec.member p.condition) refl is
  where
    q : ℕ → Bool
    q = is_query_column S.instances S.own

    by : (o : Option (Term × ℕ)) → spec.member p.condition ≡ o → spec.member_as_semi S.classes p P b o ≡ Ok s → Is S s (S.classes.columns p.input)
    by None at is = cc
    by (Some m) at is =
        let g = if-given (spec.can_join S.classes p.input P b && spec.is_across S.classes.columns m b) _ s is in
        let j = joins S.classes p.input P b (and_parts _ _ g.0).0 in
        let named = sym (columns-In m.0 p.class m.1 q) ∙ ap (λ c. all_columns c q) (sym (is_of-member p picked m at)) ∙ picked-named S p stands picked in
        given-is S _ s _ _ g.1 refl (semi-formed S p b stands founded j.apart (union P (spec.equated m)) (union-are S P (spec.equated m) are (equated-are S m named))
        (classes-union (λ h. false) P (spec.equated m) j.plain (equated-plain m (λ h. false))))

pub not_in-formed : UnnestsFormed spec.not_in_as_anti
not_in-formed S p P b s stands picked founded are is = by (spec.denied_member p.condition) refl is
  where
    q : ℕ → Bool
    q = is_query_column S.instances S.own

    by : (o : Option (Term × ℕ)) → spec.denied_member p.condition ≡ o → spec.member_as_anti S.classes p P b o ≡ Ok s → Is S s (S.classes.columns p.input)
    by None at is = cc
    by (Some m) at is =
        let g = if-given (spec.can_join S.classes p.input P b && spec.is_across S.classes.columns m b) _ s is in
        let j = joins S.classes p.input P b (and_parts _ _ g.0).0 in
        let named = sym (columns-Not (In m.0 p.class m.1) q ∙ columns-In m.0 p.class m.1 q) ∙ ap (λ c. all_columns c q) (sym (is_of-denied p picked m at)) ∙ picked-named S p stands picked in
        given-is S _ s _ _ g.1 refl (anti-formed S p b stands founded j.apart P (spec.equated m) are (equated-are S m named) j.plain (equated-plain m (λ h. false)))

-- ---- it depends on the two classes alone

abbrev pub UnnestsStable : Unnesting → Type 0
UnnestsStable unnest = (q : ℕ → Bool) (K L : Knowledge) → Agree q K L → (p : SubqueryPick) (P : List Condition) (b : ℕ) → q p.input ≡ true → q b ≡ true → unnest K p P b ≡ unnest L p P b

module _ (q : ℕ → Bool) (K L : Knowledge) (agree : Agree q K L) (p : SubqueryPick) (P : List Condition) (b : ℕ) (input : q p.input ≡ true) (class : q b ≡ true) where
  joins-same : spec.can_join K p.input P b ≡ spec.can_join L p.input P b
  joins-same =
      two (λ A B. (is_plain P && are_disjoint A B) && is_apart_from K p.input (Exists b)) (agree.columns p.input input) (agree.columns b class)
      ∙ ap (λ v. (is_plain P && are_disjoint (L.columns p.input) (L.columns b)) && v) (apart-same q K L agree p.input input (Exists b) (classes-Exists b q ∙ class))

  members-same : (m : Term × ℕ) → (spec.can_join K p.input P b && spec.is_across K.columns m b) ≡ (spec.can_join L p.input P b && spec.is_across L.columns m b)
  members-same m = two (λ v w. v && w) joins-same (ap (λ B. has B m.1 && are_disjoint (term_columns m.0) B) (agree.columns b class))

pub exists-stable : UnnestsStable spec.exists_as_semi
exists-stable q K L agree p P b input class =
    ap (λ v. if spec.is_exists p.condition then wanted_if FailedCondition v (spec.semi_of p P b) else Err Pattern) (joins-same q K L agree p P b input class)

pub not_exists-stable : UnnestsStable spec.not_exists_as_anti
not_exists-stable q K L agree p P b input class =
    ap (λ v. if spec.is_not_exists p.condition then wanted_if FailedCondition v (spec.anti_of p P [] b) else Err Pattern) (joins-same q K L agree p P b input class)

pub in-stable : UnnestsStable spec.in_as_semi
in-stable q K L agree p P b input class = by (spec.member p.condition)
  where
    by : (o : Option (Term × ℕ)) → spec.member_as_semi K p P b o ≡ spec.member_as_semi L p P b o
    by None = refl
    by (Some m) = ap (λ v. wanted_if FailedCondition v (spec.semi_of p (union P (spec.equated m)) b)) (members-same q K L agree p P b input class m)

pub not_in-stable : UnnestsStable spec.not_in_as_anti
not_in-stable q K L agree p P b input class = by (spec.denied_member p.condition)
  where
    by : (o : Option (Term × ℕ)) → spec.member_as_anti K p P b o ≡ spec.member_as_anti L p P b o
    by None = refl
    by (Some m) = ap (λ v. wanted_if FailedCondition v (spec.anti_of p P (spec.equated m) b)) (members-same q K L agree p P b input class m)

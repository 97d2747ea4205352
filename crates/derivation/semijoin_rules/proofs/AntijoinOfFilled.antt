-- An antijoin whose null-aware conditions are never unknown: its laws.
use Rattle.std.proofs.Common.{◌≡◌, refl, ap, sym, ◌∙◌, inl, inr, ℕ, Bool, true, false, not, ◌&&◌, ◌||◌, List, [], ◌++◌}
use Rattle.std.proofs.lemmas.Bool.{and_parts, and_from, or_cases}
use Rattle.std.proofs.lemmas.List.Folds.{list_all-append}
use Rattle.std.proofs.Math.Bool.{and_assoc}
use Rattle.values.specs.Truth.{is_true, negation}
use Rattle.algebra.specs.declared.condition.Condition.{Condition}
use Rattle.algebra.specs.declared.expr.Expr.TheVariants.{Anti}
use Rattle.algebra.specs.Columns.{has}
use Rattle.algebra.specs.Bags.{Env, Bag, lay}
use Rattle.algebra.specs.Conditions.{truth, holds, allows, all_classes, all_columns}
use Rattle.algebra.specs.ConjunctOrder.{conjuncts}
use Rattle.algebra.specs.ConjunctParts.{union, part, rest}
use Rattle.algebra.specs.Expressions.{Classes, is_plain, is_query_column}
use Rattle.algebra.proofs.ConjunctSplits.{union_holds, split_passes}
use Rattle.algebra.proofs.Lists.{two}
use Rattle.laws.specs.Keys.{count, has_null}
use Rattle.laws.specs.Rewriting.{AreApart}
use Rattle.laws.proofs.Ignored.{part-passes}
use Rattle.props.specs.declared.fact.Fact.TheVariants.{NotNull}
use Rattle.props.specs.declared.fact.FactSets.{FactSets}
use Rattle.props.specs.Knowledge.{Knowledge, IsTrueOf, with_rows}
use Rattle.rules.specs.declared.pattern.Operator.TheVariants as operator
use Rattle.rules.specs.declared.pattern.Operators.TheVariants.{Only}
use Rattle.rules.specs.Soundness.{IsSound}
use Rattle.rules.specs.Formed.{IsFormed}
use Rattle.rules.specs.Patterns.{KeepsTo}
use Rattle.rules.specs.Stability.{IsStable}
use Rattle.semijoin_rules.specs.AntijoinOfFilled as spec
use Rattle.rules.proofs.Conditions.{some-given}
use Rattle.rules.proofs.MatchedLines.{OneIsSound, given, one-sound}
use Rattle.rules.proofs.ShapeMeanings.{class-is, anti-is, has-bag}
use Rattle.rules.proofs.FormedLines.{Site, Are, OneIsFormed, one-formed, given-is, joined, Joined, class-stands, anti-stands, part-are, rest-are, union-are}
use Rattle.rules.proofs.FormedShapes.{classes-union, part-plain, rest-plain}
use Rattle.rules.proofs.PatternedLines.{OneKeepsTo, one-keeps}
use Rattle.rules.proofs.StableLines.{OneIsStable, one-stable, sides}
use Rattle.semijoin_rules.proofs.FilledConditions.{IsFilledIn, decided-hold, conjuncts-allow, none-null, filled-in}
use Rattle.semijoin_rules.proofs.JoinedSides.{sides-apart}
use Rattle.semijoin_rules.proofs.Semijoins.{antijoins_agree}

-- ---- pairs of rows without Null

module _ (K : Knowledge) (rows : ℕ → Bag) (true_ : IsTrueOf K rows) where
  -- the columns that are nowhere Null
  abbrev never_null : ℕ → List ℕ
  never_null g = (K.facts g).not_null

  no-null : (g : ℕ) (e : Env) → count (has_null (never_null g)) (rows g e) ≡ 0
  no-null g e = none-null (never_null g) (rows g e) (λ k in_. (true_.facts g (NotNull k) in_).1 e)

  own-column : (g k : ℕ) → has (never_null g) k ≡ true → has (K.columns g) k ≡ true
  own-column g k in_ = (and_parts (has (K.columns g) k) true (true_.facts g (NotNull k) in_).0).0

  -- of a left and a right row
  pair-filled : (a b : ℕ) → AreApart (has (K.columns a)) (has (K.columns b)) → (r s : Env) → has_null (never_null a) r ≡ false → has_null (never_null b) s ≡ false
      → IsFilledIn (spec.filled_columns K a b) (lay (has (K.columns b)) s r)
  pair-filled a b apart r s left right k in_ = elim (or_cases (has (never_null a) k) (has (never_null b) k) in_) [
    | inl of_left ↦ let out = apart k (own-column a k of_left) in rw out (filled-in (never_null a) r left k of_left)
    | inr of_right ↦ let own = own-column b k of_right in rw own (filled-in (never_null b) s right k of_right)
  ]

  -- a pair passes as before
  pair-agrees : (a b : ℕ) (N M : List Condition) (w : Env) → IsFilledIn (spec.filled_columns K a b) w
      → (holds rows N w && allows rows M w) ≡ (holds rows (union N (part (spec.is_decided K a b) M)) w && allows rows (conjuncts (rest (spec.is_decided K a b) M)) w)
  pair-agrees a b N M w filled =
      ap (λ t. holds rows N w && t) (split_passes (λ c. not (is_true (negation (truth c rows w)))) t M ∙ ap (λ u. u && allows rows R w) (sym held))
      ∙ sym (and_assoc (holds rows N w) (holds rows P w) (allows rows R w))
      ∙ two (λ u v. u && v) (sym (union_holds rows N P w)) (sym (conjuncts-allow rows R w))
    where
      t : Condition → Bool
      t = spec.is_decided K a b

      P : List Condition
      P = part t M

      R : List Condition
      R = rest t M

      held : holds rows P w ≡ allows rows P w
      held = decided-hold (spec.filled_columns K a b) rows w filled P (part-passes t M)

-- ---- it gives the same rows

decided-sound : OneIsSound spec.decided_of
decided-sound K W (Anti N M a b) s stands is =
    given K W _ _ s (some-given P _ s is) (has-bag V _ _ _ (anti-is V (union N P) (conjuncts R) _ _ _ _ (class-is V a) (class-is V b))
    (antijoins_agree (λ r. holds W.rows N r && allows W.rows M r) (λ r. holds W.rows (union N P) r && allows W.rows (conjuncts R) r)
    (has_null (K.facts a).not_null) (has_null (K.facts b).not_null) (has (K.columns b)) (W.rows a) (W.rows b)
    (no-null K W.rows stands.classes a) (no-null K W.rows stands.classes b)
    (λ r s left right. pair-agrees K W.rows stands.classes a b N M _ (pair-filled K W.rows stands.classes a b (sides-apart W.instances W.own K (N ++ M) a b stands.formed) r s left right))))
  where
    V : Classes
    V = with_rows K W.rows

    P : List Condition
    P = part (spec.is_decided K a b) M

    R : List Condition
    R = rest (spec.is_decided K a b) M
decided-sound K W x s stands is = cc

pub antijoin_of_filled_sound : IsSound spec.antijoin_of_filled
antijoin_of_filled_sound = one-sound spec.decided_of decided-sound

-- ---- its pattern

decided-keeps : OneKeepsTo (Only operator.Anti) spec.decided_of
decided-keeps K (Anti N M a b) other = cc
decided-keeps K x other = refl

pub antijoin_of_filled_keeps : KeepsTo spec.pattern spec.antijoin_of_filled
antijoin_of_filled_keeps = one-keeps (Only operator.Anti) spec.decided_of decided-keeps

-- ---- what it gives is well formed

module _ (S : Site) (C D : List Condition) where
  -- conditions of two lists may stand where those of each may
  both-are : Are S C → Are S D → Are S (C ++ D)
  both-are one other = record {
    known = list_all-append (λ d. all_classes d S.founds) C D ∙ and_from _ _ one.known other.known;
    named = list_all-append (λ d. all_columns d (is_query_column S.instances S.own)) C D ∙ and_from _ _ one.named other.named;
  }

  first-are : Are S (C ++ D) → Are S C
  first-are are = record {
    known = (and_parts _ _ (sym (list_all-append (λ d. all_classes d S.founds) C D) ∙ are.known)).0;
    named = (and_parts _ _ (sym (list_all-append (λ d. all_columns d (is_query_column S.instances S.own)) C D) ∙ are.named)).0;
  }

  second-are : Are S (C ++ D) → Are S D
  second-are are = record {
    known = (and_parts _ _ (sym (list_all-append (λ d. all_classes d S.founds) C D) ∙ are.known)).1;
    named = (and_parts _ _ (sym (list_all-append (λ d. all_columns d (is_query_column S.instances S.own)) C D) ∙ are.named)).1;
  }

decided-formed : OneIsFormed spec.decided_of
decided-formed S (Anti N M a b) s stands rise is =
    given-is S _ s _ _ (some-given P _ s is) refl
    (anti-stands S (union N P) (conjuncts R) _ _ _ _ (class-stands S a j.left) (class-stands S b j.right)
    (both-are S (union N P) (conjuncts R) (union-are S N P (first-are S N M j.are) (part-are S t M others)) (union-are S [] R (record { known = refl; named = refl }) (rest-are S t M others)))
    (list_all-append (λ d. all_classes d none) (union N P) (conjuncts R)
    ∙ and_from _ _ (classes-union none N P plain.0 (part-plain t M plain.1)) (classes-union none [] R refl (rest-plain t M plain.1))) j.apart)
  where
    t : Condition → Bool
    t = spec.is_decided S.classes a b

    P : List Condition
    P = part t M

    R : List Condition
    R = rest t M

    none : ℕ → Bool
    none g = false

    j : Joined S (N ++ M) a b
    j = joined S (N ++ M) a b stands.known stands.formed

    others : Are S M
    others = second-are S N M j.are

    plain : (is_plain N ≡ true) × (is_plain M ≡ true)
    plain = and_parts (is_plain N) (is_plain M) (sym (list_all-append (λ d. all_classes d none) N M) ∙ j.plain)
decided-formed S x s stands rise is = cc

pub antijoin_of_filled_formed : IsFormed spec.antijoin_of_filled
antijoin_of_filled_formed = one-formed spec.decided_of decided-formed

-- ---- it depends on the classes that its lines name

decided-stable : OneIsStable spec.decided_of
decided-stable p K L agree (Anti N M a b) known =
    let j = sides p a b (N ++ M) known in
    two (λ (F G : FactSets). spec.moved N (part (λ c. spec.compares_filled c (λ k. has F.not_null k || has G.not_null k)) M) (rest (λ c. spec.compares_filled c (λ k. has F.not_null k || has G.not_null k)) M) a b)
    (agree.facts a j.0) (agree.facts b j.1)
decided-stable p K L agree x known = refl

pub antijoin_of_filled_stable : IsStable spec.antijoin_of_filled
antijoin_of_filled_stable = one-stable spec.decided_of decided-stable

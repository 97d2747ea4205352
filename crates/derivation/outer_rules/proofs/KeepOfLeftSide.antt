-- A projection of an outer join's left side: its laws.
use Rattle.std.proofs.Common.{◌≡◌, refl, sym, ◌∙◌, inl, inr, ℕ, true, ◌&&◌, ◌||◌, List, [], ap}
use Rattle.std.specs.List.{list_any}
use Rattle.std.proofs.lemmas.Bool.{and_parts, or_cases}
use Rattle.values.specs.Faults.{wanted_if}
use Rattle.algebra.specs.declared.expr.Expr.TheVariants.{Keep, LeftJoin}
use Rattle.algebra.specs.Columns.{has, are_disjoint}
use Rattle.algebra.specs.Conditions.{holds}
use Rattle.algebra.specs.Expressions.{Classes}
use Rattle.algebra.proofs.Lists.{two}
use Rattle.algebra.proofs.MentionedColumns.{all_has, each_has}
use Rattle.algebra.proofs.SameBags.{same_bag-trans, keep-same}
use Rattle.laws.proofs.Expressions.{has-both}
use Rattle.props.specs.declared.fact.FactSets.{FactSets}
use Rattle.props.specs.Given.{are_pinned, is_single}
use Rattle.props.specs.Knowledge.{with_rows}
use Rattle.props.proofs.GivenFacts.{single}
use Rattle.rules.specs.declared.shape.Shape.TheVariants as shape
use Rattle.rules.specs.declared.pattern.Operator.TheVariants as operator
use Rattle.rules.specs.declared.pattern.Operators.TheVariants.{Only}
use Rattle.rules.specs.declared.unfit.Unfit.TheVariants.{Condition as FailedCondition}
use Rattle.outer_rules.specs.KeepOfLeftSide as spec
use Rattle.rules.specs.Soundness.{IsSound}
use Rattle.rules.specs.Formed.{IsFormed}
use Rattle.rules.specs.Patterns.{KeepsTo}
use Rattle.rules.specs.Stability.{IsStable}
use Rattle.rules.proofs.Conditions.{if-given, disjoint-apart}
use Rattle.rules.proofs.MatchedLines.{TwoAreSound, given, two-sound}
use Rattle.rules.proofs.ShapeMeanings.{class-is, keep-is, has-bag}
use Rattle.rules.proofs.FormedLines.{TwoAreFormed, two-formed, given-is, joined, class-stands, keep-stands, Joined}
use Rattle.rules.proofs.PatternedLines.{TwoKeepTo, two-keep}
use Rattle.rules.proofs.StableLines.{TwoAreStable, two-stable, sides}
use Rattle.outer_rules.proofs.OuterJoins.{keeps_of_left_sides}

kept-sound : TwoAreSound spec.kept_of_left
kept-sound K W (Keep S x) (LeftJoin D a b) s stands below is =
    let unread = if-given (spec.is_unread K S D b) _ s is in
    let parts = and_parts (are_disjoint S (K.columns b)) (is_single K b D) unread.0 in
    given K W _ _ s unread.1 (has-bag V _ _ _ (keep-is V S _ _ (class-is V a)) (same_bag-trans _ _ _
    (keep-same (has S) _ _ (below.rows x [] refl))
    (keeps_of_left_sides (has S) (has (K.columns b)) (holds W.rows D) (W.rows a) (W.rows b) (disjoint-apart S (K.columns b) parts.0) (single K W.rows stands.classes b D parts.1))))
  where
    V : Classes
    V = with_rows K W.rows
kept-sound K W x y s stands below is = cc

pub keep_of_left_side_sound : IsSound spec.keep_of_left_side
keep_of_left_side_sound = two-sound spec.kept_of_left kept-sound

-- ---- its pattern

kept-keeps : TwoKeepTo (Only operator.Keep) (Only operator.LeftJoin) spec.kept_of_left
kept-keeps K (Keep S x) (LeftJoin D a b) other = cc
kept-keeps K x y other = refl

pub keep_of_left_side_keeps : KeepsTo spec.pattern spec.keep_of_left_side
keep_of_left_side_keeps = two-keep (Only operator.Keep) (Only operator.LeftJoin) spec.kept_of_left kept-keeps

-- ---- what it gives is well formed

kept-formed : TwoAreFormed spec.kept_of_left
kept-formed S (Keep L x) (LeftJoin D a b) s stands next same is =
    given-is S _ s _ _ (if-given _ _ s is).1 refl (keep-stands S L _ _ (class-stands S a i.left) (all_has (has (B a)) L left))
  where
    B : ℕ → List ℕ
    B = S.classes.columns

    i : Joined S D a b
    i = joined S D a b next.known next.formed

    there : (k : ℕ) → has L k ≡ true → (has (B a) k || has (B b) k) ≡ true
    there k in_ = sym (has-both (B a) (B b) k) ∙ sym (ap (λ X. has X k) (same x [] refl)) ∙ each_has (has (B x)) L stands.formed k in_

    left : (k : ℕ) → has L k ≡ true → has (B a) k ≡ true
    left k in_ = elim (or_cases (has (B a) k) (has (B b) k) (there k in_)) [
      | inl here ↦ here
      | inr right ↦ cc (right, disjoint-apart L (B b) (and_parts _ _ (if-given (spec.is_unread S.classes L D b) _ s is).0).0 k in_)
    ]
kept-formed S x y s stands next same is = cc

pub keep_of_left_side_formed : IsFormed spec.keep_of_left_side
keep_of_left_side_formed = two-formed spec.kept_of_left kept-formed

-- ---- it depends on the classes that its lines name

kept-stable : TwoAreStable spec.kept_of_left
kept-stable p K L agree (Keep S x) (LeftJoin D a b) known next =
    let i = sides p a b D next in
    two (λ (B : List ℕ) (F : FactSets). wanted_if FailedCondition (are_disjoint S B && (list_any (are_pinned B D) F.weak_keys || list_any (are_pinned B D) F.strong_keys)) (shape.Keep S (shape.Class a)))
    (agree.columns b i.1) (agree.facts b i.1)
kept-stable p K L agree x y known next = refl

pub keep_of_left_side_stable : IsStable spec.keep_of_left_side
keep_of_left_side_stable = two-stable spec.kept_of_left kept-stable

-- The padded rows of an outer join: the laws by which they are an antijoin.
use Rattle.std.proofs.Common.{◌≡◌, refl, ap, sym, ◌∙◌, subst, inl, inr, ℕ, Bool, true, false, ◌&&◌, ◌||◌, ◌==◌, if◌then◌else◌, List, [], ◌∷◌, ◌++◌, Result, Ok}
use Rattle.std.specs.List.{list_all, list_any}
use Rattle.std.proofs.lemmas.Bool.{and_parts, or_cases, eqb-true}
use Rattle.std.proofs.lemmas.List.{append-nil}
use Rattle.values.specs.Faults.{wanted_if}
use Rattle.values.specs.declared.value.Value.{Value}
use Rattle.values.specs.declared.value.Value.TheVariants as value
use Rattle.values.specs.Truth.{is_null}
use Rattle.algebra.specs.declared.condition.Condition.{Condition}
use Rattle.algebra.specs.declared.expr.Expr.TheVariants.{Keep, Select, LeftJoin}
use Rattle.algebra.specs.Columns.{ColumnSet, has, rising, are_disjoint}
use Rattle.algebra.specs.Bags.{Env, Bag, Test, total, lay, nulls, select, anti, SameBag}
use Rattle.algebra.specs.Conditions.{holds, allows}
use Rattle.algebra.specs.ConjunctParts.{part, rest}
use Rattle.algebra.specs.Expressions.{Classes, is_plain}
use Rattle.algebra.proofs.BagSums.{total-zero}
use Rattle.algebra.proofs.Lists.{two}
use Rattle.algebra.proofs.MentionedColumns.{all_has, each_has}
use Rattle.algebra.proofs.SameBags.{same_bag-trans, select-same, anti-same, keep-same}
use Rattle.laws.specs.Keys.{count, HasNoNull}
use Rattle.laws.proofs.Expressions.{has-both}
use Rattle.laws.proofs.KeyCounts.{total_none}
use Rattle.props.specs.declared.fact.Fact.TheVariants.{NotNull}
use Rattle.props.specs.declared.fact.FactSets.{FactSets}
use Rattle.props.specs.Knowledge.{Knowledge, IsTrueOf, with_rows}
use Rattle.props.specs.Outcomes.{IsNullIn, never_true}
use Rattle.props.proofs.SoundOutcomes.{never_true_is_sound}
use Rattle.rules.specs.declared.pattern.Input.TheVariants.{First}
use Rattle.rules.specs.declared.pattern.Operator.TheVariants as operator
use Rattle.rules.specs.declared.pattern.Operators.TheVariants.{Only}
use Rattle.rules.specs.declared.shape.Shape.{Shape}
use Rattle.rules.specs.declared.shape.Shape.TheVariants as shape
use Rattle.rules.specs.declared.unfit.Unfit.{Unfit}
use Rattle.rules.specs.declared.unfit.Unfit.TheVariants.{Condition as FailedCondition}
use Rattle.rules.specs.Conjuncts.{is_apart_from}
use Rattle.rules.specs.Shapes.{meant, selected}
use Rattle.rules.specs.Soundness.{IsSound}
use Rattle.rules.specs.Formed.{IsFormed}
use Rattle.rules.specs.Patterns.{KeepsTo}
use Rattle.rules.specs.Stability.{IsStable}
use Rattle.outer_rules.specs.OuterJoinIsAnti as spec
use Rattle.rules.proofs.Conditions.{part-ignores, split-holds, if-given, disjoint-apart}
use Rattle.rules.proofs.FormedBindings.{ThreeOverAreFormed, three_over-formed}
use Rattle.rules.proofs.FormedLines.{given-is, select-are, joined, class-stands, keep-stands, selected-stands, anti-stands, part-are, Are, Joined}
use Rattle.rules.proofs.MatchedLines.{given}
use Rattle.rules.proofs.PatternedBindings.{ThreeOverKeepTo, three_over-keep}
use Rattle.rules.proofs.ShapeMeanings.{class-is, anti-is, keep-is, selected-same, has-bag}
use Rattle.rules.proofs.SoundBindings.{ThreeOverAreSound, three_over-sound}
use Rattle.rules.proofs.StableBindings.{ThreeOverAreStable, three_over-stable}
use Rattle.rules.proofs.StableLines.{sides, part-apart, rest-apart}
use Rattle.outer_rules.proofs.NullConditions.{asked-hold, asked-null}
use Rattle.outer_rules.proofs.OuterJoins.{padded-null, outer_joins_are_anti}

-- ---- the rows that are found

module _ (K : Knowledge) (rows : ℕ → Bag) (true_ : IsTrueOf K rows) (N D : List Condition) (b : ℕ) where
  abbrev B : ColumnSet
  B = has (K.columns b)

  counted-none : (x y : Bool) → (y ≡ true → x ≡ false) → ◌≡◌ {A = ℕ} (if x && y then 1 else 0) 0
  counted-none true true h = cc (h refl)
  counted-none true false h = refl
  counted-none false y h = refl

  unpaired : (x y : Bool) → y ≡ false → ◌≡◌ {A = ℕ} (if x && y then 1 else 0) 0
  unpaired true true h = cc
  unpaired true false h = refl
  unpaired false y h = refl

  null-or : (x y : Bool) → (x ≡ false → y ≡ false) → y ≡ true → x ≡ true
  null-or true y h is = refl
  null-or false y h is = cc (h refl, is)

  null-value : (v : Value) → is_null v ≡ true → v ≡ value.Null
  null-value value.Null is = refl
  null-value (value.Int n) is = cc
  null-value (value.Text s) is = cc

  -- the conditions don't all hold with a row that is found
  pub none-found : spec.ask_for_pads K N D b ≡ true → (e r : Env) → count (λ s. holds rows D (lay B s r) && holds rows N (lay B s r)) (rows b e) ≡ 0
  none-found ask e r = elim (or_cases (has (K.facts b).not_null k) (never_true D (λ j. k == j)) found.1) [
    | inl filled ↦
        let fact = true_.facts b (NotNull k) filled in
        let own : B k ≡ true = (and_parts (B k) true fact.0).0 in
        let unasked : (s : Env) → is_null (s k) ≡ false → holds rows N (lay B s r) ≡ false = λ s is. found.2 rows (lay B s r) (rw own is) in
        total_none (λ s. is_null (s k)) _ (λ s is. unpaired (holds rows D (lay B s r)) (holds rows N (lay B s r)) (unasked s is)) (rows b e) (fact.1 e)
    | inr never ↦ total-zero _ (λ s. counted-none _ _ (λ asked. never_true_is_sound D (λ j. k == j) rows (lay B s r) (nulled s asked) never)) (rows b e)
  ]
    where
      parts : (list_all (spec.asks_null B) N ≡ true) × (list_any (spec.asks_null (spec.is_filled K D b)) N ≡ true)
      parts = and_parts (list_all (spec.asks_null B) N) (list_any (spec.asks_null (spec.is_filled K D b)) N) ask

      found : (k : ℕ) × (spec.is_filled K D b k ≡ true) × ((rows : ℕ → Bag) (r : Env) → is_null (r k) ≡ false → holds rows N r ≡ false)
      found = asked-null (spec.is_filled K D b) N parts.1

      k : ℕ
      k = found.0

      nulled : (s : Env) → holds rows N (lay B s r) ≡ true → IsNullIn (λ j. k == j) (lay B s r)
      nulled s asked j is =
          ap (lay B s r) (sym (eqb-true k j is))
          ∙ null-value (lay B s r k) (null-or (is_null (lay B s r k)) (holds rows N (lay B s r)) (found.2 rows (lay B s r)) asked)

-- ---- it gives the same rows

unfound-sound : ThreeOverAreSound First First spec.unfound_of
unfound-sound K W (Keep S x) (Select C y) (LeftJoin D a b) s stands below lower is =
    let fit = if-given (spec.are_unfound K S C D b) _ s is in
    let parts = and_parts (are_disjoint S (K.columns b)) (spec.ask_for_pads K N D b) fit.0 in
    let asks = and_parts (list_all (spec.asks_null B) N) (list_any (spec.asks_null (spec.is_filled K D b)) N) parts.1 in
    given K W _ _ s fit.1 (has-bag V _ _ _ (keep-is V S (selected P (shape.Anti D [] (shape.Class a) (shape.Class b))) _ refl) (same_bag-trans _ _ _
    (keep-same (has S) _ _ (same_bag-trans _ _ _ (below.rows x refl) (select-same (holds W.rows C) (holds W.rows C) _ _ (λ r. refl) (lower.rows y refl)))) (same_bag-trans _ _ _
    (outer_joins_are_anti (has S) B (holds W.rows C) (holds W.rows D) (holds W.rows P) (holds W.rows N) (W.rows a) (W.rows b) (disjoint-apart S (K.columns b) parts.0)
    (split-holds W.rows (is_apart_from K b) C) (part-ignores K b W.rows stands.classes.fits C)
    (λ r. asked-hold B N asks.0 W.rows (lay B nulls r) (λ k in_. ap is_null (padded-null B r k in_)))
    (none-found K W.rows stands.classes N D b parts.1))
    (keep-same (has S) _ _ (same_bag-trans _ _ _
    (select-same (holds W.rows P) (holds W.rows P) _ _ (λ r. refl) (anti-same (holds W.rows D) (λ r. holds W.rows D r && true) B (W.rows a) (W.rows a) (W.rows b) (W.rows b) (λ r. whole (holds W.rows D r)) (λ e f. refl) (λ e f. refl)))
    (selected-same V P _ _ (anti-is V D [] _ _ _ _ (class-is V a) (class-is V b))))))))
  where
    V : Classes
    V = with_rows K W.rows

    B : ColumnSet
    B = has (K.columns b)

    P : List Condition
    P = part (is_apart_from K b) C

    N : List Condition
    N = rest (is_apart_from K b) C

    whole : (t : Bool) → t ≡ (t && true)
    whole true = refl
    whole false = refl
unfound-sound K W x y z s stands below lower is = cc

pub outer_join_is_anti_sound : IsSound spec.outer_join_is_anti
outer_join_is_anti_sound = three_over-sound First First spec.unfound_of unfound-sound

-- ---- its pattern

unfound-keeps : ThreeOverKeepTo (Only operator.Keep) (Only operator.Select) (Only operator.LeftJoin) spec.unfound_of
unfound-keeps K (Keep S x) (Select C y) (LeftJoin D a b) other = cc
unfound-keeps K x y z other = refl

pub outer_join_is_anti_keeps : KeepsTo spec.pattern spec.outer_join_is_anti
outer_join_is_anti_keeps = three_over-keep First First (Only operator.Keep) (Only operator.Select) (Only operator.LeftJoin) spec.unfound_of unfound-keeps

-- ---- what it gives is well formed

unfound-formed : ThreeOverAreFormed First First spec.unfound_of
unfound-formed S (Keep L x) (Select C y) (LeftJoin D a b) s stands below lower is =
    given-is S _ s _ _ fit.1 refl (keep-stands S L _ _
    (selected-stands S P _ _ (anti-stands S D [] _ _ _ _ (class-stands S a i.left) (class-stands S b i.right) (subst (Are S) (sym (append-nil D)) i.are) (subst (λ E. is_plain E ≡ true) (sym (append-nil D)) i.plain) i.apart)
    (part-are S (is_apart_from S.classes b) C (select-are S C y below.stands))) (all_has (has (H a)) L left))
  where
    H : ℕ → List ℕ
    H = S.classes.columns

    P : List Condition
    P = part (is_apart_from S.classes b) C

    i : Joined S D a b
    i = joined S D a b lower.stands.known lower.stands.formed

    fit : (spec.are_unfound S.classes L C D b ≡ true) × (◌≡◌ {A = Result Shape Unfit} (Ok (shape.Keep L (selected P (shape.Anti D [] (shape.Class a) (shape.Class b))))) (Ok s))
    fit = if-given (spec.are_unfound S.classes L C D b) _ s is

    there : (k : ℕ) → has L k ≡ true → (has (H a) k || has (H b) k) ≡ true
    there k in_ = sym (has-both (H a) (H b) k) ∙ sym (ap (λ X. has X k) (below.columns x refl ∙ lower.columns y refl)) ∙ each_has (has (H x)) L stands.formed k in_

    left : (k : ℕ) → has L k ≡ true → has (H a) k ≡ true
    left k in_ = elim (or_cases (has (H a) k) (has (H b) k) (there k in_)) [
      | inl here ↦ here
      | inr right ↦ cc (right, disjoint-apart L (H b) (and_parts (are_disjoint L (H b)) _ fit.0).0 k in_)
    ]
unfound-formed S x y z s stands below lower is = cc

pub outer_join_is_anti_formed : IsFormed spec.outer_join_is_anti
outer_join_is_anti_formed = three_over-formed First First spec.unfound_of unfound-formed

-- ---- it depends on the classes that its lines name

unfound-stable : ThreeOverAreStable spec.unfound_of
unfound-stable p K L agree (Keep S x) (Select C y) (LeftJoin D a b) known next last =
    let i = sides p a b D last in
    let all = (and_parts _ _ next).1 in
    two (λ (B : List ℕ) (F : FactSets). wanted_if FailedCondition (are_disjoint S B && (list_all (spec.asks_null (has B)) (rest (is_apart_from K b) C) && list_any (spec.asks_null (λ c. has F.not_null c || never_true D (λ k. c == k))) (rest (is_apart_from K b) C)))
    (shape.Keep S (selected (part (is_apart_from K b) C) (shape.Anti D [] (shape.Class a) (shape.Class b))))) (agree.columns b i.1) (agree.facts b i.1)
    ∙ two (λ P N. wanted_if FailedCondition (are_disjoint S (L.columns b) && spec.ask_for_pads L N D b) (shape.Keep S (selected P (shape.Anti D [] (shape.Class a) (shape.Class b)))))
    (part-apart p K L agree b i.1 C all) (rest-apart p K L agree b i.1 C all)
unfound-stable p K L agree x y z known next last = refl

pub outer_join_is_anti_stable : IsStable spec.outer_join_is_anti
outer_join_is_anti_stable = three_over-stable First First spec.unfound_of unfound-stable

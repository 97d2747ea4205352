-- Projection pushdown: its laws.
use Rattle.std.proofs.Common.{refl, ap, ◌∙◌, ℕ, ◌&&◌, ◌||◌, List, [], filter, ◌≡◌, sym, true, inl, inr, ◌++◌, Bool, not}
use Rattle.std.proofs.lemmas.Bool.{and_parts, and_from, or_cases, or_left}
use Rattle.values.specs.Faults.{wanted_if}
use Rattle.algebra.specs.declared.expr.Expr.TheVariants.{Join, Keep}
use Rattle.algebra.specs.declared.condition.Condition.{Condition}
use Rattle.algebra.specs.Columns.{has, ColumnSet, is_same_set, rising}
use Rattle.algebra.specs.Conditions.{holds}
use Rattle.algebra.specs.Expressions.{Classes, mentioned, subqueries_pass}
use Rattle.algebra.proofs.SameBags.{same_bag-trans, keep-same}
use Rattle.algebra.proofs.Sets.{has-rising}
use Rattle.algebra.proofs.MentionedColumns.{all_has, each_has}
use Rattle.algebra.proofs.Lists.{two}
use Rattle.laws.proofs.Rewrites as law
use Rattle.laws.proofs.Mentions.{holds-reads}
use Rattle.laws.proofs.Expressions.{has-both}
use Rattle.props.specs.Knowledge.{with_rows, Knowledge}
use Rattle.rules.specs.declared.shape.Shape.TheVariants as shape
use Rattle.rules.specs.declared.pattern.Operator.TheVariants as operator
use Rattle.rules.specs.declared.pattern.Operators.TheVariants.{Only}
use Rattle.rules.specs.declared.unfit.Unfit.TheVariants.{Condition as FailedCondition}
use Rattle.plain_rules.specs.KeepBelowJoin as spec
use Rattle.rules.specs.Soundness.{IsSound}
use Rattle.rules.specs.Formed.{IsFormed}
use Rattle.rules.specs.Patterns.{KeepsTo}
use Rattle.rules.specs.Stability.{IsStable, Agree}
use Rattle.rules.proofs.Sets.{has-filter}
use Rattle.rules.proofs.Conditions.{if-given}
use Rattle.rules.proofs.MatchedLines.{TwoAreSound, given, two-sound}
use Rattle.rules.proofs.ShapeMeanings.{class-is, keep-is, join-is, has-bag}
use Rattle.rules.proofs.FormedLines.{TwoAreFormed, two-formed, given-is, joined, class-stands, join-stands, keep-stands, Joined}
use Rattle.rules.proofs.PatternedLines.{TwoKeepTo, two-keep}
use Rattle.rules.proofs.StableLines.{TwoAreStable, two-stable, sides, filter-same, mentioned-same}
use Rattle.rules.proofs.FormedShapes.{in-first, in-second}

narrowed-sound : TwoAreSound spec.narrowed_below
narrowed-sound K W (Keep L x) (Join D a b) s stands below is =
    given K W _ _ s (if-given _ _ s is).1 (has-bag V _ _ _ (keep-is V L _ _ (join-is V D _ _ _ _ (keep-is V T _ _ (class-is V a)) (class-is V b))) (same_bag-trans _ _ _
    (keep-same (has L) _ _ (below.rows x [] refl))
    (law.keeps_go_below (has L) (has T) M (has (K.columns a)) (has (K.columns b)) (K.free a) (holds W.rows D) (W.rows a) (W.rows b) (stands.classes.fits a)
    (holds-reads V stands.classes.fits D)
    (λ c in_. has-rising c (filter (λ c. has L c || M c) (K.columns a)) ∙ has-filter (λ c. has L c || M c) (K.columns a) c ∙ ap (λ h. h && (has L c || M c)) in_))))
  where
    V : Classes
    V = with_rows K W.rows

    T : List ℕ
    T = spec.needed K L D a

    M : ColumnSet
    M = mentioned K.columns K.free D
narrowed-sound K W x y s stands below is = cc

pub keep_below_join_sound : IsSound spec.keep_below_join
keep_below_join_sound = two-sound spec.narrowed_below narrowed-sound

-- ---- its pattern

narrowed-keeps : TwoKeepTo (Only operator.Keep) (Only operator.Join) spec.narrowed_below
narrowed-keeps K (Keep L x) (Join D a b) other = cc
narrowed-keeps K x y other = refl

pub keep_below_join_keeps : KeepsTo spec.pattern spec.keep_below_join
keep_below_join_keeps = two-keep (Only operator.Keep) (Only operator.Join) spec.narrowed_below narrowed-keeps

-- ---- what it gives is well formed

narrowed-formed : TwoAreFormed spec.narrowed_below
narrowed-formed S (Keep L x) (Join D a b) s stands next same is =
    given-is S _ s _ _ (if-given _ _ s is).1 refl (keep-stands S L _ _
    (join-stands S D _ _ _ _ (keep-stands S T _ _ (class-stands S a i.left) (all_has (has (B a)) T (λ k in_. (of-needed k in_).0))) (class-stands S b i.right)
    i.are i.plain (λ k in_. i.apart k (of-needed k in_).0))
    (all_has (has (rising (T ++ B b))) L kept))
  where
    B : ℕ → List ℕ
    B = S.classes.columns

    i : Joined S D a b
    i = joined S D a b next.known next.formed

    T : List ℕ
    T = spec.needed S.classes L D a

    read : ColumnSet
    read = mentioned B S.classes.free D

    needed : (k : ℕ) → has T k ≡ (has (B a) k && (has L k || read k))
    needed k = has-rising k (filter (λ c. has L c || read c) (B a)) ∙ has-filter (λ c. has L c || read c) (B a) k

    of-needed : (k : ℕ) → has T k ≡ true → (has (B a) k ≡ true) × ((has L k || read k) ≡ true)
    of-needed k in_ = and_parts _ _ (sym (needed k) ∙ in_)

    there : (k : ℕ) → has L k ≡ true → (has (B a) k || has (B b) k) ≡ true
    there k in_ = sym (has-both (B a) (B b) k) ∙ sym (ap (λ X. has X k) (same x [] refl)) ∙ each_has (has (B x)) L stands.formed k in_

    kept : (k : ℕ) → has L k ≡ true → has (rising (T ++ B b)) k ≡ true
    kept k in_ = elim (or_cases (has (B a) k) (has (B b) k) (there k in_)) [
      | inl left ↦ in-first T (B b) k (needed k ∙ and_from _ _ left (or_left _ _ in_))
      | inr right ↦ in-second T (B b) k right
    ]
narrowed-formed S x y s stands next same is = cc

pub keep_below_join_formed : IsFormed spec.keep_below_join
keep_below_join_formed = two-formed spec.narrowed_below narrowed-formed

-- ---- it depends on the classes that its lines name

needed-same : (p : ℕ → Bool) (K L : Knowledge) → Agree p K L → (N : List ℕ) (D : List Condition) (a : ℕ) → p a ≡ true → subqueries_pass p D ≡ true → spec.needed K N D a ≡ spec.needed L N D a
needed-same p K L agree N D a is pass =
    ap (λ M. rising (filter (λ c. has N c || mentioned K.columns K.free D c) M)) (agree.columns a is)
    ∙ ap rising (filter-same p K L agree (λ c. has N c || mentioned K.columns K.free D c) (λ c. has N c || mentioned L.columns L.free D c) (λ k. ap (λ b. has N k || b) (mentioned-same p K L agree D pass k)) (L.columns a))

narrowed-stable : TwoAreStable spec.narrowed_below
narrowed-stable p K L agree (Keep N x) (Join D a b) known next =
    let i = sides p a b D next in
    two (λ T M. wanted_if FailedCondition (not (is_same_set T M)) (shape.Keep N (shape.Join D (shape.Keep T (shape.Class a)) (shape.Class b))))
    (needed-same p K L agree N D a i.0 i.2) (agree.columns a i.0)
narrowed-stable p K L agree x y known next = refl

pub keep_below_join_stable : IsStable spec.keep_below_join
keep_below_join_stable = two-stable spec.narrowed_below narrowed-stable

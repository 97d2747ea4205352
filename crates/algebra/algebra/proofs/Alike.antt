-- Expressions that are alike are the same where classes of one root are.
use Rattle.std.proofs.Common.{◌≡◌, refl, ap, sym, ◌∙◌, subst, ℕ, ◌==◌, Bool, true, false, not, ◌&&◌, ◌||◌, if◌then◌else◌, List, [], ◌∷◌, ◌++◌, map, flat_map, inl, inr}
use Rattle.std.specs.List.{list_any}
use Rattle.std.proofs.lemmas.Bool.{eq-eqb, eqb-true, or_left, or_right, or_cases}
use Rattle.std.proofs.lemmas.Grind.{flat_map-append}
use Rattle.std.proofs.lemmas.List.Folds.{list_all-map, list_any-append}
use Rattle.values.specs.declared.truth.Comparison.{Comparison}
use Rattle.values.specs.Truth.{negation, is_true}
use Rattle.query.specs.declared.query.TableInstance.{TableInstance}
use Rattle.query.specs.Rows.{Tables}
use Rattle.query.specs.Meaning.{all_of, any_of}
use Rattle.algebra.specs.declared.condition.Term.{Term}
use Rattle.algebra.specs.declared.condition.Condition.{Condition, roll-Condition, fold-roll-Condition, ind-Condition, map-Condition}
use Rattle.algebra.specs.declared.condition.Condition.TheOpen.{Condition-F}
use Rattle.algebra.specs.declared.condition.Condition.TheVariants.{Compare, IsNull, Not, And, Or, Exists, In, rolls-Compare, rolls-IsNull, rolls-Not, rolls-And, rolls-Or, rolls-Exists, rolls-In}
use Rattle.algebra.specs.declared.expr.Expr.{Expr}
use Rattle.algebra.specs.declared.expr.Expr.TheVariants as expr
use Rattle.algebra.specs.Alike.{rooted_layer, rooted_condition, rooted_conjuncts, rooted, IsSameIn, AlikeIsSame, AlikeIsFree}
use Rattle.algebra.specs.Columns.{ColumnSet, has}
use Rattle.algebra.specs.Bags.{Env, Bag, SameBag, total}
use Rattle.algebra.specs.Conditions.{truth, holds, allows, term_columns, mentions, named_classes, classes_in}
use Rattle.algebra.specs.ConjunctOrder.{conjuncts}
use Rattle.algebra.specs.Expressions.{Classes, children, conditions, input_classes, means, columns_of, mentioned, free_of}
use Rattle.algebra.proofs.ConjunctLists.{conjuncts-all}
use Rattle.algebra.proofs.Lists.{two, any_not, all-map-same}
use Rattle.algebra.proofs.MentionedColumns.{mentions-Compare, mentions-IsNull, mentions-Not, mentions-And, mentions-Or, mentions-Exists, mentions-In}
use Rattle.algebra.proofs.NamedClasses.{named-Not, named-And, named-Or, named-Exists, named-In}
use Rattle.algebra.proofs.Puts.{among-append}
use Rattle.algebra.proofs.SameBags.{same_bag-trans, select-same, join-same, left_join-same, semi-same, anti-same}
use Rattle.algebra.proofs.SameInputs.{expressions_keep_classes}
use Rattle.algebra.proofs.Sets.{has-rising, has-first}
use Rattle.algebra.proofs.Truths.{truth-Compare, truth-IsNull, truth-Not, truth-And, truth-Or, truth-Exists, truth-In, true-all, allowed-all}

module _ (root : ℕ → ℕ) where
  -- ---- each form of condition with roots

  rooted-at : (x : Condition-F Condition) (c : Condition) → roll-Condition x ≡ c → rooted_condition root c ≡ rooted_layer root (map-Condition Condition Condition (rooted_condition root) x)
  unfolding rooted_condition
  rooted-at x c is = ap (rooted_condition root) (sym is) ∙ fold-roll-Condition Condition (rooted_layer root) x

  rooted-Compare : (op : Comparison) (a b : Term) → rooted_condition root (Compare op a b) ≡ Compare op a b
  rooted-Compare op a b = rooted-at (Condition-F.Compare op a b) _ (rolls-Compare op a b)

  rooted-IsNull : (a : Term) → rooted_condition root (IsNull a) ≡ IsNull a
  rooted-IsNull a = rooted-at (Condition-F.IsNull a) _ (rolls-IsNull a)

  rooted-Not : (c : Condition) → rooted_condition root (Not c) ≡ Not (rooted_condition root c)
  rooted-Not c = rooted-at (Condition-F.Not c) _ (rolls-Not c)

  rooted-And : (a b : Condition) (cs : List Condition) → rooted_condition root (And a b cs) ≡ And (rooted_condition root a) (rooted_condition root b) (map (rooted_condition root) cs)
  rooted-And a b cs = rooted-at (Condition-F.And a b cs) _ (rolls-And a b cs)

  rooted-Or : (a b : Condition) (cs : List Condition) → rooted_condition root (Or a b cs) ≡ Or (rooted_condition root a) (rooted_condition root b) (map (rooted_condition root) cs)
  rooted-Or a b cs = rooted-at (Condition-F.Or a b cs) _ (rolls-Or a b cs)

  rooted-Exists : (g : ℕ) → rooted_condition root (Exists g) ≡ Exists (root g)
  rooted-Exists g = rooted-at (Condition-F.Exists g) _ (rolls-Exists g)

  rooted-In : (a : Term) (g k : ℕ) → rooted_condition root (In a g k) ≡ In a (root g) k
  rooted-In a g k = rooted-at (Condition-F.In a g k) _ (rolls-In a g k)

  -- ---- truth: that of the condition over the roots' rows

  module _ (V : ℕ → Bag) (r : Env) where
    abbrev of_roots : ℕ → Bag
    of_roots g = V (root g)

    abbrev IsTruth : Condition → Type 0
    IsTruth c = truth (rooted_condition root c) V r ≡ truth c of_roots r

    abbrev TruthPart : Type 0
    TruthPart = (c : Condition) × IsTruth c

    truth-parts : (ps : List TruthPart) → map (λ c. truth c V r) (map (rooted_condition root) (map (λ p. p.0) ps)) ≡ map (λ c. truth c of_roots r) (map (λ p. p.0) ps)
    truth-parts [] = refl
    truth-parts (p ∷ ps) = two (λ t ts. t ∷ ts) p.1 (truth-parts ps)

    truth-layer : (y : Condition-F TruthPart) → IsTruth (roll-Condition (map-Condition TruthPart Condition (λ p. p.0) y))
    truth-layer (Condition-F.Compare op a b) =
        subst IsTruth (sym (rolls-Compare op a b)) (ap (λ c. truth c V r) (rooted-Compare op a b) ∙ truth-Compare op a b V r ∙ sym (truth-Compare op a b of_roots r))
    truth-layer (Condition-F.IsNull a) = subst IsTruth (sym (rolls-IsNull a)) (ap (λ c. truth c V r) (rooted-IsNull a) ∙ truth-IsNull a V r ∙ sym (truth-IsNull a of_roots r))
    truth-layer (Condition-F.Not p) =
        subst IsTruth (sym (rolls-Not p.0)) (ap (λ c. truth c V r) (rooted-Not p.0) ∙ truth-Not _ V r ∙ ap negation p.1 ∙ sym (truth-Not p.0 of_roots r))
    truth-layer (Condition-F.And p q ps) =
        let cs : List Condition = map (λ p. p.0) ps in
        subst IsTruth (sym (rolls-And p.0 q.0 cs))
        (ap (λ c. truth c V r) (rooted-And p.0 q.0 cs) ∙ truth-And _ _ _ V r ∙ ap all_of (truth-parts (p ∷ q ∷ ps)) ∙ sym (truth-And p.0 q.0 cs of_roots r))
    truth-layer (Condition-F.Or p q ps) =
        let cs : List Condition = map (λ p. p.0) ps in
        subst IsTruth (sym (rolls-Or p.0 q.0 cs))
        (ap (λ c. truth c V r) (rooted-Or p.0 q.0 cs) ∙ truth-Or _ _ _ V r ∙ ap any_of (truth-parts (p ∷ q ∷ ps)) ∙ sym (truth-Or p.0 q.0 cs of_roots r))
    truth-layer (Condition-F.Exists g) = subst IsTruth (sym (rolls-Exists g)) (ap (λ c. truth c V r) (rooted-Exists g) ∙ truth-Exists (root g) V r ∙ sym (truth-Exists g of_roots r))
    truth-layer (Condition-F.In a g k) = subst IsTruth (sym (rolls-In a g k)) (ap (λ c. truth c V r) (rooted-In a g k) ∙ truth-In a (root g) k V r ∙ sym (truth-In a g k of_roots r))

    pub truth-rooted : (c : Condition) → truth (rooted_condition root c) V r ≡ truth c of_roots r
    truth-rooted = ind-Condition IsTruth (λ x y is. subst (λ z. IsTruth (roll-Condition z)) is (truth-layer y))

    pub holds-rooted : (C : List Condition) → holds V (rooted_conjuncts root C) r ≡ holds of_roots C r
    holds-rooted C =
        conjuncts-all (λ d. is_true (truth d V r)) (λ a b ds. ap is_true (truth-And a b ds V r) ∙ true-all (map (λ d. truth d V r) (a ∷ b ∷ ds)) ∙ list_all-map is_true (λ d. truth d V r) (a ∷ b ∷ ds))
        (map (rooted_condition root) C)
        ∙ all-map-same (rooted_condition root) (λ d. is_true (truth d V r)) (λ d. is_true (truth d of_roots r)) C (λ c. ap is_true (truth-rooted c))

    pub allows-rooted : (C : List Condition) → allows V (rooted_conjuncts root C) r ≡ allows of_roots C r
    allows-rooted C =
        conjuncts-all (λ d. not (is_true (negation (truth d V r))))
        (λ a b ds. ap (λ t. not (is_true (negation t))) (truth-And a b ds V r) ∙ allowed-all (map (λ d. truth d V r) (a ∷ b ∷ ds))
        ∙ list_all-map (λ t. not (is_true (negation t))) (λ d. truth d V r) (a ∷ b ∷ ds)) (map (rooted_condition root) C)
        ∙ all-map-same (rooted_condition root) (λ d. not (is_true (negation (truth d V r)))) (λ d. not (is_true (negation (truth d of_roots r)))) C (λ c. ap (λ t. not (is_true (negation t))) (truth-rooted c))

  -- ---- expressions: what they mean over the roots' classes

  abbrev of_roots_in : Classes → Classes
  of_roots_in V = record { rows = λ g. V.rows (root g); columns = λ g. V.columns (root g); free = λ g. V.free (root g) }

  module _ (instances : List TableInstance) (D : Tables) (V : Classes) where
    bag-rooted : (x : Expr) → SameBag (means instances D V (rooted root x)) (means instances D (of_roots_in V) x)
    bag-rooted (expr.Get o) = λ e f. refl
    bag-rooted (expr.Select C x) = select-same _ _ _ _ (λ r. holds-rooted V.rows r C) (λ e f. refl)
    bag-rooted (expr.Join C a b) = join-same _ _ (has (V.columns (root b))) (V.rows (root a)) (V.rows (root a)) (V.rows (root b)) (V.rows (root b)) (λ r. holds-rooted V.rows r C) (λ e f. refl) (λ e f. refl)
    bag-rooted (expr.LeftJoin C a b) = left_join-same _ _ (has (V.columns (root b))) (V.rows (root a)) (V.rows (root a)) (V.rows (root b)) (V.rows (root b)) (λ r. holds-rooted V.rows r C) (λ e f. refl) (λ e f. refl)
    bag-rooted (expr.Semi C a b) = semi-same _ _ (has (V.columns (root b))) (V.rows (root a)) (V.rows (root a)) (V.rows (root b)) (V.rows (root b)) (λ r. holds-rooted V.rows r C) (λ e f. refl) (λ e f. refl)
    bag-rooted (expr.Anti S M a b) = anti-same _ _ (has (V.columns (root b))) (V.rows (root a)) (V.rows (root a)) (V.rows (root b)) (V.rows (root b)) (λ r. two (λ p q. p && q) (holds-rooted V.rows r S) (allows-rooted V.rows r M)) (λ e f. refl) (λ e f. refl)
    bag-rooted (expr.Keep K x) = λ e f. refl
    bag-rooted (expr.Distinct x) = λ e f. refl
    bag-rooted (expr.Group K G x) = λ e f. refl

    columns-rooted : (x : Expr) → columns_of instances V.columns (rooted root x) ≡ columns_of instances (λ g. V.columns (root g)) x
    columns-rooted (expr.Get o) = refl
    columns-rooted (expr.Select C x) = refl
    columns-rooted (expr.Join C a b) = refl
    columns-rooted (expr.LeftJoin C a b) = refl
    columns-rooted (expr.Semi C a b) = refl
    columns-rooted (expr.Anti S M a b) = refl
    columns-rooted (expr.Keep K x) = refl
    columns-rooted (expr.Distinct x) = refl
    columns-rooted (expr.Group K G x) = refl

  -- ---- what is read: what the condition reads, where the roots' columns and free columns are those of the classes

  module _ (cols other : ℕ → List ℕ) (free also : ℕ → ColumnSet) (k : ℕ) where
    abbrev ReadsAlike : List ℕ → Type 0
    ReadsAlike gs = (g : ℕ) → has gs g ≡ true → (cols (root g) ≡ other g) × (free (root g) k ≡ also g k)

    reads-left : (gs hs : List ℕ) → ReadsAlike (gs ++ hs) → ReadsAlike gs
    reads-left gs hs alike g in_ = alike g (among-append g gs hs ∙ or_left _ _ in_)

    reads-right : (gs hs : List ℕ) → ReadsAlike (gs ++ hs) → ReadsAlike hs
    reads-right gs hs alike g in_ = alike g (among-append g gs hs ∙ or_right (has gs g) _ in_)

    abbrev IsRead : Condition → Type 0
    IsRead c = ReadsAlike (named_classes c) → mentions (rooted_condition root c) cols free k ≡ mentions c other also k

    abbrev ReadPart : Type 0
    ReadPart = (c : Condition) × IsRead c

    read-parts : (ps : List ReadPart) → ReadsAlike (flat_map named_classes (map (λ p. p.0) ps)) → mentioned cols free (map (rooted_condition root) (map (λ p. p.0) ps)) k ≡ mentioned other also (map (λ p. p.0) ps) k
    read-parts [] alike = refl
    read-parts (p ∷ ps) alike =
        two (λ a b. a || b) (p.1 (reads-left (named_classes p.0) (flat_map named_classes (map (λ p. p.0) ps)) alike)) (read-parts ps (reads-right (named_classes p.0) (flat_map named_classes (map (λ p. p.0) ps)) alike))

    read-layer : (y : Condition-F ReadPart) → IsRead (roll-Condition (map-Condition ReadPart Condition (λ p. p.0) y))
    read-layer (Condition-F.Compare op a b) =
        subst IsRead (sym (rolls-Compare op a b)) (λ alike. ap (λ c. mentions c cols free k) (rooted-Compare op a b) ∙ mentions-Compare cols free k op a b ∙ sym (mentions-Compare other also k op a b))
    read-layer (Condition-F.IsNull a) =
        subst IsRead (sym (rolls-IsNull a)) (λ alike. ap (λ c. mentions c cols free k) (rooted-IsNull a) ∙ mentions-IsNull cols free k a ∙ sym (mentions-IsNull other also k a))
    read-layer (Condition-F.Not p) =
        subst IsRead (sym (rolls-Not p.0)) (λ alike. ap (λ c. mentions c cols free k) (rooted-Not p.0) ∙ mentions-Not cols free k _
        ∙ p.1 (subst ReadsAlike (named-Not p.0) alike) ∙ sym (mentions-Not other also k p.0))
    read-layer (Condition-F.And p q ps) =
        let cs : List Condition = map (λ p. p.0) ps in
        subst IsRead (sym (rolls-And p.0 q.0 cs)) (λ alike. ap (λ c. mentions c cols free k) (rooted-And p.0 q.0 cs) ∙ mentions-And cols free k _ _ _
        ∙ read-parts (p ∷ q ∷ ps) (subst ReadsAlike (named-And p.0 q.0 cs) alike) ∙ sym (mentions-And other also k p.0 q.0 cs))
    read-layer (Condition-F.Or p q ps) =
        let cs : List Condition = map (λ p. p.0) ps in
        subst IsRead (sym (rolls-Or p.0 q.0 cs)) (λ alike. ap (λ c. mentions c cols free k) (rooted-Or p.0 q.0 cs) ∙ mentions-Or cols free k _ _ _
        ∙ read-parts (p ∷ q ∷ ps) (subst ReadsAlike (named-Or p.0 q.0 cs) alike) ∙ sym (mentions-Or other also k p.0 q.0 cs))
    read-layer (Condition-F.Exists g) =
        subst IsRead (sym (rolls-Exists g)) (λ alike. ap (λ c. mentions c cols free k) (rooted-Exists g) ∙ mentions-Exists cols free k (root g)
        ∙ (subst ReadsAlike (named-Exists g) alike g (has-first g [])).1 ∙ sym (mentions-Exists other also k g))
    read-layer (Condition-F.In a g j) =
        subst IsRead (sym (rolls-In a g j)) (λ alike.
        let is : (cols (root g) ≡ other g) × (free (root g) k ≡ also g k) = subst ReadsAlike (named-In a g j) alike g (has-first g []) in
        ap (λ c. mentions c cols free k) (rooted-In a g j) ∙ mentions-In cols free k a (root g) j
        ∙ two (λ f ks. has (term_columns a) k || f || (j == k && not (has ks j))) is.1 is.0 ∙ sym (mentions-In other also k a g j))

    read : (c : Condition) → IsRead c
    read = ind-Condition IsRead (λ x y is. subst (λ z. IsRead (roll-Condition z)) is (read-layer y))

    read-all : (C : List Condition) → ReadsAlike (flat_map named_classes C) → mentioned cols free (map (rooted_condition root) C) k ≡ mentioned other also C k
    read-all [] alike = refl
    read-all (c ∷ C) alike =
        two (λ a b. a || b) (read c (reads-left (named_classes c) (flat_map named_classes C) alike)) (read-all C (reads-right (named_classes c) (flat_map named_classes C) alike))

    -- conjuncts mention what their conditions do
    mentioned-conjuncts : (C : List Condition) → mentioned cols free (conjuncts C) k ≡ mentioned cols free C k
    mentioned-conjuncts C =
        any_not (λ d. mentions d cols free k) (conjuncts C)
        ∙ ap not (conjuncts-all (λ d. not (mentions d cols free k)) (λ a b ds. ap not (mentions-And cols free k a b ds ∙ any_not (λ d. mentions d cols free k) (a ∷ b ∷ ds)) ∙ not-not _) C)
        ∙ sym (any_not (λ d. mentions d cols free k) C)
      where
        not-not : (b : Bool) → not (not b) ≡ b
        not-not true = refl
        not-not false = refl

    read-conjuncts : (C : List Condition) → ReadsAlike (flat_map named_classes C) → mentioned cols free (rooted_conjuncts root C) k ≡ mentioned other also C k
    read-conjuncts C alike = mentioned-conjuncts (map (rooted_condition root) C) ∙ read-all C alike

    -- the columns and the free columns of an expression's classes
    child-columns : (gs : List ℕ) → ReadsAlike gs → list_any (λ g. has (cols g) k) (map root gs) ≡ list_any (λ g. has (other g) k) gs
    child-columns [] alike = refl
    child-columns (g ∷ gs) alike =
        two (λ a b. a || b) (ap (λ ks. has ks k) (alike g (has-first g gs)).0) (child-columns gs (λ h in_. alike h (or_right (g == h) _ in_)))

    child-free : (gs : List ℕ) → ReadsAlike gs → list_any (λ g. free g k) (map root gs) ≡ list_any (λ g. also g k) gs
    child-free [] alike = refl
    child-free (g ∷ gs) alike = two (λ a b. a || b) (alike g (has-first g gs)).1 (child-free gs (λ h in_. alike h (or_right (g == h) _ in_)))

    rooted-children : (x : Expr) → children (rooted root x) ≡ map root (children x)
    rooted-children (expr.Get o) = refl
    rooted-children (expr.Select C x) = refl
    rooted-children (expr.Join C a b) = refl
    rooted-children (expr.LeftJoin C a b) = refl
    rooted-children (expr.Semi C a b) = refl
    rooted-children (expr.Anti S M a b) = refl
    rooted-children (expr.Keep K x) = refl
    rooted-children (expr.Distinct x) = refl
    rooted-children (expr.Group K G x) = refl

    read-conditions : (x : Expr) → ReadsAlike (flat_map named_classes (conditions x)) → mentioned cols free (conditions (rooted root x)) k ≡ mentioned other also (conditions x) k
    read-conditions (expr.Get o) alike = refl
    read-conditions (expr.Select C x) alike = read-conjuncts C alike
    read-conditions (expr.Join C a b) alike = read-conjuncts C alike
    read-conditions (expr.LeftJoin C a b) alike = read-conjuncts C alike
    read-conditions (expr.Semi C a b) alike = read-conjuncts C alike
    read-conditions (expr.Anti S M a b) alike =
        let both : ReadsAlike (flat_map named_classes S ++ flat_map named_classes M) = subst ReadsAlike (flat_map-append named_classes S M) alike in
        list_any-append (λ d. mentions d cols free k) (rooted_conjuncts root S) (rooted_conjuncts root M)
        ∙ two (λ a b. a || b) (read-conjuncts S (reads-left (flat_map named_classes S) _ both)) (read-conjuncts M (reads-right (flat_map named_classes S) _ both))
        ∙ sym (list_any-append (λ d. mentions d other also k) S M)
    read-conditions (expr.Keep K x) alike = refl
    read-conditions (expr.Distinct x) alike = refl
    read-conditions (expr.Group K G x) alike = refl

    free-rooted : (x : Expr) → ReadsAlike (input_classes x) → free_of cols free (rooted root x) k ≡ free_of other also x k
    free-rooted x alike =
        let taken : ReadsAlike (children x) = reads-left (children x) (classes_in (conditions x)) alike in
        let named : ReadsAlike (flat_map named_classes (conditions x))
        = λ g in_. reads-right (children x) (classes_in (conditions x)) alike g (has-rising g (flat_map named_classes (conditions x)) ∙ in_) in
        rw (rooted-children x, child-free (children x) taken, child-columns (children x) taken, read-conditions x named) refl

  -- ---- a class of some for each root

  -- the first class of the list with the root
  abbrev one_of : List ℕ → ℕ → ℕ
  one_of [] r = r
  one_of (g ∷ gs) r = if root g == r then g else one_of gs r

  one-root : (gs : List ℕ) (g : ℕ) → has gs g ≡ true → root (one_of gs (root g)) ≡ root g
  one-root [] g in_ = cc
  one-root (h ∷ gs) g in_ = by (root h == root g) (λ is. eqb-true (root h) (root g) is) (elim (or_cases (h == g) (has gs g) in_) [
    | inl is ↦ λ isnt. absurd (let e : (root h == root g) ≡ true = eq-eqb (root h) (root g) (ap root (eqb-true h g is)) in let f : true ≡ false = sym e ∙ isnt in cc)
    | inr later ↦ λ isnt. one-root gs g later
  ])
    where
      by : (b : Bool) → (b ≡ true → root h ≡ root g) → (b ≡ false → root (one_of gs (root g)) ≡ root g) → root (if b then h else one_of gs (root g)) ≡ root g
      by true is isnt = is refl
      by false is isnt = isnt refl

  -- the roots, each with what one of its classes is
  abbrev at_roots : List ℕ → Classes → Classes
  at_roots gs W = record { rows = λ r. W.rows (one_of gs r); columns = λ r. W.columns (one_of gs r); free = λ r. W.free (one_of gs r) }

  -- ---- expressions that are alike

  module _ (instances : List TableInstance) (D : Tables) (W : Classes) (gs : List ℕ) (same : (g h : ℕ) → root g ≡ root h → IsSameIn W W g h) where
    abbrev V : Classes
    V = at_roots gs W

    -- over the roots an expression with roots is what it is over its classes
    over-roots : (x : Expr) → ((g : ℕ) → has (input_classes x) g ≡ true → has gs g ≡ true)
        → (columns_of instances V.columns (rooted root x) ≡ columns_of instances W.columns x) × SameBag (means instances D V (rooted root x)) (means instances D W x)
    over-roots x among =
        let keeps = expressions_keep_classes instances D (of_roots_in V) W x (λ g in_. same (one_of gs (root g)) g (one-root gs g (among g in_))) in
        (columns-rooted instances D V x ∙ keeps.0, same_bag-trans _ _ _ (bag-rooted instances D V x) keeps.1)

  among-left : (x y : Expr) (g : ℕ) → has (input_classes x) g ≡ true → has (input_classes x ++ input_classes y) g ≡ true
  among-left x y g in_ = among-append g (input_classes x) (input_classes y) ∙ or_left _ _ in_

  among-right : (x y : Expr) (g : ℕ) → has (input_classes y) g ≡ true → has (input_classes x ++ input_classes y) g ≡ true
  among-right x y g in_ = among-append g (input_classes x) (input_classes y) ∙ or_right (has (input_classes x) g) _ in_

pub alike_is_same : AlikeIsSame
alike_is_same instances D W root same x y alike =
    let gs : List ℕ = input_classes x ++ input_classes y in
    let V : Classes = at_roots root gs W in
    let left = over-roots root instances D W gs same x (among-left root x y) in
    let right = over-roots root instances D W gs same y (among-right root x y) in
    (sym left.0 ∙ ap (columns_of instances V.columns) alike ∙ right.0, λ e f. sym (left.1 e f) ∙ ap (λ z. total f (means instances D V z e)) alike ∙ right.1 e f)

pub alike_is_free : AlikeIsFree
alike_is_free cols free root same x y alike c =
    let gs : List ℕ = input_classes x ++ input_classes y in
    let one : ℕ → ℕ = one_of root gs in
    let at : (g : ℕ) → has gs g ≡ true → (cols (one (root g)) ≡ cols g) × (free (one (root g)) c ≡ free g c)
    = λ g in_. let is = same (one (root g)) g (one-root root gs g in_) in (is.0, is.1 c) in
    sym (free-rooted root (λ r. cols (one r)) cols (λ r. free (one r)) free c x (λ g in_. at g (among-left root x y g in_)))
    ∙ ap (λ z. free_of (λ r. cols (one r)) (λ r. free (one r)) z c) alike
    ∙ free-rooted root (λ r. cols (one r)) cols (λ r. free (one r)) free c y (λ g in_. at g (among-right root x y g in_))

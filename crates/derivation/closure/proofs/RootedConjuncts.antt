-- Over conjuncts with roots a weight has the sum that it has over the conjuncts, where those that name classes weigh nothing.
use Rattle.std.proofs.Common.{◌≡◌, refl, ap, sym, ◌∙◌, subst, ℕ, ◌+◌, Bool, true, false, ◌&&◌, ◌||◌, not, ◌==◌, List, [], ◌∷◌, ◌++◌, map, arith}
use Rattle.std.specs.List.{AllByRecursion, list_all, flat_map, sum_by}
use Rattle.std.proofs.lemmas.Bool.{and_parts, and_from, cond_both, eq-eqb, eqb-true}
use Rattle.std.proofs.lemmas.List.Sums.{sum_by-cons}
use Rattle.std.proofs.Math.Bool.{or-true}
use Rattle.algebra.specs.declared.condition.Condition.{Condition, roll-Condition, fold-Condition, fold-roll-Condition, ind-Condition, map-Condition, out-Condition, roll-out-Condition}
use Rattle.algebra.specs.declared.condition.Condition.TheOpen.{Condition-F}
use Rattle.algebra.specs.declared.condition.Condition.TheVariants.{Not, And, Or, rolls-Compare, rolls-IsNull, rolls-Not, rolls-And, rolls-Or, rolls-Exists, rolls-In}
use Rattle.algebra.specs.Alike.{rooted_layer, rooted_condition, rooted_conjuncts}
use Rattle.algebra.specs.ConditionEquality.{same_condition}
use Rattle.algebra.specs.Conditions.{all_classes}
use Rattle.algebra.specs.ConjunctOrder.{goes_before, put_in_order, in_order, parts_of, IsPart, IsInOrder, AreConjuncts}
use Rattle.algebra.specs.ConjunctParts.{has_no_class}
use Rattle.algebra.proofs.ConditionNames.{classes-Compare, classes-IsNull, classes-Not, classes-Exists, classes-In}
use Rattle.algebra.proofs.ConjunctLists.{one-part, and-is-no-part}
use Rattle.algebra.proofs.Equations.{all_classes_and, all_classes_or}
use Rattle.algebra.proofs.Lists.{two}
use Rattle.algebra.proofs.Ordered.{in_order-all}
use Rattle.algebra.proofs.Same.{equal_condition}

-- ---- ANDs

abbrev and-layer : Condition-F Bool → Bool
and-layer (Condition-F.Compare op a b) = false
and-layer (Condition-F.IsNull a) = false
and-layer (Condition-F.Not c) = false
and-layer (Condition-F.And a b cs) = true
and-layer (Condition-F.Or a b cs) = false
and-layer (Condition-F.Exists g) = false
and-layer (Condition-F.In a g k) = false

abbrev is-and : Condition → Bool
is-and = fold-Condition Bool and-layer

is-and-at : (x : Condition-F Condition) (c : Condition) → roll-Condition x ≡ c → is-and c ≡ and-layer (map-Condition Condition Bool is-and x)
is-and-at x c is = ap is-and (sym is) ∙ fold-roll-Condition Bool and-layer x

no-and : (c : Condition) → is-and c ≡ false → IsPart c
no-and c isnt = one-part c (λ a b cs is. let never : true ≡ false = sym (is-and-at (Condition-F.And a b cs) _ (rolls-And a b cs)) ∙ sym (ap is-and is) ∙ isnt in cc)

module _ (root : ℕ → ℕ) where
  -- ---- one condition

  rooted-at : (x : Condition-F Condition) (c : Condition) → roll-Condition x ≡ c → rooted_condition root c ≡ rooted_layer root (map-Condition Condition Condition (rooted_condition root) x)
  unfolding rooted_condition
  rooted-at x c is = ap (rooted_condition root) (sym is) ∙ fold-roll-Condition Condition (rooted_layer root) x

  part-at : (x : Condition-F Condition) (c : Condition) → roll-Condition x ≡ c → IsPart c → IsPart (rooted_condition root c)
  part-at (Condition-F.Compare op a b) c is part = no-and _ (ap is-and (rooted-at (Condition-F.Compare op a b) c is) ∙ is-and-at (Condition-F.Compare op a b) _ (rolls-Compare op a b))
  part-at (Condition-F.IsNull a) c is part = no-and _ (ap is-and (rooted-at (Condition-F.IsNull a) c is) ∙ is-and-at (Condition-F.IsNull a) _ (rolls-IsNull a))
  part-at (Condition-F.Not d) c is part = no-and _ (ap is-and (rooted-at (Condition-F.Not d) c is) ∙ is-and-at (Condition-F.Not _) _ (rolls-Not _))
  part-at (Condition-F.And a b cs) c is part = absurd (and-is-no-part a b cs (subst IsPart (sym is ∙ rolls-And a b cs) part))
  part-at (Condition-F.Or a b cs) c is part = no-and _ (ap is-and (rooted-at (Condition-F.Or a b cs) c is) ∙ is-and-at (Condition-F.Or _ _ _) _ (rolls-Or _ _ _))
  part-at (Condition-F.Exists g) c is part = no-and _ (ap is-and (rooted-at (Condition-F.Exists g) c is) ∙ is-and-at (Condition-F.Exists _) _ (rolls-Exists _))
  part-at (Condition-F.In a g k) c is part = no-and _ (ap is-and (rooted-at (Condition-F.In a g k) c is) ∙ is-and-at (Condition-F.In _ _ _) _ (rolls-In _ _ _))

  -- it names classes still, or is what it was
  record IsKept (c : Condition) : Type 0 where
    tested : has_no_class (rooted_condition root c) ≡ has_no_class c
    itself : has_no_class c ≡ true → rooted_condition root c ≡ c

  abbrev Part : Type 0
  Part = (c : Condition) × IsKept c

  abbrev wholes : List Part → List Condition
  wholes ps = map (λ p. p.0) ps

  all-tested : (ps : List Part) → list_all has_no_class (map (rooted_condition root) (wholes ps)) ≡ list_all has_no_class (wholes ps)
  all-tested [] = refl
  all-tested (p ∷ ps) = two (λ a b. a && b) p.1.tested (all-tested ps)

  all-itself : (ps : List Part) → list_all has_no_class (wholes ps) ≡ true → map (rooted_condition root) (wholes ps) ≡ wholes ps
  all-itself [] all = refl
  all-itself (p ∷ ps) all = let parts = and_parts _ _ all in two (λ c cs. c ∷ cs) (p.1.itself parts.0) (all-itself ps parts.1)

  layer : (y : Condition-F Part) → IsKept (roll-Condition (map-Condition Part Condition (λ p. p.0) y))
  layer (Condition-F.Compare op a b) =
      let same = rooted-at (Condition-F.Compare op a b) _ (rolls-Compare op a b) in
      subst IsKept (sym (rolls-Compare op a b)) (record { tested = ap has_no_class same; itself = λ is. same })
  layer (Condition-F.IsNull a) =
      let same = rooted-at (Condition-F.IsNull a) _ (rolls-IsNull a) in
      subst IsKept (sym (rolls-IsNull a)) (record { tested = ap has_no_class same; itself = λ is. same })
  layer (Condition-F.Not p) =
      let same = rooted-at (Condition-F.Not p.0) _ (rolls-Not p.0) in
      subst IsKept (sym (rolls-Not p.0)) (record {
        tested = ap has_no_class same ∙ classes-Not _ (λ g. false) ∙ p.1.tested ∙ sym (classes-Not p.0 (λ g. false));
        itself = λ is. same ∙ ap Not (p.1.itself (sym (classes-Not p.0 (λ g. false)) ∙ is));
      })
  layer (Condition-F.And p q ps) =
      let same = rooted-at (Condition-F.And p.0 q.0 (wholes ps)) _ (rolls-And p.0 q.0 (wholes ps)) in
      subst IsKept (sym (rolls-And p.0 q.0 (wholes ps))) (record {
        tested = ap has_no_class same ∙ all_classes_and _ _ _ (λ g. false) ∙ all-tested (p ∷ q ∷ ps) ∙ sym (all_classes_and p.0 q.0 (wholes ps) (λ g. false));
        itself = λ is.
            let all = and_parts _ _ (sym (all_classes_and p.0 q.0 (wholes ps) (λ g. false)) ∙ is) in
            let more = and_parts _ _ all.1 in
            same ∙ rw (p.1.itself all.0, q.1.itself more.0, all-itself ps more.1) refl;
      })
  layer (Condition-F.Or p q ps) =
      let same = rooted-at (Condition-F.Or p.0 q.0 (wholes ps)) _ (rolls-Or p.0 q.0 (wholes ps)) in
      subst IsKept (sym (rolls-Or p.0 q.0 (wholes ps))) (record {
        tested = ap has_no_class same ∙ all_classes_or _ _ _ (λ g. false) ∙ all-tested (p ∷ q ∷ ps) ∙ sym (all_classes_or p.0 q.0 (wholes ps) (λ g. false));
        itself = λ is.
            let all = and_parts _ _ (sym (all_classes_or p.0 q.0 (wholes ps) (λ g. false)) ∙ is) in
            let more = and_parts _ _ all.1 in
            same ∙ rw (p.1.itself all.0, q.1.itself more.0, all-itself ps more.1) refl;
      })
  layer (Condition-F.Exists g) =
      let same = rooted-at (Condition-F.Exists g) _ (rolls-Exists g) in
      subst IsKept (sym (rolls-Exists g)) (record {
        tested = ap has_no_class same ∙ classes-Exists (root g) (λ g. false) ∙ sym (classes-Exists g (λ g. false));
        itself = λ is. absurd (let never : true ≡ false = sym is ∙ classes-Exists g (λ g. false) in cc);
      })
  layer (Condition-F.In a g k) =
      let same = rooted-at (Condition-F.In a g k) _ (rolls-In a g k) in
      subst IsKept (sym (rolls-In a g k)) (record {
        tested = ap has_no_class same ∙ classes-In a (root g) k (λ g. false) ∙ sym (classes-In a g k (λ g. false));
        itself = λ is. absurd (let never : true ≡ false = sym is ∙ classes-In a g k (λ g. false) in cc);
      })

  kept : (c : Condition) → IsKept c
  kept = ind-Condition IsKept (λ x y is. subst (λ z. IsKept (roll-Condition z)) is (layer y))

  -- ---- lists

  parts-kept : (C : List Condition) → AllByRecursion IsPart C → flat_map parts_of (map (rooted_condition root) C) ≡ map (rooted_condition root) C
  parts-kept [] all = refl
  parts-kept (c ∷ C) all = two (λ x y. x ++ y) (part-at (out-Condition c) c (roll-out-Condition c) all.0) (parts-kept C all.1)

  module _ (w : Condition → ℕ) (light : (c : Condition) → has_no_class c ≡ false → w c ≡ 0) where
    weighs-same : (c : Condition) → w (rooted_condition root c) ≡ w c
    weighs-same c = by (has_no_class c) refl
      where
        by : (b : Bool) → has_no_class c ≡ b → w (rooted_condition root c) ≡ w c
        by true is = ap w ((kept c).itself is)
        by false is = light (rooted_condition root c) ((kept c).tested ∙ is) ∙ sym (light c is)

    -- it isn't there, or weighs nothing
    abbrev is-new : Condition → Condition → Bool
    is-new c d = not (same_condition c d) || (w c == 0)

    put-sum : (c : Condition) (ds : List Condition) → list_all (is-new c) ds ≡ true → sum_by w (put_in_order c ds) ≡ w c + sum_by w ds
    put-sum c [] all = sum_by-cons w c []
    put-sum c (d ∷ ds) all =
        let parts = and_parts _ _ all in
        cond_both (same_condition c d) _ _ (λ cs. sum_by w cs ≡ w c + sum_by w (d ∷ ds))
        (λ is. let nothing : w c ≡ 0 = eqb-true _ _ (ap (λ b. not b || (w c == 0)) (sym is) ∙ parts.0) in omega (arith, nothing))
        (λ isnt. cond_both (goes_before c d) _ _ (λ cs. sum_by w cs ≡ w c + sum_by w (d ∷ ds)) (λ before. sum_by-cons w c (d ∷ ds))
        (λ after. let later = put-sum c ds parts.1 in omega (arith, later, sum_by-cons w d (put_in_order c ds), sum_by-cons w d ds)))

    new-one : (c d : Condition) → same_condition c d ≡ false → is-new (rooted_condition root c) (rooted_condition root d) ≡ true
    new-one c d other = by (has_no_class c) refl (same_condition (rooted_condition root c) (rooted_condition root d)) refl
      where
        by : (b : Bool) → has_no_class c ≡ b → (s : Bool) → same_condition (rooted_condition root c) (rooted_condition root d) ≡ s → (not s || (w (rooted_condition root c) == 0)) ≡ true
        by b plain false is = refl
        by false plain true is = eq-eqb _ _ (light (rooted_condition root c) ((kept c).tested ∙ plain))
        by true plain true is =
            let also : has_no_class d ≡ true = sym (kept d).tested ∙ sym (ap has_no_class (equal_condition _ _ is)) ∙ (kept c).tested ∙ plain in
            let both : same_condition c d ≡ true = two same_condition (sym ((kept c).itself plain)) (sym ((kept d).itself also)) ∙ is in
            absurd (let never : true ≡ false = sym both ∙ other in cc)

    new-all : (c : Condition) (C : List Condition) → AllByRecursion (λ d. (goes_before d c ≡ false) × (same_condition c d ≡ false)) C → list_all (is-new (rooted_condition root c)) (map (rooted_condition root) C) ≡ true
    new-all c [] all = refl
    new-all c (d ∷ C) all = and_from _ _ (new-one c d all.0.1) (new-all c C all.1)

    ordered-sum : (C : List Condition) → IsInOrder C → sum_by w (in_order (map (rooted_condition root) C)) ≡ sum_by w C
    ordered-sum [] ordered = refl
    ordered-sum (c ∷ C) ordered =
        put-sum (rooted_condition root c) (in_order (map (rooted_condition root) C)) (in_order-all (is-new (rooted_condition root c)) (map (rooted_condition root) C) ∙ new-all c C ordered.0)
        ∙ two (λ m n. m + n) (weighs-same c) (ordered-sum C ordered.1) ∙ sym (sum_by-cons w c C)

    pub rooted_sum : (C : List Condition) → AreConjuncts C → sum_by w (rooted_conjuncts root C) ≡ sum_by w C
    rooted_sum C are = ap (λ D. sum_by w (in_order D)) (parts-kept C are.parts) ∙ ordered-sum C are.ordered

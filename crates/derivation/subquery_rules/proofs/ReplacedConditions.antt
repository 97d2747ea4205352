-- Conditions with a class in place of another one: their truth, and what they name.
use Rattle.std.proofs.Common.{◌≡◌, refl, ap, sym, ◌∙◌, subst, ℕ, Bool, true, false, ◌==◌, if◌then◌else◌, List, [], ◌∷◌, map, flat_map}
use Rattle.std.specs.List.{list_all}
use Rattle.std.proofs.lemmas.Bool.{eq-eqb}
use Rattle.std.proofs.lemmas.List.Sums.{AllPass-from_list_all, list_all-from_AllPass}
use Rattle.algebra.specs.declared.condition.Condition.{Condition, roll-Condition, fold-roll-Condition, ind-Condition, map-Condition}
use Rattle.algebra.specs.declared.condition.Condition.TheOpen.{Condition-F}
use Rattle.algebra.specs.Alike.{rooted_layer, rooted_condition, rooted_conjuncts}
use Rattle.algebra.specs.Bags.{Env, Bag}
use Rattle.algebra.specs.Columns.{ColumnSet}
use Rattle.algebra.specs.Conditions.{holds, Passes, columns_layer, all_columns, classes_layer, all_classes, named_classes}
use Rattle.algebra.specs.Expressions.{subqueries_pass}
use Rattle.algebra.proofs.Alike.{holds-rooted}
use Rattle.algebra.proofs.ConditionNames.{columns-Compare, columns-IsNull, columns-Not, columns-Exists, columns-In, classes-Compare, classes-IsNull, classes-Not, classes-Exists, classes-In}
use Rattle.algebra.proofs.ConjunctLists.{conjuncts-all}
use Rattle.algebra.proofs.Equations.{all_columns_and, all_columns_or, all_classes_and, all_classes_or}
use Rattle.algebra.proofs.Lists.{all-map-same}
use Rattle.algebra.proofs.NamedClasses.{all-named}
use Rattle.subquery_rules.specs.Replacing.{in_place, replaced, all_ask}
use Rattle.subquery_rules.proofs.AskedConditions.{holds-asked}
use Rattle.subquery_rules.proofs.FoundAlike.{FoundAlike}

-- ---- truth

module _ (class input : ℕ) where
  itself : in_place class input class ≡ input
  itself = ap (λ (b : Bool). if b then input else class) (eq-eqb class class refl)

  pub replaced-holds : (M : ColumnSet) (V : ℕ → Bag) (r : Env) → FoundAlike M (V class r) (V input r) → (C : List Condition) → all_ask class C M ≡ true
      → holds V C r ≡ holds V (replaced class input C) r
  replaced-holds M V r found C ask =
      holds-asked class M V (λ g. V (in_place class input g)) r
      (λ g other. ap (λ (b : Bool). V (if b then input else g) r) (sym other))
      (subst (λ h. FoundAlike M (V class r) (V h r)) (sym itself) found) C ask
      ∙ sym (holds-rooted (in_place class input) V r C)

-- ---- what they name

module _ (root : ℕ → ℕ) (p : ℕ → Bool) where
  abbrev of_root : ℕ → Bool
  of_root g = p (root g)

  -- the same columns, and the roots of the classes
  pub record Names (c : Condition) : Type 0 where
    pub columns : all_columns (rooted_condition root c) p ≡ all_columns c p
    pub classes : all_classes (rooted_condition root c) p ≡ all_classes c of_root

  abbrev Part : Type 0
  Part = (c : Condition) × Names c

  abbrev whole : Condition-F Part → Condition-F Condition
  whole y = map-Condition Part Condition (λ q. q.0) y

  abbrev new : Condition-F Part → Condition
  new y = rooted_layer root (map-Condition Condition Condition (rooted_condition root) (whole y))

  columns-parts : (ps : List Part) → list_all (λ c. all_columns c p) (map (rooted_condition root) (map (λ q. q.0) ps)) ≡ list_all (λ c. c p) (map all_columns (map (λ q. q.0) ps))
  columns-parts [] = refl
  columns-parts (q ∷ ps) = rw (q.1.columns, columns-parts ps) refl

  classes-parts : (ps : List Part) → list_all (λ c. all_classes c p) (map (rooted_condition root) (map (λ q. q.0) ps)) ≡ list_all (λ c. c of_root) (map all_classes (map (λ q. q.0) ps))
  classes-parts [] = refl
  classes-parts (q ∷ ps) = rw (q.1.classes, classes-parts ps) refl

  columns-new : (y : Condition-F Part) → all_columns (new y) p ≡ columns_layer (map-Condition Condition Passes all_columns (whole y)) p
  columns-new (Condition-F.Compare op a b) = columns-Compare op a b p
  columns-new (Condition-F.IsNull a) = columns-IsNull a p
  columns-new (Condition-F.Not q) = columns-Not _ p ∙ q.1.columns
  columns-new (Condition-F.And q s ps) = all_columns_and _ _ _ p ∙ columns-parts (q ∷ s ∷ ps)
  columns-new (Condition-F.Or q s ps) = all_columns_or _ _ _ p ∙ columns-parts (q ∷ s ∷ ps)
  columns-new (Condition-F.Exists g) = columns-Exists (root g) p
  columns-new (Condition-F.In a g k) = columns-In a (root g) k p

  classes-new : (y : Condition-F Part) → all_classes (new y) p ≡ classes_layer (map-Condition Condition Passes all_classes (whole y)) of_root
  classes-new (Condition-F.Compare op a b) = classes-Compare op a b p
  classes-new (Condition-F.IsNull a) = classes-IsNull a p
  classes-new (Condition-F.Not q) = classes-Not _ p ∙ q.1.classes
  classes-new (Condition-F.And q s ps) = all_classes_and _ _ _ p ∙ classes-parts (q ∷ s ∷ ps)
  classes-new (Condition-F.Or q s ps) = all_classes_or _ _ _ p ∙ classes-parts (q ∷ s ∷ ps)
  classes-new (Condition-F.Exists g) = classes-Exists (root g) p
  classes-new (Condition-F.In a g k) = classes-In a (root g) k p

  step : (y : Condition-F Part) → Names (roll-Condition (whole y))
  unfolding rooted_condition all_columns all_classes
  step y =
      let rolled = fold-roll-Condition Condition (rooted_layer root) (whole y) in
      record {
        columns = ap (λ c. all_columns c p) rolled ∙ columns-new y ∙ sym (ap (λ f. f p) (fold-roll-Condition Passes columns_layer (whole y)));
        classes = ap (λ c. all_classes c p) rolled ∙ classes-new y ∙ sym (ap (λ f. f of_root) (fold-roll-Condition Passes classes_layer (whole y)));
      }

  names : (c : Condition) → Names c
  names = ind-Condition Names (λ x y is. subst (λ z. Names (roll-Condition z)) is (step y))

  pub rooted-columns : (C : List Condition) → list_all (λ c. all_columns c p) (rooted_conjuncts root C) ≡ list_all (λ c. all_columns c p) C
  rooted-columns C =
      conjuncts-all (λ c. all_columns c p) (λ a b cs. all_columns_and a b cs p) (map (rooted_condition root) C)
      ∙ all-map-same (rooted_condition root) (λ c. all_columns c p) (λ c. all_columns c p) C (λ c. (names c).columns)

  pub rooted-classes : (C : List Condition) → subqueries_pass p (rooted_conjuncts root C) ≡ subqueries_pass of_root C
  rooted-classes C =
      conjuncts-all (λ c. all_classes c p) (λ a b cs. all_classes_and a b cs p) (map (rooted_condition root) C)
      ∙ all-map-same (rooted_condition root) (λ c. all_classes c p) (λ c. all_classes c of_root) C (λ c. (names c).classes)

  -- the roots pass where the classes do
  pub rooted-pass : ((g : ℕ) → p g ≡ true → of_root g ≡ true) → (C : List Condition) → subqueries_pass p C ≡ true → subqueries_pass p (rooted_conjuncts root C) ≡ true
  rooted-pass roots C pass =
      rooted-classes C ∙ all-named of_root C
      ∙ list_all-from_AllPass of_root gs (λ k d below. roots _ (AllPass-from_list_all p gs (sym (all-named p C) ∙ pass) k d below))
    where
      gs : List ℕ
      gs = flat_map named_classes C

-- so they do where the input passes
pub replaced-pass : (p : ℕ → Bool) (class input : ℕ) → p input ≡ true → (C : List Condition) → subqueries_pass p C ≡ true → subqueries_pass p (replaced class input C) ≡ true
replaced-pass p class input is = rooted-pass (in_place class input) p (λ g pass. by g pass (g == class))
  where
    by : (g : ℕ) → p g ≡ true → (b : Bool) → p (if b then input else g) ≡ true
    by g pass true = is
    by g pass false = pass

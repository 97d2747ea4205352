-- The classes that expressions name pass a test where the expression says so of them.
use Rattle.std.proofs.Common.{◌≡◌, refl, ap, sym, ◌∙◌, subst, ℕ, Bool, true, ◌&&◌, ◌==◌, nat_lt, List, [], ◌∷◌, ◌++◌, map}
use Rattle.std.specs.List.{list_all, flat_map}
use Rattle.std.proofs.lemmas.Bool.{and_parts, and_from, cond_both}
use Rattle.std.proofs.lemmas.List.Folds.{list_all-append}
use Rattle.std.proofs.Math.Bool.{and-true}
use Rattle.values.specs.declared.truth.Comparison.{Comparison}
use Rattle.algebra.specs.declared.condition.Condition.{Condition, roll-Condition, fold-roll-Condition, ind-Condition, map-Condition}
use Rattle.algebra.specs.declared.condition.Condition.TheOpen.{Condition-F}
use Rattle.algebra.specs.declared.condition.Condition.TheVariants.{Compare, IsNull, Not, And, Or, Exists, In, rolls-Compare, rolls-IsNull, rolls-Not, rolls-And, rolls-Or, rolls-Exists, rolls-In}
use Rattle.algebra.specs.declared.condition.Term.{Term}
use Rattle.algebra.specs.declared.expr.Expr.{Expr}
use Rattle.algebra.specs.Columns.{insert, rising}
use Rattle.algebra.specs.Conditions.{Passes, classes_layer, all_classes, named_layer, named_classes, classes_in}
use Rattle.algebra.specs.Expressions.{children, conditions, subqueries_pass, classes_pass, input_classes}
use Rattle.algebra.proofs.Lists.{two}

-- ---- what conditions name

named-at : (x : Condition-F Condition) (c : Condition) → roll-Condition x ≡ c → named_classes c ≡ named_layer (map-Condition Condition (List ℕ) named_classes x)
unfolding named_classes
named-at x c is = ap named_classes (sym is) ∙ fold-roll-Condition (List ℕ) named_layer x

named-parts : (cs : List Condition) → flat_map (λ c. c) (map named_classes cs) ≡ flat_map named_classes cs
named-parts [] = refl
named-parts (c ∷ cs) = ap (λ xs. named_classes c ++ xs) (named-parts cs)

pub named-Compare : (op : Comparison) (a b : Term) → named_classes (Compare op a b) ≡ []
named-Compare op a b = named-at (Condition-F.Compare op a b) _ (rolls-Compare op a b)

pub named-IsNull : (a : Term) → named_classes (IsNull a) ≡ []
named-IsNull a = named-at (Condition-F.IsNull a) _ (rolls-IsNull a)

pub named-Not : (c : Condition) → named_classes (Not c) ≡ named_classes c
named-Not c = named-at (Condition-F.Not c) _ (rolls-Not c)

pub named-And : (a b : Condition) (cs : List Condition) → named_classes (And a b cs) ≡ flat_map named_classes (a ∷ b ∷ cs)
named-And a b cs = named-at (Condition-F.And a b cs) _ (rolls-And a b cs) ∙ named-parts (a ∷ b ∷ cs)

pub named-Or : (a b : Condition) (cs : List Condition) → named_classes (Or a b cs) ≡ flat_map named_classes (a ∷ b ∷ cs)
named-Or a b cs = named-at (Condition-F.Or a b cs) _ (rolls-Or a b cs) ∙ named-parts (a ∷ b ∷ cs)

pub named-Exists : (g : ℕ) → named_classes (Exists g) ≡ g ∷ []
named-Exists g = named-at (Condition-F.Exists g) _ (rolls-Exists g)

pub named-In : (a : Term) (g k : ℕ) → named_classes (In a g k) ≡ g ∷ []
named-In a g k = named-at (Condition-F.In a g k) _ (rolls-In a g k)

-- ---- classes that pass

module _ (p : ℕ → Bool) where
  abbrev P : Condition → Type 0
  P c = all_classes c p ≡ list_all p (named_classes c)

  abbrev Part : Type 0
  Part = (c : Condition) × P c

  abbrev wholes : List Part → List Condition
  wholes parts = map (λ c. c.0) parts

  all-parts : (parts : List Part) → list_all (λ c. c p) (map all_classes (wholes parts)) ≡ list_all p (flat_map (λ c. c) (map named_classes (wholes parts)))
  all-parts [] = refl
  all-parts (c ∷ parts) = two (λ a b. a && b) c.1 (all-parts parts) ∙ sym (list_all-append p (named_classes c.0) (flat_map (λ c. c) (map named_classes (wholes parts))))

  layer : (y : Condition-F Part) → classes_layer (map-Condition Condition Passes all_classes (map-Condition Part Condition (λ c. c.0) y)) p
      ≡ list_all p (named_layer (map-Condition Condition (List ℕ) named_classes (map-Condition Part Condition (λ c. c.0) y)))
  layer (Condition-F.Compare op a b) = refl
  layer (Condition-F.IsNull a) = refl
  layer (Condition-F.Not c) = c.1
  layer (Condition-F.And a b cs) = all-parts (a ∷ b ∷ cs)
  layer (Condition-F.Or a b cs) = all-parts (a ∷ b ∷ cs)
  layer (Condition-F.Exists g) = sym (and-true (p g))
  layer (Condition-F.In a g k) = sym (and-true (p g))

  step : (y : Condition-F Part) → P (roll-Condition (map-Condition Part Condition (λ c. c.0) y))
  unfolding all_classes named_classes
  step y =
      ap (λ f. f p) (fold-roll-Condition Passes classes_layer (map-Condition Part Condition (λ c. c.0) y))
      ∙ layer y
      ∙ sym (ap (list_all p) (fold-roll-Condition (List ℕ) named_layer (map-Condition Part Condition (λ c. c.0) y)))

  named-pass : (c : Condition) → P c
  named-pass = ind-Condition P (λ x y is. subst (λ z. P (roll-Condition z)) is (step y))

  -- ---- conditions and expressions

  pub all-named : (C : List Condition) → subqueries_pass p C ≡ list_all p (flat_map named_classes C)
  all-named [] = refl
  all-named (c ∷ C) = rw (named-pass c, all-named C) (sym (list_all-append p (named_classes c) (flat_map named_classes C)))

  all-insert : (c : ℕ) (cs : List ℕ) → p c ≡ true → list_all p cs ≡ true → list_all p (insert c cs) ≡ true
  all-insert c [] h all = and_from _ _ h refl
  all-insert c (k ∷ ks) h all =
      let parts = and_parts _ _ all in
      cond_both (nat_lt c k) _ _ (λ xs. list_all p xs ≡ true) (λ is. and_from _ _ h all) (λ is.
      cond_both (c == k) _ _ (λ xs. list_all p xs ≡ true) (λ eq. all) (λ eq. and_from _ _ parts.0 (all-insert c ks h parts.1)))

  all-rising : (cs : List ℕ) → list_all p cs ≡ true → list_all p (rising cs) ≡ true
  all-rising [] all = refl
  all-rising (c ∷ cs) all = let parts = and_parts _ _ all in all-insert c (rising cs) parts.0 (all-rising cs parts.1)

  pub classes-pass : (C : List Condition) → subqueries_pass p C ≡ true → list_all p (classes_in C) ≡ true
  classes-pass C h = all-rising _ (sym (all-named C) ∙ h)

  -- the classes whose rows an expression takes and the classes of its conditions
  pub inputs-pass : (x : Expr) → classes_pass p x ≡ true → list_all p (input_classes x) ≡ true
  inputs-pass x h =
      let parts = and_parts (list_all p (children x)) (subqueries_pass p (conditions x)) h in
      list_all-append p (children x) (classes_in (conditions x)) ∙ and_from _ _ parts.0 (classes-pass (conditions x) parts.1)

-- The columns and the classes that each form of condition names: one equation for each.
use Rattle.std.proofs.Common.{◌≡◌, ap, sym, ◌∙◌, ℕ, Bool, true, ◌&&◌}
use Rattle.values.specs.declared.truth.Comparison.{Comparison}
use Rattle.algebra.specs.declared.condition.Term.{Term}
use Rattle.algebra.specs.declared.condition.Condition.{Condition, roll-Condition, fold-roll-Condition, map-Condition}
use Rattle.algebra.specs.declared.condition.Condition.TheVariants.{Compare, IsNull, Not, Exists, In, rolls-Compare, rolls-IsNull, rolls-Not, rolls-Exists, rolls-In}
use Rattle.algebra.specs.declared.condition.Condition.TheOpen.{Condition-F}
use Rattle.algebra.specs.Conditions.{Passes, term_passes, columns_layer, all_columns, classes_layer, all_classes}

columns_at : (x : Condition-F Condition) (c : Condition) → roll-Condition x ≡ c → (p : ℕ → Bool) → all_columns c p ≡ columns_layer (map-Condition Condition Passes all_columns x) p
unfolding all_columns
columns_at x c is p = ap (λ d. all_columns d p) (sym is) ∙ ap (λ f. f p) (fold-roll-Condition Passes columns_layer x)

classes_at : (x : Condition-F Condition) (c : Condition) → roll-Condition x ≡ c → (p : ℕ → Bool) → all_classes c p ≡ classes_layer (map-Condition Condition Passes all_classes x) p
unfolding all_classes
classes_at x c is p = ap (λ d. all_classes d p) (sym is) ∙ ap (λ f. f p) (fold-roll-Condition Passes classes_layer x)

-- ---- columns

pub columns-Compare : (op : Comparison) (a b : Term) (p : ℕ → Bool) → all_columns (Compare op a b) p ≡ (term_passes p a && term_passes p b)
columns-Compare op a b = columns_at (Condition-F.Compare op a b) _ (rolls-Compare op a b)

pub columns-IsNull : (a : Term) (p : ℕ → Bool) → all_columns (IsNull a) p ≡ term_passes p a
columns-IsNull a = columns_at (Condition-F.IsNull a) _ (rolls-IsNull a)

pub columns-Not : (c : Condition) (p : ℕ → Bool) → all_columns (Not c) p ≡ all_columns c p
columns-Not c = columns_at (Condition-F.Not c) _ (rolls-Not c)

pub columns-Exists : (g : ℕ) (p : ℕ → Bool) → all_columns (Exists g) p ≡ true
columns-Exists g = columns_at (Condition-F.Exists g) _ (rolls-Exists g)

pub columns-In : (a : Term) (g k : ℕ) (p : ℕ → Bool) → all_columns (In a g k) p ≡ (term_passes p a && p k)
columns-In a g k = columns_at (Condition-F.In a g k) _ (rolls-In a g k)

-- ---- classes

pub classes-Compare : (op : Comparison) (a b : Term) (p : ℕ → Bool) → all_classes (Compare op a b) p ≡ true
classes-Compare op a b = classes_at (Condition-F.Compare op a b) _ (rolls-Compare op a b)

pub classes-IsNull : (a : Term) (p : ℕ → Bool) → all_classes (IsNull a) p ≡ true
classes-IsNull a = classes_at (Condition-F.IsNull a) _ (rolls-IsNull a)

pub classes-Not : (c : Condition) (p : ℕ → Bool) → all_classes (Not c) p ≡ all_classes c p
classes-Not c = classes_at (Condition-F.Not c) _ (rolls-Not c)

pub classes-Exists : (g : ℕ) (p : ℕ → Bool) → all_classes (Exists g) p ≡ p g
classes-Exists g = classes_at (Condition-F.Exists g) _ (rolls-Exists g)

pub classes-In : (a : Term) (g k : ℕ) (p : ℕ → Bool) → all_classes (In a g k) p ≡ p g
classes-In a g k = classes_at (Condition-F.In a g k) _ (rolls-In a g k)

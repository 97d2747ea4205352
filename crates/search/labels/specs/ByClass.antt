-- Labels by the classes of their goals.
use Rattle.std.specs.Prelude.{◌≡◌, ℕ, true, ◌==◌, List, [], filter, map, slice_index_or}
use Rattle.labels.specs.declared.by_class.LabelsByClass.{LabelsByClass}
use Rattle.labels.specs.Labels.{Labels, are_once}

abbrev pub of_class : Labels → ℕ → Labels
of_class labels c = filter (λ l. l.goal.class == c) labels

-- lists by the numbers of classes: each has the labels of its class, in their order
abbrev pub AreByClass : Labels → List Labels → Type 0
AreByClass labels lists = (c : ℕ) → slice_index_or lists c [] ≡ of_class labels c

-- the lists that are kept
abbrev pub labels_in : LabelsByClass → List Labels
labels_in by = map (λ v. map (λ l. l.now) v.items) by.classes.items

-- so they are kept, and no goal has two labels
pub record IsByClass (labels : Labels) (by : LabelsByClass) : Type 0 where
  pub once : are_once labels ≡ true
  pub each : AreByClass labels (labels_in by)

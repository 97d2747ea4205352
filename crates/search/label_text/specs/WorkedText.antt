-- The text of labels, spelled out.
use Rattle.std.specs.Prelude.{◌≡◌, ℕ, List, [], ◌∷◌, true, false, codes}
use Rattle.physical.specs.declared.plan.OrderKey.{OrderKey}
use Rattle.labels.specs.declared.goal.Label.{Label}
use Rattle.label_text.specs.LabelText.{label_text, labels_text}

abbrev pub a_label : ℕ → List OrderKey → ℕ → Label
a_label class order cost = record { goal = record { class = class; order = order }; cost = cost }

abbrev pub by_first : List OrderKey
by_first = (record { column = 0; descending = false }) ∷ []

abbrev pub by_both : List OrderKey
by_both = (record { column = 0; descending = false }) ∷ (record { column = 3; descending = true }) ∷ []

-- the labels of `SELECT id FROM emp ORDER BY id` over the example's statistics, none, and a label of a larger cost than 32 bits
abbrev pub LabelsAreSpelled : Type 0
LabelsAreSpelled =
    (labels_text (a_label 1 by_first 153 ∷ a_label 1 [] 141 ∷ a_label 0 by_first 152 ∷ a_label 0 [] 140 ∷ []) ≡ codes "labels 4\n1 0a 153\n1 - 141\n0 0a 152\n0 - 140\nend\n")
    × (labels_text [] ≡ codes "labels 0\nend\n")
    × (label_text (a_label 12 by_both 18446744073709551615) ≡ codes "12 0a,3d 18446744073709551615\n")

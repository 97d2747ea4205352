use Rattle.std.proofs.Common.{◌≡◌, ◌++◌, flat_map, take}
use Rattle.std.specs.List.{AllByRecursion}
use Rattle.label_text.specs.LabelText.{IsReadableLabel, label_text}
use Rattle.label_text.proofs.labels_text.push_each_label.Given as goal

-- those before the label are added
abbrev pub invariant-loop-label : goal.invariant-loop-label
invariant-loop-label l = (l.text.items ≡ l.fn.text.items ++ flat_map label_text (take l.label-index l.labels)) × AllByRecursion IsReadableLabel (take l.label-index l.labels)

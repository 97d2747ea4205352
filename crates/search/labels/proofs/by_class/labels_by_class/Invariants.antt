use Rattle.std.proofs.Common.{◌≡◌, true, [], length, map, take}
use Rattle.labels.specs.ByClass.{AreByClass}
use Rattle.labels.specs.Labels.{are_once}
use Rattle.labels.proofs.by_class.labels_by_class.Given as goal

abbrev pub invariant-loop-made : goal.invariant-loop-made
invariant-loop-made l = record {
  count : length l.classes.items ≡ l._made;
  none : AreByClass [] (map (λ v. map (λ l. l.now) v.items) l.classes.items);
}

-- the labels so far are in the lists of their classes, and no goal has two
abbrev pub invariant-loop-label : goal.invariant-loop-label
invariant-loop-label l = record {
  count : length l.classes.items ≡ l.count;
  once : are_once (take l.label-index l.labels) ≡ true;
  each : AreByClass (take l.label-index l.labels) (map (λ v. map (λ l. l.now) v.items) l.classes.items);
}

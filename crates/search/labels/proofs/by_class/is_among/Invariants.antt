use Rattle.std.proofs.Common.{◌≡◌, drop, map}
use Rattle.std.specs.List.{list_any}
use Rattle.labels.specs.Offers.{same_goal}
use Rattle.labels.proofs.by_class.is_among.Given as goal

abbrev pub invariant-loop-other : goal.invariant-loop-other
invariant-loop-other l = list_any (λ k. same_goal l.label.goal k.goal) (map (λ k. k.now) (drop l.other-index l.labels)) ≡ list_any (λ k. same_goal l.label.goal k.goal) (map (λ k. k.now) l.labels)

use Rattle.std.proofs.Common.{◌≡◌, map, take}
use Rattle.joins.proofs.keys.have_right_values_of.Given as goal

abbrev pub invariant-loop-place : goal.invariant-loop-place
invariant-loop-place l = map (λ k. k.right) (take l.place l.keys) ≡ map (λ k. k.right) (take l.place l.others)

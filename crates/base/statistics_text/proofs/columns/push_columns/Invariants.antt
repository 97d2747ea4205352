use Rattle.std.proofs.Common.{◌≡◌, ◌++◌, map}
use Rattle.std.specs.List.{range_with_len}
use Rattle.statistics_text.proofs.columns.push_columns.Given as goal

-- the places so far
abbrev pub invariant-loop-place : goal.invariant-loop-place
invariant-loop-place l = l.columns.items ≡ l.initial.columns.items ++ map (λ place. record { table = l.number; place = place }) (range_with_len 0 l.place)

use Rattle.std.proofs.Common.{◌≡◌, take}
use Rattle.statistics.specs.Digits as spec
use Rattle.statistics.specs.Digits.{ColumnsOf}
use Rattle.statistics.proofs.digits.digits_of.Given as goal

-- the columns at the places so far, and how many slots their digits can make up
abbrev pub invariant-loop-place : goal.invariant-loop-place
invariant-loop-place l = ColumnsOf l.rows (take l.place-index l.places) l.columns.items × (l.slots ≡ spec.slots_of l.columns.items)

use Rattle.std.proofs.Common.{◌≡◌, true}
use Rattle.oracle.specs.Views.{shown_at}
use Rattle.oracle.proofs.evaluate.all_rows.Given as goal

abbrev pub invariant-loop-view : goal.invariant-loop-view
invariant-loop-view l = l.rows.items ≡ shown_at (λ asked. true) l.yielded

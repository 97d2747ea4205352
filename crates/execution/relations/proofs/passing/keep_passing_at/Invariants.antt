use Rattle.std.proofs.Common.{◌≡◌, filter, take}
use Rattle.relations.specs.Resolved.{all_pass, inner_row}
use Rattle.relations.proofs.passing.keep_passing_at.Given as goal

abbrev pub invariant-loop-test : goal.invariant-loop-test
invariant-loop-test l = l.rows.items ≡ filter (all_pass l.right (inner_row l.beside) (take l.test-index l.tests)) l.fn.rows.items

use Rattle.std.proofs.Common.{◌≡◌, ◌++◌, flat_map, take, string_bytes}
use Rattle.algebra.specs.ConjunctOrder.{condition_text}
use Rattle.lean_logs.proofs.expr_text.push_conditions.Given as goal

abbrev pub invariant-loop-condition : goal.invariant-loop-condition
invariant-loop-condition l = string_bytes l.text ≡ string_bytes l.fn.text ++ flat_map condition_text (take l.condition-index l.conditions)

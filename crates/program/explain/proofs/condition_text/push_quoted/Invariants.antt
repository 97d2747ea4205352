use Rattle.std.proofs.Common.{◌≡◌, ◌++◌, codes, flat_map, take}
use Rattle.explain.specs.ConditionTexts as spec
use Rattle.explain.proofs.condition_text.push_quoted.Given as goal

abbrev pub invariant-loop-byte : goal.invariant-loop-byte
invariant-loop-byte l = l.text.items ≡ l.fn.text.items ++ (codes "'" ++ flat_map spec.escaped (take l.byte-index l.byte-items))

use Rattle.std.proofs.Common.{◌≡◌, ◌++◌, flat_map, take}
use Rattle.explain.specs.PlanTexts as spec
use Rattle.explain.proofs.json_text.push_json_bytes.Given as goal

abbrev pub invariant-loop-byte : goal.invariant-loop-byte
invariant-loop-byte l = l.text.items ≡ l.fn.text.items ++ flat_map spec.json_escaped (take l.byte-index l.bytes)

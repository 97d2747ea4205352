use Rattle.std.proofs.Common.{◌≡◌, ◌++◌, flat_map, take}
use Rattle.explain.specs.DotTexts as spec
use Rattle.explain.proofs.dot_text.push_label.Given as goal

abbrev pub invariant-loop-byte : goal.invariant-loop-byte
invariant-loop-byte l = l.text.items ≡ l.fn.text.items ++ flat_map spec.label_escaped (take l.byte-index l.label)

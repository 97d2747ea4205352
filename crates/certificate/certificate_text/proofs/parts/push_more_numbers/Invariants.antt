use Rattle.std.proofs.Common.{◌≡◌, ◌++◌, codes, flat_map, take, decimal}
use Rattle.certificate_text.proofs.parts.push_more_numbers.Given as goal

abbrev pub invariant-loop-number : goal.invariant-loop-number
invariant-loop-number l = l.text.items ≡ l.fn.text.items ++ flat_map (λ x. codes "," ++ decimal x) (take l.number-index l.more)

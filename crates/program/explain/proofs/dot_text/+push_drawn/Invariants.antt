use Rattle.std.proofs.Common.{◌≡◌, ◌++◌, drop}
use Rattle.explain.specs.DotTexts as spec
use Rattle.explain.proofs.DotTexts.{inputs_left}
use Rattle.explain.proofs.dot_text.+push_drawn.Given as goal

-- with what is drawn of the inputs that are left, the text is that of the plan, and the next number as well
abbrev pub invariant-loop-input : goal.invariant-loop-input
invariant-loop-input l =
    let left = inputs_left l.names l.estimates l.number (drop l.input-index l.input-items) l.next in
    let whole = spec.drawn l.names l.estimates l.plan l.number in
    (l.text.items ++ left.text ≡ l.fn.text.items ++ whole.text) × (left.next ≡ whole.next)

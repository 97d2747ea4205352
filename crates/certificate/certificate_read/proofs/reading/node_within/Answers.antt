use Rattle.std.proofs.Common.{◌+◌, sym, ◌∙◌, ap, subst}
use Rattle.std.proofs.lemmas.Bool.{lt-ltb, false≢true}
use Rattle.certificate_read.specs.TextReading.{IsBalanced}
use Rattle.std.proofs.Common.{suc, ◌∷◌}
use Rattle.certificate_text.proofs.Exits.{holds_of_fault}
use Rattle.certificate_read.specs.TextCalls.{PassesNodeOf}
use Rattle.certificate_read.proofs.PlanFaults.{few_inputs, node_refused, node_taken, size_refused}
use Rattle.certificate_read.proofs.reading.node_within.Goals as goal

pub returns-then-take-clause-complete : goal.returns-then-take-clause-complete
returns-then-take-clause-complete c = λ n inputs k w rest h room wanted balanced e.
    let read = c.in_ok-read.ensures.complete n inputs rest h (lt-ltb 0 c.args.room room) e in
    let taken = c.take.ensures.complete k w wanted (subst (λ inputs. IsBalanced k (w + inputs)) (sym read.1) balanced) in
    (read.0, read.1, read.2, (taken.1.0, taken.1.1 ∙ ap (λ inputs. w + inputs) read.1))

pub returns-else-take-clause-complete : goal.returns-else-take-clause-complete
returns-else-take-clause-complete c = λ n inputs k w rest h room wanted balanced e.
    let read = c.in_ok-read.ensures.complete n inputs rest h (lt-ltb 0 c.args.room room) e in
    let taken = c.take.ensures.complete k w wanted (subst (λ inputs. IsBalanced k (w + inputs)) (sym read.1) balanced) in
    absurd (false≢true (sym c.if-take.false ∙ taken.0))

pub returns-in_err-read-clause-exact : goal.returns-in_err-read-clause-exact
returns-in_err-read-clause-exact c = λ w ws before.
    holds_of_fault (PassesNodeOf w ws c.args.wanted.now c.args.wanted.now c.args.text.now c.next_node.new.text) c.from_residual.result c.in_err-read.field-0.0 c.from_residual.ensures.1
    (node_refused (suc w ∷ ws) c.args.wanted.now.counted c.args.room c.args.text.now c.in_err-read.field-0.0 before.1 c.in_err-read.ensures.exact)

pub returns-then-take-clause-exact : goal.returns-then-take-clause-exact
returns-then-take-clause-exact c = λ w ws before.
    let read = c.in_ok-read.ensures.exact in
    let taken = node_taken w ws c.args.room c.args.wanted.now before c.in_ok-read.read.node c.in_ok-read.read.inputs read.1 c.args.text.now c.next_node.new.text read.0 read.2 c.take.new.self
    (rw c.if-take.true at c.take.ensures.exact (few_inputs w ws c.args.room c.args.wanted.now before c.in_ok-read.read.node c.in_ok-read.read.inputs read.1)) in
    (read.0, read.1, taken.0, taken.1, taken.2, taken.3)

pub returns-else-take-clause-exact : goal.returns-else-take-clause-exact
returns-else-take-clause-exact c = λ w ws before.
    let read = c.in_ok-read.ensures.exact in
    rw c.refused.ensures (size_refused w ws c.args.room c.args.wanted.now before c.in_ok-read.read.node c.in_ok-read.read.inputs read.1 c.args.text.now c.next_node.new.text read.0 read.2 c.take.new.self
    (rw c.if-take.false at c.take.ensures.exact (few_inputs w ws c.args.room c.args.wanted.now before c.in_ok-read.read.node c.in_ok-read.read.inputs read.1)))

use Rattle.std.proofs.Common.{◌≡◌, ◌∙◌, ap, bytes_eq, arith}
use Rattle.std.specs.HashMap as hash
use Rattle.binder.specs.Named.{one_more}
use Rattle.binder.proofs.Naming.{senses-step}
use Rattle.binder.proofs.named.senses.Goals as goal

pub loop-output-preserved : goal.loop-output-preserved
loop-output-preserved c =
    let l = c.loop-output in
    let o = c.output-item.result in
    let known : c.copied.result ≡ hash.get_by (λ k. bytes_eq o.name k.now) l.senses = rw c.as_str-name.ensures at (c.copied.ensures ∙ c.get.ensures.value) in
    let sense : c.one_more-sense.result ≡ one_more (hash.get_by (λ k. bytes_eq o.name k.now) l.senses) o.item = c.one_more-sense.ensures ∙ ap (λ s. one_more s o.item) known in
    senses-step l.senses c.insert.new.self c.args.outputs.now l.output-index o (omega arith) c.output-item.is (rw (c.as_str-name.ensures, sense) at c.in_ok-insert.ensures.updates) l.invariant

use Rattle.std.proofs.Common.{◌≡◌, sym, subst, ℕ, List}
use Rattle.logs.specs.Members.{is_member, once_if}
use Rattle.logs.specs.Sets.{times}
use Rattle.closure.specs.Lines.{HasTriplesOver}
use Rattle.closure.proofs.Lacking.{told, triples_over}
use Rattle.closure.proofs.closing.lacking_triple_over.Goals as goal

pub returns : goal.returns
returns c =
    let instances = c.args.log.now.instances in
    let E = c.args.log.now.log in
    told instances E _ _ c.in_ok-found.found (λ all.
    subst (HasTriplesOver instances E c.args.rule c.args.top c.args.input) (sym c.in-Some.is)
    (triples_over instances E c.args.rule c.args.top c.in-Some.class c.args.input c.as_slice.result.now
    (subst (λ (ns : List ℕ). (n : ℕ) → times n ns ≡ once_if (is_member E c.in-Some.class n)) (sym c.as_slice.ensures.value) c.in_ok-lines.ensures) all)) c.in_ok-found.ensures

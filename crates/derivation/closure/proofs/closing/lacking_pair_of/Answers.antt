use Rattle.std.proofs.Common.{◌≡◌, sym, subst, ℕ, List}
use Rattle.logs.specs.Members.{is_member, once_if}
use Rattle.logs.specs.Sets.{times}
use Rattle.closure.specs.Lines.{HasPairs}
use Rattle.closure.proofs.Lacking.{told, pairs_of}
use Rattle.closure.proofs.closing.lacking_pair_of.Goals as goal

pub returns : goal.returns
returns c =
    let instances = c.args.log.now.instances in
    let E = c.args.log.now.log in
    told instances E _ _ c.in_ok-found.found (λ all.
    subst (HasPairs instances E c.args.rule c.args.pick c.args.top) (sym c.in-Some.is)
    (pairs_of instances E c.args.rule c.args.pick c.args.top c.in-Some.class c.as_slice.result.now
    (subst (λ (ns : List ℕ). (n : ℕ) → times n ns ≡ once_if (is_member E c.in-Some.class n)) (sym c.as_slice.ensures.value) c.in_ok-lines.ensures) all)) c.in_ok-found.ensures

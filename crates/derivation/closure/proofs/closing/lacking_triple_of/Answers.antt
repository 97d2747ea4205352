use Rattle.std.proofs.Common.{◌≡◌, ap, sym, ◌∙◌, subst, ℕ, List, option_map}
use Rattle.logs.specs.Members.{is_member, once_if}
use Rattle.logs.specs.Sets.{times}
use Rattle.rules.specs.Matches.{line_in}
use Rattle.closure.proofs.Lacking.{told, triples_of, no_triples_of}
use Rattle.closure.proofs.closing.lacking_triple_of.Goals as goal

pub returns : goal.returns
returns c =
    let instances = c.args.log.now.instances in
    let E = c.args.log.now.log in
    told instances E _ _ c.in_ok-found.found (λ all.
    triples_of instances E c.args.rule c.args.top c.args.below c.in-Some-of.class c.args.input c.as_slice.result.now (line_in c.in-Some.member) (sym c.member.ensures ∙ ap (option_map line_in) c.in-Some.is) (sym c.of.ensures ∙ c.in-Some-of.is)
    (subst (λ (ns : List ℕ). (n : ℕ) → times n ns ≡ once_if (is_member E c.in-Some-of.class n)) (sym c.as_slice.ensures.value) c.in_ok-lines.ensures) all) c.in_ok-found.ensures

pub returns-in_default-of : goal.returns-in_default-of
returns-in_default-of c = no_triples_of c.args.log.now.instances c.args.log.now.log c.args.rule c.args.top c.args.below c.args.input (line_in c.in-Some.member) (sym c.member.ensures ∙ ap (option_map line_in) c.in-Some.is) (sym c.of.ensures ∙ c.in_default-of.is)

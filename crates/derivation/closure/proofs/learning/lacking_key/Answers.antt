use Rattle.std.proofs.Common.{ap, ◌∙◌, ℕ, List, ◌++◌}
use Rattle.algebra.specs.Columns.{rising}
use Rattle.props.specs.Knowledge.{known}
use Rattle.rules.specs.Matches.{line_in}
use Rattle.closure.proofs.LackedFacts.{none_told, key_told}
use Rattle.closure.proofs.learning.lacking_key.Goals as goal

pub returns : goal.returns
returns c = key_told c.args.instances.now (known c.args.classes) (line_in c.args.line) (c.args.one.now ++ c.args.other.now) _ c.in_ok-found.found
    (c.from_vec-key.ensures ∙ ap rising (c.in_ok-extend_from_slice.ensures.items ∙ ap (λ (l : List ℕ). l ++ c.args.other.now) c.in_ok-both.ensures.items))
    (none_told c.args.instances.now (known c.args.classes) (line_in c.args.line) _ c.in_ok-fact.field-0 c.in_default.is c.in_ok-fact.ensures) c.in_ok-found.ensures

use Rattle.std.proofs.Common.{ap, ◌∙◌, ℕ, Vec, Global, map}
use Rattle.props.specs.Knowledge.{known}
use Rattle.rules.specs.Matches.{line_in}
use Rattle.closure.proofs.LackedFacts.{unique_told}
use Rattle.closure.proofs.learning.lacking_unique.Goals as goal

pub returns : goal.returns
returns c = unique_told c.args.instances.now (known c.args.classes) (line_in c.args.line) c.args.table.now c.as_slice.result.now c.in_ok-found.found
    (ap (map (λ (v : Vec ℕ Global). v.items)) c.as_slice.ensures.value ∙ c.in_ok-lists.ensures) c.in_ok-found.ensures

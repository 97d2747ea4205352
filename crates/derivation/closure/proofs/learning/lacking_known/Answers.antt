use Rattle.props.specs.Knowledge.{known}
use Rattle.rules.specs.Matches.{line_in}
use Rattle.closure.proofs.LackedFacts.{none_told, known_told}
use Rattle.closure.proofs.learning.lacking_known.Goals as goal

pub returns : goal.returns
returns c = known_told c.args.instances.now (known c.args.classes) (line_in c.args.line) c.args.class c.weak_keys.result.now c.strong_keys.result.now c.weak_keys.ensures c.strong_keys.ensures c.in_ok-found.found
    (none_told c.args.instances.now (known c.args.classes) (line_in c.args.line) _ c.in_ok-fact.field-0 c.in_default.is c.in_ok-fact.ensures) c.in_ok-found.ensures

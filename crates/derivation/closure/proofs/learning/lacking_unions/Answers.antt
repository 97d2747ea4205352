use Rattle.props.specs.Knowledge.{known}
use Rattle.rules.specs.Matches.{line_in}
use Rattle.closure.proofs.LackedFacts.{none_told, unions_told}
use Rattle.closure.proofs.learning.lacking_unions.Goals as goal

pub returns : goal.returns
returns c = unions_told c.args.instances.now (known c.args.classes) (line_in c.args.line) c.args.left c.weak_keys-keys.result.now c.strong_keys-keys.result.now c.weak_keys-keys.ensures c.strong_keys-keys.ensures
    c.args.right c.weak_keys-others.result.now c.strong_keys-others.result.now c.weak_keys-others.ensures c.strong_keys-others.ensures c.in_ok-found.found
    (none_told c.args.instances.now (known c.args.classes) (line_in c.args.line) _ c.in_ok-fact.field-0 c.in_default.is c.in_ok-fact.ensures) c.in_ok-found.ensures

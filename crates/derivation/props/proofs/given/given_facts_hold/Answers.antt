use Rattle.std.proofs.Common.{}
use Rattle.props.proofs.GivenFacts.{given_facts_hold}
use Rattle.props.proofs.given.given_facts_hold.Goals as goal

pub returns : goal.returns
returns c = given_facts_hold

use Rattle.schema.proofs.ReadBack.{given_back}
use Rattle.schema.proofs.schema.Schema.read.Goals as goal

pub returns-clause-only : goal.returns-clause-only
returns-clause-only c = given_back c.args.bytes.now c.read_schema.result c.read_schema.ensures.exact

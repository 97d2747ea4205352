use Rattle.statistics.proofs.ReadBack.{given_back}
use Rattle.statistics.proofs.Spelled.{given_spelt}
use Rattle.statistics.proofs.counts.Statistics.read.Goals as goal

pub returns-clause-spelt : goal.returns-clause-spelt
returns-clause-spelt c = given_spelt c.args.schema.now c.args.bytes.now c.read_statistics.result c.read_statistics.ensures

pub returns-clause-only : goal.returns-clause-only
returns-clause-only c = given_back c.args.schema.now c.args.bytes.now c.read_statistics.result c.read_statistics.ensures

use Rattle.relations.specs.Relations.{env_of}
use Rattle.index_access.proofs.Probes.{bounded_next}
use Rattle.index_access.proofs.ranges.next_bound.Goals as goal

pub returns-in-Some-clause-ordinary : goal.returns-in-Some-clause-ordinary
returns-in-Some-clause-ordinary c =
    bounded_next c.args.own.now c.args.conditions.now (env_of c.args.env.now) c.args.columns.now c.args.key.now c.in-Some.column.now c.bound_in.result c.in-Some.ensures.lookup.3.0 c.in-Some.ensures.lookup.1 c.bound_in.ensures.ordinary

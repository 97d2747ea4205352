use Rattle.std.proofs.Common.{arith}
use Rattle.operators.proofs.ListedRelations.{listed-put, listed-past}
use Rattle.operators.proofs.listed.put_relation.Goals as goal

pub returns-then-number-len-clause-listed : goal.returns-then-number-len-clause-listed
returns-then-number-len-clause-listed c = listed-put c.args.relations.now.items c.args.lists.now.items c.args.number c.args.relation c.requires.listed

pub returns-else-number-len-clause-listed : goal.returns-else-number-len-clause-listed
returns-else-number-len-clause-listed c = listed-past c.args.relations.now.items c.args.lists.now.items c.args.number c.args.relation (let few = c.if-number-len.false in let many = c.len.ensures in omega (arith, few, many)) c.requires.listed

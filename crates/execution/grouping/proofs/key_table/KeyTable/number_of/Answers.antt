use Rattle.std.proofs.Common.{◌≤◌, ◌<◌, sym, subst, length, arith}
use Rattle.grouping.specs.KeyBuckets.{column_key}
use Rattle.grouping.specs.KeyTables.{HasKeys}
use Rattle.grouping.proofs.FoundGroups.{founder-past, founder-within, hash-count}
use Rattle.grouping.proofs.key_table.KeyTable.number_of.Goals as goal

pub returns-in_ok-push-clause-keys : goal.returns-in_ok-push-clause-keys
returns-in_ok-push-clause-keys g c =
    let key = column_key c.args.columns.now c.args.row in
    let many = hash-count g.keys c.args.self.now.hashes c.requires.hashed in
    let past : length g.keys ≤ c.found-group.result = omega (arith, many, c.if-group-len.true, c.len.ensures) in
    subst (λ l. HasKeys (length c.args.columns.now) l c.push.new.self) (sym (founder-past g.keys c.found-group.result key past)) c.in_ok-push.ensures

pub returns-else-group-len-clause-keys : goal.returns-else-group-len-clause-keys
returns-else-group-len-clause-keys g c =
    let key = column_key c.args.columns.now c.args.row in
    let many = hash-count g.keys c.args.self.now.hashes c.requires.hashed in
    let within = c.found-group.ensures.within in
    let below : c.found-group.result < length g.keys = omega (arith, many, c.if-group-len.false, c.len.ensures, within) in
    subst (λ l. HasKeys (length c.args.columns.now) l c.args.self.now) (sym (founder-within g.keys c.found-group.result key below)) c.requires

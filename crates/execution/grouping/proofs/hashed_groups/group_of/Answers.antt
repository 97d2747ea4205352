use Rattle.std.proofs.Common.{◌≤◌, ◌<◌, ap, sym, subst, ◌∙◌, List, length, map, arith}
use Rattle.std.proofs.lemmas.List.{length-map}
use Rattle.schema.specs.Databases.{Row}
use Rattle.grouping.specs.KeyBuckets.{AreHashed, column_key}
use Rattle.grouping.specs.RowNumbers.{numbers_in}
use Rattle.grouping.proofs.FoundGroups.{founder-map, founder-past, founder-within, hashed-more}
use Rattle.grouping.proofs.hashed_groups.group_of.Goals as goal

pub returns-in_ok-push-clause-hashed : goal.returns-in_ok-push-clause-hashed
returns-in_ok-push-clause-hashed c =
    let key = column_key c.args.columns.now in
    let firsts = numbers_in c.args.firsts.now in
    let group = c.found-group.result in
    let past : length (map key firsts) ≤ group = omega (arith, length-map firsts key, c.if-group-len.true, c.len.ensures) in
    subst (λ (l : List Row). AreHashed l c.push.new.self) (sym (founder-map key firsts group c.args.row ∙ founder-past (map key firsts) group (key c.args.row) past))
    (hashed-more (map key firsts) (key c.args.row) c.row_hash-hash.result c.args.hashes.now c.push.new.self c.requires c.row_hash-hash.ensures c.in_ok-push.ensures.hashes c.in_ok-push.ensures.chained)

pub returns-else-group-len-clause-hashed : goal.returns-else-group-len-clause-hashed
returns-else-group-len-clause-hashed c =
    let key = column_key c.args.columns.now in
    let firsts = numbers_in c.args.firsts.now in
    let group = c.found-group.result in
    let within = c.found-group.ensures.within in
    let below : group < length (map key firsts) = omega (arith, length-map firsts key, c.if-group-len.false, c.len.ensures, within) in
    subst (λ (l : List Row). AreHashed l c.args.hashes.now) (sym (founder-map key firsts group c.args.row ∙ founder-within (map key firsts) group (key c.args.row) below)) c.requires

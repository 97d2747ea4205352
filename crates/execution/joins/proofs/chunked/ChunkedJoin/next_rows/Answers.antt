use Rattle.std.proofs.Common.{arith, ◌≡◌, ◌-◌, length}
use Rattle.joins.proofs.JoinChains.{asked-columns, asked-rows}
use Rattle.joins.proofs.chunked.ChunkedJoin.next_rows.Goals as goal

pub returns : goal.returns
returns c =
    let old = c.args.self.now.stages in
    let n = c.len-last.result - 1 in
    let last : n ≡ length old.items - 1 = omega (arith, c.len-last.ensures, old.ok) in
    record {
      columns = asked-columns old.items c.next_of.new.stages.items n c.next_of.ensures.same last;
      chunk = asked-rows old.items c.next_of.new.stages.items n c.next_of.ensures.same last c.next_of.result c.next_of.ensures.chunk;
    }

use Rattle.std.proofs.Common.{sym, subst}
use Rattle.joins.specs.ChunkedJoins.{IsChunk}
use Rattle.joins.proofs.chunked.ChunkedJoin.into_left_rows.Goals as goal

pub returns : goal.returns
returns c =
    let next = subst (IsChunk c.args.self c.next_rows.new.self) c.in-Some.is c.in_ok-first.ensures.chunk in
    record { columns_are = next.columns_are; rows_are = sym next.rows_are }

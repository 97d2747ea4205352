use Rattle.std.proofs.Common.{ℕ, ◌+◌, Bool, arith}
use Rattle.std.proofs.lemmas.List.{nil_from_length}
use Rattle.relations.specs.Resolved.{all_pass, inner_row}
use Rattle.cursors.proofs.RowNumbers.{next-part, none-left}
use Rattle.cursors.proofs.chunks.filled.Goals as goal

pub loop-end-preserved : goal.loop-end-preserved
loop-end-preserved c =
    let s = c.args.selected.now in
    let p : ℕ → Bool = all_pass s.relation (inner_row c.args.env.now) s.tests.items in
    let next = c.loop-end.next in
    next-part p c.args.start next (next + c.min.result) s.relation.rows.count c.loop-end.chunk.items c.fill_selected.new.numbers.items (omega arith) (omega (arith, c.min.ensures, c.if-next-count.true)) (nil_from_length c.loop-end.chunk.items (let none = none-left _ _ c.loop-end-test.true c.is_empty.ensures in omega (arith, none, c.loop-end.chunk.ok))) c.in_ok-fill_selected.ensures c.loop-end.invariant

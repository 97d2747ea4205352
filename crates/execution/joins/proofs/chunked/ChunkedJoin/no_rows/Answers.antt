use Rattle.std.proofs.Common.{arith, ◌≡◌, ◌∙◌, ◌-◌, ℕ, List, [], length, subst, IfOk}
use Rattle.algebra.specs.Bags.{nulls}
use Rattle.relations.specs.Relations.{IsOutput}
use Rattle.joins.proofs.JoinChains.{last-columns}
use Rattle.joins.proofs.chunked.ChunkedJoin.no_rows.Goals as goal

pub returns : goal.returns
returns c =
    let stages = c.args.self.now.stages in
    let n = c.len.result - 1 in
    let last : n ≡ length stages.items - 1 = omega (arith, c.len.ensures, stages.ok) in
    let columns = c.in_ok-columns.ensures ∙ last-columns stages.items n c.index-last.result.now c.args.self.now.some last c.index-last.ensures in
    subst (λ (K : List ℕ). IfOk c.without_rows.result (IsOutput K [] nulls)) columns (c.without_rows.ensures nulls)

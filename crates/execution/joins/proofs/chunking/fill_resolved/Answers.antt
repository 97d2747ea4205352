use Rattle.std.proofs.Common.{ap, ◌∙◌, List}
use Rattle.algebra.specs.Bags.{nulls}
use Rattle.relations.specs.declared.resolved.Test.{Test}
use Rattle.relations.specs.Parts.{row_at}
use Rattle.relations.specs.Resolved.{all_pass}
use Rattle.relations.specs.declared.pair_tests.PairTest.{PairTest}
use Rattle.relations.specs.PairTests.{pairs_pass}
use Rattle.joins.proofs.TestedPairs.{looked-up-alike}
use Rattle.joins.proofs.chunking.fill_resolved.Goals as goal

pub fill_chunk-requires-clause-tested : goal.fill_chunk-requires-clause-tested
fill_chunk-requires-clause-tested c = λ i j.
    ap (λ (ts : List Test). all_pass c.args.right.now (row_at c.args.left.now.rows.parts.items i) ts j) c.as_slice-2.ensures.value ∙ c.in_ok-tests.ensures.pass i j

pub fill_chunk-requires-clause-looked_up : goal.fill_chunk-requires-clause-looked_up
fill_chunk-requires-clause-looked_up c = λ i j.
    let left = c.args.left.now in
    let right = c.args.right.now in
    ap (λ (ts : List PairTest). pairs_pass ts i j) c.as_slice-3.ensures.value
    ∙ looked-up-alike left right i j c.as_slice.result.now c.in_ok-columns.columns.items (c.in_ok-columns.ensures i j)
    ∙ ap (λ (ts : List Test). all_pass right (row_at left.rows.parts.items i) ts j) c.as_slice.ensures.value ∙ c.in_ok-tests.ensures.pass i j

pub fill_chunk-requires-clause-probe : goal.fill_chunk-requires-clause-probe
fill_chunk-requires-clause-probe c = c.in_ok-probe.ensures c.args.conditions.now c.args.right.now nulls c.requires.table

pub returns-clause-table : goal.returns-clause-table
returns-clause-table c = c.table_of.ensures c.args.conditions.now c.args.left.now c.args.right.now nulls (c.in_ok-probe.ensures c.args.conditions.now c.args.right.now nulls c.requires.table)

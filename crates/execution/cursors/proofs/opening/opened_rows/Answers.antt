use Rattle.std.proofs.Common.{subst, MatchOption}
use Rattle.query.specs.Rows.{tables_of}
use Rattle.physical.specs.Outputs.{output_rows, plan_output}
use Rattle.algebra.specs.Bags.{nulls}
use Rattle.selections.specs.RowChunks.{AreChunksOf}
use Rattle.cursors.proofs.opening.opened_rows.Goals as goal

pub returns-in-Some : goal.returns-in-Some
returns-in-Some c = λ S.
    let instances = c.args.sources.instances.now in
    let D = tables_of S c.args.sources.tables.now in
    let plan = c.args.plan.now in
    subst (λ o. MatchOption o (Unit {0}) (AreChunksOf (plan_output instances D plan).columns (output_rows instances D plan nulls))) c.in-Some.is (c.in_ok-chunks.ensures S)

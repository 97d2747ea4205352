use Rattle.std.proofs.Common.{subst, length}
use Rattle.std.proofs.lemmas.List.{take_all}
use Rattle.algebra.specs.Columns.{columns_at}
use Rattle.winners.specs.Spans.{HasLines}
use Rattle.winners.proofs.Standing.{front_length, lines_more}
use Rattle.winners.proofs.nodes.push_lines.Goals as goal

pub loop-line-preserved : goal.loop-line-preserved
loop-line-preserved c =
    let log = c.args.derived.log.now in
    let start = c.args.nodes.now.items in
    let old = c.loop-line.nodes.items in
    let new = c.push_line.new.nodes.items in
    let before = c.loop-line.invariant in
    let e = c.in_ok-push_line.ensures in
    record {
      fit = e.fit;
      before = λ k node at. e.before k node (before.before k node at);
      lines = lines_more log.instances log.log (columns_at c.args.derived.columns.now) (length start) old new c.args.lines.now c.loop-line.line-index c.loop-line-test.true (front_length start old before.before) e.before before.lines e.line;
    }

pub returns-clause-lines : goal.returns-clause-lines
returns-clause-lines c =
    let log = c.args.derived.log.now in
    subst (HasLines log.instances log.log (columns_at c.args.derived.columns.now) (length c.args.nodes.now.items) c.loop-line.nodes.items) (take_all c.loop-line.line-index c.args.lines.now c.loop-line-test.false) c.loop-line.invariant.lines

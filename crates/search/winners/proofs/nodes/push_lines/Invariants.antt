use Rattle.std.proofs.Common.{length, take}
use Rattle.algebra.specs.Columns.{columns_at}
use Rattle.winners.specs.Spans.{AllFit, HasLines, IsFront}
use Rattle.winners.proofs.nodes.push_lines.Given as goal

abbrev pub invariant-loop-line : goal.invariant-loop-line
invariant-loop-line l = record {
  fit : AllFit l.derived.log.now.instances l.derived.log.now.log (columns_at l.derived.columns.now) l.nodes.items;
  before : IsFront l.initial.nodes.items l.nodes.items;
  lines : HasLines l.derived.log.now.instances l.derived.log.now.log (columns_at l.derived.columns.now) (length l.initial.nodes.items) l.nodes.items (take l.line-index l.lines);
}

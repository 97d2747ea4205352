use Rattle.std.proofs.Common.{◌≡◌, ◌++◌}
use Rattle.relations.specs.Relations.{env_of, rows_of}
use Rattle.grouping.specs.Totals.{IsHeld}
use Rattle.grouping.proofs.Zips.{ZipTo}
use Rattle.grouping.proofs.totals.Totals.add.Given as goal

abbrev pub ghost-with_rows : goal.ghost-with_rows
ghost-with_rows g a = g.seen

abbrev pub invariant-loop-number : goal.invariant-loop-number
invariant-loop-number g l = record {
  held : ZipTo (λ a r. IsHeld a.aggregate (g.seen ++ rows_of l.chunk (env_of l.env)) r) (λ a r. IsHeld a.aggregate g.seen r) l.number l.added l.self.running.items;
  count : l.self.count ≡ l.fn.self.count;
}

use Rattle.std.proofs.Common.{length}
use Rattle.serde_json.specs.View.{members_view}
use Rattle.statistics_text.proofs.Parts.{AreEntries}
use Rattle.statistics_text.proofs.entries.each_table.Given as goal

-- a member for each table so far
abbrev pub invariant-loop-table : goal.invariant-loop-table
invariant-loop-table l = AreEntries l.tables l.counted (length l.yielded) (members_view l.members.entries)

use Rattle.std.proofs.Common.{length}
use Rattle.serde_json.specs.View.{members_view}
use Rattle.statistics_text.proofs.Parts.{AreKnown}
use Rattle.statistics_text.proofs.entries.known_columns.Given as goal

-- a member for each known column so far
abbrev pub invariant-loop-column : goal.invariant-loop-column
invariant-loop-column l = AreKnown l.columns l.keys (length l.yielded) (members_view l.members.entries)

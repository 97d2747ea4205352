use Rattle.std.proofs.Common.{◌+◌}
use Rattle.certificate_text.proofs.MoreParts.{MoreSoFar}
use Rattle.certificate_text.proofs.conditions.Cursor.+conditions.Given as goal

abbrev pub decreases-condition : goal.decreases-condition
decreases-condition l = l.room + l.room + l.room

abbrev pub decreases-more : goal.decreases-more
decreases-more l = l.room + l.room + l.room + 1

abbrev pub decreases-parts : goal.decreases-parts
decreases-parts l = l.room + l.room + l.room + 2

-- the parts so far are read
abbrev pub invariant-more-loop-count : goal.invariant-more-loop-count
invariant-more-loop-count l = MoreSoFar l.room l.initial.self l.self l.more l._count

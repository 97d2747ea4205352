use Rattle.std.proofs.Common.{reverse}
use Rattle.logs.proofs.NotedLines.{known-of-alike, on-any-err}
use Rattle.logs.proofs.known.Known.note.Goals as goal

pub returns-in_err-make_room-clause-refused : goal.returns-in_err-make_room-clause-refused
returns-in_err-make_room-clause-refused c =
    on-any-err c.from_residual-in_err-make_room.result (known-of-alike c.args.instances.now (reverse c.args.lines.now) c.args.self.now c.make_room.new.self c.requires.known c.make_room.ensures.same)

pub add-requires-clause-known : goal.add-requires-clause-known
add-requires-clause-known c = known-of-alike c.args.instances.now (reverse c.args.lines.now) c.args.self.now c.make_room.new.self c.requires.known c.make_room.ensures.same

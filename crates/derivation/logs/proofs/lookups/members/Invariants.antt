use Rattle.std.proofs.Common.{◌≡◌, map, reverse, drop, option_map, ◌++◌}
use Rattle.rules.specs.Matches.{line_in}
use Rattle.derivation.specs.Replay as spec
use Rattle.logs.proofs.lookups.members.Given as goal

abbrev pub invariant-loop-line : goal.invariant-loop-line
invariant-loop-line l = spec.members (reverse l.lines) l.uses ≡ option_map (λ rest. map line_in l.found.items ++ rest) (spec.members (reverse l.lines) (drop l.line-index l.uses))

-- What a line is judged by.
use Rattle.std.specs.Prelude.{◌≡◌, length, reverse}
use Rattle.derivation.specs.Logs.{Log}
use Rattle.logs.specs.declared.judge.Behind.{Behind}

abbrev pub the_log : Behind → Log
the_log at = reverse at.lines.now

-- there are columns of the class of each line
abbrev pub IsBehind : Behind → Type 0
IsBehind at = length at.classes.columns.columns.now ≡ length at.lines.now

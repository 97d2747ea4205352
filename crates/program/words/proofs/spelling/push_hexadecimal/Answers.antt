use Rattle.std.proofs.Common.{rules, false}
use Rattle.std.proofs.lemmas.Fmt.{hex_byte}
use Rattle.words.proofs.spelling.push_hexadecimal.Goals as goal

pub returns : goal.returns
returns c = rw (← hex_byte false c.args.byte c.ranges.byte.fits) (search rules)

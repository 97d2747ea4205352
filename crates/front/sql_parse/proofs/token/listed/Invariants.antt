use Rattle.std.proofs.Common.{◌≡◌, map, length}
use Rattle.sql_parse.specs.Tokens.{listed}
use Rattle.sql_parse.proofs.token.listed.Given as goal

abbrev pub invariant-words : goal.invariant-words
invariant-words l = listed (map (λ x. (x.0.now, x.1)) l.words) l.fn.word ≡ listed (map (λ x. (x.0.now, x.1)) l.fn.words) l.fn.word

abbrev pub decreases-words : goal.decreases-words
decreases-words l = length l.words

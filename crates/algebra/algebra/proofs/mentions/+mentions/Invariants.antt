use Rattle.std.proofs.Common.{take}
use Rattle.algebra.specs.Expressions.{mentioned}
use Rattle.algebra.specs.GivenColumns.{HasAlso, given_columns, given_free}
use Rattle.algebra.proofs.mentions.+mentions.Given as goal

abbrev pub invariant-add_all_mentioned-loop-condition : goal.invariant-add_all_mentioned-loop-condition
invariant-add_all_mentioned-loop-condition l = HasAlso l.mentioned.items l.fn.mentioned.items (mentioned (given_columns l.classes) (given_free l.classes) (take l.condition-index l.conditions))

use Rattle.std.proofs.Common.{take}
use Rattle.algebra.specs.Expressions.{mentioned}
use Rattle.algebra.specs.GivenColumns.{HasAlso}
use Rattle.plan_reads.specs.Readings.{class_columns, class_free}
use Rattle.plan_reads.proofs.conditions.+mentions.Given as goal

abbrev pub invariant-add_all_mentioned-loop-condition : goal.invariant-add_all_mentioned-loop-condition
invariant-add_all_mentioned-loop-condition l = HasAlso l.mentioned.items l.fn.mentioned.items (mentioned (class_columns l.subqueries.classes.now l.subqueries.readings.now) (class_free l.subqueries.classes.now l.subqueries.readings.now) (take l.condition-index l.conditions))

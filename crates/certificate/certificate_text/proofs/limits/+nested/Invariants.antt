use Rattle.std.proofs.Common.{◌≡◌, true, take}
use Rattle.certificate_text.specs.Limits.{all_nest_within}
use Rattle.certificate_text.proofs.limits.+nested.Given as goal

abbrev pub invariant-all_nest_within-loop-condition : goal.invariant-all_nest_within-loop-condition
invariant-all_nest_within-loop-condition l = all_nest_within (take l.condition-index l.conditions) l.room ≡ true

use Rattle.outer_rules.proofs.OuterJoinIsAnti.{outer_join_is_anti_sound}
use Rattle.outer_rules.proofs.outer_join_is_anti.OuterJoinIsAntiRule.is_sound.Goals as goal

pub returns : goal.returns
returns c = outer_join_is_anti_sound

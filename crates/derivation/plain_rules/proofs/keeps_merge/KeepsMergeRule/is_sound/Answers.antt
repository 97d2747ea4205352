use Rattle.std.proofs.Common.{}
use Rattle.plain_rules.proofs.KeepsMerge.{keeps_merge_sound}
use Rattle.plain_rules.proofs.keeps_merge.KeepsMergeRule.is_sound.Goals as goal

pub returns : goal.returns
returns c = keeps_merge_sound

use Rattle.std.proofs.Common.{}
use Rattle.props.proofs.SoundOutcomes.{outcomes_are_sound, never_true_is_sound}
use Rattle.props.proofs.outcomes.outcomes_are_sound.Goals as goal

pub returns : goal.returns
returns c = record { outcomes = outcomes_are_sound; lists = never_true_is_sound }

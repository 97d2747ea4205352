use Rattle.subquery_rules.proofs.SubqueryOfInput.{subquery_of_input_sound}
use Rattle.subquery_rules.proofs.subquery_of_input.SubqueryOfInputRule.is_sound.Goals as goal

pub returns : goal.returns
returns c = subquery_of_input_sound

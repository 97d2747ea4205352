use Rattle.sql_parse.proofs.OneReadings.{one_fault_of_text, one_tree_of_text, tree_or_fault}
use Rattle.sql_parse.proofs.OneTokens.{one_tokens}
use Rattle.sql_parse.proofs.laws.texts_have_one_reading.Goals as goal

pub returns-clause-tokens : goal.returns-clause-tokens
returns-clause-tokens c = one_tokens

pub returns-clause-trees : goal.returns-clause-trees
returns-clause-trees c = one_tree_of_text

pub returns-clause-either : goal.returns-clause-either
returns-clause-either c = tree_or_fault

pub returns-clause-faults : goal.returns-clause-faults
returns-clause-faults c = one_fault_of_text

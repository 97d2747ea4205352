use Rattle.explain.proofs.WorkedTexts.{columns_are_spelled, conditions_are_spelled, plan_is_spelled, nodes_are_spelled, picture_is_spelled, measures_are_spelled}
use Rattle.explain.proofs.worked.worked_texts.Goals as goal

pub returns-clause-columns : goal.returns-clause-columns
returns-clause-columns c = columns_are_spelled

pub returns-clause-conditions : goal.returns-clause-conditions
returns-clause-conditions c = conditions_are_spelled

pub returns-clause-plan : goal.returns-clause-plan
returns-clause-plan c = plan_is_spelled

pub returns-clause-nodes : goal.returns-clause-nodes
returns-clause-nodes c = nodes_are_spelled

pub returns-clause-picture : goal.returns-clause-picture
returns-clause-picture c = picture_is_spelled

pub returns-clause-measures : goal.returns-clause-measures
returns-clause-measures c = measures_are_spelled

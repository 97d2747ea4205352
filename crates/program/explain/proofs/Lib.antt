mod ColumnNames
mod ConditionTexts
mod DotTexts
mod PlanTexts
mod WorkedTexts

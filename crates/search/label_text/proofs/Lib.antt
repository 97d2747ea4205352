mod CostWords
mod LabelLines
mod LabelWords
mod LeastFaults
mod LeastTexts
mod WorkedText

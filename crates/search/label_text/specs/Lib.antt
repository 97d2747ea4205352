pub mod LabelReading
pub mod LabelText
pub mod WorkedText

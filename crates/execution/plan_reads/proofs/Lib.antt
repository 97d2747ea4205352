pub mod KnownReadings
pub mod OperatorReadings

pub mod Facts
pub mod Given
pub mod Keys
pub mod Knowledge
pub mod Outcomes

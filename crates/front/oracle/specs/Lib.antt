pub mod Given
pub mod Joins
pub mod Views

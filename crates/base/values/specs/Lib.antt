pub mod Cells
pub mod Faults
pub mod Keys
pub mod Order
pub mod Short
pub mod Truth
pub mod Words

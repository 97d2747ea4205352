pub mod Aggregates
pub mod Answer
pub mod Bound
pub mod Examples
pub mod Laws
pub mod Meaning
pub mod Rows
pub mod Running

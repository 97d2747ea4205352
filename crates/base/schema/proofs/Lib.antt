pub mod EmptyTables
pub mod Loops
pub mod ReadBack
pub mod Schemas
pub mod Spelled
pub mod Steps
pub mod Widths

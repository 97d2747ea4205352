pub mod Columns
pub mod Nesting
pub mod Shapes

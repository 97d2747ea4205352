pub mod Members
pub mod Parts
pub mod Shapes
pub mod Texts

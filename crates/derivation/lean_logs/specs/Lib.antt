pub mod Founding
pub mod Growth
pub mod Texts

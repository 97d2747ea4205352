pub mod Bindings
pub mod Founding
pub mod Lean
pub mod Operators
pub mod Results
pub mod Shallow
pub mod Spelt

pub mod Equations
pub mod Plans

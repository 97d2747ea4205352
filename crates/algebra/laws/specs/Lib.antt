pub mod Fitting
pub mod Keys
pub mod Rewriting

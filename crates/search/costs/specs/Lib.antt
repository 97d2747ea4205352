pub mod Cardinalities
pub mod Costs
pub mod Equalities
pub mod Examples
pub mod Laws
pub mod Numbers
pub mod Selectivity
pub mod Tables

pub mod Bounding
pub mod ByClass
pub mod Candidates
pub mod Labels
pub mod Nodes
pub mod Offers
pub mod Plans

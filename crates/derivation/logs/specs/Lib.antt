pub mod Judging
pub mod Knowledge
pub mod Logged
pub mod Members
pub mod Sets

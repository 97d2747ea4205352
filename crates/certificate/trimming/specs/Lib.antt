pub mod Kept
pub mod Part
pub mod Renumbered

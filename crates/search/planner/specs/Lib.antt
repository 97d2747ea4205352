pub mod Canonical
pub mod NotDearer
pub mod Searched

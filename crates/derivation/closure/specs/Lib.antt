pub mod Closed
pub mod Lacking
pub mod Learnt
pub mod Lines
pub mod Numbers
pub mod Operators
pub mod Places

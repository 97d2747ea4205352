pub mod Records
pub mod Sent

pub mod Inputs
pub mod Limits
pub mod Rooms
pub mod Streams

pub mod RowChunks
pub mod Selecting

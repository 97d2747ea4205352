pub mod Chunks
pub mod Cursors
pub mod Opened
pub mod Progress
pub mod Selected
pub mod Shown
pub mod ShownRows

pub mod Along
pub mod Missing

pub mod Faults
pub mod Grammars
pub mod Readers
pub mod Words

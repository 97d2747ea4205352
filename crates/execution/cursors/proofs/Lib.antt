pub mod NextRows
pub mod Refills
pub mod RowNumbers
pub mod Selections
pub mod ShownNumbers

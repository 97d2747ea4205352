pub mod RowsAbove

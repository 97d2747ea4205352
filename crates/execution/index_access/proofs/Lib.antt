pub mod CutOrders
pub mod EqualRows
pub mod FilteredRanges
pub mod Probes
pub mod Sorting
pub mod TableIndexes

mod Distinct
mod Grouping
mod Lists
mod Short
mod Sorting
pub mod Views

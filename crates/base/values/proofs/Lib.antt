pub mod Counts
pub mod Each
pub mod Exits
pub mod KeyOrders
pub mod Lists
pub mod Orders
pub mod Results

pub mod EachOrder
pub mod Indexes
pub mod Orders
pub mod Origins
pub mod Outputs
pub mod RequiredOrders
pub mod Sorts

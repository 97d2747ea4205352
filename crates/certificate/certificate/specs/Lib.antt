pub mod Codes
pub mod NodeInputs
pub mod QueryOrders
pub mod Replay

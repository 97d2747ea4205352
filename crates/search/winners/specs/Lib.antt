pub mod Found
pub mod Numbers
pub mod Offered
pub mod Spans
pub mod Collected
